mod Changes
mod Places
mod Grouped
mod Lists
mod Exchanged
