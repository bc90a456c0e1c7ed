mod Arrangement
mod LogOrder
mod Keyed
mod Tables
mod Numbers
mod Indexed
mod Versions
mod Same
mod Lookups
mod Sorted
mod InOrder
mod Edited
mod Stored
mod Accepted
mod Counted
mod FromZero
pub mod Lemmas
