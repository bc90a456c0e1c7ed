mod Falls
mod DayLists
mod Bounds
mod Joins
mod RisingLists
mod Merges
mod ShortLists
mod UserLists
mod Storing
mod Tallies
mod Forms
mod Unique
pub mod Lemmas
