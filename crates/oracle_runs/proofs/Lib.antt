mod Collected
mod Sorting
mod Ending
mod Choice
mod Decided
