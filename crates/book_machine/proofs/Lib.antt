mod Same
mod Lists
mod Later
mod Steps
mod Given
mod Ids
mod Sound
mod Rising
mod Versions
pub mod Lemmas
