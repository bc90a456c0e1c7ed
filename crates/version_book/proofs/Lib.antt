mod Lists
mod Changing
mod Keeping
mod Logs
mod Ids
mod Stepping
mod SessionSteps
mod WorkerSteps
mod Histories
mod Readings
mod Claimed
mod Looking
mod Adding
mod Mains
mod Settlings
pub mod Lemmas
