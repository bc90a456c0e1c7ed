mod Adding
mod Fronts
mod Jobs
pub mod Lemmas
