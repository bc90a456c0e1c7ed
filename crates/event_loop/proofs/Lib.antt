mod ToCome
mod Rows
mod Alone
mod EventLemmas
mod Kept
mod RunOn
mod Few
pub mod Lemmas
