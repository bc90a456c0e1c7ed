pub mod Published
pub mod Tasks
pub mod Tickets
