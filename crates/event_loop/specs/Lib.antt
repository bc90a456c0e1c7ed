pub mod Upcoming
pub mod Events
pub mod Going
pub mod Stepped
pub mod Second
pub mod Names
