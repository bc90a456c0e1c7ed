pub mod Offers
pub mod Bounds
pub mod Tree
pub mod Places
