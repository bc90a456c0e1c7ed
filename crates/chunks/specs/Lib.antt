pub mod Chunks
pub mod Groups
