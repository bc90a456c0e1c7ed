pub mod Edit
pub mod Table
pub mod Arranged
pub mod Accepted
pub mod Counted
pub mod Names
