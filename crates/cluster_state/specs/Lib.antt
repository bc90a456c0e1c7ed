pub mod State
pub mod Candidates
pub mod Ends
pub mod Capacities
pub mod Parts
pub mod Snapshot
pub mod Laws
