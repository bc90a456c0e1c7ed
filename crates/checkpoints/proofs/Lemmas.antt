-- What crates above cite of these proofs, passed on from one place. Declares nothing.
pub use Rattle.checkpoints.proofs.Chains.{span-bounded}
pub use Rattle.checkpoints.proofs.Placing.{jobs_running, starts-placed}
