-- What crates above cite of these proofs, passed on from one place: that jobs have one part. Declares nothing.
pub use Rattle.metrics.proofs.Unique.{one_part}
