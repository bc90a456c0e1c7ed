-- What crates above cite of these proofs, passed on from one place. Declares nothing.
pub use Rattle.job_table.proofs.Arrangement.{Rises, Opens, Climbs, arrangement-unique, Climbs-adjacent, Rises-Climbs, numbered-permutation}
pub use Rattle.job_table.proofs.LogOrder.{Climbs-log}
pub use Rattle.job_table.proofs.Keyed.{Lacks, Lacks-from_none, found-placed, found-without, Lacks-itself}
pub use Rattle.job_table.proofs.Sorted.{log-table, lt-comes}
pub use Rattle.job_table.proofs.Edited.{log-more, log-less, change-places, log-changed, number-stays}
pub use Rattle.job_table.proofs.Accepted.{accepted-sound}
pub use Rattle.job_table.proofs.FromZero.{from-zero}
