-- What crates above cite of these proofs, passed on from one place: at most one transcript where no memory is refused, scenarios added one after
-- another, the report on them side by side, the schedule of the first one, and rules that lead to others. Declares nothing.
pub use Rattle.scripts.proofs.OneTranscript.{one-unrefused, unrefused-too}
pub use Rattle.scripts.proofs.Starts.{with-one}
pub use Rattle.scripts.proofs.Sides.{side-text}
pub use Rattle.scripts.proofs.FirstSchedules.{schedules_first}
pub use Rattle.scripts.proofs.Lifts.{lines-lift}
