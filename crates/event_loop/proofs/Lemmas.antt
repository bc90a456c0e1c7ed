-- What crates above cite of these proofs, passed on from one place: who waits or runs is of the plan, jobs that do not come earlier than
-- those before them, and an engine that goes on by one event second or by several. Declares nothing.
pub use Rattle.event_loop.proofs.Kept.{before-of-plan}
pub use Rattle.event_loop.proofs.ToCome.{non-falling, from-falling}
pub use Rattle.event_loop.proofs.RunOn.{events_before-more, has-event, no-event, run-on-step, outcome-all}
