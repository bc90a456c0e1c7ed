-- What crates above cite of these proofs, passed on from one place: the state before each second and its closed form, the bound, all starts,
-- quiet and event seconds, and how the states and starts of two plans compare. Declares nothing.
pub use Rattle.timeline.proofs.Facts.{ended-is, run-before, before-more, starts_before-more, sound-arrivals, second-is, procs-is, absent-item}
pub use Rattle.timeline.proofs.Short.{short-plan}
pub use Rattle.timeline.proofs.Rest.{submits-by, submitted-none, all-started}
pub use Rattle.timeline.proofs.Bound.{all-have-ended, all-end-by-the-bound}
pub use Rattle.timeline.proofs.Once.{each-job-starts-once, later, none-starts-early}
pub use Rattle.timeline.proofs.Seconds.{starts-below, all-start-early}
pub use Rattle.timeline.proofs.Quiet.{quiet-seconds-change-nothing, only-ends-unsettle}
pub use Rattle.timeline.proofs.Sound.{each-state-is-sound}
pub use Rattle.timeline.proofs.Events.{events-end-by-the-bound}
pub use Rattle.timeline.proofs.Standing.{Stands, StandsIn, stands-in}
pub use Rattle.timeline.proofs.Closed.{states-follow-from-starts, numbers-stand-until-they-end, starts-are-final}
pub use Rattle.timeline.proofs.Meeting.{states-meet, snapshots-meet, each-has-met}
pub use Rattle.timeline.proofs.Ledger.{notes-keep-the-ledger, ledgers-swap}
