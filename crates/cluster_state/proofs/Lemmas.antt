-- What crates above cite of these proofs, passed on from one place: a state with one running job more or one waiting job less, a job that starts as
-- it arrives, the orders by estimate and by expected end, and the numbers of a state, which give it back. Declares nothing.
pub use Rattle.cluster_state.proofs.StateLemmas.{sum_by-placed, All-placed, sum_by-without, All-without, All-find, test-find, sum_by-filter-le, sound-arrived, sound-started, without-none, without-some, placed-position}
pub use Rattle.cluster_state.proofs.ArrivingLemmas.{without-last}
pub use Rattle.cluster_state.proofs.CandidatesLemmas.{put-before, put-behind, RisesByEstimate, rises-by_estimate, All-by_estimate, by_estimate-All, in_order-All, without-by_estimate, find-put, find-in_order, sum_by-by_estimate}
pub use Rattle.cluster_state.proofs.SnapshotLemmas.{standing-numbers, numbers-give-the-state-back, equal-numbers-are-equal-states}
pub use Rattle.cluster_state.proofs.EndLemmas.{NotLater, sum_by-by_end, All-by_end, length-by_end, NoneEndsSooner, rises-by_end, sum_by-ones, adds-none, one-adds, adds-one}
pub use Rattle.cluster_state.proofs.PastLemmas.{none-back}
