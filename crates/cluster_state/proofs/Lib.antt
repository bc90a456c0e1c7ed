mod StateLemmas
mod CandidatesLemmas
mod SnapshotLemmas
mod LookupLemmas
mod RiseLemmas
mod EndLemmas
mod LeavingLemmas
mod NumberLemmas
mod KeyLemmas
mod PlaceLemmas
mod EstimateLemmas
mod StartLemmas
mod ArrivingLemmas
mod PastLemmas
pub mod Lemmas
