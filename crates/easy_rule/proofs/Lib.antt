mod RuleLemmas
mod WalkLemmas
mod NextLemmas
mod PassLemmas
mod PlaceLemmas
mod CandidateLemmas
mod Begun
mod BehindLemmas
mod AtOnceLemmas
mod Decisions
mod EasyLaws
mod FirstLemmas
mod Runs
pub mod Lemmas
