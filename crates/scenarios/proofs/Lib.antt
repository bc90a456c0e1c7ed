mod Listings
mod EffectiveLemmas
mod Plans
mod Walks
mod Skipping
pub mod Lemmas
