-- What crates above cite of these proofs, passed on from one place. Declares nothing.
pub use Rattle.scenarios.proofs.Listings.{bytes_eq-swap, named-append, named-first, can_add, IsListing-with}
pub use Rattle.scenarios.proofs.EffectiveLemmas.{kept, look-up, once-numbered}
pub use Rattle.scenarios.proofs.Plans.{Lex, Lex-true, Lex-trans}
pub use Rattle.scenarios.proofs.Walks.{from-in, from-out}
