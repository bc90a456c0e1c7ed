-- What crates above cite of these proofs, passed on from one place: that work may end at once where memory is refused, and that a
-- claim leaves the number of notes as it was until it is noted. Declares nothing.
pub use Rattle.version_book.proofs.Settlings.{claim-notes, stops}
