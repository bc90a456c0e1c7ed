-- What crates above cite of these proofs, passed on from one place: the state after each call is sound. Declares nothing.
pub use Rattle.book_machine.proofs.Sound.{sound-opened, sound_after}
