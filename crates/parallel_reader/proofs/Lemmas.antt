-- What crates above cite of these proofs, passed on from one place. Declares nothing.
-- whole lines before others
pub use Rattle.parallel_reader.proofs.Fronts.{lines_whole}
