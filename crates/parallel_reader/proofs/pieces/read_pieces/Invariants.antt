use Rattle.std.proofs.Common.{◌≡◌, ℕ, ◌++◌, List, true}
use Rattle.std.specs.Io.KnownBytes.{IsAtEnd}
use Rattle.swf_text.specs.Text.{lines}
use Rattle.parallel_reader.specs.Fronts.{AreJobsIn, IsFront, IsReadBehind}
use Rattle.parallel_reader.proofs.pieces.read_pieces.Given as goal

abbrev pub invariant-pieces : goal.invariant-pieces
invariant-pieces g l = record {
  jobs : AreJobsIn (lines l.ready.lines) l.ready.jobs;
  read : (head : List ℕ) → IsFront head l.fn.begun → IsReadBehind (head ++ l.tail) (g.R.Read.remaining l.fn.reader) (g.R.Read.remaining l.reader) l.front (l.ready.lines ++ (l.coming.lines ++ l.coming.tail));
  ended : l.is_end ≡ true → IsAtEnd (g.R.Read.remaining l.reader);
}
