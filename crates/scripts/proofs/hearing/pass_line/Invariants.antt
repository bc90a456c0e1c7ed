use Rattle.std.proofs.Common.{ℕ, List}
use Rattle.std.specs.Io.KnownBytes.{Consumes}
use Rattle.scripts.specs.Hearing.{HasNoFeed}
use Rattle.scripts.proofs.hearing.pass_line.Given as goal

abbrev pub invariant-loop : goal.invariant-loop
invariant-loop g l = (passed : List ℕ) × HasNoFeed passed × Consumes (g.R.Read.remaining l.fn.reader) (g.R.Read.remaining l.reader) passed
