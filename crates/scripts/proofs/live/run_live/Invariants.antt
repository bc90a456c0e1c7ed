use Rattle.std.proofs.Common.{map}
use Rattle.version_book.specs.Book.{machine_of}
use Rattle.scripts.specs.Live.{IsSaid}
use Rattle.scripts.proofs.live.run_live.Given as goal

abbrev pub invariant-loop-number : goal.invariant-loop-number
invariant-loop-number g l =
    IsSaid g.row.A.Denot (map (λ c. c.items) l.comments) (record { machine = machine_of l.fn.book; seen = 0 }) (g.R.Read.remaining l.fn.reader) (g.R.Read.remaining l.reader) (g.W.Write.contents l.fn.writer) (g.W.Write.contents l.writer) l.analyst l.number
