use Rattle.std.proofs.Common.{take}
use Rattle.std.specs.Io.KnownBytes.{Appends}
use Rattle.report.specs.Pages.{all_lines}
use Rattle.report.proofs.batch.write_all.Given as goal

abbrev pub invariant-loop-page : goal.invariant-loop-page
invariant-loop-page g l = Appends (g.W.Write.contents l.fn.writer) (g.W.Write.contents l.writer) (all_lines (take l.page-index l.pages))
