use Rattle.std.proofs.Common.{◌≡◌, ◌<◌, ◌++◌, length, take}
use Rattle.report.specs.Pages.{all_rows}
use Rattle.report.proofs.batch.take_all.Given as goal

abbrev pub invariant-loop-place : goal.invariant-loop-place
invariant-loop-place g l = record {
  same : length l.pages ≡ length l.fn.pages;
  rows : all_rows (take l.place l.pages) ++ g.S.Source.rows l.rows ≡ g.S.Source.rows l.fn.rows;
  some : 0 < l.place → 0 < length (g.S.Source.rows l.fn.rows) → length (g.S.Source.rows l.rows) < length (g.S.Source.rows l.fn.rows);
}
