use Rattle.std.proofs.Common.{◌≡◌, ◌++◌, ◌≤◌, ◌-◌, length, take}
use Rattle.report.proofs.page.take_rows.Given as goal

abbrev pub invariant-rows : goal.invariant-rows
invariant-rows g l = record {
  within : l.count ≤ length l.taken;
  same : length l.taken ≡ length l.fn.taken;
  rows : take l.count l.taken ++ g.S.Source.rows l.rows ≡ g.S.Source.rows l.fn.rows;
}

abbrev pub decreases-rows : goal.decreases-rows
decreases-rows g l = length l.taken - l.count
