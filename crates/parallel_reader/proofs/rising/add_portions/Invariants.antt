use Rattle.std.proofs.Common.{◌≡◌, ℕ, List, length, take}
use Rattle.parallel_reader.specs.Jobs.{Below, AddsAll, AreRead, Extends, portion_lines}
use Rattle.parallel_reader.proofs.rising.add_portions.Given as goal

abbrev pub invariant-loop-portion : goal.invariant-loop-portion
invariant-loop-portion g l = record {
  kept : Extends l.fn.entries.items l.entries.items;
  below : Below l.next l.entries.items;
  added : (ps : List (List ℕ)) → length l.jobs ≡ length ps → AreRead ps l.jobs → AddsAll l.fn.entries.items (portion_lines (take l.portion-index ps)) l.entries.items;
}
