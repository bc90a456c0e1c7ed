use Rattle.std.proofs.Common.{◌≡◌, ◌+◌, ◌*◌, ◌≤◌, ◌++◌, length, take, drop, get_or, pos, map, ℤ}
use Rattle.std.specs.Prelude.{nat_abs}
use Rattle.std.specs.List.{flat_map, AllByRecursion}
use Rattle.swf_text.specs.Number.{canonical, greatest}
use Rattle.swf_text.specs.Writing.{spaced}
use Rattle.swf_text.proofs.writer.line_text.Given as goal

abbrev pub invariant-loop-value : goal.invariant-loop-value
invariant-loop-value l = record {
  rest : l.others ≡ drop 1 l.fields.0;
  sized : length l.others ≡ 17;
  capacity : length l.text.items ≤ 28 + 29 * l.value-index;
  text : l.text.items ≡ canonical (get_or l.fields.0 0 (pos 0)) ++ flat_map spaced (take l.value-index l.others);
  first : nat_abs (get_or l.fields.0 0 (pos 0)) ≤ greatest;
  within : AllByRecursion (λ (v : ℤ). nat_abs v ≤ greatest) (map (λ (v : ℤ). v) (take l.value-index l.others));
}
