use Rattle.std.proofs.Common.{◌≡◌, ◌+◌, length, take, drop, map}
use Rattle.swf_text.proofs.Lemmas.{onto}
use Rattle.commands.specs.Words.{entry_values}
use Rattle.commands.proofs.values.entry_values.Given as goal

abbrev pub invariant-loop-place : goal.invariant-loop-place
invariant-loop-place l = record {
  sized : length l.values ≡ 18;
  read : onto (take l.place l.values) (entry_values (l.place + 1) (drop l.place (map (λ w. w.now) l.words))) ≡ entry_values 1 (map (λ w. w.now) l.words);
}
