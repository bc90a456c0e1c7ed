use Rattle.std.proofs.Common.{◌≡◌, ◌<◌, ℕ, take, get_or, true}
use Rattle.std.specs.List.{list_all}
use Rattle.std.specs.Char.{is_ascii_digit}
use Rattle.swf_text.proofs.walk.digit_count.Given as goal

abbrev pub invariant-loop-place : goal.invariant-loop-place
invariant-loop-place l = record {
  digits : list_all is_ascii_digit (take l.place l.bytes) ≡ true;
  each : (k : ℕ) → k < l.place → is_ascii_digit (get_or l.bytes k 0) ≡ true;
}
