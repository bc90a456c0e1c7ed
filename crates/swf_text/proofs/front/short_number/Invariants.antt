use Rattle.std.proofs.Common.{◌≡◌, ◌<◌, ◌^◌, take, true}
use Rattle.std.specs.List.{list_all}
use Rattle.std.specs.Char.{is_ascii_digit}
use Rattle.swf_text.specs.Number.{digits_value}
use Rattle.swf_text.proofs.front.short_number.Given as goal

abbrev pub invariant-loop-place : goal.invariant-loop-place
invariant-loop-place l = record {
  value : l.value ≡ digits_value (take l.place l.bytes);
  digits : list_all is_ascii_digit (take l.place l.bytes) ≡ true;
  small : l.value < 10 ^ l.place;
}
