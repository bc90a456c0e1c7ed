use Rattle.std.proofs.Common.{◌≡◌, ◌-◌, ◌+◌, List, ℕ, length, take, drop, arith}
use Rattle.std.proofs.lemmas.List.{take_all, length-drop}
use Rattle.swf_text.proofs.Walks.{ended_digits}
use Rattle.swf_text.proofs.front.short_number.Goals as goal

pub returns-then-not-is_ascii_digit : goal.returns-then-not-is_ascii_digit
returns-then-not-is_ascii_digit c =
    let bytes : List ℕ = c.args.bytes.now in
    let count : ℕ = c.loop-place.place in
    let h = c.loop-place.invariant in
    let whole : take (length bytes - (count + 1)) (drop (count + 1) bytes) ≡ drop (count + 1) bytes = take_all (length bytes - (count + 1)) (drop (count + 1) bytes) (omega (arith, length-drop (count + 1) bytes)) in
    ended_digits bytes _ c.args.end count c.loop-place.value c.requires (omega arith) (omega (arith, c.if-place-eq0.false)) h.digits h.value (omega (arith, c.if-value-ge-HUNDREDTHS.false)) c.if-byte-end.false whole
