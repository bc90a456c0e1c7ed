use Rattle.std.proofs.Common.{◌≡◌, ◌-◌, List, ℕ, length, take, drop, arith}
use Rattle.std.proofs.lemmas.List.{take_all, length-drop}
use Rattle.swf_text.proofs.Walks.{ended_unknown}
use Rattle.swf_text.proofs.front.after_unknown.Goals as goal

pub returns : goal.returns
returns c =
    let bytes : List ℕ = c.args.bytes.now in
    let whole : take (length bytes - 3) (drop 3 bytes) ≡ drop 3 bytes = take_all (length bytes - 3) (drop 3 bytes) (omega (arith, length-drop 3 bytes)) in
    ended_unknown bytes _ c.args.end (omega (arith, c.if-bytes-lt3.false)) c.if-bytes-ne45.false c.if-bytes-ne49.false c.if-bytes-end.false whole
