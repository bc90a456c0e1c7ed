use Rattle.std.proofs.Common.{arith, ap, ◌≡◌, ◌<◌, ◌-◌, length, take, get_or, false, ℕ}
use Rattle.std.proofs.lemmas.Bool.{ne_eqb}
use Rattle.std.specs.List.{suffix_len}
use Rattle.std.proofs.lemmas.List.Sums.{suffix_len_is}
use Rattle.swf_text.specs.Line.{is_return}
use Rattle.swf_text.proofs.scan.without_returns.Goals as goal
use Rattle.swf_text.proofs.scan.without_returns.Goals.{then-loop-end-test+else-bytes-end-eq13, else-loop-end-test}

pub returns : goal.returns
returns c =
    let stops : 0 < c.loop-end.end → is_return (get_or c.args.bytes.now (c.loop-end.end - 1) 0) ≡ false =
    λ some. elim c.loop-end-test.branch [ then-loop-end-test+else-bytes-end-eq13 w ↦ ne_eqb _ 13 w.if-bytes-end-eq13.false | else-loop-end-test w ↦ absurd (omega arith) ] in
    let count = suffix_len_is is_return c.args.bytes.now c.loop-end.end 0 c.loop-end.invariant.within c.loop-end.invariant.returns stops in
    let end : c.loop-end.end ≡ length c.args.bytes.now - suffix_len is_return c.args.bytes.now = omega (arith, count) in
    ap (λ (n : ℕ). take n c.args.bytes.now) end
