use Rattle.std.proofs.Common.{arith, ap, ◌≡◌, ◌<◌, ◌-◌, length, take, get_or, false, ℕ}
use Rattle.std.proofs.lemmas.Bool.{ne_eqb}
use Rattle.std.specs.List.{suffix_len}
use Rattle.std.proofs.lemmas.List.Sums.{suffix_len_is}
use Rattle.swf_text.specs.Number.{is_zero}
use Rattle.swf_text.proofs.spelling.without_zeros.Goals as goal
use Rattle.swf_text.proofs.spelling.without_zeros.Goals.{then-loop-end-test+else-digits-end-eq48, else-loop-end-test}

pub returns-clause-value : goal.returns-clause-value
returns-clause-value c =
    let stops : 0 < c.loop-end.end → is_zero (get_or c.args.digits.now (c.loop-end.end - 1) 0) ≡ false =
    λ some. elim c.loop-end-test.branch [ then-loop-end-test+else-digits-end-eq48 w ↦ ne_eqb _ 48 w.if-digits-end-eq48.false | else-loop-end-test w ↦ absurd (omega arith) ] in
    let count = suffix_len_is is_zero c.args.digits.now c.loop-end.end 0 c.loop-end.invariant.within c.loop-end.invariant.zeros stops in
    let end : c.loop-end.end ≡ length c.args.digits.now - suffix_len is_zero c.args.digits.now = omega (arith, count) in
    ap (λ (n : ℕ). take n c.args.digits.now) end
