use Rattle.std.proofs.Common.{◌≡◌, ℕ, take, set, get_or, map, subst, sym, ap, ◌∙◌, arith, length-set}
use Rattle.std.proofs.lemmas.List.{take_all}
use Rattle.swf_text.specs.Packed.{value_of}
use Rattle.swf_text.proofs.Codes.{codes_next}
use Rattle.swf_text.proofs.Fronts.{IsWalked, plain_from, walked_more, walked_line, walked_rest}
use Rattle.swf_text.proofs.front.packed_front.Goals as goal

pub loop-place-preserved : goal.loop-place-preserved
loop-place-preserved c =
    let h = c.loop-place.invariant in
    record {
      sized = omega (arith, h.sized, length-set {A = ℕ});
      walked = walked_more c.args.bytes.now _ _ c.loop-place.place c.loop-place.rest.now _ _ h.walked (codes_next c.loop-place.job.0 c.loop-place.place _ (omega (arith, h.sized))) c.in-Some.ensures;
    }

pub returns-clause-line : goal.returns-clause-line
returns-clause-line c =
    let h = c.loop-place.invariant in
    let end : c.loop-place.place ≡ 17 = omega arith in
    let walked = subst (λ (k : ℕ). IsWalked c.args.bytes.now (map value_of (take k c.loop-place.job.0)) k c.loop-place.rest.now) end h.walked in
    let next = codes_next c.loop-place.job.0 17 c.in-Some-ended_word.word.0 (omega (arith, h.sized)) in
    let all = ap (map value_of) (sym (take_all 18 (set c.loop-place.job.0 17 c.in-Some-ended_word.word.0) (omega (arith, h.sized, length-set {A = ℕ})))) in
    walked_line c.args.bytes.now (map value_of (take 17 c.loop-place.job.0)) _ c.loop-place.rest.now c.in-Some-ended_word.word.1.now (value_of c.in-Some-ended_word.word.0) walked (all ∙ next) c.in-Some-ended_word.ensures
    (omega arith) (plain_from (get_or c.args.bytes.now 0 0) (omega (arith, c.if-bytes-lt45.false)) (omega (arith, c.if-bytes-gt57.false)))

pub returns-clause-rest : goal.returns-clause-rest
returns-clause-rest c =
    let h = c.loop-place.invariant in
    let end : c.loop-place.place ≡ 17 = omega arith in
    let walked = subst (λ (k : ℕ). IsWalked c.args.bytes.now (map value_of (take k c.loop-place.job.0)) k c.loop-place.rest.now) end h.walked in
    let next = codes_next c.loop-place.job.0 17 c.in-Some-ended_word.word.0 (omega (arith, h.sized)) in
    let all = ap (map value_of) (sym (take_all 18 (set c.loop-place.job.0 17 c.in-Some-ended_word.word.0) (omega (arith, h.sized, length-set {A = ℕ})))) in
    walked_rest c.args.bytes.now (map value_of (take 17 c.loop-place.job.0)) _ c.loop-place.rest.now c.in-Some-ended_word.word.1.now (value_of c.in-Some-ended_word.word.0) walked (all ∙ next) c.in-Some-ended_word.ensures
