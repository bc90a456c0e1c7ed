use Rattle.std.proofs.Common.{◌≡◌, ℕ, take, map, subst, sym, ap, arith, length-set}
use Rattle.std.proofs.lemmas.Bool.{eqb-true}
use Rattle.std.proofs.lemmas.List.{take_all}
use Rattle.swf_text.specs.Packed.{value_of}
use Rattle.swf_text.proofs.Codes.{codes_next}
use Rattle.swf_text.proofs.Walks.{IsMet, walk_kept, walk_end}
use Rattle.swf_text.proofs.walk.codes_at.Goals as goal

pub loop-place-preserved : goal.loop-place-preserved
loop-place-preserved c =
    let h = c.loop-place.invariant in
    record {
      sized = omega (arith, h.sized, length-set {A = ℕ});
      met = walk_kept c.args.line.now _ _ c.loop-place.place c.loop-place.rest.now _ _ h.met (codes_next c.loop-place.codes c.loop-place.place _ (omega arith)) c.in-Some.ensures;
    }

pub returns-then-is_empty : goal.returns-then-is_empty
returns-then-is_empty c =
    let h = c.loop-place.invariant in
    let end : c.loop-place.place ≡ 18 = omega arith in
    let all = ap (map value_of) (take_all c.loop-place.place c.loop-place.codes (omega arith)) in
    walk_end c.args.line.now _ _ c.loop-place.rest.now c.from_first.result.now (subst (λ (k : ℕ). IsMet c.args.line.now (map value_of (take c.loop-place.place c.loop-place.codes)) k c.loop-place.rest.now) end h.met) all c.from_first.ensures (eqb-true _ 0 (sym c.if-is_empty.ensures))
