use Rattle.std.proofs.Common.{◌≡◌, ℕ, ℤ, List, take, subst, sym, arith, length-set}
use Rattle.std.proofs.lemmas.Bool.{eqb-true}
use Rattle.std.proofs.lemmas.List.{take_all, take_more_set}
use Rattle.swf_text.specs.Scan.{NextWord}
use Rattle.swf_text.proofs.Walks.{IsMet, walk_kept, walk_end, next_here}
use Rattle.swf_text.proofs.walk.values_at.Goals as goal

pub loop-index-preserved : goal.loop-index-preserved
loop-index-preserved c =
    let h = c.loop-index.invariant in
    let next = subst (λ (bytes : List ℕ). NextWord bytes c.in-Some.word.0 c.in-Some.word.1.now) c.from_first.ensures (next_here _ _ _ c.in-Some.ensures) in
    record {
      sized = omega (arith, h.sized, length-set {A = ℤ});
      met = walk_kept c.args.line.now _ _ c.loop-index.index c.loop-index.rest.now _ _ h.met (take_more_set c.loop-index.values c.loop-index.index _ (omega arith)) next;
    }

pub returns-then-is_empty : goal.returns-then-is_empty
returns-then-is_empty c =
    let h = c.loop-index.invariant in
    let end : c.loop-index.index ≡ 18 = omega arith in
    walk_end c.args.line.now _ _ c.loop-index.rest.now c.from_first-2.result.now (subst (λ (k : ℕ). IsMet c.args.line.now (take c.loop-index.index c.loop-index.values) k c.loop-index.rest.now) end h.met) (take_all c.loop-index.index c.loop-index.values (omega arith)) c.from_first-2.ensures (eqb-true _ 0 (sym c.if-is_empty.ensures))
