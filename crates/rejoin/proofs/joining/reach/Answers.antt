use Rattle.std.proofs.Common.{rules, ◌≡◌, ◌∙◌, ◌+◌, false, true, drop, sym, ap, arith, subst}
use Rattle.std.specs.Arc.{arc_value}
use Rattle.std.proofs.lemmas.Bool.{false≢true}
use Rattle.checkpoints.specs.Pieces.{all_in}
use Rattle.rejoin.specs.Reused.{MayBegin}
use Rattle.rejoin.specs.Noted.{IsNoted}
use Rattle.rejoin.proofs.Onward.{missed-on, reached-on, refused-on, stands-few}
use Rattle.rejoin.proofs.Pieces.{stands-chain}
use Rattle.rejoin.proofs.Turns.{stands-begins, stands-short}
use Rattle.rejoin.proofs.joining.reach.Goals as goal

pub returns-then-position-first : goal.returns-then-position-first
returns-then-position-first g c = record {
  next =
      let s = arc_value c.segment-segment.result.now in
      let other : c.work_to.new.patch.engine.position ≡ s.first → ⊥ = search rules in
      missed-on c.args.change.now c.segment-segment.ensures.sound c.args.spacing c.args.at s c.segment-segment.ensures.here c.work_to.new.patch c.pass.new.ledger
      c.in_ok-work_to.ensures.working c.in_ok-pass.ensures.noted c.in_ok-work_to.ensures.reached other;
}

pub reuses-requires-clause-begins : goal.reuses-requires-clause-begins
reuses-requires-clause-begins g c =
    let p = c.work_to.new.patch in
    let is : c.position-2.result ≡ p.engine.position = search rules in
    subst (MayBegin c.args.change.now.is) (sym is)
    (stands-begins c.args.change.now c.args.spacing c.args.at p.engine (all_in c.args.change.now.is p.segments) p.handled p.reused c.in_ok-work_to.ensures.working.stands)

pub reuses-requires-clause-noted : goal.reuses-requires-clause-noted
reuses-requires-clause-noted g c =
    let p = c.work_to.new.patch in
    let is : c.position-2.result ≡ p.engine.position = search rules in
    subst (λ t. IsNoted c.args.change.now c.args.at t p.ledger) (sym is) c.in_ok-work_to.ensures.working.noted

pub returns-then-not-reuses : goal.returns-then-not-reuses
returns-then-not-reuses g c = record {
  next =
      let s = arc_value c.segment-segment.result.now in
      let here = c.segment-segment.ensures.here in
      let fails : c.reuses.result ≡ false = search rules in
      refused-on c.args.change.now c.segment-segment.ensures.sound c.args.spacing c.args.at s here c.work_to.new.patch c.pass-then-not-reuses.new.ledger
      c.in_ok-work_to.ensures.working c.in_ok-pass-2.ensures.noted (λ k. false≢true (sym fails ∙ (c.reuses.ensures.reused s (drop (c.args.at + 1) c.args.change.now.old) here).1 k));
}

pub overflow_add-patch : goal.overflow_add-patch
overflow_add-patch g c =
    let p = c.work_to.new.patch in
    let few = stands-short c.args.change.now c.segment-segment.ensures.sound c.args.spacing c.args.at p.engine (all_in c.args.change.now.is p.segments) p.handled p.reused c.in_ok-work_to.ensures.working.stands in
    omega (arith, few, c.handled.ensures)

pub reuse-requires-clause-chain : goal.reuse-requires-clause-chain
reuse-requires-clause-chain g c =
    let p = c.work_to.new.patch in
    stands-chain c.args.change.now c.args.spacing c.args.at false p.engine (all_in c.args.change.now.is p.segments) p.handled p.reused c.in_ok-work_to.ensures.working.stands

pub reuse-requires-clause-few : goal.reuse-requires-clause-few
reuse-requires-clause-few g c =
    let p = c.work_to.new.patch in
    let few = stands-few c.args.change.now c.args.spacing c.args.at false p.engine (all_in c.args.change.now.is p.segments) p.handled p.reused c.in_ok-work_to.ensures.working.stands in
    let next = c.segment-segment.ensures.next in
    omega (arith, few, next)

pub returns : goal.returns
returns g c = record {
  next =
      let p = c.work_to.new.patch in
      let s = arc_value c.segment-segment.result.now in
      let here = c.segment-segment.ensures.here in
      let holds : c.reuses.result ≡ true = search rules in
      let reached : p.engine.position ≡ s.first = search rules in
      reached-on c.args.change.now c.segment-segment.ensures.sound c.args.spacing c.args.at s here p c.reuse.new.patch
      c.in_ok-work_to.ensures.working reached ((c.reuses.ensures.reused s (drop (c.args.at + 1) c.args.change.now.old) here).0 holds)
      c.in_ok-reuse.ensures.segments c.in_ok-reuse.ensures.places c.in_ok-reuse.ensures.reused (c.in_ok-reuse.ensures.handled ∙ ap (λ n. p.handled + n) c.handled.ensures) c.in_ok-reuse.ensures.last;
}
