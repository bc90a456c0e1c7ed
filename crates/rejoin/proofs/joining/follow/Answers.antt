use Rattle.std.proofs.Common.{rules, true, ◌≡◌, ◌∙◌, ◌+◌, drop, sym, arith, subst}
use Rattle.std.specs.Arc.{arc_value}
use Rattle.std.proofs.lemmas.Bool.{false≢true}
use Rattle.cluster_state.specs.Snapshot.{numbers_of}
use Rattle.easy_rule.specs.Simulation.{before}
use Rattle.checkpoints.specs.Pieces.{all_in}
use Rattle.checkpoints.specs.Segment.{SegmentView}
use Rattle.rejoin.proofs.Deciding.{heads}
use Rattle.rejoin.proofs.Onward.{followed-on, resumed-on, stands-few}
use Rattle.rejoin.proofs.Meeting.{new-notes}
use Rattle.rejoin.proofs.Pieces.{stands-chain}
use Rattle.rejoin.proofs.Turns.{behind-snapshot}
use Rattle.rejoin.proofs.joining.follow.Goals as goal

pub reuse-requires-clause-chain : goal.reuse-requires-clause-chain
reuse-requires-clause-chain g c =
    let p = c.args.patch.now in
    stands-chain c.args.change.now c.requires.behind.0 c.args.at true p.engine (all_in c.args.change.now.is p.segments) p.handled p.reused c.requires.behind.1.stands

pub reuse-requires-clause-few : goal.reuse-requires-clause-few
reuse-requires-clause-few g c =
    let p = c.args.patch.now in
    let few = stands-few c.args.change.now c.requires.behind.0 c.args.at true p.engine (all_in c.args.change.now.is p.segments) p.handled p.reused c.requires.behind.1.stands in
    let next = c.segment-segment.ensures.next in
    omega (arith, few, next)

pub returns-then-is_clear : goal.returns-then-is_clear
returns-then-is_clear g c = record {
  next = λ n behind.
      let s = arc_value c.segment-segment.result.now in
      let here = c.segment-segment.ensures.here in
      followed-on c.args.change.now c.segment-segment.ensures.sound n c.args.at s here c.args.patch.now c.reuse.new.patch
      behind ((c.is_clear.ensures s (drop (c.args.at + 1) c.args.change.now.old) here).0 c.if-is_clear.true)
      c.in_ok-reuse.ensures.segments c.in_ok-reuse.ensures.places c.in_ok-reuse.ensures.reused c.in_ok-reuse.ensures.handled c.in_ok-reuse.ensures.last;
}

pub resume-requires-clause-snapshot : goal.resume-requires-clause-snapshot
resume-requires-clause-snapshot g c s rest e =
    let change = c.args.change.now in
    let seg = arc_value c.segment-segment.result.now in
    let here = c.segment-segment.ensures.here in
    let same : seg ≡ s = heads seg s (drop (c.args.at + 1) change.old) rest (sym here ∙ e) in
    subst (λ (x : SegmentView). x.before ≡ numbers_of (before change.is x.first)) same
    (behind-snapshot change c.segment-segment.ensures.sound c.requires.behind.0 c.args.at seg here c.args.patch.now.engine (all_in c.args.change.now.is c.args.patch.now.segments) c.args.patch.now.handled c.args.patch.now.reused c.requires.behind.1.stands)

pub returns : goal.returns
returns g c = record {
  next = λ n behind.
      let change = c.args.change.now in
      let s = arc_value c.segment-segment.result.now in
      let rest = drop (c.args.at + 1) change.old in
      let here = c.segment-segment.ensures.here in
      resumed-on change c.segment-segment.ensures.sound n c.args.at s here c.args.patch.now c.in_ok-patch.field-0 0 c.new.result c.pass.new.ledger
      behind (λ clear. false≢true (sym c.if-is_clear.false ∙ (c.is_clear.ensures s rest here).1 clear)) (c.in_ok-patch.ensures.ok s rest here)
      (new-notes change s.first c.first.result c.submitted_before.result _ (search rules) c.submitted_before.ensures.count c.submitted_before.ensures.small c.new.ensures.was c.new.ensures.is c.new.ensures.until c.new.ensures.started c.new.ensures.ended)
      c.in_ok-pass.ensures.noted;
}
