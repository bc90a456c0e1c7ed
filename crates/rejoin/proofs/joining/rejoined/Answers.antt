use Rattle.std.proofs.Common.{map, refl, ap, inl}
use Rattle.std.specs.Arc.{arc_value}
use Rattle.checkpoints.specs.Nodes.{AreFrom}
use Rattle.checkpoints.specs.Pieces.{all_in}
use Rattle.rejoin.specs.Patch.{IsRejoined}
use Rattle.rejoin.proofs.Meeting.{begun-noted, new-notes}
use Rattle.rejoin.proofs.Pieces.{rejoined-chain, settled-as}
use Rattle.rejoin.proofs.Placed.{from-none}
use Rattle.rejoin.proofs.Turns.{stands-begun}
use Rattle.rejoin.proofs.joining.rejoined.Goals as goal

pub go_over-requires-clause-first : goal.go_over-requires-clause-first
go_over-requires-clause-first g c =
    let change = c.args.change.now in
    let none = ap (all_in change.is) c.new-2.ensures in
    inl (record {
      working = refl;
      stands = stands-begun change c.in_ok-begin.ensures.sound c.args.spacing _ _ c.in_ok-begin.ensures.ok none;
      noted = begun-noted change c.in_ok-begin.ensures.sound _ c.in_ok-begin.ensures.ok _
          (new-notes change 0 0 c.submitted_before.result _ refl c.submitted_before.ensures.count c.submitted_before.ensures.small c.new.ensures.was c.new.ensures.is c.new.ensures.until c.new.ensures.started c.new.ensures.ended);
      places = from-none change.old _ _ none c.new-3.ensures.items;
    })

pub settled-requires : goal.settled-requires
settled-requires g c =
    let change = c.args.change.now in
    let p = c.go_over.new.patch in
    rejoined-chain change.was change.is change.old c.args.spacing (all_in change.is p.segments) p.handled p.reused c.in_ok-go_over.ensures.done

pub returns-clause-places : goal.returns-clause-places
returns-clause-places g c =
    let change = c.args.change.now in
    let p = c.go_over.new.patch in
    settled-as (λ ss places handled reused. AreFrom change.old ss places) (λ x. map arc_value x.segments.items) (λ x. x.places.items) (λ x. x.handled) (λ x. x.reused) c.settled.result (all_in change.is p.segments) p.places.items p.handled p.reused
    c.settled.ensures.segments c.settled.ensures.places c.settled.ensures.handled c.settled.ensures.reused c.in_ok-go_over.ensures.places

pub returns-clause-rejoined : goal.returns-clause-rejoined
returns-clause-rejoined g c =
    let change = c.args.change.now in
    let p = c.go_over.new.patch in
    settled-as (λ ss places handled reused. IsRejoined change.was change.is change.old c.args.spacing ss handled reused) (λ x. map arc_value x.segments.items) (λ x. x.places.items) (λ x. x.handled) (λ x. x.reused) c.settled.result (all_in change.is p.segments) p.places.items p.handled p.reused
    c.settled.ensures.segments c.settled.ensures.places c.settled.ensures.handled c.settled.ensures.reused c.in_ok-go_over.ensures.done
