use Rattle.std.proofs.Common.{◌+◌, length, sym, subst, arith}
use Rattle.checkpoints.specs.Pieces.{all_in}
use Rattle.rejoin.specs.Joining.{IsUpTo}
use Rattle.rejoin.specs.Patch.{IsRejoined}
use Rattle.rejoin.proofs.Onward.{behind-of, working-of}
use Rattle.rejoin.proofs.Turns.{done-reused, done-worked, stands-short}
use Rattle.rejoin.proofs.joining.finish.Goals as goal

pub work_to-requires-clause-working : goal.work_to-requires-clause-working
work_to-requires-clause-working g c =
    working-of c.args.change.now c.args.spacing c.len-len.result c.args.patch.now
    (subst (λ n. IsUpTo c.args.change.now c.args.spacing n c.args.patch.now) (sym c.len-len.ensures.count) c.requires.last) c.if-patch.false

pub returns-then-patch-clause-places : goal.returns-then-patch-clause-places
returns-then-patch-clause-places g c =
    let behind = behind-of c.args.change.now c.args.spacing (length c.args.change.now.old) c.args.patch.now c.requires.last c.if-patch.true in
    behind.places

pub returns-then-patch-clause-done : goal.returns-then-patch-clause-done
returns-then-patch-clause-done g c =
    let change = c.args.change.now in
    let p = c.args.patch.now in
    let behind = behind-of change c.args.spacing (length change.old) p c.requires.last c.if-patch.true in
    done-reused change c.len-len.ensures.sound c.args.spacing (length change.old) p.engine (all_in change.is p.segments) p.handled p.reused (omega arith) behind.stands

pub overflow_add-patch : goal.overflow_add-patch
overflow_add-patch g c =
    let p = c.work_to.new.patch in
    let few = stands-short c.args.change.now c.len-len.ensures.sound c.args.spacing c.len-len.result p.engine (all_in c.args.change.now.is p.segments) p.handled p.reused c.in_ok-work_to.ensures.working.stands in
    omega (arith, few, c.handled.ensures)

pub returns-clause-places : goal.returns-clause-places
returns-clause-places g c = c.in_ok-work_to.ensures.working.places

pub returns-clause-done : goal.returns-clause-done
returns-clause-done g c =
    let change = c.args.change.now in
    let p = c.work_to.new.patch in
    let e = c.len-len.ensures.count in
    let done = done-worked change c.len-len.ensures.sound c.args.spacing c.len-len.result p.engine (all_in c.args.change.now.is p.segments) p.handled p.reused (omega (arith, e)) c.in_ok-work_to.ensures.working.stands c.in_ok-work_to.ensures.reached in
    subst (λ n. IsRejoined change.was change.is change.old c.args.spacing (all_in c.args.change.now.is p.segments) (p.handled + n) p.reused) (sym c.handled.ensures) done
