use Rattle.std.proofs.Common.{refl}
use Rattle.job_table.proofs.Same.{equal-all, equal-more, other-lengths}
use Rattle.job_table.proofs.rows.are_equal.Goals as goal

pub returns-then-one-other : goal.returns-then-one-other
returns-then-one-other c = other-lengths c.args.one.now c.args.other.now c.if-one-other.true

pub loop-place-init : goal.loop-place-init
loop-place-init c = refl

pub loop-place-preserved : goal.loop-place-preserved
loop-place-preserved c =
    equal-more c.loop-place.place c.args.one.now c.args.other.now c.index-one-place.result c.index-other-place.result c.loop-place.same c.eq-same.result
    c.loop-place-test.true c.if-one-other.false c.loop-place.invariant c.index-one-place.is c.index-other-place.is c.eq-same.ensures

pub returns : goal.returns
returns c = equal-all c.loop-place.place c.args.one.now c.args.other.now c.loop-place.same c.loop-place-test.false c.if-one-other.false c.loop-place.invariant
