use Rattle.std.proofs.Common.{arith, refl}
use Rattle.easy_rule.proofs.WalkLemmas.{walk-begins, walk-more, walk-all, walk-enough, walk-shadow, walk-least, walk-stops, walk-ends, walk-capacity, walk-few, walk-reads, walk-reads-all, early-end}
use Rattle.easy_rule.proofs.shadow_walk.walk.Goals as goal

pub loop-r-init : goal.loop-r-init
loop-r-init g c = rw c.into_iter-r-iterator.ensures.into_iter_gives (walk-begins c.running_past-capacity.ensures.past (c.running_past-capacity.ensures.most c.requires.within))

pub expected_end-end-requires : goal.expected_end-end-requires
expected_end-end-requires g c = early-end c.loop-r.invariant c.in-Some.ensures.steps c.running_past-capacity.ensures.sound

pub overflow_add-reads : goal.overflow_add-reads
overflow_add-reads g c =
    let some = walk-few c.loop-r.invariant c.running_past-capacity.ensures.sound in
    omega (arith, some, c.running_past-capacity.ensures.sound.limited)

pub returns-then-time-end-clause-shadow : goal.returns-then-time-end-clause-shadow
returns-then-time-end-clause-shadow g c =
    let late = walk-stops c.loop-r.invariant c.in-Some.ensures.steps (rw c.expected_end-end.ensures.value at c.if-time-end.true) in
    let all = walk-all c.loop-r.invariant c.if-need-capacity.true late in
    walk-shadow c.loop-r.invariant c.if-need-capacity.true _ _ c.running_past-capacity.ensures.sound c.requires.within all refl

pub returns-then-time-end-clause-least : goal.returns-then-time-end-clause-least
returns-then-time-end-clause-least g c = walk-least c.loop-r.invariant c.if-need-capacity.true c.running_past-capacity.ensures.sound c.requires.within

pub returns-then-time-end-clause-reads : goal.returns-then-time-end-clause-reads
returns-then-time-end-clause-reads g c = walk-reads c.loop-r.invariant c.if-need-capacity.true c.in-Some.ensures.steps

pub returns-then-time-end-clause-few : goal.returns-then-time-end-clause-few
returns-then-time-end-clause-few g c = let early = c.loop-r.invariant.early in omega (arith, early)

pub overflow_sub-extra-then-need-capacity : goal.overflow_sub-extra-then-need-capacity
overflow_sub-extra-then-need-capacity g c = let enough = walk-enough c.loop-r.invariant c.if-need-capacity.true in omega (arith, enough, c.available.ensures)

pub returns-then-need-capacity-clause-shadow : goal.returns-then-need-capacity-clause-shadow
returns-then-need-capacity-clause-shadow g c = walk-shadow c.loop-r.invariant c.if-need-capacity.true _ _ c.running_past-capacity.ensures.sound c.requires.within c.available.ensures refl

pub returns-then-need-capacity-clause-least : goal.returns-then-need-capacity-clause-least
returns-then-need-capacity-clause-least g c = walk-least c.loop-r.invariant c.if-need-capacity.true c.running_past-capacity.ensures.sound c.requires.within

pub returns-then-need-capacity-clause-reads : goal.returns-then-need-capacity-clause-reads
returns-then-need-capacity-clause-reads g c = walk-reads c.loop-r.invariant c.if-need-capacity.true c.in-Some.ensures.steps

pub returns-then-need-capacity-clause-few : goal.returns-then-need-capacity-clause-few
returns-then-need-capacity-clause-few g c = let early = c.loop-r.invariant.early in omega (arith, early)

pub overflow_add-capacity : goal.overflow_add-capacity
overflow_add-capacity g c =
    let fits = walk-capacity c.loop-r.invariant c.in-Some.ensures.steps c.running_past-capacity.ensures.sound in
    omega (arith, fits, c.running_past-capacity.ensures.sound.limited, c.size-capacity.ensures.value)

pub loop-r-preserved : goal.loop-r-preserved
loop-r-preserved g c =
    rw (c.size-capacity.ensures.value, c.expected_end-end.ensures.value)
    (walk-more c.loop-r.invariant c.in-Some.ensures.steps c.if-need-capacity.false)

pub overflow_sub-extra-2 : goal.overflow_sub-extra-2
overflow_sub-extra-2 g c = (walk-ends c.loop-r.invariant c.running_past-capacity.ensures.sound c.requires.within c.in-None.ensures.steps.0).0

pub returns-clause-shadow : goal.returns-clause-shadow
returns-clause-shadow g c =
    let e = walk-ends c.loop-r.invariant c.running_past-capacity.ensures.sound c.requires.within c.in-None.ensures.steps.0 in
    walk-shadow c.loop-r.invariant e.0 _ _ c.running_past-capacity.ensures.sound c.requires.within (walk-all c.loop-r.invariant e.0 e.1) refl

pub returns-clause-least : goal.returns-clause-least
returns-clause-least g c =
    let e = walk-ends c.loop-r.invariant c.running_past-capacity.ensures.sound c.requires.within c.in-None.ensures.steps.0 in
    walk-least c.loop-r.invariant e.0 c.running_past-capacity.ensures.sound c.requires.within

pub returns-clause-reads : goal.returns-clause-reads
returns-clause-reads g c =
    let e = walk-ends c.loop-r.invariant c.running_past-capacity.ensures.sound c.requires.within c.in-None.ensures.steps.0 in
    walk-reads-all c.loop-r.invariant e.0

pub returns-clause-few : goal.returns-clause-few
returns-clause-few g c = let early = c.loop-r.invariant.early in omega (arith, early)
