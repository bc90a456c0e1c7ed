use Rattle.std.proofs.Common.{◌≡◌, ◌+◌, ◌^◌, ◌<◌, ℕ, ap, arith, length, refl, subst, sym, ◌∙◌}
use Rattle.std.specs.Prelude.{None, Some, if◌then◌else◌, nat_lt}
use Rattle.blocks.specs.Light.{NoneWithin}
use Rattle.blocks.specs.Rows.{flat, start}
use Rattle.blocks.proofs.Weighed.{ended, fits_found, fits_next, found_by, next_by, none_by, none_within, until, within_none, same_by, same_length}
use Rattle.blocks.proofs.light.light_within.Goals as goal

pub loop-number-init : goal.loop-number-init
loop-number-init g c = record { same = refl; at = c.requires.begin; none = c.requires.none }

pub returns-then-wanted-start-clause-place : goal.returns-then-wanted-start-clause-place
returns-then-wanted-start-clause-place g c =
    ended g.T.Ranked.weight c.args.wanted.limit (flat c.args.blocks.now) c.args.wanted.from c.args.wanted.end c.loop-number.start (start c.args.last c.args.blocks.now) c.if-wanted-start.true c.loop-number.invariant.none

pub returns-then-wanted-start-clause-same : goal.returns-then-wanted-start-clause-same
returns-then-wanted-start-clause-same g c = c.loop-number.invariant.same

pub bounds-blocks-number : goal.bounds-blocks-number
bounds-blocks-number g c = omega (arith, c.loop-number-test.true, c.requires.within, ap length c.loop-number.invariant.same)

pub bounds-blocks-number-in-loop-number : goal.bounds-blocks-number-in-loop-number
bounds-blocks-number-in-loop-number g c = omega (arith, c.loop-number-test.true, c.requires.within, ap length c.loop-number.invariant.same)

pub overflow_add-start : goal.overflow_add-start
overflow_add-start g c =
    let none = none_within g.T.Ranked.weight c.args.wanted.limit (flat c.args.blocks.now) c.args.wanted.from c.args.wanted.end c.loop-number.start (omega (arith, c.if-wanted-start.false)) c.loop-number.invariant.none in
    let fits : c.loop-number.start + c.in-Some.at < 2 ^ 64 = fits_found g.T.Ranked.weight c.args.wanted.limit c.loop-number.number c.args.wanted.from c.args.blocks.now c.loop-number.blocks c.index-blocks-number-in-loop-number.result c.loop-number.start c.saturating_sub-from.result c.loop-number.invariant.same (omega (arith, c.loop-number-test.true, c.requires.within, ap length c.loop-number.invariant.same)) c.index-blocks-number-in-loop-number.is c.loop-number.invariant.at c.saturating_sub-from.ensures none c.in-Some.at (2 ^ 64) c.requires.few c.in-Some.ensures.first.1 in
    omega (arith, fits)

pub returns-in-Some-clause-place : goal.returns-in-Some-clause-place
returns-in-Some-clause-place g c =
    let none = none_within g.T.Ranked.weight c.args.wanted.limit (flat c.args.blocks.now) c.args.wanted.from c.args.wanted.end c.loop-number.start (omega (arith, c.if-wanted-start.false)) c.loop-number.invariant.none in
    until g.T.Ranked.weight c.args.wanted.limit (flat c.args.blocks.now) c.args.wanted.from c.args.wanted.end (start c.args.last c.args.blocks.now) c.within.result (if nat_lt (c.loop-number.start + c.in-Some.at) c.args.wanted.end then Some (c.loop-number.start + c.in-Some.at) else None) c.within.ensures
    (found_by g.T.Ranked.weight c.args.wanted.limit c.loop-number.number c.args.wanted.from c.args.blocks.now c.loop-number.blocks c.index-blocks-number-in-loop-number.result c.loop-number.start c.saturating_sub-from.result c.loop-number.invariant.same (omega (arith, c.loop-number-test.true, c.requires.within, ap length c.loop-number.invariant.same)) c.index-blocks-number-in-loop-number.is c.loop-number.invariant.at c.saturating_sub-from.ensures none c.args.wanted.end c.in-Some.at c.in-Some.ensures.first)

pub overflow_add-start-in-loop-number : goal.overflow_add-start-in-loop-number
overflow_add-start-in-loop-number g c =
    let none = none_within g.T.Ranked.weight c.args.wanted.limit (flat c.args.blocks.now) c.args.wanted.from c.args.wanted.end c.loop-number.start (omega (arith, c.if-wanted-start.false)) c.loop-number.invariant.none in
    let len = same_length g.T.Ranked.weight c.args.wanted.limit c.loop-number.number c.loop-number.blocks c.index-blocks-number.result c.index-blocks-number-in-loop-number.result c.as_slice-len.result.now (omega (arith, c.loop-number-test.true, c.requires.within, ap length c.loop-number.invariant.same)) c.index-blocks-number.is c.index-blocks-number-in-loop-number.is (c.as_slice-len.ensures.items ∙ sym c.index-blocks-number.is) in
    let fits : c.loop-number.start + length c.as_slice-len.result.now < 2 ^ 64 = fits_next g.T.Ranked.weight c.args.wanted.limit c.loop-number.number c.args.wanted.from c.args.blocks.now c.loop-number.blocks c.index-blocks-number-in-loop-number.result c.loop-number.start c.saturating_sub-from.result c.loop-number.invariant.same (omega (arith, c.loop-number-test.true, c.requires.within, ap length c.loop-number.invariant.same)) c.index-blocks-number-in-loop-number.is c.loop-number.invariant.at c.saturating_sub-from.ensures none (length c.as_slice-len.result.now) (2 ^ 64) c.requires.few len in
    omega (arith, fits)

pub loop-number-preserved : goal.loop-number-preserved
loop-number-preserved g c =
    let none = none_within g.T.Ranked.weight c.args.wanted.limit (flat c.args.blocks.now) c.args.wanted.from c.args.wanted.end c.loop-number.start (omega (arith, c.if-wanted-start.false)) c.loop-number.invariant.none in
    let len = same_length g.T.Ranked.weight c.args.wanted.limit c.loop-number.number c.loop-number.blocks c.index-blocks-number.result c.index-blocks-number-in-loop-number.result c.as_slice-len.result.now (omega (arith, c.loop-number-test.true, c.requires.within, ap length c.loop-number.invariant.same)) c.index-blocks-number.is c.index-blocks-number-in-loop-number.is (c.as_slice-len.ensures.items ∙ sym c.index-blocks-number.is) in
    record {
      same = same_by g.T.Ranked.weight c.args.wanted.limit c.loop-number.number c.args.wanted.from c.args.blocks.now c.loop-number.blocks c.index-blocks-number-in-loop-number.result c.loop-number.start c.saturating_sub-from.result c.loop-number.invariant.same (omega (arith, c.loop-number-test.true, c.requires.within, ap length c.loop-number.invariant.same)) c.index-blocks-number-in-loop-number.is c.loop-number.invariant.at c.saturating_sub-from.ensures none c.first_light.new.self c.first_light.ensures.same;
      at = next_by g.T.Ranked.weight c.args.wanted.limit c.loop-number.number c.args.wanted.from c.args.blocks.now c.loop-number.blocks c.index-blocks-number-in-loop-number.result c.loop-number.start c.saturating_sub-from.result c.loop-number.invariant.same (omega (arith, c.loop-number-test.true, c.requires.within, ap length c.loop-number.invariant.same)) c.index-blocks-number-in-loop-number.is c.loop-number.invariant.at c.saturating_sub-from.ensures none (length c.as_slice-len.result.now) len;
      none = within_none g.T.Ranked.weight c.args.wanted.limit (flat c.args.blocks.now) c.args.wanted.from c.args.wanted.end (c.loop-number.start + length c.as_slice-len.result.now) (none_by g.T.Ranked.weight c.args.wanted.limit c.loop-number.number c.args.wanted.from c.args.blocks.now c.loop-number.blocks c.index-blocks-number-in-loop-number.result c.loop-number.start c.saturating_sub-from.result c.loop-number.invariant.same (omega (arith, c.loop-number-test.true, c.requires.within, ap length c.loop-number.invariant.same)) c.index-blocks-number-in-loop-number.is c.loop-number.invariant.at c.saturating_sub-from.ensures none (length c.as_slice-len.result.now) len c.in_default.ensures.first);
    }

pub returns-in-Some-clause-same : goal.returns-in-Some-clause-same
returns-in-Some-clause-same g c =
    let none = none_within g.T.Ranked.weight c.args.wanted.limit (flat c.args.blocks.now) c.args.wanted.from c.args.wanted.end c.loop-number.start (omega (arith, c.if-wanted-start.false)) c.loop-number.invariant.none in
    same_by g.T.Ranked.weight c.args.wanted.limit c.loop-number.number c.args.wanted.from c.args.blocks.now c.loop-number.blocks c.index-blocks-number-in-loop-number.result c.loop-number.start c.saturating_sub-from.result c.loop-number.invariant.same (omega (arith, c.loop-number-test.true, c.requires.within, ap length c.loop-number.invariant.same)) c.index-blocks-number-in-loop-number.is c.loop-number.invariant.at c.saturating_sub-from.ensures none c.first_light.new.self c.in-Some.ensures.same

pub returns-clause-place : goal.returns-clause-place
returns-clause-place g c =
    let last : c.loop-number.number ≡ c.args.last = omega (arith, c.loop-number-test.false, c.loop-number.auto.number-end c.requires.order) in
    subst (λ (k : ℕ). NoneWithin g.T.Ranked.weight c.args.wanted.limit (flat c.args.blocks.now) c.args.wanted.from c.args.wanted.end k) (c.loop-number.invariant.at ∙ ap (λ (n : ℕ). start n c.args.blocks.now) last) c.loop-number.invariant.none

pub returns-clause-same : goal.returns-clause-same
returns-clause-same g c = c.loop-number.invariant.same
