use Rattle.std.proofs.Common.{ap, arith, sym, ◌∙◌}
use Rattle.scenarios.specs.Placed.{real_end}
use Rattle.metrics.specs.Days.{from_day}
use Rattle.metrics.proofs.Falls.{all_fit, less_before}
use Rattle.metrics.proofs.DayLists.{busy_there, nothing_on}
use Rattle.metrics.proofs.days.Days.busy_at.Goals as goal

pub from_day-starts-requires : goal.from_day-starts-requires
from_day-starts-requires g c = rw c.as_slice.ensures.value (let f = all_fit (λ p. p.start) c.requires.jobs c.args.self.now.starts.items c.requires.limited (c.requires.same.at_starts 0) in omega (arith, f))

pub from_day-ends-requires : goal.from_day-ends-requires
from_day-ends-requires g c = rw c.as_slice-2.ensures.value (let f = all_fit real_end c.requires.jobs c.args.self.now.ends.items c.requires.limited (c.requires.same.at_ends 0) in omega (arith, f))

pub returns-then-starts-ends : goal.returns-then-starts-ends
returns-then-starts-ends g c =
    let s = c.from_day-starts.ensures ∙ ap (from_day c.args.day) c.as_slice.ensures.value in
    let e = c.from_day-ends.ensures ∙ ap (from_day c.args.day) c.as_slice-2.ensures.value in
    nothing_on c.requires.jobs _ _ c.requires.same c.args.day (sym s ∙ c.if-starts-ends.true ∙ e)

pub overflow_sub-ends : goal.overflow_sub-ends
overflow_sub-ends g c =
    let s = c.from_day-starts.ensures ∙ ap (from_day c.args.day) c.as_slice.ensures.value in
    let e = c.from_day-ends.ensures ∙ ap (from_day c.args.day) c.as_slice-2.ensures.value in
    let b = less_before c.requires.jobs _ _ c.requires.same c.args.day in omega (arith, s, e, b)

pub returns : goal.returns
returns g c =
    let s = c.from_day-starts.ensures ∙ ap (from_day c.args.day) c.as_slice.ensures.value in
    let e = c.from_day-ends.ensures ∙ ap (from_day c.args.day) c.as_slice-2.ensures.value in
    busy_there c.requires.jobs _ _ c.requires.same c.args.day c.from.result (λ same. c.if-starts-ends.false (s ∙ same ∙ sym e)) (omega (arith, s, e, c.from.ensures))
