use Rattle.std.proofs.Common.{◌≡◌, ℕ, ◌-◌, ◌<◌, ◌++◌, ◌∷◌, [], ap, arith, ◌∙◌}
use Rattle.scenarios.specs.Placed.{real_end}
use Rattle.metrics.specs.Days.{day_total, from_day}
use Rattle.metrics.specs.Tables.{day_row_of}
use Rattle.metrics.proofs.Falls.{all_fit, from_next}
use Rattle.metrics.proofs.DayLists.{row_more, row_none}
use Rattle.metrics.proofs.days.Days.rows.Goals.{then-starts-ends+in_ok-push, else-starts-ends}
use Rattle.metrics.proofs.days.Days.rows.Goals as goal

pub from_day-starts-requires : goal.from_day-starts-requires
from_day-starts-requires g c = rw c.as_slice.ensures.value (let f = all_fit (λ p. p.start) c.requires.jobs c.args.self.now.starts.items c.requires.limited (c.requires.same.at_starts 0) in omega (arith, f))

pub from_day-ends-requires : goal.from_day-ends-requires
from_day-ends-requires g c = rw c.as_slice-2.ensures.value (let f = all_fit real_end c.requires.jobs c.args.self.now.ends.items c.requires.limited (c.requires.same.at_ends 0) in omega (arith, f))

pub overflow_sub-starts : goal.overflow_sub-starts
overflow_sub-starts g c =
    let v = c.fall_at-starts.ensures ∙ ap (day_total c.loop-day.day) c.as_slice-in-loop-day.ensures.value in
    let n = from_next c.loop-day.day c.args.self.now.starts.items in omega (arith, v, n, c.loop-day.invariant.starts)

pub overflow_sub-ends-in-loop-day : goal.overflow_sub-ends-in-loop-day
overflow_sub-ends-in-loop-day g c =
    let v = c.fall_at-ends.ensures ∙ ap (day_total c.loop-day.day) c.as_slice-in-loop-day-2.ensures.value in
    let n = from_next c.loop-day.day c.args.self.now.ends.items in omega (arith, v, n, c.loop-day.invariant.ends)

pub loop-day-preserved : goal.loop-day-preserved
loop-day-preserved g c =
    let f : ℕ → ℕ = λ d. from_day d c.args.self.now.ends.items - from_day d c.args.self.now.starts.items in
    let day = c.loop-day.day in
    let inv = c.loop-day.invariant in
    let s = c.fall_at-starts.ensures ∙ ap (day_total day) c.as_slice-in-loop-day.ensures.value in
    let e = c.fall_at-ends.ensures ∙ ap (day_total day) c.as_slice-in-loop-day-2.ensures.value in
    let m = from_next day c.args.self.now.starts.items in
    let n = from_next day c.args.self.now.ends.items in
    record {
      rows = elim c.if-starts-ends.branch [
        | then-starts-ends+in_ok-push w ↦
            let some : 0 < f day = omega (arith, w.if-starts-ends.true, inv.starts, inv.ends) in
            let busy : w.from.result ≡ f day = w.from.ensures ∙ (λ i. inv.ends i - inv.starts i) in
            let row = w.day_row.ensures ∙ ap (λ (b : ℕ). day_row_of c.args.procs (day, b)) busy in
            ap (λ v. v.items) w.rows-is ∙ w.in_ok-push.ensures.items ∙ (λ i. c.loop-day.rows.items ++ row i ∷ []) ∙ row_more (day_row_of c.args.procs) f day c.loop-day.rows.items inv.rows some
        | else-starts-ends w ↦
            let none : f day ≡ 0 = omega (arith, w.if-starts-ends.false, inv.starts, inv.ends) in
            ap (λ v. v.items) w.rows-is ∙ inv.rows ∙ row_none (day_row_of c.args.procs) f day none
      ];
      starts = omega (arith, s, m, inv.starts);
      ends = omega (arith, e, n, inv.ends);
    }
