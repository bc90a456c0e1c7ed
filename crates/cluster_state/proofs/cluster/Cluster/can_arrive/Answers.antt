use Rattle.std.proofs.Common.{◌∙◌, sym, ap, cond, nat_eq, count_by, arith}
use Rattle.std.proofs.lemmas.Bool.{false≢true, leb-true, le-leb}
use Rattle.scenarios.specs.declared.placed.Placed.{Placed}
use Rattle.cluster_state.proofs.EndLemmas.{sum_by-by_end}
use Rattle.cluster_state.proofs.cluster.Cluster.can_arrive.Goals as goal

pub returns-then-is_absent : goal.returns-then-is_absent
returns-then-is_absent g c =
    let n = c.number.result in
    let same = ap (count_by (λ (r : Placed). nat_eq r.job.number n)) c.by_end.ensures.runners in
    let runners = sum_by-by_end (λ (r : Placed). cond (nat_eq r.job.number n) 1 0) c.self.inside.running.running in
    let none = c.is_absent.ensures.0 c.if-is_absent.true in
    rw (← c.self.view_is, ← c.jobs.ensures, ← c.number.ensures.value, ← c.size.ensures.value)
    (λ e. (omega (arith, none, same, runners), leb-true c.size.result c.self.inside.procs e), λ h. le-leb c.size.result c.self.inside.procs h.1)

pub returns-else-is_absent : goal.returns-else-is_absent
returns-else-is_absent g c =
    let n = c.number.result in
    let same = ap (count_by (λ (r : Placed). nat_eq r.job.number n)) c.by_end.ensures.runners in
    let runners = sum_by-by_end (λ (r : Placed). cond (nat_eq r.job.number n) 1 0) c.self.inside.running.running in
    rw (← c.self.view_is, ← c.jobs.ensures, ← c.number.ensures.value)
    (λ e. absurd (false≢true (sym c.if-is_absent.false ∙ e)), λ h. c.is_absent.ensures.1 (let none = h.0 in omega (arith, none, same, runners)))
