use Rattle.std.proofs.Common.{◌≡◌, Bool, true, false, List, ◌∷◌, Some, None, find, sym, ◌∙◌, ap, rules}
use Rattle.scenarios.specs.Job.{EffectiveJob}
use Rattle.cluster_state.specs.Candidates.{by_estimate}
use Rattle.easy_rule.specs.Rule.{may_backfill}
use Rattle.oracle_runs.proofs.Choice.{shortest-passed, shortest-alone, shortest-later, shortest-first}
use Rattle.oracle_runs.proofs.rule.+shortest.Goals as goal

pub returns-then-not-may_start : goal.returns-then-not-may_start
returns-then-not-may_start t c =
    let job : EffectiveJob = c.in-Some.job.now in
    let later : List EffectiveJob = c.in-Some.later.now in
    let q : EffectiveJob → Bool = may_backfill c.args.gap.second c.args.gap.free (record { time = c.args.gap.shadow; extra = c.args.gap.extra }) in
    let queue : c.args.jobs.now ≡ job ∷ later = c.in-Some.ensures.cases.0 in
    let not_now : q job ≡ false = search rules in
    c.shortest-best.ensures ∙ sym (ap (λ l. find q (by_estimate l)) queue ∙ shortest-passed q job later not_now)

pub returns-in_default-best : goal.returns-in_default-best
returns-in_default-best t c =
    let job : EffectiveJob = c.in-Some.job.now in
    let later : List EffectiveJob = c.in-Some.later.now in
    let q : EffectiveJob → Bool = may_backfill c.args.gap.second c.args.gap.free (record { time = c.args.gap.shadow; extra = c.args.gap.extra }) in
    let queue : c.args.jobs.now ≡ job ∷ later = c.in-Some.ensures.cases.0 in
    let may : q job ≡ true = search rules in
    let none : find q (by_estimate later) ≡ None = sym c.shortest-best.ensures ∙ c.in_default-best.is in
    sym (ap (λ l. find q (by_estimate l)) queue ∙ shortest-alone q job later may none)

pub returns-then-estimate : goal.returns-then-estimate
returns-then-estimate t c =
    let job : EffectiveJob = c.in-Some.job.now in
    let later : List EffectiveJob = c.in-Some.later.now in
    let q : EffectiveJob → Bool = may_backfill c.args.gap.second c.args.gap.free (record { time = c.args.gap.shadow; extra = c.args.gap.extra }) in
    let queue : c.args.jobs.now ≡ job ∷ later = c.in-Some.ensures.cases.0 in
    let best : find q (by_estimate later) ≡ Some c.in-Some-best.other = sym c.shortest-best.ensures ∙ c.in-Some-best.is in
    sym (ap (λ l. find q (by_estimate l)) queue ∙ shortest-later q job c.in-Some-best.other later best (rw (c.estimate.ensures.value, c.estimate-2.ensures.value) at c.if-estimate.true))

pub returns : goal.returns
returns t c =
    let job : EffectiveJob = c.in-Some.job.now in
    let later : List EffectiveJob = c.in-Some.later.now in
    let q : EffectiveJob → Bool = may_backfill c.args.gap.second c.args.gap.free (record { time = c.args.gap.shadow; extra = c.args.gap.extra }) in
    let queue : c.args.jobs.now ≡ job ∷ later = c.in-Some.ensures.cases.0 in
    let may : q job ≡ true = search rules in
    let best : find q (by_estimate later) ≡ Some c.in-Some-best.other = sym c.shortest-best.ensures ∙ c.in-Some-best.is in
    sym (ap (λ l. find q (by_estimate l)) queue ∙ shortest-first q job c.in-Some-best.other later may best (rw (c.estimate.ensures.value, c.estimate-2.ensures.value) at c.if-estimate.false))
