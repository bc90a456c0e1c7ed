use Rattle.std.proofs.Common.{rules, sym, refl}
use Rattle.std.proofs.lemmas.List.Sorted.{answers_always}
use Rattle.oracle_runs.proofs.Collected.{IsCollected}
use Rattle.oracle_runs.proofs.Sorting.{key, sorted-is, plan-sound}
use Rattle.oracle_runs.proofs.plan.LogPlan.of.Goals as goal

pub returns : goal.returns
returns g c =
    let es = c.args.text.now.entries in
    let collected : IsCollected es c.args.scenario.now c.in_ok-jobs.jobs.items = record {
      are = rw (sym c.entries.ensures.entries) c.in_ok-jobs.ensures.jobs;
      limits = c.in_ok-jobs.ensures.limits;
      numbered = rw (sym c.entries.ensures.entries) c.in_ok-jobs.ensures.numbered;
    } in
    let up = c.in_ok-sort_by_key.ensures.sorted key (answers_always _ _ _ (λ f a r h k. search rules)) in
    let jobs = sorted-is es c.args.scenario.now c.in_ok-jobs.jobs.items c.sort_by_key.new.self.items c.entries.ensures.log collected c.sort_by_key.ensures.permutation up in
    rw jobs refl

pub invariant_of-result : goal.invariant_of-result
invariant_of-result g c =
    let es = c.args.text.now.entries in
    let collected : IsCollected es c.args.scenario.now c.in_ok-jobs.jobs.items = record {
      are = rw (sym c.entries.ensures.entries) c.in_ok-jobs.ensures.jobs;
      limits = c.in_ok-jobs.ensures.limits;
      numbered = rw (sym c.entries.ensures.entries) c.in_ok-jobs.ensures.numbered;
    } in
    let up = c.in_ok-sort_by_key.ensures.sorted key (answers_always _ _ _ (λ f a r h k. search rules)) in
    plan-sound es c.args.scenario.now c.in_ok-jobs.jobs.items (record { procs = c.args.scenario.now.procs; order = c.args.scenario.now.order; jobs = c.sort_by_key.new.self.items }) c.entries.ensures.log c.procs.ensures.scenario collected refl c.sort_by_key.ensures.permutation up
