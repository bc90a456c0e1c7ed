use Rattle.std.proofs.Common.{◌≡◌, ◌+◌, ◌++◌, ◌∙◌, List, filter, map, drop, get_or, sym, subst, ap, append-nil}
use Rattle.std.proofs.lemmas.List.{get_or_default, drop_all}
use Rattle.std.specs.declared.vec.Vec.{Vec}
use Rattle.std.specs.Option.{option_map}
use Rattle.frames.specs.declared.stretch.Stretch.{Stretch}
use Rattle.scenarios.specs.Job.{EffectiveJob}
use Rattle.scenarios.specs.declared.placed.Placed.{Placed}
use Rattle.cluster_state.specs.declared.snapshot.RunningNumber.{RunningNumber}
use Rattle.frames.specs.Frames.{stands_somewhere}
use Rattle.easy_rule.specs.declared.start.Start.{Start}
use Rattle.scenarios.specs.PlanView.{plan_in}
use Rattle.timeline.specs.Stretches.{placed_stretch, started_of}
use Rattle.checkpoints.specs.Cut.{placed_at}
use Rattle.checkpoints.proofs.Walks.{pick-none, pick-some}
use Rattle.checkpoints.proofs.running_frame.add_started.Goals.{in-Some+in_ok-add_running, in_default}
use Rattle.checkpoints.proofs.running_frame.add_started.Goals as goal

pub loop-start-preserved : goal.loop-start-preserved
loop-start-preserved g c =
    let jobs : List EffectiveJob = (plan_in c.args.plan.now).jobs in
    let starts : List Start = c.args.starts.now in
    let x : Start = get_or starts c.loop-start.start-index (record { number = 0; at = 0 }) in
    let placed : EffectiveJob → Placed = λ job. record { job = job; start = x.at } in
    let here = get_or_default starts c.loop-start.start-index (record { number = 0; at = 0 }) x c.loop-start-test.true in
    elim c.match-job.branch [
      | in-Some+in_ok-add_running w ↦
          subst (λ (v : Vec (Stretch RunningNumber) g.row.A.Denot). v.items ++ filter stands_somewhere (map (placed_stretch c.args.gap.now.seconds) (started_of jobs (drop (c.loop-start.start-index + 1) starts))) ≡ c.args.made.now.items ++ filter stands_somewhere (map (placed_stretch c.args.gap.now.seconds) (started_of jobs starts))) (sym w.made-is)
          (pick-some (placed_stretch c.args.gap.now.seconds) (placed_at jobs) c.loop-start.made.items w.add_running.new.made.items _ c.loop-start.start-index starts x (placed w.in-Some.job) c.loop-start-test.true here
          (ap (option_map placed) (sym c.job.ensures.job ∙ w.in-Some.is)) w.in_ok-add_running.ensures c.loop-start.invariant)
      | in_default w ↦
          subst (λ (v : Vec (Stretch RunningNumber) g.row.A.Denot). v.items ++ filter stands_somewhere (map (placed_stretch c.args.gap.now.seconds) (started_of jobs (drop (c.loop-start.start-index + 1) starts))) ≡ c.args.made.now.items ++ filter stands_somewhere (map (placed_stretch c.args.gap.now.seconds) (started_of jobs starts))) (sym w.made-is)
          (pick-none (placed_stretch c.args.gap.now.seconds) (placed_at jobs) c.loop-start.made.items _ c.loop-start.start-index starts x c.loop-start-test.true here
          (ap (option_map placed) (sym c.job.ensures.job ∙ w.in_default.is)) c.loop-start.invariant)
    ]

pub returns : goal.returns
returns g c =
    sym (append-nil c.loop-start.made.items)
    ∙ ap (λ (xs : List Start). c.loop-start.made.items ++ filter stands_somewhere (map (placed_stretch c.args.gap.now.seconds) (started_of (plan_in c.args.plan.now).jobs xs))) (sym (drop_all c.loop-start.start-index c.args.starts.now c.loop-start-test.false))
    ∙ c.loop-start.invariant
