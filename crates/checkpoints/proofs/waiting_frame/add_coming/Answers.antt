use Rattle.std.proofs.Common.{◌≡◌, ◌<◌, ◌++◌, ◌∙◌, List, [], ◌∷◌, filter, sym, ap, subst, arith, append-nil}
use Rattle.scenarios.specs.Job.{EffectiveJob}
use Rattle.scenarios.specs.Plan.{from_on}
use Rattle.scenarios.specs.PlanView.{plan_in}
use Rattle.frames.specs.Frames.{stands_somewhere}
use Rattle.easy_rule.specs.Simulation.{start_of}
use Rattle.timeline.specs.Stretches.{waiting_stretch, waiting_stretches}
use Rattle.event_loop.specs.Upcoming.{NonFalling}
use Rattle.event_loop.proofs.Lemmas.{non-falling, from-falling}
use Rattle.checkpoints.proofs.Walks.{until, until-in, ended-at, coming-is, put-one}
use Rattle.checkpoints.proofs.waiting_frame.add_coming.Goals as goal

pub loop-job-init : goal.loop-job-init
loop-job-init g c =
    let jobs : List EffectiveJob = (plan_in c.args.plan.now).jobs in
    let same : c.into_iter-job-iterator.result ≡ from_on c.args.from jobs = c.into_iter-job-iterator.ensures.into_iter_gives ∙ c.from_second-job-items.ensures.jobs in
    record {
      made = ap (λ js. c.args.made.now.items ++ filter stands_somewhere (waiting_stretches c.args.gap.now.seconds js (start_of c.args.gap.now.starts))) (ap (until c.args.until) same ∙ sym (coming-is c.args.from c.args.until jobs));
      falls = subst NonFalling (sym same) (from-falling c.args.from jobs (non-falling jobs c.from_second-job-items.ensures.sound.rising));
    }

pub loop-job-preserved : goal.loop-job-preserved
loop-job-preserved g c =
    let job : EffectiveJob = c.in-Some.job in
    let rest : List EffectiveJob = c.next.new.self in
    let same : c.loop-job.job-iterator ≡ job ∷ rest = c.in-Some.ensures.steps in
    let soon = c.if-submit-until.false in
    let at = c.submit.ensures.value in
    let early : job.submit < c.args.until = omega (arith, soon, at) in
    let falls : NonFalling (job ∷ rest) = subst NonFalling same c.loop-job.invariant.falls in
    record {
      made = put-one (λ j. waiting_stretch c.args.gap.now.seconds j (start_of c.args.gap.now.starts j.number)) c.loop-job.made.items c.add_waiting.new.made.items _ job (until c.args.until rest) c.in_ok-add_waiting.ensures
          (ap (λ js. c.loop-job.made.items ++ filter stands_somewhere (waiting_stretches c.args.gap.now.seconds js (start_of c.args.gap.now.starts))) (sym (ap (until c.args.until) same ∙ until-in c.args.until job rest early)) ∙ c.loop-job.invariant.made);
      falls = falls.1;
    }

pub returns-then-submit-until : goal.returns-then-submit-until
returns-then-submit-until g c =
    let job : EffectiveJob = c.in-Some.job in
    let rest : List EffectiveJob = c.next.new.self in
    let same : c.loop-job.job-iterator ≡ job ∷ rest = c.in-Some.ensures.steps in
    let late = c.if-submit-until.true in
    let at = c.submit.ensures.value in
    let none : until c.args.until c.loop-job.job-iterator ≡ [] = ap (until c.args.until) same ∙ ended-at c.args.until job rest (subst NonFalling same c.loop-job.invariant.falls) (omega (arith, late, at)) in
    sym (append-nil c.loop-job.made.items)
    ∙ ap (λ js. c.loop-job.made.items ++ filter stands_somewhere (waiting_stretches c.args.gap.now.seconds js (start_of c.args.gap.now.starts))) (sym none)
    ∙ c.loop-job.invariant.made
