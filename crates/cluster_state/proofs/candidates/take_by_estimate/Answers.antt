use Rattle.std.proofs.Common.{◌≡◌, ◌≤◌, IfSome, Option, ap, subst, sym, ◌∙◌}
use Rattle.blocks.specs.Rows.{flat}
use Rattle.scenarios.specs.Job.{EffectiveJob}
use Rattle.waiting_places.specs.Places.{waiting}
use Rattle.cluster_state.specs.Candidates.{jobs_of}
use Rattle.cluster_state.specs.State.{without}
use Rattle.cluster_state.proofs.PlaceLemmas.{Having, candidates-leaves, waiting-set}
use Rattle.cluster_state.proofs.EstimateLemmas.{job-at, placed-at}
use Rattle.cluster_state.proofs.candidates.take_by_estimate.Goals as goal

pub leave_at-requires-clause-once : goal.leave_at-requires-clause-once
leave_at-requires-clause-once g c =
    let places = c.args.jobs.now.places in
    let t = c.in-Some.candidate.now in
    let at = placed-at places (flat c.args.candidates.now.blocks) c.args.place t (sym c.in-Some.ensures) c.requires.kept.placed in
    subst (λ (o : Option EffectiveJob). IfSome o (λ (x : EffectiveJob). Having x.number (waiting places) ≤ 1)) (sym at) (c.requires.once t.job.number)

pub returns-clause-jobs : goal.returns-clause-jobs
returns-clause-jobs g c =
    let places = c.args.jobs.now.places in
    let candidates = flat c.args.candidates.now.blocks in
    let t = c.in-Some.candidate.now in
    let at = placed-at places candidates c.args.place t (sym c.in-Some.ensures) c.requires.kept.placed in
    subst (λ (o : Option EffectiveJob). IfSome o (λ (job : EffectiveJob). waiting c.leave_at.new.jobs.places ≡ without job.number (waiting places))) (sym (job-at candidates c.args.place t (sym c.in-Some.ensures)))
    (ap waiting c.leave_at.ensures.places ∙ waiting-set places t.place t.job (c.requires.once t.job.number) at)

pub returns-clause-candidates : goal.returns-clause-candidates
returns-clause-candidates g c =
    let places = c.args.jobs.now.places in
    let candidates = flat c.args.candidates.now.blocks in
    let t = c.in-Some.candidate.now in
    let left = waiting c.leave_at.new.jobs.places in
    let at = placed-at places candidates c.args.place t (sym c.in-Some.ensures) c.requires.kept.placed in
    let gone = subst (λ (o : Option EffectiveJob). IfSome o (λ (job : EffectiveJob). left ≡ without job.number (waiting places))) (sym (job-at candidates c.args.place t (sym c.in-Some.ensures)))
    (ap waiting c.leave_at.ensures.places ∙ waiting-set places t.place t.job (c.requires.once t.job.number) at) in
    c.leave_at.ensures.kept.jobs ∙ sym (candidates-leaves (waiting places) left (jobs_of candidates) c.args.place c.requires.once c.requires.kept.jobs c.requires.there gone)
