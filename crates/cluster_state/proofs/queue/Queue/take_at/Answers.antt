use Rattle.std.proofs.Common.{◌≡◌, ◌+◌, List, Option, Some, IfSome, drop, map, ap, subst, sym, ◌∙◌}
use Rattle.blocks.specs.Rows.{flat}
use Rattle.scenarios.specs.Job.{EffectiveJob}
use Rattle.scenarios.specs.declared.order.Order.{Order}
use Rattle.waiting_places.specs.Places.{at_place, waiting}
use Rattle.cluster_state.specs.Candidates.{IsKept, jobs_of, candidates_places}
use Rattle.cluster_state.specs.State.{without}
use Rattle.cluster_state.proofs.PlaceLemmas.{at_map, leaves-there, rest-remove}
use Rattle.cluster_state.proofs.EstimateLemmas.{none_kept}
use Rattle.cluster_state.proofs.queue.Queue.take_at.Goals as goal

pub take_by_estimate-requires-clause-once : goal.take_by_estimate-requires-clause-once
take_by_estimate-requires-clause-once g c = rw (← c.self.view_is) at c.requires.once

pub take_by_estimate-requires-clause-kept : goal.take_by_estimate-requires-clause-kept
take_by_estimate-requires-clause-kept g c = subst (λ (o : Order). IsKept o c.self.inside.jobs.places (flat c.self.inside.candidates.blocks)) c.in-Shortest.is c.self.invariant

pub invariant_of-self-in-Shortest : goal.invariant_of-self-in-Shortest
invariant_of-self-in-Shortest g c =
    let new = c.take_by_estimate.new in
    subst (λ (o : Order). IsKept o new.jobs.places (flat new.candidates.blocks)) (sym c.in-Shortest.is) c.take_by_estimate.ensures.kept

pub invariant_of-self : goal.invariant_of-self
invariant_of-self g c =
    let inside = c.self.inside in
    subst (λ (o : Order). IsKept o c.take.new.self.places (flat inside.candidates.blocks)) (sym c.in-Arrival.is)
    (none_kept inside.jobs.places c.take.new.self.places (flat inside.candidates.blocks) (subst (λ (o : Order). IsKept o inside.jobs.places (flat inside.candidates.blocks)) c.in-Arrival.is c.self.invariant))

pub returns-in-Arrival-clause-jobs : goal.returns-in-Arrival-clause-jobs
returns-in-Arrival-clause-jobs g c =
    let inside = c.self.inside in
    let places = inside.jobs.places in
    let once = rw (← c.self.view_is) at c.requires.once in
    rw (← c.self.view_is)
    (subst (λ (o : Order). IfSome (at_place (candidates_places o places (jobs_of (flat inside.candidates.blocks))) c.args.place) (λ (job : EffectiveJob). waiting c.take.new.self.places ≡ without job.number (waiting places))) (sym c.in-Arrival.is)
    (subst (λ (new : List (Option EffectiveJob)). IfSome (at_place places c.args.place) (λ (job : EffectiveJob). waiting new ≡ without job.number (waiting places))) (sym c.take.ensures.places)
    (leaves-there places c.args.place once)))

pub returns-in-Shortest-clause-jobs : goal.returns-in-Shortest-clause-jobs
returns-in-Shortest-clause-jobs g c =
    let inside = c.self.inside in
    let places = inside.jobs.places in
    let candidates = jobs_of (flat inside.candidates.blocks) in
    let left = waiting c.take_by_estimate.new.jobs.places in
    rw (← c.self.view_is)
    (subst (λ (o : Order). IfSome (at_place (candidates_places o places candidates) c.args.place) (λ (job : EffectiveJob). left ≡ without job.number (waiting places))) (sym c.in-Shortest.is)
    (subst (λ (o : Option EffectiveJob). IfSome o (λ (job : EffectiveJob). left ≡ without job.number (waiting places))) (sym (at_map candidates c.args.place))
    c.take_by_estimate.ensures.jobs))

pub returns-in-Shortest-clause-rest : goal.returns-in-Shortest-clause-rest
returns-in-Shortest-clause-rest g c =
    let inside = c.self.inside in
    let new = c.take_by_estimate.new in
    rw (← c.self.view_is)
    (subst (λ (o : Order). waiting (drop c.args.place (candidates_places o new.jobs.places (jobs_of (flat new.candidates.blocks)))) ≡ waiting (drop (c.args.place + 1) (candidates_places o inside.jobs.places (jobs_of (flat inside.candidates.blocks))))) (sym c.in-Shortest.is)
    (ap (λ (candidates : List EffectiveJob). waiting (drop c.args.place (map (λ job. Some job) candidates))) c.take_by_estimate.ensures.candidates ∙ rest-remove (jobs_of (flat inside.candidates.blocks)) c.args.place))
