use Rattle.std.proofs.Common.{ap, sym, ◌∙◌}
use Rattle.blocks.specs.Rows.{flat}
use Rattle.scenarios.specs.declared.order.Order.{Order}
use Rattle.waiting_places.specs.Places.{at_place}
use Rattle.cluster_state.specs.Capacities.{QueueView}
use Rattle.cluster_state.specs.Candidates.{jobs_of, candidates_places}
use Rattle.cluster_state.proofs.PlaceLemmas.{at_map, candidates_is}
use Rattle.cluster_state.proofs.queue.Queue.get.Goals as goal

pub returns-in-Shortest-clause-candidates : goal.returns-in-Shortest-clause-candidates
returns-in-Shortest-clause-candidates g c = rw (← c.self.view_is) (candidates_is c.self.inside.order c.self.inside.jobs.places (jobs_of (flat c.self.inside.candidates.blocks)) c.self.invariant.jobs)

pub returns-in-Shortest-clause-job : goal.returns-in-Shortest-clause-job
returns-in-Shortest-clause-job g c =
    let places = c.self.inside.jobs.places in
    let candidates = jobs_of (flat c.self.inside.candidates.blocks) in
    c.job_at.ensures ∙ sym (at_map candidates c.args.place) ∙ ap (λ (o : Order). at_place (candidates_places o places candidates) c.args.place) (sym c.in-Shortest.is) ∙ ap (λ (v : QueueView). at_place v.places c.args.place) c.self.view_is
