use Rattle.blocks.specs.Rows.{flat}
use Rattle.cluster_state.specs.Candidates.{jobs_of}
use Rattle.cluster_state.proofs.PlaceLemmas.{candidates_is}
use Rattle.cluster_state.proofs.queue.Queue.place_behind.Goals as goal

pub returns-in-Shortest-clause-candidates : goal.returns-in-Shortest-clause-candidates
returns-in-Shortest-clause-candidates g c = rw (← c.self.view_is) (candidates_is c.self.inside.order c.self.inside.jobs.places (jobs_of (flat c.self.inside.candidates.blocks)) c.self.invariant.jobs)
