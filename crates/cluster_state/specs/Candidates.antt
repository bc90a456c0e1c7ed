-- The order in which the later waiting jobs are looked at.
use Rattle.std.specs.Prelude.{◌≡◌, ℕ, ◌≤◌, nat_le, nat_lt, if◌then◌else◌, Bool, List, [], ◌∷◌, map, Option, Some, IsSomeAnd, All}
use Rattle.scenarios.specs.Job.{EffectiveJob}
use Rattle.scenarios.specs.declared.order.Order.{Order}
use Rattle.scenarios.specs.declared.order.Order.TheVariants.{Arrival, Shortest}
use Rattle.waiting_places.specs.declared.offer.Offer.{Offer}
use Rattle.waiting_places.specs.Offers.{fits}
use Rattle.waiting_places.specs.Places.{at_place, waiting}
use Rattle.cluster_state.specs.declared.candidate.Candidate.{Candidate}
use Rattle.cluster_state.specs.State.{ClusterView, free}

-- a job among others, before the first whose estimate is not shorter
abbrev pub put : EffectiveJob → List EffectiveJob → List EffectiveJob
put job [] = job ∷ []
put job (x ∷ xs) = if nat_le job.estimate x.estimate then job ∷ x ∷ xs else x ∷ put job xs

-- the shortest estimate first; those of one estimate as they stand
abbrev pub by_estimate : List EffectiveJob → List EffectiveJob
by_estimate [] = []
by_estimate (j ∷ js) = put j (by_estimate js)

-- jobs of the queue in the order in which they are looked at
abbrev pub in_order : Order → List EffectiveJob → List EffectiveJob
in_order Arrival js = js
in_order Shortest js = by_estimate js

-- the jobs of the candidates by estimate, each of which has a candidate with its place
abbrev pub jobs_of : List Candidate → List EffectiveJob
jobs_of candidates = map (λ t. t.job) candidates

-- the candidates that a cluster keeps beside its queue: none in order of arrival, where the queue itself serves
abbrev pub candidates_of : Order → List EffectiveJob → List EffectiveJob
candidates_of Arrival js = []
candidates_of Shortest js = by_estimate js

-- a job among others, before the first whose estimate is longer
abbrev pub put_last : EffectiveJob → List EffectiveJob → List EffectiveJob
put_last job [] = job ∷ []
put_last job (x ∷ xs) = if nat_lt job.estimate x.estimate then job ∷ x ∷ xs else x ∷ put_last job xs

-- what the candidates keep: they are those who wait at these places, and each waits at the place of its candidate
pub record IsKept (order : Order) (places : List (Option EffectiveJob)) (candidates : List Candidate) : Type 0 where
  pub jobs : jobs_of candidates ≡ candidates_of order (waiting places)
  pub placed : All (λ t. at_place places t.place ≡ Some t.job) candidates

-- the places of the candidates: in order of arrival those of the queue itself, else one for each job of the kept candidates
abbrev pub candidates_places : Order → List (Option EffectiveJob) → List EffectiveJob → List (Option EffectiveJob)
candidates_places Arrival places candidates = places
candidates_places Shortest places candidates = map (λ job. Some job) candidates

-- what is true of the places of each cluster: the waiting jobs stand there, in the order in which they are looked at
abbrev pub AreCandidates : ClusterView → Type 0
AreCandidates c = waiting c.places ≡ in_order c.state.order c.state.waiting

-- a job fits what is offered
abbrev pub fits_offer : Offer → EffectiveJob → Bool
fits_offer offer job = fits (λ (j : EffectiveJob). j.size) (λ (j : EffectiveJob). j.estimate) offer job

-- a job waits at this place of the candidates, and fits into the free processors
abbrev pub CanStartAt : ClusterView → ℕ → Type 0
CanStartAt c place = IsSomeAnd (at_place c.places place) (λ job. job.size ≤ free c.state)
