-- A waiting job that fits starts: nobody of its number runs yet, what is held is more by its size, and the state stays sound.
use Rattle.std.proofs.Common.{◌≡◌, ℕ, ◌+◌, ◌^◌, ◌≤◌, ◌<◌, nat_eq, count_by, List, Option, Some, slice_get, refl, arith}
use Rattle.scenarios.specs.Job.{EffectiveJob}
use Rattle.scenarios.specs.declared.placed.Placed.{Placed}
use Rattle.waiting_places.specs.Places.{at_place, waiting}
use Rattle.cluster_state.specs.Candidates.{in_order}
use Rattle.cluster_state.specs.State.{State, IsSound, free, placed, started, waiting_job, busy}
use Rattle.cluster_state.proofs.EndLemmas.{not-running}
use Rattle.cluster_state.proofs.PlaceLemmas.{Once, first-found, stands}
use Rattle.cluster_state.proofs.StateLemmas.{sound-started, sum_by-placed}

-- no two waiting jobs of a sound state have one number
pub once-waiting : (s : State) → IsSound s → Once s.waiting
once-waiting s h = λ n. omega (arith, h.once n)

pub record CanRun (s : State) (job : EffectiveJob) (now : ℕ) : Type 0 where
  pub absent : count_by (λ (x : Placed). nat_eq x.job.number job.number) s.running ≡ 0
  pub held : busy (placed (record { job = job; start = now }) s.running) ≡ job.size + busy s.running
  pub sound : IsSound (started s job now)

pub can-run : (s : State) (job : EffectiveJob) (now : ℕ) → IsSound s → waiting_job s job.number ≡ Some job → job.size ≤ free s → now < 2 ^ 49 → CanRun s job now
can-run s job now h found fits early = record {
  absent = not-running s job.number job h found refl;
  held = sum_by-placed (λ (r : Placed). r.job.size) (record { job = job; start = now }) s.running;
  sound = sound-started s job now h found fits early;
}

-- where the first of the queue fits it can start, and leaves the state sound
pub head-can-run : (s : State) (head : EffectiveJob) (now : ℕ) → IsSound s → slice_get s.waiting 0 ≡ Some head → head.size ≤ free s → now < 2 ^ 49 → CanRun s head now
head-can-run s head now h first fits early = can-run s head now h (first-found s.waiting head first) fits early

-- where the job at a place of the candidates fits it can start, and leaves the state sound
pub place-can-run : (s : State) (places : List (Option EffectiveJob)) (k : ℕ) (job : EffectiveJob) (now : ℕ) → IsSound s → waiting places ≡ in_order s.order s.waiting → at_place places k ≡ Some job → job.size ≤ free s → now < 2 ^ 49 → CanRun s job now
place-can-run s places k job now h candidates at fits early = can-run s job now h (stands s.order s.waiting places k job (once-waiting s h) candidates at) fits early
