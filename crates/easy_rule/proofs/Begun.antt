-- A decision that is begun: who has started, one after another, and what is left to decide. Each start leaves capacity for one start less.
use Rattle.std.proofs.Common.{◌≡◌, ℕ, ◌+◌, ◌≤◌, ◌<◌, nat_le, nat_eq, List, [], ◌∷◌, ◌++◌, append_assoc, append-nil, length, map, Some, None, slice_get, refl, sym, ◌∙◌, ap, arith, subst}
use Rattle.std.proofs.lemmas.List.{length_push, map-append}
use Rattle.std.proofs.lemmas.Bool.{cond-true, le-leb}
use Rattle.scenarios.specs.Job.{EffectiveJob, IsWithinLimits}
use Rattle.scenarios.specs.declared.placed.Placed.{Placed}
use Rattle.cluster_state.specs.State.{State, ClusterView, IsSound, free, started, all_started, CanStartAll, waiting_job}
use Rattle.cluster_state.proofs.Lemmas.{sum_by-placed, All-find}
use Rattle.easy_rule.specs.Rule.{next, next_of, state_after, starts_at}
use Rattle.easy_rule.specs.Pass.{most_starts, start_at, AreStarted}
use Rattle.easy_rule.specs.Decision.{HasCapacity, IsBegun, IsDecision}
use Rattle.easy_rule.proofs.NextLemmas.{found-member, next-found, next-fits, length-without}
use Rattle.easy_rule.proofs.PassLemmas.{state_after-started, starts_at-started, state_after-done, starts_at-done}

pub fewer-started : (s : State) (now : ℕ) (job : EffectiveJob) → IsSound s → waiting_job s job.number ≡ Some job → job.size ≤ free s → most_starts (started s job now) + 1 ≤ most_starts s
fewer-started s now job h found fits =
    let p = λ (j : EffectiveJob). nat_eq j.number job.number in
    let waits = length-without s.waiting job (found-member p s.waiting job found) in
    let taken = sum_by-placed (λ (r : Placed). r.job.size) (record { job = job; start = now }) s.running in
    let some = (All-find IsWithinLimits p s.waiting job found h.waiting_limits).takes_some in
    omega (arith, waits, taken, some, fits)

pub next-some : (s : State) (now : ℕ) (job : EffectiveJob) → IsSound s → next s now ≡ Some job → most_starts (started s job now) + 1 ≤ most_starts s
next-some s now job h e = fewer-started s now job h (next-found s now job h e) (next-fits s now job e)

-- once the job that is next has started, fewer wait
pub next-shorter : (s t : State) (now : ℕ) (job : EffectiveJob) → IsSound s → next s now ≡ Some job → t ≡ started s job now → length t.waiting < length s.waiting
next-shorter s t now job h e is =
    let p = λ (j : EffectiveJob). nat_eq j.number job.number in
    let less = length-without s.waiting job (found-member p s.waiting job (next-found s now job h e)) in
    let here = ap (λ (z : State). length z.waiting) is in
    omega (arith, less, here)

-- where there is capacity for all that can start, there is for the others once the next one has started and is listed
pub capacity-then : (c d : ClusterView) (now len capacity len' capacity' : ℕ) (job : EffectiveJob) → IsSound c.state → next c.state now ≡ Some job → HasCapacity c len capacity → d.state ≡ started c.state job now → c.spare ≤ d.spare + 1 → len' ≡ len + 1 → capacity ≤ capacity' → HasCapacity d len' capacity'
capacity-then c d now len capacity len' capacity' job h e enough is spare longer wide =
    let some = next-some c.state now job h e in
    let most = ap most_starts is in
    let had = enough.spare in
    let list = enough.list in
    record { spare = omega (arith, some, most, had, spare); list = omega (arith, some, most, list, longer, wide) }

can-more : (xs : List EffectiveJob) (job : EffectiveJob) (s : State) (now : ℕ) → CanStartAll s xs now → waiting_job (all_started s xs now) job.number ≡ Some job → job.size ≤ free (all_started s xs now) → CanStartAll s (xs ++ job ∷ []) now
can-more [] job s now h found fits = (found, fits, tt)
can-more (x ∷ xs) job s now h found fits = (h.0, h.1, can-more xs job (started s x now) now h.2 found fits)

all-more : (xs : List EffectiveJob) (job : EffectiveJob) (s : State) (now : ℕ) → all_started s (xs ++ job ∷ []) now ≡ started (all_started s xs now) job now
all-more [] job s now = refl
all-more (x ∷ xs) job s now = all-more xs job (started s x now) now

started-more : (s r t : State) (now : ℕ) (xs : List EffectiveJob) (job : EffectiveJob) → AreStarted s now xs r → waiting_job r job.number ≡ Some job → job.size ≤ free r → t ≡ started r job now → AreStarted s now (xs ++ job ∷ []) t
started-more s r t now xs job h found fits e = record {
  can = can-more xs job s now h.can (subst (λ (z : State). waiting_job z job.number ≡ Some job) h.state found) (subst (λ (z : State). job.size ≤ free z) h.state fits);
  state = e ∙ ap (λ (z : State). started z job now) h.state ∙ sym (all-more xs job s now);
}

-- a decision is begun when nobody has started yet
pub begun-none : (c : ClusterView) (now : ℕ) (jobs : List EffectiveJob) → jobs ≡ [] → IsBegun c c now jobs
begun-none c now jobs e =
    subst (IsBegun c c now) (sym e)
    (record { state = refl; starts = refl; started = record { can = tt; state = refl }; capacity = omega arith; few = omega arith })

-- a decision that is begun is so too once the next job has started and stands behind those that had
pub begun-more : (old mid new : ClusterView) (now : ℕ) (jobs more : List EffectiveJob) (job : EffectiveJob) → IsSound mid.state → next mid.state now ≡ Some job → new.state ≡ started mid.state job now → mid.spare ≤ new.spare + 1
    → more ≡ jobs ++ job ∷ [] → IsBegun old mid now jobs → IsBegun old new now more
begun-more old mid new now jobs more job h e is spare m b =
    let found = next-found mid.state now job h e in
    let fits = next-fits mid.state now job e in
    let after = state_after-started mid.state now job e in
    let outcome : starts_at mid.state now ≡ start_at now job ∷ starts_at new.state now = starts_at-started mid.state now job e ∙ ap (λ (z : State). start_at now job ∷ starts_at z now) (sym is) in
    let capacity = b.capacity in
    let few = b.few in
    let most = ap most_starts is in
    subst (IsBegun old new now) (sym m)
    (record {
      state = ap (λ (z : State). state_after z now) is ∙ after ∙ b.state;
      starts =
          ap (λ l. l ++ starts_at new.state now) (map-append (start_at now) jobs (job ∷ [])) ∙ append_assoc (map (start_at now) jobs) (start_at now job ∷ []) (starts_at new.state now)
          ∙ ap (λ l. map (start_at now) jobs ++ l) (sym outcome) ∙ b.starts;
      started = started-more old.state mid.state new.state now jobs job b.started found fits is;
      capacity = omega (arith, capacity, spare, length_push jobs job);
      few = omega (arith, few, most, fewer-started mid.state now job h found fits, length_push jobs job);
    })

-- a decision that is begun is complete where nobody is next
pub begun-done : (old new : ClusterView) (now : ℕ) (jobs : List EffectiveJob) → next new.state now ≡ None → IsBegun old new now jobs → IsDecision old new now jobs
begun-done old new now jobs e b =
    let few = b.few in
    record {
      state = sym (state_after-done new.state now e) ∙ b.state;
      starts = sym (ap (λ l. map (start_at now) jobs ++ l) (starts_at-done new.state now e) ∙ append-nil (map (start_at now) jobs)) ∙ b.starts;
      started = b.started;
      capacity = b.capacity;
      few = omega (arith, few);
    }

-- the first waiting job is next where it fits
pub head-next : (s : State) (now : ℕ) (head : EffectiveJob) → slice_get s.waiting 0 ≡ Some head → head.size ≤ free s → next s now ≡ Some head
head-next s now head e fits = go s.waiting e
  where
    go : (js : List EffectiveJob) → slice_get js 0 ≡ Some head → next_of s now js ≡ Some head
    go [] e = cc
    go (j ∷ js) e =
        let same : j ≡ head = cc in
        cond-true (nat_le j.size (free s)) (Some j) _ (le-leb j.size (free s) (subst (λ (z : EffectiveJob). z.size ≤ free s) (sym same) fits)) ∙ ap Some same
