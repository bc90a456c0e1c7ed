-- EASY backfilling (Lifka 1995; Mu'alem and Feitelson, IEEE TPDS 12(6), 2001).
use Rattle.std.specs.Prelude.{◌≡◌, ℕ, zero, suc, ◌+◌, ◌-◌, ◌≤◌, ◌<◌, Bool, ◌&&◌, ◌||◌, nat_le, if◌then◌else◌, List, [], ◌∷◌, length, min, Option, Some, None, IsSomeAnd, find, sum_by, count_by, slice_get}
use Rattle.std.specs.Option.{option_map_or}
use Rattle.scenarios.specs.Job.{EffectiveJob}
use Rattle.scenarios.specs.Placed.{expected_end}
use Rattle.cluster_state.specs.State.{State, free, available, started}
use Rattle.cluster_state.specs.Candidates.{in_order}
use Rattle.easy_rule.specs.declared.shadow_time.Shadow.{Shadow}
use Rattle.easy_rule.specs.declared.start.Start.{Start}

-- t is the least number, from 0 on, with this property
pub record IsLeast (P : ℕ → Type 0) (t : ℕ) : Type 0 where
  pub holds : P t
  pub least : (u : ℕ) → P u → t ≤ u

-- the first of n numbers from t on that passes, or the one after them
unfoldable pub first_from : (ℕ → Bool) → ℕ → ℕ → ℕ
first_from p zero t = t
first_from p (suc n) t = if p t then t else first_from p n (t + 1)

-- the least second at which so many processors are available; all are by the sum of all expected ends
unfoldable pub shadow_time : State → ℕ → ℕ
shadow_time s need = first_from (λ t. nat_le need (available s t)) (sum_by expected_end s.running) 0

-- the second at which so many processors can be had at the latest, and the extra processors that are over then
abbrev pub shadow_at : State → ℕ → Shadow
shadow_at s need = record { time = shadow_time s need; extra = available s (shadow_time s need) - need }

abbrev pub shadow_for : State → List EffectiveJob → Option Shadow
shadow_for s [] = None
shadow_for s (head ∷ rest) = if nat_le head.size (free s) then None else Some (shadow_at s head.size)

-- the shadow time and extra processors of the first waiting job; none where nobody waits or the first one fits (Mu'alem and Feitelson 2001)
abbrev pub shadow_of : State → Option Shadow
shadow_of s = shadow_for s s.waiting

-- the first waiting job does not fit, can start at the least second at which enough is available, and leaves the extra then
abbrev pub IsShadow : State → Shadow → Type 0
IsShadow s w =
    IsSomeAnd (slice_get s.waiting 0)
    (λ head. (free s < head.size) × IsLeast (λ t. head.size ≤ available s t) w.time × (w.extra + head.size ≡ available s w.time))

-- how many expected ends a walk in their order reads at most: those up to this second, and the first one past it, if there is one
abbrev pub ends_read : State → ℕ → ℕ
ends_read s t = min (count_by (λ r. nat_le (expected_end r) t) s.running + 1) (length s.running)

-- a later job may start now: it fits, and is expected to end by the shadow time or takes no more than the extra processors (Mu'alem and Feitelson 2001)
abbrev pub may_backfill : ℕ → ℕ → Shadow → EffectiveJob → Bool
may_backfill now free w job = nat_le job.size free && (nat_le (now + job.estimate) w.time || nat_le job.size w.extra)

abbrev pub next_of : State → ℕ → List EffectiveJob → Option EffectiveJob
next_of s now [] = None
next_of s now (head ∷ rest) = if nat_le head.size (free s) then Some head else find (may_backfill now (free s) (shadow_at s head.size)) (in_order s.order rest)

-- the job that starts next: the first waiting one if it fits; otherwise, of the later ones that may, the first in the order (Lifka 1995)
abbrev pub next : State → ℕ → Option EffectiveJob
next s now = next_of s now s.waiting

-- the state after up to n starts, where the search begins again after each
unfoldable pub decided : ℕ → State → ℕ → State
decided zero s now = s
decided (suc n) s now = option_map_or (λ job. decided n (started s job now) now) (next s now) s

-- these starts in order
unfoldable pub decisions : ℕ → State → ℕ → List Start
decisions zero s now = []
decisions (suc n) s now = option_map_or (λ (job : EffectiveJob). record { number = job.number; at = now } ∷ decisions n (started s job now) now) (next s now) []

-- the state after all starts of second `now`: no more than wait
abbrev pub state_after : State → ℕ → State
state_after s now = decided (length s.waiting) s now

-- the starts of second `now`, in order
abbrev pub starts_at : State → ℕ → List Start
starts_at s now = decisions (length s.waiting) s now
