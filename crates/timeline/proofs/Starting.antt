-- Who starts at a second runs before the next one.
use Rattle.std.proofs.Common.{◌≡◌, ℕ, zero, suc, ◌+◌, ◌-◌, ◌≤◌, ◌<◌, Bool, true, false, cond, not, ◌&&◌, nat_eq, List, ◌∷◌, length, None, Some, All, count_by, refl, sym, ◌∙◌, ap, arith, ⊎_elim}
use Rattle.std.proofs.lemmas.List.Sums.{sum_by-cons, sum_by-append}
use Rattle.std.proofs.lemmas.List.Elements.{All-nil, All-weaker, All-filter}
use Rattle.std.proofs.lemmas.Bool.{ne_eqb, eq-eqb, eqb-true, and_from, and_parts}
use Rattle.scenarios.specs.Job.{EffectiveJob}
use Rattle.scenarios.specs.Plan.{Plan}
use Rattle.scenarios.specs.declared.placed.Placed.{Placed}
use Rattle.scenarios.specs.Placed.{real_end}
use Rattle.cluster_state.specs.State.{State, started}
use Rattle.cluster_state.proofs.Lemmas.{sum_by-placed, All-placed, adds-none, adds-one, one-adds}
use Rattle.easy_rule.specs.declared.start.Start.{Start}
use Rattle.easy_rule.specs.Rule.{next, decided, decisions}
use Rattle.easy_rule.specs.Simulation.{before, starts_before, starts_in, ready, bound, sim}
use Rattle.easy_rule.proofs.Lemmas.{decided-start, decided-stop, decisions-start, decisions-stop, cases_option, decided-keeps}
use Rattle.scenarios.specs.SoundPlan.{IsPlan}
use Rattle.timeline.specs.Laws.{StartsAreRunningJobs}
use Rattle.timeline.proofs.Facts.{before-more, starts_before-more}
use Rattle.timeline.proofs.Rest.{rests}
use Rattle.timeline.proofs.Bound.{all-have-ended}
use Rattle.timeline.proofs.Once.{later}
use Rattle.timeline.proofs.Seconds.{starts-below}

abbrev is_start : ℕ → ℕ → Start → Bool
is_start n t x = nat_eq x.number n && nat_eq x.at t

abbrev has_started : ℕ → ℕ → Placed → Bool
has_started n t r = nat_eq r.job.number n && nat_eq r.start t

abbrev made : ℕ → ℕ → List Start → ℕ
made n t xs = count_by (is_start n t) xs

abbrev run : ℕ → ℕ → State → ℕ
run n t s = count_by (has_started n t) s.running

outcome-runs : (n k t : ℕ) (s : State) → run n t (decided k s t) ≡ made n t (decisions k s t) + run n t s
unfolding decisions decided
outcome-runs n zero t s = omega arith
outcome-runs n (suc k) t s =
    ⊎_elim
    (λ (e : next s t ≡ None).
    let a = ap (made n t) (decisions-stop (suc k) s t e) in
    let b = ap (run n t) (decided-stop (suc k) s t e) in
    omega (arith, a, b))
    (λ (f : (job : EffectiveJob) × (next s t ≡ Some job)).
    let job = f.0 in
    let s' = started s job t in
    let one : suc k - 1 ≡ k = omega arith in
    let x : Start = record { number = job.number; at = t } in
    let r : Placed = record { job = job; start = t } in
    let a = ap (made n t) (decisions-start (suc k) s job t (omega arith) f.1 ∙ ap (λ m. x ∷ decisions m s' t) one) in
    let b = ap (run n t) (decided-start (suc k) s job t (omega arith) f.1 ∙ ap (λ m. decided m s' t) one) in
    let i = outcome-runs n k t s' in
    omega (arith, a, b, i, sum_by-cons (λ (x : Start). cond {A = ℕ} (is_start n t x) 1 0) x (decisions k s' t), sum_by-placed (λ (r : Placed). cond {A = ℕ} (has_started n t r) 1 0) r s.running))
    (cases_option (next s t))

began : (plan : Plan) (t : ℕ) → All (λ r. r.start < t) (before plan t).running
unfolding before
began plan zero = All-nil (λ (r : Placed). r.start < 0)
began plan (suc t) =
    let s = ready plan (before plan t) t in
    let P : Placed → Type 0 = λ r. r.start < suc t in
    decided-keeps (λ (z : State). All P z.running) t
    (λ z job e h. All-placed P (record { job = job; start = t }) z.running (omega arith) h)
    (length s.waiting) s
    (All-filter (λ (r : Placed). not (nat_eq (real_end r) t)) P (before plan t).running (All-weaker (λ (r : Placed). r.start < t) P (λ r l. omega arith) (before plan t).running (began plan t)))

second-not : (b : Bool) (a t : ℕ) → (a ≡ t → ⊥) → (b && nat_eq a t) ≡ false
second-not true a t ne = ne_eqb a t ne
second-not false a t ne = refl

none-run : (n t : ℕ) (rs : List Placed) → All (λ r. r.start < t) rs → count_by (has_started n t) rs ≡ 0
none-run n t rs a = adds-none (has_started n t) rs (All-weaker (λ r. r.start < t) (λ r. has_started n t r ≡ false) (λ r l. second-not (nat_eq r.job.number n) r.start t (λ e. omega arith)) rs a)

made-then : (plan : Plan) (n t : ℕ) → IsPlan plan → made n t (sim plan) ≡ made n t (starts_in plan t)
made-then plan n t p =
    let b = bound plan + 1 in
    let f : Start → ℕ = λ x. cond {A = ℕ} (is_start n t x) 1 0 in
    let done = (rests plan b t plan.procs plan.order (omega arith) (all-have-ended plan b p (omega arith))).1 in
    let more = later plan (t + 1) (bound plan) in
    let whole : b + t ≡ (t + 1) + bound plan = omega arith in
    let all = ap (made n t) (sym done ∙ ap (starts_before plan) whole ∙ more.1) in
    let parts = sum_by-append f (starts_before plan (t + 1)) more.0 in
    let step = ap (made n t) (starts_before-more plan t) in
    let here = sum_by-append f (starts_before plan t) (starts_in plan t) in
    let early = adds-none (is_start n t) (starts_before plan t) (All-weaker (λ (x : Start). x.at < t) (λ x. is_start n t x ≡ false) (λ x l. second-not (nat_eq x.number n) x.at t (λ e. omega arith)) (starts_before plan t) (starts-below plan t)) in
    let late = adds-none (is_start n t) more.0 (All-weaker (λ (x : Start). t + 1 ≤ x.at) (λ x. is_start n t x ≡ false) (λ x l. second-not (nat_eq x.number n) x.at t (λ e. omega arith)) more.0 more.2) in
    omega (arith, all, parts, step, here, early, late)

as-many-run : (plan : Plan) (n t : ℕ) → IsPlan plan → made n t (sim plan) ≡ run n t (before plan (t + 1))
as-many-run plan n t p =
    let s = ready plan (before plan t) t in
    let a = made-then plan n t p in
    let b = ap (run n t) (before-more plan t) in
    let c = outcome-runs n (length s.waiting) t s in
    let d = none-run n t s.running (All-filter (λ (r : Placed). not (nat_eq (real_end r) t)) (λ (r : Placed). r.start < t) (before plan t).running (began plan t)) in
    omega (arith, a, b, c, d)

-- a job of a number starts at t where, and only where, one of that number and start runs before t + 1
pub starts-are-running-jobs : StartsAreRunningJobs
starts-are-running-jobs plan n t p =
    let IsStart : Start → Type 0 = λ x. (x.number ≡ n) × (x.at ≡ t) in
    let HasStarted : Placed → Type 0 = λ r. (r.job.number ≡ n) × (r.start ≡ t) in
    let same = as-many-run plan n t p in (
      λ h. one-adds HasStarted (has_started n t) (before plan (t + 1)).running
          (λ r e. (let q = and_parts (nat_eq r.job.number n) (nat_eq r.start t) e in (eqb-true r.job.number n q.0, eqb-true r.start t q.1)))
          (let k = adds-one IsStart (is_start n t) (sim plan) (λ x q. and_from (nat_eq x.number n) (nat_eq x.at t) (eq-eqb x.number n q.0) (eq-eqb x.at t q.1)) h in omega (arith, k, same)),
      λ h. one-adds IsStart (is_start n t) (sim plan)
          (λ x e. (let q = and_parts (nat_eq x.number n) (nat_eq x.at t) e in (eqb-true x.number n q.0, eqb-true x.at t q.1)))
          (let k = adds-one HasStarted (has_started n t) (before plan (t + 1)).running (λ r q. and_from (nat_eq r.job.number n) (nat_eq r.start t) (eq-eqb r.job.number n q.0) (eq-eqb r.start t q.1)) h in omega (arith, k, same)),
    )
