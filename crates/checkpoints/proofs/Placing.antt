-- Who has just started runs, and is the plan's job of its number.
use Rattle.std.proofs.Common.{◌≡◌, ℕ, zero, suc, ◌+◌, ◌-◌, ◌≤◌, true, false, cond, nat_eq, List, [], ◌∷◌, map, length, get_or, Option, Some, None, All, count_by, refl, sym, ◌∙◌, ap, arith, ⊎_elim}
use Rattle.std.specs.List.{cons_option}
use Rattle.std.specs.Option.{option_map}
use Rattle.std.proofs.lemmas.Bool.{cases_Bool, cond-true, cond-false, eqb-true, eq-eqb}
use Rattle.std.proofs.lemmas.List.Sums.{sum_by-cons, get_or-le-sum_by}
use Rattle.std.proofs.lemmas.List.Elements.{All-head, All-tail}
use Rattle.scenarios.specs.Job.{EffectiveJob}
use Rattle.scenarios.specs.Plan.{Plan, job_numbered}
use Rattle.scenarios.specs.declared.placed.Placed.{Placed}
use Rattle.cluster_state.specs.State.{State, started}
use Rattle.cluster_state.proofs.Lemmas.{sum_by-placed}
use Rattle.easy_rule.specs.declared.start.Start.{Start}
use Rattle.easy_rule.specs.Pass.{start_at}
use Rattle.easy_rule.specs.Rule.{next, decided, decisions}
use Rattle.easy_rule.specs.Simulation.{before, ready, starts_in}
use Rattle.easy_rule.proofs.Lemmas.{decided-start, decided-stop, decisions-start, decisions-stop, cases_option}
use Rattle.scenarios.specs.SoundPlan.{IsPlan}
use Rattle.timeline.proofs.Lemmas.{before-more}
use Rattle.event_loop.proofs.Lemmas.{before-of-plan}
use Rattle.checkpoints.specs.Cut.{placed_at, placed_of}

abbrev starts_of : ℕ → List Start → ℕ
starts_of n xs = count_by (λ (x : Start). nat_eq x.number n) xs

abbrev runs_with : ℕ → List Placed → ℕ
runs_with n rs = count_by (λ (r : Placed). nat_eq r.job.number n) rs

runs-more : (n k : ℕ) (s : State) (now : ℕ) → starts_of n (decisions k s now) + runs_with n s.running ≡ runs_with n (decided k s now).running
unfolding decisions decided
runs-more n zero s now = omega arith
runs-more n (suc k) s now =
    ⊎_elim
    (λ (e : next s now ≡ None).
    let a = ap (starts_of n) (decisions-stop (suc k) s now e) in
    let b = ap (λ (z : State). runs_with n z.running) (decided-stop (suc k) s now e) in
    omega (arith, a, b))
    (λ (f : (job : EffectiveJob) × (next s now ≡ Some job)).
    let job = f.0 in
    let s' = started s job now in
    let one : suc k - 1 ≡ k = omega arith in
    let x : Start = record { number = job.number; at = now } in
    let r : Placed = record { job = job; start = now } in
    let a = ap (starts_of n) (decisions-start (suc k) s job now (omega arith) f.1 ∙ ap (λ m. x ∷ decisions m s' now) one) in
    let b = ap (λ (z : State). runs_with n z.running) (decided-start (suc k) s job now (omega arith) f.1 ∙ ap (λ m. decided m s' now) one) in
    let i = runs-more n k s' now in
    omega (arith, a, b, i, sum_by-cons (λ (y : Start). cond {A = ℕ} (nat_eq y.number n) 1 0) x (decisions k s' now), sum_by-placed (λ (y : Placed). cond {A = ℕ} (nat_eq y.job.number n) 1 0) r s.running))
    (cases_option (next s now))

starts-run : (plan : Plan) (t n : ℕ) → starts_of n (starts_in plan t) ≤ runs_with n (before plan (t + 1)).running
starts-run plan t n =
    let s = ready plan (before plan t) t in
    let a = runs-more n (length s.waiting) s t in
    let b = ap (λ (z : State). runs_with n z.running) (before-more plan t) in
    omega (arith, a, b)

abbrev Own : Plan → Placed → Type 0
Own plan r = job_numbered plan.jobs r.job.number ≡ Some r.job

-- the jobs of these running ones
abbrev pub jobs_running : List Placed → List EffectiveJob
jobs_running rs = map (λ (r : Placed). r.job) rs

found-own : (plan : Plan) (rs : List Placed) (n : ℕ) → All (Own plan) rs → 1 ≤ runs_with n rs → job_numbered (jobs_running rs) n ≡ job_numbered plan.jobs n
found-own plan [] n own l = absurd (omega arith)
found-own plan (r ∷ rs) n own l =
    let e = sum_by-cons (λ (y : Placed). cond {A = ℕ} (nat_eq y.job.number n) 1 0) r rs in
    ⊎_elim
    (λ (here : nat_eq r.job.number n ≡ true).
    cond-true (nat_eq r.job.number n) (Some r.job) (job_numbered (jobs_running rs) n) here ∙ sym (All-head (Own plan) r rs own) ∙ ap (job_numbered plan.jobs) (eqb-true r.job.number n here))
    (λ (other : nat_eq r.job.number n ≡ false).
    let g = cond-false {A = ℕ} (nat_eq r.job.number n) 1 0 other in
    cond-false (nat_eq r.job.number n) (Some r.job) (job_numbered (jobs_running rs) n) other ∙ found-own plan rs n (All-tail (Own plan) r rs own) (omega (arith, e, g, l)))
    (cases_Bool (nat_eq r.job.number n))

placed-same : (js ks : List EffectiveJob) (xs : List Start) → All (λ (x : Start). job_numbered js x.number ≡ job_numbered ks x.number) xs → placed_of js xs ≡ placed_of ks xs
placed-same js ks [] h = refl
placed-same js ks (x ∷ xs) h =
    let Same : Start → Type 0 = λ y. job_numbered js y.number ≡ job_numbered ks y.number in
    let at : Option EffectiveJob → Option Placed = λ o. option_map (λ (job : EffectiveJob). let p : Placed = record { job = job; start = x.at } in p) o in
    ap (λ o. cons_option (at o) (placed_of js xs)) (All-head Same x xs h) ∙ ap (cons_option (placed_at ks x)) (placed-same js ks xs (All-tail Same x xs h))

-- the starts of a second have the same jobs among those that run before the next second as in the plan
pub starts-placed : (plan : Plan) (t : ℕ) → IsPlan plan → placed_of (jobs_running (before plan (t + 1)).running) (starts_in plan t) ≡ placed_of plan.jobs (starts_in plan t)
starts-placed plan t p =
    placed-same (jobs_running (before plan (t + 1)).running) plan.jobs (starts_in plan t)
    (λ i d l.
    let n = (get_or (starts_in plan t) i d).number in
    let one = get_or-le-sum_by (λ (x : Start). cond {A = ℕ} (nat_eq x.number n) 1 0) (starts_in plan t) i d l in
    let yes' = cond-true {A = ℕ} (nat_eq n n) 1 0 (eq-eqb n n refl) in
    let more = starts-run plan t n in
    found-own plan (before plan (t + 1)).running n (before-of-plan plan (t + 1) p).running (omega (arith, one, yes', more)))

-- a job that starts at this second
abbrev pub placed_from : ℕ → EffectiveJob → Placed
placed_from t job = record { job = job; start = t }

-- where jobs are found by their own numbers, those of their starts at second t are these jobs, each at t
pub placed-own : (js ks : List EffectiveJob) (t : ℕ) → All (λ (j : EffectiveJob). job_numbered js j.number ≡ Some j) ks → placed_of js (map (start_at t) ks) ≡ map (placed_from t) ks
placed-own js [] t h = refl
placed-own js (k ∷ ks) t h =
    let Mine : EffectiveJob → Type 0 = λ j. job_numbered js j.number ≡ Some j in
    ap (λ o. cons_option (option_map (placed_from t) o) (placed_of js (map (start_at t) ks))) (All-head Mine k ks h) ∙ ap (λ l. placed_from t k ∷ l) (placed-own js ks t (All-tail Mine k ks h))
