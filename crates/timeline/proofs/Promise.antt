-- Over one second the shadow time of the first waiting job does not go up.
use Rattle.std.proofs.Common.{◌≡◌, ℕ, suc, ◌+◌, ◌^◌, ◌≤◌, ◌<◌, Bool, true, false, cond, not, nat_eq, nat_le, List, [], ◌∷◌, ◌++◌, length, Some, All, find, count_by, sum_by, filter, sym, ◌∙◌, ap, arith, subst, inl, inr, ⊎_elim, ◌⊎◌}
use Rattle.std.proofs.lemmas.List.Sums.{sum_by-cons}
use Rattle.std.proofs.lemmas.Bool.{cond-true, cond-false, cases_Bool, eq-eqb, eqb-true, true≢false}
use Rattle.scenarios.specs.Job.{EffectiveJob}
use Rattle.scenarios.specs.Plan.{Plan}
use Rattle.scenarios.specs.declared.placed.Placed.{Placed}
use Rattle.scenarios.specs.Placed.{real_end}
use Rattle.cluster_state.specs.State.{State, free, busy, back_by, available, started, without}
use Rattle.cluster_state.specs.Candidates.{in_order}
use Rattle.cluster_state.proofs.Lemmas.{sum_by-without}
use Rattle.easy_rule.specs.Rule.{next, next_of, may_backfill, shadow_at, shadow_time}
use Rattle.easy_rule.specs.Simulation.{before, submitted, ready}
use Rattle.easy_rule.proofs.Lemmas.{shadow_time-IsLeast, back_by-le, next-found, found-passes, time-kept, decided-keeps}
use Rattle.scenarios.specs.SoundPlan.{IsPlan}
use Rattle.timeline.proofs.Facts.{IsRun, run-started, run-ready, run-before, before-more}

more-available : (t : ℕ) (p : Placed → Bool) (rs : List Placed) → busy (filter p rs) + sum_by (back_by t) rs ≤ busy rs + sum_by (back_by t) (filter p rs)
more-available t p [] = omega arith
more-available t p (r ∷ rs) =
    let size : Placed → ℕ = λ x. x.job.size in
    let i = more-available t p rs in
    let a = sum_by-cons size r rs in
    let b = sum_by-cons (back_by t) r rs in
    ⊎_elim
    (λ (h : p r ≡ true).
    let f = cond-true (p r) (r ∷ filter p rs) (filter p rs) h in
    let x = ap busy f in
    let y = ap (sum_by (back_by t)) f in
    omega (arith, i, a, b, x, y, sum_by-cons size r (filter p rs), sum_by-cons (back_by t) r (filter p rs)))
    (λ (h : p r ≡ false).
    let f = cond-false (p r) (r ∷ filter p rs) (filter p rs) h in
    let x = ap busy f in
    let y = ap (sum_by (back_by t)) f in
    omega (arith, i, a, b, x, y, back_by-le t r))
    (cases_Bool (p r))

-- the job still waits first, with a shadow time that is not later than this, or it waits no more
abbrev pub Kept : EffectiveJob → ℕ → State → Type 0
Kept head time s = ((rest : List EffectiveJob) × (s.waiting ≡ head ∷ rest) × (shadow_time s head.size ≤ time)) ⊎ (count_by (λ j. nat_eq j.number head.number) s.waiting ≡ 0)

kept-started : (plan : Plan) (t time : ℕ) (head : EffectiveJob) (s : State) (job : EffectiveJob) → IsRun plan s (suc t) → next s t ≡ Some job → Kept head time s → Kept head time (started s job t)
kept-started plan t time head s job r e (inr gone) =
    let found = next-found s t job r.sound e in
    let k = sum_by-without (λ (j : EffectiveJob). cond (nat_eq j.number head.number) 1 0) job.number s.waiting job found in
    inr (omega (arith, gone, k))
kept-started plan t time head s job r e (inl (rest, queue, low)) =
    let found = next-found s t job r.sound e in
    let p : EffectiveJob → ℕ = λ j. cond (nat_eq j.number head.number) 1 0 in
    let k = sum_by-without p job.number s.waiting job found in
    let once = r.sound.once head.number in
    ⊎_elim
    (λ (same : nat_eq job.number head.number ≡ true).
    let mine = cond-true {A = ℕ} (nat_eq job.number head.number) 1 0 same in
    inr (omega (arith, k, mine, once)))
    (λ (other : nat_eq job.number head.number ≡ false).
    let may = may_backfill t (free s) (shadow_at s head.size) in
    let e' : next_of s t (head ∷ rest) ≡ Some job = ap (next_of s t) (sym queue) ∙ e in
    ⊎_elim
    (λ (fits : nat_le head.size (free s) ≡ true).
    let h : Some head ≡ Some job = sym (cond-true (nat_le head.size (free s)) (Some head) (find may (in_order s.order rest)) fits) ∙ e' in
    let same : head ≡ job = cc in
    absurd (true≢false (sym (eq-eqb job.number head.number (ap (λ (j : EffectiveJob). j.number) (sym same))) ∙ other)))
    (λ (waits : nat_le head.size (free s) ≡ false).
    let h : find may (in_order s.order rest) ≡ Some job = sym (cond-false (nat_le head.size (free s)) (Some head) (find may (in_order s.order rest)) waits) ∙ e' in
    let within : head.size ≤ s.procs = subst (λ (js : List EffectiveJob). All (λ j. j.size ≤ s.procs) js) queue r.sound.waiting_fit 0 head (omega arith) in
    let kept = time-kept s head.size t job r.sound.fits within (found-passes may (in_order s.order rest) job h) in
    inl (without job.number rest, ap (without job.number) queue ∙ cond-false (nat_eq head.number job.number) rest (head ∷ without job.number rest) (swap head.number job.number other), omega (arith, kept, low)))
    (cases_Bool (nat_le head.size (free s))))
    (cases_Bool (nat_eq job.number head.number))
  where
    swap : (a b : ℕ) → nat_eq b a ≡ false → nat_eq a b ≡ false
    swap a b h = ⊎_elim (λ (y : nat_eq a b ≡ true). absurd (true≢false (sym (eq-eqb b a (sym (eqb-true a b y))) ∙ h))) (λ (n : nat_eq a b ≡ false). n) (cases_Bool (nat_eq a b))

-- one second later the first waiting job still waits first, with a shadow time that is not later, or it waits no more
pub head-kept : (plan : Plan) (t : ℕ) (head : EffectiveJob) (rest : List EffectiveJob) → t < 2 ^ 49 → IsPlan plan → (before plan t).waiting ≡ head ∷ rest → Kept head (shadow_time (before plan t) head.size) (before plan (t + 1))
head-kept plan t head rest small p queue =
    let s = before plan t in
    let r = ready plan s t in
    let run = run-before plan t (omega arith) p in
    let next-run = run-ready plan s t p run in
    let within : head.size ≤ s.procs = subst (λ (js : List EffectiveJob). All (λ j. j.size ≤ s.procs) js) queue run.sound.waiting_fit 0 head (omega arith) in
    let old = shadow_time-IsLeast s head.size run.sound.fits within in
    let new = shadow_time-IsLeast r head.size next-run.sound.fits within in
    let time = shadow_time s head.size in
    let more = more-available time (λ x. not (nat_eq (real_end x) t)) s.running in
    let enough : head.size ≤ available r time = (let a = next-run.sound.fits in let b = run.sound.fits in omega (arith, more, old.holds, a, b)) in
    let first : Kept head time r = inl (rest ++ submitted plan t, ap (λ js. js ++ submitted plan t) queue, new.least time enough) in
    let both = decided-keeps (λ z. IsRun plan z (suc t) × Kept head time z) t
    (λ z job e h. (run-started plan t small z job e h.0, kept-started plan t time head z job h.0 e h.1)) (length r.waiting) r (next-run, first) in
    subst (λ (z : State). Kept head time z) (sym (before-more plan t)) both.1
