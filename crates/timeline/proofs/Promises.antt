-- While a job waits first, over many seconds: its shadow time never goes up, and it starts by it.
use Rattle.std.proofs.Common.{◌≡◌, ℕ, zero, suc, ◌+◌, ◌-◌, ◌^◌, ◌≤◌, ◌<◌, true, false, cond, nat_eq, nat_le, List, [], ◌∷◌, ◌++◌, append_assoc, add-zero, None, Some, All, IsSomeAnd, find, sum_by, refl, sym, ◌∙◌, ap, arith, subst, inl, inr, ⊎_elim}
use Rattle.std.proofs.lemmas.List.Sums.{sum_by-cons, sum_by-append}
use Rattle.std.proofs.lemmas.List.Elements.{All-head, All-tail}
use Rattle.std.proofs.lemmas.Bool.{cond-true, cond-false, cases_Bool, cases_lt, eq-eqb, lt-leb, le-leb}
use Rattle.scenarios.specs.Job.{EffectiveJob}
use Rattle.scenarios.specs.Plan.{Plan}
use Rattle.scenarios.specs.declared.placed.Placed.{Placed}
use Rattle.scenarios.specs.Placed.{expected_end}
use Rattle.cluster_state.specs.State.{State, free, back_by}
use Rattle.cluster_state.specs.Candidates.{in_order}
use Rattle.easy_rule.specs.declared.start.Start.{Start}
use Rattle.easy_rule.specs.Rule.{next, next_of, may_backfill, shadow_at, shadow_time}
use Rattle.easy_rule.specs.Simulation.{before, starts_in, starts_before, bound, sim, start_of}
use Rattle.easy_rule.proofs.Lemmas.{shadow_time-IsLeast, back-each}
use Rattle.scenarios.specs.SoundPlan.{IsPlan}
use Rattle.timeline.specs.Laws.{IsHead, head_time, ShadowTimesNeverRise, HeadsStartByTheirShadowTimes}
use Rattle.timeline.proofs.Short.{bound-le}
use Rattle.timeline.proofs.Facts.{run-before, starts_before-more}
use Rattle.timeline.proofs.Rest.{rests}
use Rattle.timeline.proofs.Bound.{all-have-ended, all-end-by-the-bound}
use Rattle.timeline.proofs.Once.{starts_of, jobs_with, come, come-next, fewer, counted, later}
use Rattle.timeline.proofs.Seconds.{starts-below}
use Rattle.timeline.proofs.Quiet.{each-state-is-settled}
use Rattle.timeline.proofs.Promise.{Kept, head-kept}

kept-longer : (head : EffectiveJob) (a b : ℕ) (s : State) → a ≤ b → Kept head a s → Kept head b s
kept-longer head a b s l (inl (rest, queue, low)) = inl (rest, queue, omega arith)
kept-longer head a b s l (inr gone) = inr gone

head-waits : (head : EffectiveJob) (rest : List EffectiveJob) (s : State) → s.waiting ≡ head ∷ rest → 1 ≤ jobs_with head.number s.waiting
head-waits head rest s queue =
    let p : EffectiveJob → ℕ = λ j. cond (nat_eq j.number head.number) 1 0 in
    let one = cond-true {A = ℕ} (nat_eq head.number head.number) 1 0 (eq-eqb head.number head.number refl) in
    let cons = ap (sum_by p) queue ∙ sum_by-cons p head rest in
    omega (arith, one, cons)

head-early : (plan : Plan) (t : ℕ) (job : EffectiveJob) → IsPlan plan → IsHead plan t job → t ≤ bound plan
head-early plan t job p (rest, queue) =
    ⊎_elim
    (λ (l : bound plan < t).
    let none = ap (λ (s : State). s.waiting) (all-have-ended plan t p l) in
    let never : [] ≡ job ∷ rest = sym none ∙ queue in
    cc)
    (λ (l : t ≤ bound plan). l)
    (cases_lt (bound plan) t)

come-more : (plan : Plan) (n t : ℕ) → come n t plan.jobs ≤ come n (t + 1) plan.jobs
come-more plan n t = let one : suc t ≡ t + 1 = omega arith in let e = ap (λ u. come n u plan.jobs) one in omega (arith, come-next n t plan.jobs, e)

starts-more : (plan : Plan) (n t : ℕ) → starts_of n (starts_before plan t) ≤ starts_of n (starts_before plan (t + 1))
starts-more plan n t =
    let e = ap (starts_of n) (starts_before-more plan t) in
    omega (arith, e, sum_by-append (λ (x : Start). cond (nat_eq x.number n) 1 0) (starts_before plan t) (starts_in plan t))

kept-on : (plan : Plan) (t d : ℕ) (head : EffectiveJob) (rest : List EffectiveJob) → t + d ≤ 2 ^ 49 → IsPlan plan → (before plan t).waiting ≡ head ∷ rest
    → Kept head (head_time plan t head) (before plan (t + d)) × (1 ≤ come head.number (t + d) plan.jobs)
kept-on plan t zero head rest small p queue =
    let e = add-zero t in
    let c = counted plan head.number t (omega arith) p in
    subst (λ u. Kept head (head_time plan t head) (before plan u) × (1 ≤ come head.number u plan.jobs)) (sym e)
    (inl (rest, queue, omega arith), omega (arith, c, head-waits head rest (before plan t) queue))
kept-on plan t (suc d) head rest small p queue =
    let i = kept-on plan t d head rest (omega arith) p queue in
    let u = t + d in
    let n = head.number in
    let one : u + 1 ≡ t + suc d = omega arith in
    let more = come-more plan n u in
    subst (λ v. Kept head (head_time plan t head) (before plan v) × (1 ≤ come n v plan.jobs)) one (
      ⊎_elim
          (λ (h : (rest : List EffectiveJob) × ((before plan u).waiting ≡ head ∷ rest) × (shadow_time (before plan u) head.size ≤ head_time plan t head)).
          kept-longer head (head_time plan u head) (head_time plan t head) (before plan (u + 1)) h.2 (head-kept plan u head h.0 (omega arith) p h.1))
          (λ (gone : jobs_with n (before plan u).waiting ≡ 0).
          let a = counted plan n u (omega arith) p in
          let b = counted plan n (u + 1) (omega arith) p in
          inr (omega (arith, gone, a, b, i.1, starts-more plan n u, fewer n (u + 1) plan.jobs, p.once n)))
          i.0,
      omega (arith, more, i.1),
    )

-- while a job waits first, its shadow time never goes up from one second to a later one
pub shadow-times-never-rise : ShadowTimesNeverRise
shadow-times-never-rise plan t u job p l (rest, queue) (rest', queue') =
    let early = head-early plan u job p (rest', queue') in
    let d = u - t in
    let whole : t + d ≡ u = omega arith in
    let k = subst (λ v. Kept job (head_time plan t job) (before plan v)) whole (kept-on plan t d job rest (omega (arith, early, bound-le plan p)) p queue).0 in
    ⊎_elim
    (λ (h : (rest : List EffectiveJob) × ((before plan u).waiting ≡ job ∷ rest) × (shadow_time (before plan u) job.size ≤ head_time plan t job)). h.2)
    (λ (gone : jobs_with job.number (before plan u).waiting ≡ 0). absurd (omega (arith, gone, head-waits job rest' (before plan u) queue')))
    k

nothing-back : (u : ℕ) (rs : List Placed) → All (λ r. u < expected_end r) rs → sum_by (back_by u) rs ≡ 0
nothing-back u [] a = refl
nothing-back u (r ∷ rs) a =
    let one = cond-false {A = ℕ} (nat_le (expected_end r) u) r.job.size 0 (lt-leb (expected_end r) u (All-head (λ r. u < expected_end r) r rs a)) in
    omega (arith, one, sum_by-cons (back_by u) r rs, nothing-back u rs (All-tail (λ r. u < expected_end r) r rs a))

settled-waits : (s : State) (now : ℕ) (head : EffectiveJob) (rest : List EffectiveJob) → s.waiting ≡ head ∷ rest → next s now ≡ None → free s < head.size
settled-waits s now head rest queue e =
    ⊎_elim
    (λ (l : free s < head.size). l)
    (λ (l : head.size ≤ free s).
    let k : Some head ≡ None = sym (ap (next_of s now) queue ∙ cond-true (nat_le head.size (free s)) (Some head) (find (may_backfill now (free s) (shadow_at s head.size)) (in_order s.order rest)) (le-leb head.size (free s) l)) ∙ e in
    cc)
    (cases_lt (free s) head.size)

not-past : (plan : Plan) (v : ℕ) (head : EffectiveJob) (rest : List EffectiveJob) → v ≤ 2 ^ 49 → IsPlan plan → (before plan v).waiting ≡ head ∷ rest → v ≤ head_time plan v head
not-past plan v head rest small p queue =
    let s = before plan v in
    let run = run-before plan v small p in
    let within : head.size ≤ s.procs = subst (λ (js : List EffectiveJob). All (λ j. j.size ≤ s.procs) js) queue run.sound.waiting_fit 0 head (omega arith) in
    let least = shadow_time-IsLeast s head.size run.sound.fits within in
    let time = head_time plan v head in
    let short = settled-waits s v head rest queue (each-state-is-settled plan v) in
    ⊎_elim
    (λ (l : time < v).
    let later : All (λ r. time < expected_end r) s.running = (λ k d h. let a = run.lasting k d h in let b = run.sound.running_limits k d h in omega (arith, a, b.within_estimate)) in
    absurd (omega (arith, least.holds, nothing-back time s.running later, short)))
    (λ (l : v ≤ time). l)
    (cases_lt time v)

not-late : (plan : Plan) (v : ℕ) (head : EffectiveJob) (rest : List EffectiveJob) → v ≤ 2 ^ 49 → IsPlan plan → (before plan v).waiting ≡ head ∷ rest → head_time plan v head ≤ bound plan + 100000000
not-late plan v head rest small p queue =
    let s = before plan v in
    let last = bound plan + 100000000 in
    let run = run-before plan v small p in
    let within : head.size ≤ s.procs = subst (λ (js : List EffectiveJob). All (λ j. j.size ≤ s.procs) js) queue run.sound.waiting_fit 0 head (omega arith) in
    let least = shadow_time-IsLeast s head.size run.sound.fits within in
    let over : All (λ r. expected_end r ≤ last) s.running =
    (λ k d h. let a = all-end-by-the-bound plan v p k d h in let b = run.sound.running_limits k d h in omega (arith, a, b.within_limit, b.lasts)) in
    least.least last (omega (arith, back-each last s.running over, run.sound.fits, within))

found-behind : (n : ℕ) (P : ℕ → Type 0) (xs ys : List Start) → starts_of n xs ≡ 0 → IsSomeAnd (start_of ys n) P → IsSomeAnd (start_of (xs ++ ys) n) P
found-behind n P [] ys none h = h
found-behind n P (x ∷ xs) ys none h =
    let e = sum_by-cons (λ (x : Start). cond {A = ℕ} (nat_eq x.number n) 1 0) x xs in
    ⊎_elim
    (λ (y : nat_eq x.number n ≡ true). let f = cond-true {A = ℕ} (nat_eq x.number n) 1 0 y in absurd (omega (arith, e, f, none)))
    (λ (y : nat_eq x.number n ≡ false). rw y (found-behind n P xs ys (omega (arith, e, none)) h))
    (cases_Bool (nat_eq x.number n))

found-within : (n : ℕ) (P : ℕ → Type 0) (xs ys : List Start) → 1 ≤ starts_of n xs → All (λ (x : Start). P x.at) xs → IsSomeAnd (start_of (xs ++ ys) n) P
found-within n P [] ys some a = absurd (omega arith)
found-within n P (x ∷ xs) ys some a =
    let e = sum_by-cons (λ (x : Start). cond {A = ℕ} (nat_eq x.number n) 1 0) x xs in
    ⊎_elim
    (λ (y : nat_eq x.number n ≡ true). rw y (All-head (λ (x : Start). P x.at) x xs a))
    (λ (y : nat_eq x.number n ≡ false).
    let f = cond-false {A = ℕ} (nat_eq x.number n) 1 0 y in
    rw y (found-within n P xs ys (omega (arith, e, f, some)) (All-tail (λ (x : Start). P x.at) x xs a)))
    (cases_Bool (nat_eq x.number n))

All-behind : (P : Start → Type 0) (xs ys : List Start) → All P (xs ++ ys) → All P ys
All-behind P [] ys a = a
All-behind P (x ∷ xs) ys a = All-behind P xs ys (All-tail P x (xs ++ ys) a)

in-front : (plan : Plan) (t : ℕ) → IsPlan plan → (ys : List Start) × (sim plan ≡ starts_before plan t ++ ys)
in-front plan t p =
    let b = bound plan + 1 in
    let e = b + t in
    let n = e - t in
    let whole : t + n ≡ e = omega arith in
    let done = (rests plan b t plan.procs plan.order (omega arith) (all-have-ended plan b p (omega arith))).1 in
    let more = later plan t n in
    (more.0, sym done ∙ ap (starts_before plan) (sym whole) ∙ more.1)

-- a job that waits first before t starts at t or later, and by its shadow time then
pub heads-start-by-their-shadow-times : HeadsStartByTheirShadowTimes
heads-start-by-their-shadow-times plan t job p (rest, queue) =
    let n = job.number in
    let time = head_time plan t job in
    let short = bound-le plan p in
    let early = head-early plan t job p (rest, queue) in
    let past : t ≤ time = not-past plan t job rest (omega (arith, early, short)) p queue in
    let soon : time ≤ bound plan + 100000000 = not-late plan t job rest (omega (arith, early, short)) p queue in
    let d = time + 1 - t in
    let whole : t + d ≡ time + 1 = omega arith in
    let on = kept-on plan t d job rest (omega (arith, soon, short)) p queue in
    let k = subst (λ v. Kept job time (before plan v)) whole on.0 in
    let came = subst (λ v. 1 ≤ come n v plan.jobs) whole on.1 in
    let gone : jobs_with n (before plan (time + 1)).waiting ≡ 0 =
    ⊎_elim
    (λ (h : (rest : List EffectiveJob) × ((before plan (time + 1)).waiting ≡ job ∷ rest) × (shadow_time (before plan (time + 1)) job.size ≤ time)).
    absurd (let l = not-past plan (time + 1) job h.0 (omega (arith, soon, short)) p h.1 in let m = h.2 in omega arith))
    (λ (g : jobs_with n (before plan (time + 1)).waiting ≡ 0). g)
    k in
    let old = counted plan n t (omega (arith, early, short)) p in
    let new = counted plan n (time + 1) (omega (arith, soon, short)) p in
    let none : starts_of n (starts_before plan t) ≡ 0 = omega (arith, old, head-waits job rest (before plan t) queue, fewer n t plan.jobs, p.once n) in
    let i = later plan t d in
    let outcome : starts_before plan (time + 1) ≡ starts_before plan t ++ i.0 = ap (starts_before plan) (sym whole) ∙ i.1 in
    let parts = ap (starts_of n) outcome ∙ sum_by-append (λ (x : Start). cond {A = ℕ} (nat_eq x.number n) 1 0) (starts_before plan t) i.0 in
    let some : 1 ≤ starts_of n i.0 = omega (arith, new, gone, came, parts, none) in
    let below : All (λ (x : Start). x.at < time + 1) i.0 =
    All-behind (λ (x : Start). x.at < time + 1) (starts_before plan t) i.0 (subst (λ (xs : List Start). All (λ (x : Start). x.at < time + 1) xs) outcome (starts-below plan (time + 1))) in
    let within : All (λ (x : Start). (t ≤ x.at) × (x.at ≤ time)) i.0 = (λ k d l. (i.2 k d l, (let z = below k d l in omega arith))) in
    let f = in-front plan (time + 1) p in
    let all : sim plan ≡ starts_before plan t ++ (i.0 ++ f.0) = f.1 ∙ ap (λ l. l ++ f.0) outcome ∙ append_assoc (starts_before plan t) i.0 f.0 in
    subst (λ xs. IsSomeAnd (start_of xs n) (λ at. (t ≤ at) × (at ≤ time))) (sym all)
    (found-behind n (λ at. (t ≤ at) × (at ≤ time)) (starts_before plan t) (i.0 ++ f.0) none
    (found-within n (λ at. (t ≤ at) × (at ≤ time)) i.0 f.0 some within))
