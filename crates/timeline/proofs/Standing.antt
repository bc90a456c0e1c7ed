-- Where the job of each number stands before a second: over the second it comes, or who waited runs from now on, or who ran ends, or all stays.
use Rattle.std.proofs.Common.{◌≡◌, ℕ, zero, suc, ◌+◌, ◌-◌, ◌^◌, ◌≤◌, ◌<◌, ◌⊎◌, Bool, true, false, cond, not, nat_eq, nat_lt, nat_le, List, ◌∷◌, length, Option, Some, None, refl, sym, ◌∙◌, ap, arith, subst, inl, inr, ⊎_elim}
use Rattle.std.specs.Option.{option_or, option_map}
use Rattle.std.proofs.lemmas.List.Folds.{find-append}
use Rattle.std.proofs.lemmas.List.Elements.{All-weaker}
use Rattle.std.proofs.lemmas.Bool.{cond-true, cond-false, cases_Bool, cases_eq, cases_lt, eq-eqb, ne_eqb, lt-ltb, le-ltb, ltb-true, le-leb, lt-leb}
use Rattle.scenarios.specs.Job.{EffectiveJob, IsWithinLimits}
use Rattle.scenarios.specs.Plan.{Plan, job_numbered}
use Rattle.scenarios.specs.SoundPlan.{IsPlan}
use Rattle.scenarios.specs.declared.placed.Placed.{Placed}
use Rattle.scenarios.specs.Placed.{real_end}
use Rattle.cluster_state.specs.State.{State, IsSound, started, waiting_job, without, placed}
use Rattle.cluster_state.proofs.Lemmas.{All-find, sound-started}
use Rattle.easy_rule.specs.declared.start.Start.{Start}
use Rattle.easy_rule.specs.Rule.{next, decided, decisions}
use Rattle.easy_rule.specs.Simulation.{before, starts_before, starts_in, ready, submitted, bound, last_submit, start_of}
use Rattle.easy_rule.proofs.Lemmas.{cases_option, next-found, next-fits, decided-start, decided-stop, decisions-start, decisions-stop}
use Rattle.timeline.specs.Closed.{known_start, lasting}
use Rattle.timeline.proofs.Short.{short-plan}
use Rattle.timeline.proofs.Facts.{run-before, run-ready}
use Rattle.timeline.proofs.Rest.{rests, submits-by}
use Rattle.timeline.proofs.Bound.{all-have-ended}
use Rattle.timeline.proofs.Lookups.{look, many, job_of, job_in, kept, look-here, look-past, look-none, look-filter, look-without, look-without-other, look-placed, look-placed-other, start-append}

abbrev pub Moves : ℕ → Option EffectiveJob → Option Placed → Option ℕ → Option EffectiveJob → Option Placed → Type 0
Moves now w r start w' r' =
    ((start ≡ None) × (w' ≡ w) × (r' ≡ r))
    ⊎ ((job : EffectiveJob) × (w ≡ Some job) × (start ≡ Some now) × (w' ≡ None) × (r' ≡ Some (record { job = job; start = now })))

abbrev Tells : ℕ → ℕ → State → List Start → State → Type 0
Tells n now s xs z = Moves now (look job_of n s.waiting) (look job_in n s.running) (start_of xs n) (look job_of n z.waiting) (look job_in n z.running)

none-runs : (s : State) (job : EffectiveJob) → IsSound s → waiting_job s job.number ≡ Some job → many job_in job.number s.running ≡ 0
none-runs s job h found =
    let n = job.number in
    let o = h.once n in
    ⊎_elim
    (λ (z : 0 < many job_of n s.waiting). omega (arith, o, z))
    (λ (z : many job_of n s.waiting ≤ 0).
    absurd (let none = look-none job_of n s.waiting (omega (arith, z)) in let k : None ≡ Some job = sym none ∙ found in cc))
    (cases_lt 0 (many job_of n s.waiting))

first-start : (n now : ℕ) (s : State) (job : EffectiveJob) (xs : List Start) (z : State) → IsSound s → waiting_job s job.number ≡ Some job → job.number ≡ n → Tells n now (started s job now) xs z
    → Tells n now s (record { number = job.number; at = now } ∷ xs) z
first-start n now s job xs z h found e t =
    let x : Start = record { number = job.number; at = now } in
    let r : Placed = record { job = job; start = now } in
    let gone : look job_of n (without job.number s.waiting) ≡ None =
    subst (λ m. look job_of m (without job.number s.waiting) ≡ None) e (look-without job.number s.waiting (let o = h.once job.number in omega (arith, o))) in
    let runs : look job_in n (placed r s.running) ≡ Some r = look-placed n r s.running e (subst (λ m. many job_in m s.running ≡ 0) e (none-runs s job h found)) in
    let waits : look job_of n s.waiting ≡ Some job = subst (λ m. look job_of m s.waiting ≡ Some job) e found in
    let starts : start_of (x ∷ xs) n ≡ Some now = ap (option_map (λ (y : Start). y.at)) (look-here (λ (y : Start). y.number) n x xs e) in
    ⊎_elim
    (λ (a : (start_of xs n ≡ None) × (look job_of n z.waiting ≡ look job_of n (without job.number s.waiting)) × (look job_in n z.running ≡ look job_in n (placed r s.running))).
    inr (job, waits, starts, a.1 ∙ gone, a.2 ∙ runs))
    (λ (b : (other : EffectiveJob) × (look job_of n (without job.number s.waiting) ≡ Some other) × (start_of xs n ≡ Some now) × (look job_of n z.waiting ≡ None) × (look job_in n z.running ≡ Some (record { job = other; start = now }))).
    absurd (let k : None ≡ Some b.0 = sym gone ∙ b.1 in cc))
    t

other-start : (n now : ℕ) (s : State) (job : EffectiveJob) (xs : List Start) (z : State) → (job.number ≡ n → ⊥) → Tells n now (started s job now) xs z
    → Tells n now s (record { number = job.number; at = now } ∷ xs) z
other-start n now s job xs z ne t =
    let x : Start = record { number = job.number; at = now } in
    let r : Placed = record { job = job; start = now } in
    let waits : look job_of n (without job.number s.waiting) ≡ look job_of n s.waiting = look-without-other n job.number s.waiting ne in
    let runs : look job_in n (placed r s.running) ≡ look job_in n s.running = look-placed-other n r s.running ne in
    let starts : start_of (x ∷ xs) n ≡ start_of xs n = ap (option_map (λ (y : Start). y.at)) (look-past (λ (y : Start). y.number) n x xs ne) in
    ⊎_elim
    (λ (a : (start_of xs n ≡ None) × (look job_of n z.waiting ≡ look job_of n (without job.number s.waiting)) × (look job_in n z.running ≡ look job_in n (placed r s.running))).
    inl (starts ∙ a.0, a.1 ∙ waits, a.2 ∙ runs))
    (λ (b : (other : EffectiveJob) × (look job_of n (without job.number s.waiting) ≡ Some other) × (start_of xs n ≡ Some now) × (look job_of n z.waiting ≡ None) × (look job_in n z.running ≡ Some (record { job = other; start = now }))).
    inr (b.0, sym waits ∙ b.1, starts ∙ b.2, b.3, b.4))
    t

decided-tells : (n k : ℕ) (s : State) (now : ℕ) → now < 2 ^ 49 → IsSound s → Tells n now s (decisions k s now) (decided k s now)
unfolding decisions decided
decided-tells n zero s now small h = inl (refl, refl, refl)
decided-tells n (suc k) s now small h =
    ⊎_elim
    (λ (e : next s now ≡ None).
    let a = ap (λ xs. start_of xs n) (decisions-stop (suc k) s now e) in
    let b = ap (λ (z : State). look job_of n z.waiting) (decided-stop (suc k) s now e) in
    let c = ap (λ (z : State). look job_in n z.running) (decided-stop (suc k) s now e) in
    inl (a, b, c))
    (λ (f : (job : EffectiveJob) × (next s now ≡ Some job)).
    let job = f.0 in
    let s' = started s job now in
    let one : suc k - 1 ≡ k = omega arith in
    let found = next-found s now job h f.1 in
    let x : Start = record { number = job.number; at = now } in
    let a : decisions (suc k) s now ≡ x ∷ decisions k s' now = decisions-start (suc k) s job now (omega arith) f.1 ∙ ap (λ m. x ∷ decisions m s' now) one in
    let b : decided (suc k) s now ≡ decided k s' now = decided-start (suc k) s job now (omega arith) f.1 ∙ ap (λ m. decided m s' now) one in
    let i = decided-tells n k s' now small (sound-started s job now h found (next-fits s now job f.1) small) in
    let t : Tells n now s (x ∷ decisions k s' now) (decided k s' now) =
    ⊎_elim
    (λ (e : job.number ≡ n). first-start n now s job (decisions k s' now) (decided k s' now) h found e i)
    (λ (ne : job.number ≡ n → ⊥). other-start n now s job (decisions k s' now) (decided k s' now) ne i)
    (cases_eq job.number n) in
    subst (λ xs. Tells n now s xs (decided (suc k) s now)) (sym a) (subst (λ z. Tells n now s (x ∷ decisions k s' now) z) (sym b) t))
    (cases_option (next s now))

-- where a number stands before second t, by its job in the plan and its start before t: the job waits once it is submitted, until it starts,
-- and then runs until it ends; a number without a job has no start, and nobody waits or runs under it
abbrev pub Stands : ℕ → Option EffectiveJob → Option ℕ → Option EffectiveJob → Option Placed → Type 0
Stands t None start w r = (start ≡ None) × (w ≡ None) × (r ≡ None)
Stands t (Some j) None w r = (w ≡ cond (nat_lt j.submit t) (Some j) None) × (r ≡ None)
Stands t (Some j) (Some start) w r = (j.submit ≤ start) × (start < t) × (w ≡ None) × (r ≡ lasting t j (Some start))

-- the number stands so in the plan's state before second t
abbrev pub StandsIn : Plan → ℕ → ℕ → Type 0
StandsIn plan n t = Stands t (job_numbered plan.jobs n) (known_start plan t n) (look job_of n (before plan t).waiting) (look job_in n (before plan t).running)

stands-first : (o : Option EffectiveJob) → Stands 0 o None None None
stands-first None = (refl, refl, refl)
stands-first (Some j) = (sym (cond-false (nat_lt j.submit 0) (Some j) None (le-ltb j.submit 0 (omega arith))), refl)

comes : (j : EffectiveJob) (t : ℕ) → option_or (cond (nat_lt j.submit t) (Some j) None) (cond (nat_eq j.submit t) (Some j) None) ≡ cond (nat_lt j.submit (suc t)) (Some j) None
comes j t = go j.submit
  where
    go : (u : ℕ) → option_or (cond (nat_lt u t) (Some j) None) (cond (nat_eq u t) (Some j) None) ≡ cond (nat_lt u (suc t)) (Some j) None
    go u =
        ⊎_elim
        (λ (l : u < t). rw (lt-ltb u t l, lt-ltb u (suc t) (omega arith)) refl)
        (λ (l : t ≤ u). ⊎_elim
        (λ (e : u ≡ t). rw (le-ltb u t l, eq-eqb u t e, lt-ltb u (suc t) (omega arith)) refl)
        (λ (e : u ≡ t → ⊥). rw (le-ltb u t l, ne_eqb u t e, le-ltb u (suc t) (omega arith)) refl)
        (cases_eq u t))
        (cases_lt u t)

lasts : (r : Placed) (t : ℕ) → kept (λ (x : Placed). not (nat_eq (real_end x) t)) (cond (nat_le t (real_end r)) (Some r) None) ≡ cond (nat_le (suc t) (real_end r)) (Some r) None
lasts r t =
    let p : Placed → Bool = λ x. not (nat_eq (real_end x) t) in
    let e = real_end r in
    ⊎_elim
    (λ (l : e < t). ap (kept p) (cond-false (nat_le t e) (Some r) None (lt-leb t e l)) ∙ sym (cond-false (nat_le (suc t) e) (Some r) None (lt-leb (suc t) e (omega arith))))
    (λ (l : t ≤ e).
    ap (kept p) (cond-true (nat_le t e) (Some r) None (le-leb t e l))
    ∙ ⊎_elim
    (λ (same : e ≡ t). cond-false (p r) (Some r) None (ap not (eq-eqb e t same)) ∙ sym (cond-false (nat_le (suc t) e) (Some r) None (lt-leb (suc t) e (omega arith))))
    (λ (ne : e ≡ t → ⊥). cond-true (p r) (Some r) None (ap not (ne_eqb e t ne)) ∙ sym (cond-true (nat_le (suc t) e) (Some r) None (le-leb (suc t) e (omega arith))))
    (cases_eq e t))
    (cases_lt e t)

stands-ready : (t : ℕ) (o : Option EffectiveJob) (start : Option ℕ) (w : Option EffectiveJob) (r : Option Placed) (w' : Option EffectiveJob) (r' : Option Placed) → Stands t o start w r
    → w' ≡ option_or w (kept (λ (j : EffectiveJob). nat_eq j.submit t) o) → r' ≡ kept (λ (x : Placed). not (nat_eq (real_end x) t)) r → Stands (suc t) o start w' r'
stands-ready t None start w r w' r' h e f =
    (h.0, e ∙ ap (λ z. option_or z None) h.1, f ∙ ap (kept (λ (x : Placed). not (nat_eq (real_end x) t))) h.2)
stands-ready t (Some j) None w r w' r' h e f =
    (e ∙ ap (λ z. option_or z (cond (nat_eq j.submit t) (Some j) None)) h.0 ∙ comes j t, f ∙ ap (kept (λ (x : Placed). not (nat_eq (real_end x) t))) h.1)
stands-ready t (Some j) (Some start) w r w' r' h e f =
    let l = h.0 in
    let m = h.1 in (
      l,
      omega (arith, m),
      e ∙ ap (λ z. option_or z (cond (nat_eq j.submit t) (Some j) None)) h.2 ∙ cond-false (nat_eq j.submit t) (Some j) None (ne_eqb j.submit t (λ same. omega (arith, l, m, same))),
      f ∙ ap (kept (λ (x : Placed). not (nat_eq (real_end x) t))) h.3 ∙ lasts (record { job = j; start = start }) t,
    )

stands-moved : (t : ℕ) (o : Option EffectiveJob) (start : Option ℕ) (w : Option EffectiveJob) (r : Option Placed) (new : Option ℕ) (w' : Option EffectiveJob) (r' : Option Placed)
    → ((j : EffectiveJob) → o ≡ Some j → 1 ≤ j.length) → Stands (suc t) o start w r → Moves t w r new w' r' → Stands (suc t) o (option_or start new) w' r'
stands-moved t None start w r new w' r' long h (inl a) = (ap (λ z. option_or z new) h.0 ∙ a.0, a.1 ∙ h.1, a.2 ∙ h.2)
stands-moved t (Some j) None w r new w' r' long h (inl a) = subst (λ z. Stands (suc t) (Some j) z w' r') (sym a.0) (a.1 ∙ h.0, a.2 ∙ h.1)
stands-moved t (Some j) (Some start) w r new w' r' long h (inl a) = (h.0, h.1, a.1 ∙ h.2, a.2 ∙ h.3)
stands-moved t None start w r new w' r' long h (inr b) = absurd (let k : None ≡ Some b.0 = sym h.1 ∙ b.1 in cc)
stands-moved t (Some j) (Some start) w r new w' r' long h (inr b) = absurd (let k : None ≡ Some b.0 = sym h.2 ∙ b.1 in cc)
stands-moved t (Some j) None w r new w' r' long h (inr b) =
    ⊎_elim
    (λ (y : nat_lt j.submit (suc t) ≡ true).
    let k : Some j ≡ Some b.0 = sym (cond-true (nat_lt j.submit (suc t)) (Some j) None y) ∙ sym h.0 ∙ b.1 in
    let same : j ≡ b.0 = cc in
    let l = ltb-true j.submit (suc t) y in
    let m = long j refl in
    let early : j.submit ≤ t = omega (arith, l) in
    let now : t < suc t = omega arith in
    let runs : r' ≡ cond (nat_le (suc t) (t + j.length)) (Some (record { job = j; start = t })) None =
    b.4 ∙ ap (λ (x : EffectiveJob). let p : Placed = record { job = x; start = t } in Some p) (sym same)
    ∙ sym (cond-true (nat_le (suc t) (t + j.length)) (Some (record { job = j; start = t })) None (le-leb (suc t) (t + j.length) (omega (arith, m)))) in
    subst (λ z. Stands (suc t) (Some j) z w' r') (sym b.2) (early, now, b.3, runs))
    (λ (y : nat_lt j.submit (suc t) ≡ false).
    absurd (let k : None ≡ Some b.0 = sym (cond-false (nat_lt j.submit (suc t)) (Some j) None y) ∙ sym h.0 ∙ b.1 in cc))
    (cases_Bool (nat_lt j.submit (suc t)))

long-enough : (plan : Plan) (n : ℕ) (j : EffectiveJob) → IsPlan plan → job_numbered plan.jobs n ≡ Some j → 1 ≤ j.length
long-enough plan n j p e = (All-find IsWithinLimits (λ (x : EffectiveJob). nat_eq x.number n) plan.jobs j e p.limits).lasts

stands-early : (plan : Plan) (n t : ℕ) → t ≤ 2 ^ 49 → IsPlan plan → StandsIn plan n t
unfolding before starts_before
stands-early plan n zero small p = stands-first (job_numbered plan.jobs n)
stands-early plan n (suc t) small p =
    let s = before plan t in
    let z = ready plan s t in
    let o = job_numbered plan.jobs n in
    let run = run-before plan t (omega arith) p in
    let sound = (run-ready plan s t p run).sound in
    let come : EffectiveJob → Bool = λ j. nat_eq j.submit t in
    let w : look job_of n z.waiting ≡ option_or (look job_of n s.waiting) (kept come o) =
    find-append (λ (j : EffectiveJob). nat_eq j.number n) s.waiting (submitted plan t) ∙ ap (option_or (look job_of n s.waiting)) (look-filter job_of n come plan.jobs (p.once n)) in
    let r : look job_in n z.running ≡ kept (λ (x : Placed). not (nat_eq (real_end x) t)) (look job_in n s.running) =
    look-filter job_in n (λ (x : Placed). not (nat_eq (real_end x) t)) s.running (let k = run.sound.once n in omega (arith, k)) in
    let i = stands-ready t o (known_start plan t n) (look job_of n s.waiting) (look job_in n s.running) (look job_of n z.waiting) (look job_in n z.running) (stands-early plan n t (omega arith) p) w r in
    subst (λ start. Stands (suc t) o start (look job_of n (before plan (suc t)).waiting) (look job_in n (before plan (suc t)).running)) (sym (start-append n (starts_before plan t) (starts_in plan t)))
    (stands-moved t o (known_start plan t n) (look job_of n z.waiting) (look job_in n z.running) (start_of (starts_in plan t) n) (look job_of n (before plan (suc t)).waiting) (look job_in n (before plan (suc t)).running)
    (λ j e. long-enough plan n j p e) i (decided-tells n (length z.waiting) z t (omega arith) sound))

stands-later : (t u : ℕ) (o : Option EffectiveJob) (start : Option ℕ) → ((j : EffectiveJob) → o ≡ Some j → j.submit < t) → t ≤ u → Stands t o start None None → Stands u o start None None
stands-later t u None start come l h = h
stands-later t u (Some j) None come l h =
    absurd (let k : None ≡ Some j = h.0 ∙ cond-true (nat_lt j.submit t) (Some j) None (lt-ltb j.submit t (come j refl)) in cc)
stands-later t u (Some j) (Some start) come l h =
    let e = start + j.length in
    let r : Placed = record { job = j; start = start } in
    let m = h.1 in
    ⊎_elim
    (λ (y : e < t). (h.0, (let z : start < u = omega (arith, m, l) in z), refl, sym (cond-false (nat_le u e) (Some r) None (lt-leb u e (omega (arith, y, l))))))
    (λ (y : t ≤ e). absurd (let k : None ≡ Some r = h.3 ∙ cond-true (nat_le t e) (Some r) None (le-leb t e y) in cc))
    (cases_lt e t)

-- each number of a plan stands so before each second
pub stands-in : (plan : Plan) (n t : ℕ) → IsPlan plan → StandsIn plan n t
stands-in plan n t p =
    let short = short-plan plan p in
    let b = bound plan + 1 in
    ⊎_elim
    (λ (l : b < t).
    let rest : b + (t - b) ≡ t = omega (arith, l) in
    let done = all-have-ended plan b p (omega arith) in
    let late = rests plan b (t - b) plan.procs plan.order (omega arith) done in
    let same : before plan t ≡ before plan b = ap (before plan) (sym rest) ∙ late.0 ∙ sym done in
    let starts : starts_before plan t ≡ starts_before plan b = ap (starts_before plan) (sym rest) ∙ late.1 in
    let o = job_numbered plan.jobs n in
    let come : (j : EffectiveJob) → o ≡ Some j → j.submit < b = λ j e. (let k = All-find (λ (x : EffectiveJob). x.submit < b) (λ (x : EffectiveJob). nat_eq x.number n) plan.jobs j e (All-weaker (λ (x : EffectiveJob). x.submit ≤ last_submit plan.jobs) (λ (x : EffectiveJob). x.submit < b) (λ x m. omega arith) plan.jobs (submits-by plan.jobs)) in k) in
    let early = stands-early plan n b (omega (arith, short)) p in
    let none = subst (λ (z : State). Stands b o (known_start plan b n) (look job_of n z.waiting) (look job_in n z.running)) done early in
    let later = stands-later b t o (known_start plan b n) come (omega (arith, l)) none in
    subst (λ (z : State). Stands t o (known_start plan t n) (look job_of n z.waiting) (look job_in n z.running)) (sym (same ∙ done))
    (subst (λ xs. Stands t o (start_of xs n) None None) (sym starts) later))
    (λ (l : t ≤ b). stands-early plan n t (omega (arith, short, l)) p)
    (cases_lt b t)
