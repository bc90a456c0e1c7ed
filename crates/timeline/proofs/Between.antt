-- From one second up to another, who stands before a second follows from who stood before the first, who comes, and the starts.
-- It is shown number by number, of who waits and of who runs, and then of the whole lists.
use Rattle.std.proofs.Common.{◌≡◌, ℕ, ◌+◌, ◌-◌, ◌≤◌, ◌<◌, Bool, true, false, cond, ◌&&◌, nat_eq, nat_le, nat_lt, List, [], ◌∷◌, ◌++◌, map, filter, Option, Some, None, All, refl, sym, ap, ◌∙◌, arith, subst, inl, ⊎_elim}
use Rattle.std.specs.Prelude.{is_none}
use Rattle.std.specs.Option.{option_and_then, option_map, option_or}
use Rattle.std.proofs.lemmas.Bool.{and_parts, cases_lt, cond-true, cond-false, le-leb, lt-leb, lt-ltb, le-ltb, leb-true, ltb-true}
use Rattle.std.proofs.lemmas.List.Elements.{All-weaker, filter_passes}
use Rattle.std.proofs.lemmas.List.Folds.{find-append}
use Rattle.std.proofs.lemmas.List.Sums.{sum_by-append, sum_by-cons}
use Rattle.frames.specs.Frames.{by_key, stands}
use Rattle.scenarios.specs.Job.{EffectiveJob}
use Rattle.scenarios.specs.Plan.{Plan, job_numbered}
use Rattle.scenarios.specs.SoundPlan.{IsPlan}
use Rattle.scenarios.specs.declared.placed.Placed.{Placed}
use Rattle.cluster_state.specs.State.{State}
use Rattle.cluster_state.specs.Ends.{by_number}
use Rattle.cluster_state.specs.Snapshot.{number_of}
use Rattle.cluster_state.proofs.Lemmas.{sum_by-filter-le}
use Rattle.easy_rule.specs.declared.start.Start.{Start}
use Rattle.easy_rule.specs.Simulation.{before, bound, sim, start_of, starts_before}
use Rattle.timeline.specs.Closed.{known_start, lasting, waits_before}
use Rattle.timeline.specs.Stretches.{RunningStandInAStretch, WaitingStandInAStretch, coming_between, place_after, placed_stretch, start_by, started_of, waiting_stretch}
use Rattle.timeline.proofs.Rest.{rests}
use Rattle.timeline.proofs.Bound.{all-have-ended}
use Rattle.timeline.proofs.Once.{each-job-starts-once, later, starts_of}
use Rattle.timeline.proofs.Sound.{each-state-is-sound}
use Rattle.timeline.proofs.Lookups.{look, many, Keeps, job_of, job_in, kept, look-none, none-look, look-has, look-filter, many-by_number, look-by_number, many-filter_map, look-filter_map, start-append}
use Rattle.timeline.proofs.Rows.{Ahead, NotAbove, rises-filter, rises-append, rises-by_number, rises-jobs, ahead-once, above-once, same-rows}
use Rattle.timeline.proofs.Standing.{Stands, stands-in}
use Rattle.timeline.proofs.Closed.{in-rows, runs-here, states-follow-from-starts, waits-by, waits-here}
use Rattle.timeline.proofs.Places.{IsAt, behind-first, within-first, neither, standing-map}
use Rattle.timeline.proofs.Stretched.{is-at, later-starts-tell, number_in, numbers-by_number, of-number, waits-by-start}

filters-apart : {X : Type 0} (f : X → ℕ) (n : ℕ) (p q : X → Bool) (xs : List X) → ((x : X) → p x ≡ true → q x ≡ false) → many f n (filter p xs) + many f n (filter q xs) ≤ many f n xs
filters-apart f n p q [] h = omega arith
filters-apart {X = X} f n p q (x ∷ xs) h = go (p x) (q x) (h x) (filters-apart f n p q xs h)
  where
    go : (a b : Bool) → (a ≡ true → b ≡ false) → many f n (filter p xs) + many f n (filter q xs) ≤ many f n xs
        → many f n (cond a (x ∷ filter p xs) (filter p xs)) + many f n (cond b (x ∷ filter q xs) (filter q xs)) ≤ many f n (x ∷ xs)
    go true true one rest = absurd (let k : true ≡ false = one refl in cc)
    go true false one rest =
        let a = sum_by-cons (λ y. cond {A = ℕ} (nat_eq (f y) n) 1 0) x xs in
        let b = sum_by-cons (λ y. cond {A = ℕ} (nat_eq (f y) n) 1 0) x (filter p xs) in
        omega (arith, a, b, rest)
    go false true one rest =
        let a = sum_by-cons (λ y. cond {A = ℕ} (nat_eq (f y) n) 1 0) x xs in
        let b = sum_by-cons (λ y. cond {A = ℕ} (nat_eq (f y) n) 1 0) x (filter q xs) in
        omega (arith, a, b, rest)
    go false false one rest =
        let a = sum_by-cons (λ y. cond {A = ℕ} (nat_eq (f y) n) 1 0) x xs in
        omega (arith, a, rest)

many-append : {X : Type 0} (f : X → ℕ) (n : ℕ) (xs ys : List X) → many f n (xs ++ ys) ≡ many f n xs + many f n ys
many-append f n xs ys = sum_by-append (λ y. cond {A = ℕ} (nat_eq (f y) n) 1 0) xs ys

once-started : (plan : Plan) (u n : ℕ) → IsPlan plan → starts_of n (starts_before plan u) ≤ 1
once-started plan u n p =
    let b = bound plan + 1 in
    let all = each-job-starts-once plan n p in
    let one = p.once n in
    ⊎_elim
    (λ (l : u < b).
    let more = later plan u (b - u) in
    let whole : u + (b - u) ≡ b = omega (arith, l) in
    let split : sim plan ≡ starts_before plan u ++ more.0 = ap (starts_before plan) (sym whole) ∙ more.1 in
    let same = ap (starts_of n) split in
    let parts = sum_by-append (λ (x : Start). cond {A = ℕ} (nat_eq x.number n) 1 0) (starts_before plan u) more.0 in
    omega (arith, all, one, same, parts))
    (λ (l : b ≤ u).
    let rest : b + (u - b) ≡ u = omega (arith, l) in
    let late = rests plan b (u - b) plan.procs plan.order (omega arith) (all-have-ended plan b p (omega arith)) in
    let same : starts_before plan u ≡ sim plan = ap (starts_before plan) (sym rest) ∙ late.1 in
    let k = ap (starts_of n) same in
    omega (arith, all, one, k))
    (cases_lt u b)

abbrev coming : ℕ → ℕ → EffectiveJob → Bool
coming a u j = nat_le a j.submit && nat_lt j.submit u

abbrev waits_by : ℕ → Option ℕ → EffectiveJob → Bool
waits_by t start j = is_none (start_by t start) && nat_lt j.submit t

not-coming : (a u : ℕ) (j : EffectiveJob) → j.submit < a → coming a u j ≡ false
not-coming a u j l = go (nat_le a j.submit) (lt-leb a j.submit l)
  where
    go : (b : Bool) → b ≡ false → (b && nat_lt j.submit u) ≡ false
    go false e = refl
    go true e = absurd (let k : true ≡ false = e in cc)

is-coming : (a u : ℕ) (j : EffectiveJob) → a ≤ j.submit → j.submit < u → coming a u j ≡ true
is-coming a u j l m = go (nat_le a j.submit) (nat_lt j.submit u) (le-leb a j.submit l) (lt-ltb j.submit u m)
  where
    go : (b c : Bool) → b ≡ true → c ≡ true → (b && c) ≡ true
    go true c e f = f
    go false c e f = e

before-or-coming : (a u : ℕ) (j : EffectiveJob) → j.submit < u → option_or (cond (nat_lt j.submit a) (Some j) None) (cond (coming a u j) (Some j) None) ≡ Some j
before-or-coming a u j l =
    ⊎_elim
    (λ (m : j.submit < a). ap (λ z. option_or z (cond (coming a u j) (Some j) None)) (cond-true (nat_lt j.submit a) (Some j) None (lt-ltb j.submit a m)))
    (λ (m : a ≤ j.submit).
    ap (λ z. option_or z (cond (coming a u j) (Some j) None)) (cond-false (nat_lt j.submit a) (Some j) None (le-ltb j.submit a m))
    ∙ cond-true (coming a u j) (Some j) None (is-coming a u j m l))
    (cases_lt j.submit a)

neither-yet : (a u : ℕ) (j : EffectiveJob) → a ≤ u → u ≤ j.submit → option_or (cond (nat_lt j.submit a) (Some j) None) (cond (coming a u j) (Some j) None) ≡ None
neither-yet a u j l m =
    ap (λ z. option_or z (cond (coming a u j) (Some j) None)) (cond-false (nat_lt j.submit a) (Some j) None (le-ltb j.submit a (omega (arith, l, m))))
    ∙ cond-false (coming a u j) (Some j) None (neither (nat_le a j.submit) (nat_lt j.submit u) (le-ltb j.submit u m))

waits-one : (t a u : ℕ) (o : Option EffectiveJob) (first then now : Option ℕ) (w w' : Option EffectiveJob) (r r' : Option Placed) (test : EffectiveJob → Bool)
    → a ≤ t → t ≤ u → now ≡ start_by t (option_or first then) → Stands a o first w r → Stands t o now w' r' → ((j : EffectiveJob) → o ≡ Some j → test j ≡ waits_by t then j)
    → w' ≡ kept test (option_or w (kept (coming a u) o))
waits-one t a u None first then now w w' r r' test l m e h k tests = k.1 ∙ sym (ap (λ z. kept test (option_or z None)) h.1)
waits-one t a u (Some j) (Some s) then now w w' r r' test l m e h k tests =
    let x = h.0 in
    let y = h.1 in
    let still : now ≡ Some s = e ∙ cond-true (nat_lt s t) (Some s) None (lt-ltb s t (omega (arith, y, l))) in
    let there : Stands t (Some j) (Some s) w' r' = subst (λ z. Stands t (Some j) z w' r') still k in
    there.2 ∙ sym (
    ap (λ z. kept test (option_or z (cond (coming a u j) (Some j) None))) h.2
    ∙ ap (kept test) (cond-false (coming a u j) (Some j) None (not-coming a u j (omega (arith, x, y))))
    )
waits-one t a u (Some j) None then now w w' r r' test l m e h k tests =
    let there = waits-here t (Some j) now w' r' k ∙ sym (waits-by t j now) ∙ ap (λ z. cond (is_none z && nat_lt j.submit t) (Some j) None) e in
    let here = ap (λ z. kept test (option_or z (cond (coming a u j) (Some j) None))) h.0 in
    ⊎_elim
    (λ (x : j.submit < u).
    there ∙ ap (λ b. cond b (Some j) None) (sym (tests j refl)) ∙ sym (here ∙ ap (kept test) (before-or-coming a u j x)))
    (λ (x : u ≤ j.submit).
    there
    ∙ cond-false (waits_by t then j) (Some j) None (neither (is_none (start_by t then)) (nat_lt j.submit t) (le-ltb j.submit t (omega (arith, x, m))))
    ∙ sym (here ∙ ap (kept test) (neither-yet a u j (omega (arith, l, m)) x)))
    (cases_lt j.submit u)

abbrev placed_at : Option EffectiveJob → Option ℕ → Option Placed
placed_at o None = None
placed_at o (Some s) = option_map (λ job. record { job = job; start = s }) o

nobody-placed : (start : Option ℕ) → placed_at None start ≡ None
nobody-placed None = refl
nobody-placed (Some s) = refl

abbrev lasts_at : ℕ → Placed → Bool
lasts_at t r = nat_lt r.start t && nat_le t (r.start + r.job.length)

lasts-by : (t s : ℕ) (j : EffectiveJob) → lasting t j (start_by t (Some s)) ≡ kept (lasts_at t) (Some (record { job = j; start = s }))
lasts-by t s j = go (nat_lt s t)
  where
    go : (b : Bool) → lasting t j (cond b (Some s) None) ≡ cond (b && nat_le t (s + j.length)) (Some (record { job = j; start = s })) None
    go true = refl
    go false = refl

runs-one : (t a : ℕ) (o : Option EffectiveJob) (first then now : Option ℕ) (w w' : Option EffectiveJob) (r r' : Option Placed)
    → a ≤ t → now ≡ start_by t (option_or first then) → Stands a o first w r → Stands t o now w' r' → ((s : ℕ) → first ≡ Some s → then ≡ None)
    → r' ≡ kept (lasts_at t) (option_or r (placed_at o then))
runs-one t a None first then now w w' r r' l e h k once =
    k.2 ∙ sym (ap (λ z. kept (lasts_at t) (option_or z (placed_at None then))) h.2 ∙ ap (kept (lasts_at t)) (nobody-placed then))
runs-one t a (Some j) None None now w w' r r' l e h k once =
    runs-here t (Some j) now w' r' k ∙ ap (lasting t j) e ∙ sym (ap (λ z. kept (lasts_at t) (option_or z None)) h.1)
runs-one t a (Some j) None (Some s) now w w' r r' l e h k once =
    let x : Placed = record { job = j; start = s } in
    runs-here t (Some j) now w' r' k ∙ ap (lasting t j) e ∙ lasts-by t s j ∙ sym (ap (λ z. kept (lasts_at t) (option_or z (Some x))) h.1)
runs-one t a (Some j) (Some s) then now w w' r r' l e h k once =
    let x : Placed = record { job = j; start = s } in
    let there : r' ≡ kept (lasts_at t) (Some x) = runs-here t (Some j) now w' r' k ∙ ap (lasting t j) e ∙ lasts-by t s j in
    let here : option_or r (placed_at (Some j) then) ≡ lasting a j (Some s) =
    ap (λ z. option_or r (placed_at (Some j) z)) (once s refl) ∙ or-none r ∙ h.3 in
    ⊎_elim
    (λ (m : s + j.length < a).
    there
    ∙ cond-false (lasts_at t x) (Some x) None (neither (nat_lt s t) (nat_le t (s + j.length)) (lt-leb t (s + j.length) (omega (arith, m, l))))
    ∙ sym (ap (kept (lasts_at t)) (here ∙ cond-false (nat_le a (s + j.length)) (Some x) None (lt-leb a (s + j.length) m))))
    (λ (m : a ≤ s + j.length).
    there ∙ sym (ap (kept (lasts_at t)) (here ∙ cond-true (nat_le a (s + j.length)) (Some x) None (le-leb a (s + j.length) m))))
    (cases_lt (s + j.length) a)
  where
    or-none : (z : Option Placed) → option_or z None ≡ z
    or-none None = refl
    or-none (Some z) = refl

not-running : (t : ℕ) (o : Option EffectiveJob) (w : Option EffectiveJob) (r : Option Placed) → Stands t o None w r → r ≡ None
not-running t None w r h = h.2
not-running t (Some j) w r h = h.1

abbrev start_number : Start → ℕ
start_number x = x.number

abbrev placed_by : List EffectiveJob → Start → Option Placed
placed_by jobs x = option_map (λ job. record { job = job; start = x.at }) (job_numbered jobs x.number)

placed-keeps : (jobs : List EffectiveJob) → Keeps start_number job_in (placed_by jobs)
placed-keeps jobs x r e = go (job_numbered jobs x.number) refl e
  where
    go : (o : Option EffectiveJob) → job_numbered jobs x.number ≡ o → option_map (λ job. (let y : Placed = record { job = job; start = x.at } in y)) o ≡ Some r → r.job.number ≡ x.number
    go None f h = absurd (let k : None ≡ Some r = h in cc)
    go (Some j) f h =
        let made : Placed = record { job = j; start = x.at } in
        let k : Some made ≡ Some r = h in
        let same : made ≡ r = cc in
        ap (λ (y : Placed). y.job.number) (sym same) ∙ look-has job_of x.number jobs j f

placed-found : (jobs : List EffectiveJob) (n : ℕ) (o : Option Start) → ((x : Start) → o ≡ Some x → x.number ≡ n) → option_and_then (placed_by jobs) o ≡ placed_at (job_numbered jobs n) (option_map (λ (x : Start). x.at) o)
placed-found jobs n None h = refl
placed-found jobs n (Some x) h = ap (λ m. option_map (λ job. (let y : Placed = record { job = job; start = x.at } in y)) (job_numbered jobs m)) (h x refl)

module _ (plan : Plan) (starts : List Start) (t a u : ℕ) (p : IsPlan plan) (l : a ≤ t) (m : t ≤ u) (split : starts_before plan u ≡ starts_before plan a ++ starts) where
  outcome : (n : ℕ) → known_start plan t n ≡ start_by t (option_or (known_start plan a n) (start_of starts n))
  outcome n = later-starts-tell plan t u m n ∙ ap (start_by t) (ap (λ xs. start_of xs n) split ∙ start-append n (starts_before plan a) starts)

  once-in-all : (n : ℕ) → starts_of n (starts_before plan a) + starts_of n starts ≤ 1
  once-in-all n =
      let o = once-started plan u n p in
      let k = ap (starts_of n) split in
      let parts = sum_by-append (λ (x : Start). cond {A = ℕ} (nat_eq x.number n) 1 0) (starts_before plan a) starts in
      omega (arith, o, k, parts)

  no-other : (n s : ℕ) → known_start plan a n ≡ Some s → starts_of n starts ≡ 0
  no-other n s e =
      let o = once-in-all n in
      ⊎_elim
      (λ (z : 0 < starts_of n (starts_before plan a)). omega (arith, o, z))
      (λ (z : starts_of n (starts_before plan a) ≤ 0).
      absurd (let none = ap (option_map (λ (x : Start). x.at)) (look-none start_number n (starts_before plan a) (omega (arith, z))) in let k : None ≡ Some s = sym none ∙ e in cc))
      (cases_lt 0 (starts_of n (starts_before plan a)))

  no-start : (n s : ℕ) → known_start plan a n ≡ Some s → start_of starts n ≡ None
  no-start n s e = ap (option_map (λ (x : Start). x.at)) (look-none start_number n starts (no-other n s e))

  pub waiting-between : (before plan t).waiting ≡ filter (λ j. waits_by t (start_of starts j.number) j) ((before plan a).waiting ++ coming_between plan.jobs a u)
  waiting-between =
      let s = before plan t in
      let z = before plan a in
      let come : EffectiveJob → Bool = coming a u in
      let new = filter come plan.jobs in
      let xs = z.waiting ++ new in
      let test : EffectiveJob → Bool = λ j. waits_by t (start_of starts j.number) j in
      let rows = in-rows plan a p in
      let here : All (λ (j : EffectiveJob). come j ≡ true) new = filter_passes come plan.jobs in
      let behind : All (λ (j : EffectiveJob). All (Ahead j) new) z.waiting =
      All-weaker (λ (j : EffectiveJob). j.submit < a) (λ (j : EffectiveJob). All (Ahead j) new)
      (λ j b. All-weaker (λ (k : EffectiveJob). come k ≡ true) (Ahead j)
      (λ k e. inl (let c = leb-true a k.submit (and_parts (nat_le a k.submit) (nat_lt k.submit u) e).0 in let d : j.submit < k.submit = omega (arith, b, c) in d)) new here)
      z.waiting rows.came in
      let few : (n : ℕ) → many job_of n xs ≤ 1 =
      λ n. (let o = p.once n in
      let c = many-append job_of n z.waiting new in
      let w = ap (λ (y : State). many job_of n y.waiting) (states-follow-from-starts plan a p) in
      let d = filters-apart job_of n (waits_before plan a) come plan.jobs (λ j e. not-coming a u j (ltb-true j.submit a (and_parts (is_none (known_start plan a j.number)) (nat_lt j.submit a) e).1)) in
      omega (arith, o, c, w, d)) in
      same-rows job_of Ahead ahead-once s.waiting (filter test xs) (in-rows plan t p).waiting
      (rises-filter Ahead test xs (rises-append Ahead z.waiting new rows.waiting (rises-filter Ahead come plan.jobs (rises-jobs plan.jobs p.rising)) behind))
      (λ n. (let k = (each-state-is-sound plan t p).once n in omega (arith, k)))
      (λ n. (let k = few n in let d = sum_by-filter-le (λ (j : EffectiveJob). cond {A = ℕ} (nat_eq j.number n) 1 0) test xs in omega (arith, k, d)))
      (λ n.
      waits-one t a u (job_numbered plan.jobs n) (known_start plan a n) (start_of starts n) (known_start plan t n) (look job_of n z.waiting) (look job_of n s.waiting) (look job_in n z.running) (look job_in n s.running)
      test l m (outcome n) (stands-in plan n a p) (stands-in plan n t p) (λ j e. ap (λ k. waits_by t (start_of starts k) j) (look-has job_of n plan.jobs j e))
      ∙ sym (
      look-filter job_of n test xs (few n)
      ∙ ap (kept test) (find-append (λ (j : EffectiveJob). nat_eq j.number n) z.waiting new ∙ ap (option_or (look job_of n z.waiting)) (look-filter job_of n come plan.jobs (p.once n)))
      ))

  few-run : (n : ℕ) → many job_in n ((before plan a).running ++ started_of plan.jobs starts) ≤ 1
  few-run n =
      let z = before plan a in
      let c = many-append job_in n z.running (started_of plan.jobs starts) in
      let d = many-filter_map start_number job_in (placed_by plan.jobs) n starts (placed-keeps plan.jobs) in
      let k = (each-state-is-sound plan a p).once n in
      let o = once-in-all n in
      let h = stands-in plan n a p in
      go (known_start plan a n) refl c d k o h
    where
      go : (o : Option ℕ) → known_start plan a n ≡ o
          → many job_in n ((before plan a).running ++ started_of plan.jobs starts) ≡ many job_in n (before plan a).running + many job_in n (started_of plan.jobs starts)
          → many job_in n (started_of plan.jobs starts) ≤ starts_of n starts
          → many job_of n (before plan a).waiting + many job_in n (before plan a).running ≤ 1
          → starts_of n (starts_before plan a) + starts_of n starts ≤ 1
          → Stands a (job_numbered plan.jobs n) (known_start plan a n) (look job_of n (before plan a).waiting) (look job_in n (before plan a).running)
          → many job_in n ((before plan a).running ++ started_of plan.jobs starts) ≤ 1
      go (Some s) e c d k o h = let x = no-other n s e in omega (arith, c, d, k, x)
      go None e c d k o h =
          let y = subst (λ z. Stands a (job_numbered plan.jobs n) z (look job_of n (before plan a).waiting) (look job_in n (before plan a).running)) e h in
          let x = none-look job_in n (before plan a).running (not-running a (job_numbered plan.jobs n) (look job_of n (before plan a).waiting) (look job_in n (before plan a).running) y) in
          omega (arith, c, d, o, x)

  pub few-last : (n : ℕ) → many job_in n (filter (lasts_at t) ((before plan a).running ++ started_of plan.jobs starts)) ≤ 1
  few-last n =
      let k = few-run n in
      let d = sum_by-filter-le (λ (r : Placed). cond {A = ℕ} (nat_eq r.job.number n) 1 0) (lasts_at t) ((before plan a).running ++ started_of plan.jobs starts) in
      omega (arith, k, d)

  pub running-between : (before plan t).running ≡ by_number (filter (lasts_at t) ((before plan a).running ++ started_of plan.jobs starts))
  running-between =
      let s = before plan t in
      let z = before plan a in
      let new = started_of plan.jobs starts in
      let xs = z.running ++ new in
      let rs = filter (lasts_at t) xs in
      same-rows job_in NotAbove above-once s.running (by_number rs) (in-rows plan t p).running (rises-by_number rs)
      (λ n. (let k = (each-state-is-sound plan t p).once n in omega (arith, k)))
      (λ n. (let k = few-last n in let b = many-by_number n rs in omega (arith, k, b)))
      (λ n.
      runs-one t a (job_numbered plan.jobs n) (known_start plan a n) (start_of starts n) (known_start plan t n) (look job_of n z.waiting) (look job_of n s.waiting) (look job_in n z.running) (look job_in n s.running)
      l (outcome n) (stands-in plan n a p) (stands-in plan n t p) (no-start n)
      ∙ sym (
      look-by_number n rs (few-last n)
      ∙ look-filter job_in n (lasts_at t) xs (few-run n)
      ∙ ap (kept (lasts_at t)) (
      find-append (λ (r : Placed). nat_eq r.job.number n) z.running new
      ∙ ap (option_or (look job_in n z.running)) (
      look-filter_map start_number job_in (placed_by plan.jobs) n starts (placed-keeps plan.jobs) (let o = once-in-all n in omega (arith, o))
      ∙ placed-found plan.jobs n (look start_number n starts) (λ x e. look-has start_number n starts x e)
      )
      )
      ))

-- the waiting numbers before a second from a to u stand at its place of the stretches of who waits before a or comes from a on and
-- before u, by the starts made there
pub waiting-stand-in-a-stretch : WaitingStandInAStretch
waiting-stand-in-a-stretch plan seconds starts place t a u p rising e l m split =
    let at = is-at seconds place t rising e in
    ap (map job_of) (waiting-between plan starts t a u p l m split)
    ∙ standing-map place (λ (j : EffectiveJob). waits_by t (start_of starts j.number) j) job_of (λ (j : EffectiveJob). waiting_stretch seconds j (start_of starts j.number))
    (λ j. of-number seconds j (start_of starts j.number)) (λ j. waits-by-start seconds place t j (start_of starts j.number) at)
    ((before plan a).waiting ++ coming_between plan.jobs a u)

runs-at : (seconds : List ℕ) (place t : ℕ) (r : Placed) → IsAt seconds place t → stands place (placed_stretch seconds r) ≡ lasts_at t r
runs-at seconds place t r at =
    let e = r.start + r.job.length in
    ap (λ b. b && nat_lt place (place_after seconds e)) (behind-first seconds place t r.start at) ∙ ap (λ b. nat_lt r.start t && b) (within-first seconds place t e at)

-- the running numbers before such a second, by number, stand at its place of the stretches of who runs before a or is started there
pub running-stand-in-a-stretch : RunningStandInAStretch
running-stand-in-a-stretch plan seconds starts place t a u p rising e l m split =
    let at = is-at seconds place t rising e in
    let xs = (before plan a).running ++ started_of plan.jobs starts in
    ap (map number_of) (running-between plan starts t a u p l m split)
    ∙ numbers-by_number (filter (lasts_at t) xs) (few-last plan starts t a u p l m split)
    ∙ ap (by_key number_in) (standing-map place (lasts_at t) number_of (placed_stretch seconds) (λ r. refl) (λ r. runs-at seconds place t r at) xs)
