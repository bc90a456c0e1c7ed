-- Where the states of two plans are equal, but for touched numbers: where each other number has met, as the ledger of their starts tells.
use Rattle.std.proofs.Common.{◌≡◌, ℕ, ◌+◌, ◌≤◌, ◌<◌, Bool, true, false, cond, not, ◌&&◌, nat_eq, nat_le, nat_lt, max, List, [], ◌∷◌, map, Option, Some, None, All, filter, refl, sym, ◌∙◌, ap, arith, subst, inl, inr, ⊎_elim}
use Rattle.std.specs.Prelude.{is_none}
use Rattle.std.specs.Option.{option_map}
use Rattle.std.proofs.lemmas.List.Sums.{sum_by-cons}
use Rattle.std.proofs.lemmas.List.Elements.{All-head, All-tail, All-nil, All-cons, All-weaker}
use Rattle.std.proofs.lemmas.Bool.{cond_both, cond-true, cond-false, cases_Bool, cases_eq, cases_lt, eq-eqb, ne_eqb, lt-ltb, le-leb, lt-leb, true≢false}
use Rattle.scenarios.specs.Job.{EffectiveJob}
use Rattle.scenarios.specs.Plan.{Plan, job_numbered}
use Rattle.scenarios.specs.SoundPlan.{IsPlan}
use Rattle.scenarios.specs.declared.placed.Placed.{Placed}
use Rattle.cluster_state.specs.declared.snapshot.RunningNumber.{RunningNumber}
use Rattle.cluster_state.specs.Snapshot.{Numbers, number_of, numbers_of}
use Rattle.cluster_state.proofs.Lemmas.{All-find, sum_by-filter-le}
use Rattle.easy_rule.specs.declared.start.Start.{Start}
use Rattle.easy_rule.specs.Simulation.{before, starts_before, start_of}
use Rattle.timeline.specs.Closed.{known_start, lasting}
use Rattle.timeline.specs.Ledger.{alone, apart_until, all_apart_until}
use Rattle.timeline.specs.Meeting.{AgreeBut, EachHasMet, HasMet, HaveMet, NoneOf, SnapshotsMeet, StatesMeet, untouched}
use Rattle.timeline.proofs.Sound.{each-state-is-sound}
use Rattle.timeline.proofs.Lookups.{look, many, Once, job_of, job_in, kept, look-here, look-past, look-others, look-has, look-filter, once-tail}
use Rattle.timeline.proofs.Rows.{Rises, Ahead, NotAbove, rises-filter, ahead-once, above-once, same-rows}
use Rattle.timeline.proofs.Standing.{Stands, stands-in}
use Rattle.timeline.proofs.Closed.{in-rows}

filter-map : {X Y : Type 0} (g : X → Y) (p : Y → Bool) (xs : List X) → filter p (map g xs) ≡ map g (filter (λ x. p (g x)) xs)
filter-map g p [] = refl
filter-map g p (x ∷ xs) =
    ap (λ l. cond (p (g x)) (g x ∷ l) l) (filter-map g p xs)
    ∙ cond_both (p (g x)) (x ∷ filter (λ z. p (g z)) xs) (filter (λ z. p (g z)) xs) (λ l. cond (p (g x)) (g x ∷ map g (filter (λ z. p (g z)) xs)) (map g (filter (λ z. p (g z)) xs)) ≡ map g l)
    (λ y. cond-true (p (g x)) (g x ∷ map g (filter (λ z. p (g z)) xs)) (map g (filter (λ z. p (g z)) xs)) y)
    (λ y. cond-false (p (g x)) (g x ∷ map g (filter (λ z. p (g z)) xs)) (map g (filter (λ z. p (g z)) xs)) y)

look-map : {X Y : Type 0} (f : Y → ℕ) (g : X → Y) (n : ℕ) (xs : List X) → look f n (map g xs) ≡ option_map g (look (λ x. f (g x)) n xs)
look-map f g n [] = refl
look-map f g n (x ∷ xs) =
    ap (λ o. cond (nat_eq (f (g x)) n) (Some (g x)) o) (look-map f g n xs)
    ∙ cond_both (nat_eq (f (g x)) n) (Some x) (look (λ z. f (g z)) n xs) (λ o. cond (nat_eq (f (g x)) n) (Some (g x)) (option_map g (look (λ z. f (g z)) n xs)) ≡ option_map g o)
    (λ y. cond-true (nat_eq (f (g x)) n) (Some (g x)) (option_map g (look (λ z. f (g z)) n xs)) y)
    (λ y. cond-false (nat_eq (f (g x)) n) (Some (g x)) (option_map g (look (λ z. f (g z)) n xs)) y)

abbrev rest_of : {X : Type 0} → (ℕ → Bool) → (X → ℕ) → List X → List X
rest_of touched f xs = filter (λ x. not (touched (f x))) xs

look-rest : {X : Type 0} (touched : ℕ → Bool) (f : X → ℕ) (n : ℕ) (xs : List X) → many f n xs ≤ 1 → touched n ≡ false → look f n (rest_of touched f xs) ≡ look f n xs
look-rest {X = X} touched f n xs l e = look-filter f n (λ x. not (touched (f x))) xs l ∙ go (look f n xs) refl
  where
    go : (o : Option X) → look f n xs ≡ o → kept (λ x. not (touched (f x))) o ≡ o
    go None h = refl
    go (Some x) h = cond-true (not (touched (f x))) (Some x) None (ap (λ m. not (touched m)) (look-has f n xs x h) ∙ ap not e)

look-touched : {X : Type 0} (touched : ℕ → Bool) (f : X → ℕ) (n : ℕ) (xs : List X) → many f n xs ≤ 1 → touched n ≡ true → look f n (rest_of touched f xs) ≡ None
look-touched {X = X} touched f n xs l e = look-filter f n (λ x. not (touched (f x))) xs l ∙ go (look f n xs) refl
  where
    go : (o : Option X) → look f n xs ≡ o → kept (λ x. not (touched (f x))) o ≡ None
    go None h = refl
    go (Some x) h = cond-false (not (touched (f x))) (Some x) None (ap (λ m. not (touched m)) (look-has f n xs x h) ∙ ap not e)

rests-same : {X : Type 0} (touched : ℕ → Bool) (f : X → ℕ) (B : X → X → Type 0) → ((x y : X) → B x y → B y x → f x ≡ f y) → (xs ys : List X) → Rises B xs → Rises B ys → Once f xs → Once f ys
    → ((n : ℕ) → touched n ≡ false → look f n xs ≡ look f n ys) → rest_of touched f xs ≡ rest_of touched f ys
rests-same {X = X} touched f B one xs ys r s o q h =
    let test : X → Bool = λ x. not (touched (f x)) in
    same-rows f B one (rest_of touched f xs) (rest_of touched f ys) (rises-filter B test xs r) (rises-filter B test ys s)
    (λ n. (let k = o n in let l = sum_by-filter-le (λ x. cond {A = ℕ} (nat_eq (f x) n) 1 0) test xs in omega (arith, k, l)))
    (λ n. (let k = q n in let l = sum_by-filter-le (λ x. cond {A = ℕ} (nat_eq (f x) n) 1 0) test ys in omega (arith, k, l)))
    (λ n.
    ⊎_elim
    (λ (e : touched n ≡ true). look-touched touched f n xs (o n) e ∙ sym (look-touched touched f n ys (q n) e))
    (λ (e : touched n ≡ false). look-rest touched f n xs (o n) e ∙ h n e ∙ sym (look-rest touched f n ys (q n) e))
    (cases_Bool (touched n)))

same-look : {X Y : Type 0} (touched : ℕ → Bool) (h : Y → ℕ) (g : X → Y) (n : ℕ) (xs ys : List X) → many (λ x. h (g x)) n xs ≤ 1 → many (λ x. h (g x)) n ys ≤ 1
    → filter (λ y. not (touched (h y))) (map g xs) ≡ filter (λ y. not (touched (h y))) (map g ys) → touched n ≡ false
    → option_map g (look (λ x. h (g x)) n xs) ≡ option_map g (look (λ x. h (g x)) n ys)
same-look {X = X} {Y = Y} touched h g n xs ys l m same e =
    let f : X → ℕ = λ x. h (g x) in
    let p : Y → Bool = λ y. not (touched (h y)) in
    let rests : map g (rest_of touched f xs) ≡ map g (rest_of touched f ys) = sym (filter-map g p xs) ∙ same ∙ filter-map g p ys in
    ap (option_map g) (sym (look-rest touched f n xs l e)) ∙ sym (look-map h g n (rest_of touched f xs)) ∙ ap (look h n) rests
    ∙ look-map h g n (rest_of touched f ys) ∙ ap (option_map g) (look-rest touched f n ys m e)

ended-none : (t start : ℕ) (j : EffectiveJob) → start + j.length < t → lasting t j (Some start) ≡ None
ended-none t start j l = cond-false (nat_le t (start + j.length)) (Some (record { job = j; start = start })) None (lt-leb t (start + j.length) l)

runs-still : (t start : ℕ) (j : EffectiveJob) → t ≤ start + j.length → lasting t j (Some start) ≡ Some (record { job = j; start = start })
runs-still t start j l = cond-true (nat_le t (start + j.length)) (Some (record { job = j; start = start })) None (le-leb t (start + j.length) l)

met-same : (t : ℕ) (o : Option EffectiveJob) (a b : Option ℕ) (w w' : Option EffectiveJob) (r r' : Option Placed) → Stands t o a w r → Stands t o b w' r' → HasMet t o a b → (w ≡ w') × (r ≡ r')
met-same t None a b w w' r r' h k m = (h.1 ∙ sym k.1, h.2 ∙ sym k.2)
met-same t (Some j) None None w w' r r' h k m = (h.0 ∙ sym k.0, h.1 ∙ sym k.1)
met-same t (Some j) (Some a) None w w' r r' h k m = absurd m
met-same t (Some j) None (Some b) w w' r r' h k m = absurd m
met-same t (Some j) (Some a) (Some b) w w' r r' h k (inl e) = (h.2 ∙ sym k.2, h.3 ∙ ap (λ s. lasting t j (Some s)) e ∙ sym k.3)
met-same t (Some j) (Some a) (Some b) w w' r r' h k (inr f) =
    (h.2 ∙ sym k.2, h.3 ∙ ended-none t a j f.0 ∙ sym (ended-none t b j f.1) ∙ sym k.3)

parted : (t a b : ℕ) (j : EffectiveJob) (r r' : Option Placed) → r ≡ lasting t j (Some a) → r' ≡ lasting t j (Some b) → option_map number_of r ≡ option_map number_of r' → (a ≡ b → ⊥) → t ≤ a + j.length → ⊥
parted t a b j r r' e f same ne l =
    let x : RunningNumber = record { number = j.number; start = a } in
    let y : RunningNumber = record { number = j.number; start = b } in
    let here : option_map number_of r ≡ Some x = ap (option_map number_of) (e ∙ runs-still t a j l) in
    ⊎_elim
    (λ (m : b + j.length < t).
    let there : option_map number_of r' ≡ None = ap (option_map number_of) (f ∙ ended-none t b j m) in
    let k : Some x ≡ None = sym here ∙ same ∙ there in
    absurd (cc))
    (λ (m : t ≤ b + j.length).
    let there : option_map number_of r' ≡ Some y = ap (option_map number_of) (f ∙ runs-still t b j m) in
    let k : Some x ≡ Some y = sym here ∙ same ∙ there in
    let same : x ≡ y = cc in
    ne (ap (λ (z : RunningNumber). z.start) same))
    (cases_lt (b + j.length) t)

waits-not : (t b : ℕ) (j : EffectiveJob) (w w' : Option EffectiveJob) → w ≡ cond (nat_lt j.submit t) (Some j) None → w' ≡ None → j.submit ≤ b → b < t → option_map job_of w ≡ option_map job_of w' → ⊥
waits-not t b j w w' e f l m same =
    let here : option_map job_of w ≡ Some j.number = ap (option_map job_of) (e ∙ cond-true (nat_lt j.submit t) (Some j) None (lt-ltb j.submit t (omega (arith, l, m)))) in
    let there : option_map job_of w' ≡ None = ap (option_map job_of) f in
    let k : Some j.number ≡ None = sym here ∙ same ∙ there in
    cc

same-met : (t : ℕ) (o : Option EffectiveJob) (a b : Option ℕ) (w w' : Option EffectiveJob) (r r' : Option Placed) → Stands t o a w r → Stands t o b w' r'
    → option_map job_of w ≡ option_map job_of w' → option_map number_of r ≡ option_map number_of r' → HasMet t o a b
same-met t None a b w w' r r' h k e f = subst (λ z. HasMet t None z b) (sym h.0) (subst (λ z. HasMet t None None z) (sym k.0) tt)
same-met t (Some j) None None w w' r r' h k e f = tt
same-met t (Some j) (Some a) None w w' r r' h k e f = waits-not t a j w' w k.0 h.2 h.0 h.1 (sym e)
same-met t (Some j) None (Some b) w w' r r' h k e f = waits-not t b j w w' h.0 k.2 k.0 k.1 e
same-met t (Some j) (Some a) (Some b) w w' r r' h k e f =
    ⊎_elim
    (λ (s : a ≡ b). inl s)
    (λ (ne : a ≡ b → ⊥).
    inr (
      ⊎_elim (λ (l : a + j.length < t). l) (λ (l : t ≤ a + j.length). absurd (parted t a b j r r' h.3 k.3 f ne l)) (cases_lt (a + j.length) t),
      ⊎_elim (λ (l : b + j.length < t). l) (λ (l : t ≤ b + j.length). absurd (parted t b a j r' r k.3 h.3 (sym f) (λ s. ne (sym s)) l)) (cases_lt (b + j.length) t),
    ))
    (cases_eq a b)

abbrev pub AllMet : (ℕ → Bool) → Plan → Plan → ℕ → Type 0
AllMet touched p q t = (n : ℕ) → touched n ≡ false → HasMet t (job_numbered q.jobs n) (known_start p t n) (known_start q t n)

module _ (touched : ℕ → Bool) (p q : Plan) (t : ℕ) (agree : AgreeBut touched p q) where
  here-stands : (n : ℕ) → touched n ≡ false → Stands t (job_numbered q.jobs n) (known_start p t n) (look job_of n (before p t).waiting) (look job_in n (before p t).running)
  here-stands n e = subst (λ o. Stands t o (known_start p t n) (look job_of n (before p t).waiting) (look job_in n (before p t).running)) (agree.others n e) (stands-in p n t agree.left)

  once-waits : (plan : Plan) → IsPlan plan → Once job_of (before plan t).waiting
  once-waits plan ok n = (let k = (each-state-is-sound plan t ok).once n in omega (arith, k))

  once-runs : (plan : Plan) → IsPlan plan → Once job_in (before plan t).running
  once-runs plan ok n = (let k = (each-state-is-sound plan t ok).once n in omega (arith, k))

  pub met-is-same : AllMet touched p q t → untouched touched (numbers_of (before p t)) ≡ untouched touched (numbers_of (before q t))
  met-is-same met =
      let s = before p t in
      let z = before q t in
      let each : (n : ℕ) → touched n ≡ false → (look job_of n s.waiting ≡ look job_of n z.waiting) × (look job_in n s.running ≡ look job_in n z.running) =
      λ n e. met-same t (job_numbered q.jobs n) (known_start p t n) (known_start q t n) (look job_of n s.waiting) (look job_of n z.waiting) (look job_in n s.running) (look job_in n z.running) (here-stands n e) (stands-in q n t agree.right) (met n e) in
      let rows = in-rows p t agree.left in
      let rows' = in-rows q t agree.right in
      let w = rests-same touched job_of Ahead ahead-once s.waiting z.waiting rows.waiting rows'.waiting (once-waits p agree.left) (once-waits q agree.right) (λ n e. (each n e).0) in
      let r = rests-same touched job_in NotAbove above-once s.running z.running rows.running rows'.running (once-runs p agree.left) (once-runs q agree.right) (λ n e. (each n e).1) in
      let w' : filter (λ n. not (touched n)) (map job_of s.waiting) ≡ filter (λ n. not (touched n)) (map job_of z.waiting) =
      filter-map job_of (λ n. not (touched n)) s.waiting ∙ ap (map job_of) w ∙ sym (filter-map job_of (λ n. not (touched n)) z.waiting) in
      let r' : filter (λ (x : RunningNumber). not (touched x.number)) (map number_of s.running) ≡ filter (λ (x : RunningNumber). not (touched x.number)) (map number_of z.running) =
      filter-map number_of (λ (x : RunningNumber). not (touched x.number)) s.running ∙ ap (map number_of) r ∙ sym (filter-map number_of (λ (x : RunningNumber). not (touched x.number)) z.running) in
      λ i. record { waiting = w' i; running = r' i }

  pub same-is-met : untouched touched (numbers_of (before p t)) ≡ untouched touched (numbers_of (before q t)) → AllMet touched p q t
  same-is-met same n e =
      let s = before p t in
      let z = before q t in
      same-met t (job_numbered q.jobs n) (known_start p t n) (known_start q t n) (look job_of n s.waiting) (look job_of n z.waiting) (look job_in n s.running) (look job_in n z.running) (here-stands n e) (stands-in q n t agree.right)
      (same-look touched (λ m. m) job_of n s.waiting z.waiting (once-waits p agree.left n) (once-waits q agree.right n) (ap (λ (x : Numbers). x.waiting) same) e)
      (same-look touched (λ (x : RunningNumber). x.number) number_of n s.running z.running (once-runs p agree.left n) (once-runs q agree.right n) (ap (λ (x : Numbers). x.running) same) e)

none-passes : {X : Type 0} (p : X → Bool) (xs : List X) → filter p xs ≡ [] → All (λ x. p x ≡ false) xs
none-passes p [] e = All-nil (λ x. p x ≡ false)
none-passes p (x ∷ xs) e =
    ⊎_elim
    (λ (y : p x ≡ true). absurd (let k : (x ∷ filter p xs) ≡ [] = sym (cond-true (p x) (x ∷ filter p xs) (filter p xs) y) ∙ e in cc))
    (λ (y : p x ≡ false). All-cons (λ z. p z ≡ false) x xs y (none-passes p xs (sym (cond-false (p x) (x ∷ filter p xs) (filter p xs) y) ∙ e)))
    (cases_Bool (p x))

passes-none : {X : Type 0} (p : X → Bool) (xs : List X) → All (λ x. p x ≡ false) xs → filter p xs ≡ []
passes-none p [] a = refl
passes-none p (x ∷ xs) a = cond-false (p x) (x ∷ filter p xs) (filter p xs) (All-head (λ z. p z ≡ false) x xs a) ∙ passes-none p xs (All-tail (λ z. p z ≡ false) x xs a)

each-found : {X : Type 0} (f : X → ℕ) (xs : List X) → All (λ x. look f (f x) xs ≡ None → ⊥) xs
each-found f [] = All-nil (λ x. look f (f x) [] ≡ None → ⊥)
each-found {X = X} f (x ∷ xs) =
    All-cons (λ z. look f (f z) (x ∷ xs) ≡ None → ⊥) x xs (found x refl) (All-weaker (λ z. look f (f z) xs ≡ None → ⊥) (λ z. look f (f z) (x ∷ xs) ≡ None → ⊥) more xs (each-found f xs))
  where
    found : (z : X) → f x ≡ f z → look f (f z) (x ∷ xs) ≡ None → ⊥
    found z e none = let k : Some x ≡ None = sym (look-here f (f z) x xs e) ∙ none in cc

    more : (z : X) → (look f (f z) xs ≡ None → ⊥) → look f (f z) (x ∷ xs) ≡ None → ⊥
    more z h none = ⊎_elim (λ (e : f x ≡ f z). found z e none) (λ (ne : f x ≡ f z → ⊥). h (sym (look-past f (f z) x xs ne) ∙ none)) (cases_eq (f x) (f z))

no-start : (n : ℕ) (xs : List Start) → start_of xs n ≡ None → look (λ (x : Start). x.number) n xs ≡ None
no-start n xs e = go (look (λ (x : Start). x.number) n xs) e
  where
    go : (o : Option Start) → option_map (λ (x : Start). x.at) o ≡ None → o ≡ None
    go None h = refl
    go (Some x) h = absurd (let k : Some x.at ≡ None = h in cc)

abbrev pub Follows : (ℕ → Bool) → List Start → List Start → Type 0
Follows touched xs ys = (n : ℕ) → touched n ≡ false → start_of ys n ≡ None → start_of xs n ≡ None

alone-follows : (touched : ℕ → Bool) (xs ys : List Start) → alone touched xs ys ≡ [] → Follows touched xs ys
alone-follows touched xs ys e n free none = go (look (λ (x : Start). x.number) n xs) refl
  where
    test : Start → Bool
    test x = not (touched x.number) && is_none (start_of ys x.number)

    go : (o : Option Start) → look (λ (x : Start). x.number) n xs ≡ o → option_map (λ (x : Start). x.at) o ≡ None
    go None h = refl
    go (Some x) h =
        let num = look-has (λ (y : Start). y.number) n xs x h in
        let no' : (not (touched x.number) && is_none (start_of ys x.number)) ≡ false = All-find (λ (y : Start). (not (touched y.number) && is_none (start_of ys y.number)) ≡ false) (λ (y : Start). nat_eq y.number n) xs x h (none-passes (λ (y : Start). not (touched y.number) && is_none (start_of ys y.number)) xs e) in
        let yes' : (not (touched x.number) && is_none (start_of ys x.number)) ≡ true =
        ap (λ m. not (touched m) && is_none (start_of ys m)) num ∙ ap (λ b. not b && is_none (start_of ys n)) free ∙ ap (λ o. is_none o) none in
        absurd (true≢false (sym yes' ∙ no'))

follows-alone : (touched : ℕ → Bool) (xs ys : List Start) → Follows touched xs ys → alone touched xs ys ≡ []
follows-alone touched xs ys h =
    passes-none (λ (x : Start). not (touched x.number) && is_none (start_of ys x.number)) xs
    (All-weaker (λ (x : Start). look (λ (y : Start). y.number) x.number xs ≡ None → ⊥) (λ (x : Start). (not (touched x.number) && is_none (start_of ys x.number)) ≡ false)
    (λ x found. fails x found (touched x.number) refl (start_of ys x.number) refl)
    xs (each-found (λ (y : Start). y.number) xs))
  where
    fails : (x : Start) → (look (λ (y : Start). y.number) x.number xs ≡ None → ⊥) → (b : Bool) → touched x.number ≡ b → (o : Option ℕ) → start_of ys x.number ≡ o → (not b && is_none o) ≡ false
    fails x found true e o f = refl
    fails x found false e (Some s) f = refl
    fails x found false e None f = absurd (found (no-start x.number xs (h x.number e f)))

abbrev one_apart : (ℕ → Bool) → List Start → List Start → EffectiveJob → ℕ
one_apart touched xs ys j = cond (touched j.number) 0 (apart_until j (start_of xs j.number) (start_of ys j.number))

each-apart : (touched : ℕ → Bool) (js : List EffectiveJob) (xs ys : List Start) (t : ℕ) → all_apart_until touched js xs ys ≤ t → All (λ j. one_apart touched xs ys j ≤ t) js
each-apart touched [] xs ys t l = All-nil (λ (j : EffectiveJob). one_apart touched xs ys j ≤ t)
each-apart touched (j ∷ js) xs ys t l =
    All-cons (λ (k : EffectiveJob). one_apart touched xs ys k ≤ t) j js (omega (arith, l)) (each-apart touched js xs ys t (omega (arith, l)))

apart-each : (touched : ℕ → Bool) (js : List EffectiveJob) (xs ys : List Start) (t : ℕ) → All (λ j. one_apart touched xs ys j ≤ t) js → all_apart_until touched js xs ys ≤ t
apart-each touched [] xs ys t a = omega arith
apart-each touched (j ∷ js) xs ys t a =
    let l = All-head (λ (k : EffectiveJob). one_apart touched xs ys k ≤ t) j js a in
    let i = apart-each touched js xs ys t (All-tail (λ (k : EffectiveJob). one_apart touched xs ys k ≤ t) j js a) in
    omega (arith, l, i)

each-itself : {X : Type 0} (f : X → ℕ) (xs : List X) → Once f xs → All (λ x. look f (f x) xs ≡ Some x) xs
each-itself f [] once = All-nil (λ x. look f (f x) [] ≡ Some x)
each-itself {X = X} f (x ∷ xs) once =
    All-cons (λ z. look f (f z) (x ∷ xs) ≡ Some z) x xs (look-here f (f x) x xs refl) (All-weaker (λ z. look f (f z) xs ≡ Some z) (λ z. look f (f z) (x ∷ xs) ≡ Some z) more xs (each-itself f xs (once-tail f x xs once)))
  where
    more : (z : X) → look f (f z) xs ≡ Some z → look f (f z) (x ∷ xs) ≡ Some z
    more z h =
        ⊎_elim
        (λ (e : f x ≡ f z). absurd (let k : None ≡ Some z = sym (look-others f (f z) x xs e (once (f z))) ∙ h in cc))
        (λ (ne : f x ≡ f z → ⊥). look-past f (f z) x xs ne ∙ h)
        (cases_eq (f x) (f z))

met-apart : (t : ℕ) (j : EffectiveJob) (a b : Option ℕ) → HasMet t (Some j) a b → apart_until j a b ≤ t
met-apart t j None None m = omega arith
met-apart t j (Some a) None m = absurd m
met-apart t j None (Some b) m = absurd m
met-apart t j (Some a) (Some b) (inl e) =
    (let z = cond-true (nat_eq a b) 0 (max a b + j.length + 1) (eq-eqb a b e) in omega (arith, z))
met-apart t j (Some a) (Some b) (inr f) =
    let l = f.0 in
    let m = f.1 in
    cond_both (nat_eq a b) 0 (max a b + j.length + 1) (λ u. u ≤ t) (λ _. omega arith) (λ _. omega (arith, l, m))

apart-met : (t : ℕ) (j : EffectiveJob) (a b : Option ℕ) → (a ≡ None → b ≡ None) → (b ≡ None → a ≡ None) → apart_until j a b ≤ t → HasMet t (Some j) a b
apart-met t j None None f g l = tt
apart-met t j (Some a) None f g l = let k : Some a ≡ None = g refl in cc
apart-met t j None (Some b) f g l = let k : Some b ≡ None = f refl in cc
apart-met t j (Some a) (Some b) f g l =
    ⊎_elim
    (λ (e : a ≡ b). inl e)
    (λ (ne : a ≡ b → ⊥).
    let z = cond-false (nat_eq a b) 0 (max a b + j.length + 1) (ne_eqb a b ne) in
    inr ((let y : a + j.length < t = omega (arith, l, z) in y), (let y : b + j.length < t = omega (arith, l, z) in y)))
    (cases_eq a b)

met-none : (t : ℕ) (o : Option EffectiveJob) (a b : Option ℕ) → HasMet t o a b → (a ≡ None → b ≡ None) × (b ≡ None → a ≡ None)
met-none t o None None m = ((λ _. refl), (λ _. refl))
met-none t o (Some a) None m = absurd m
met-none t o None (Some b) m = absurd m
met-none t o (Some a) (Some b) m = ((λ e. absurd (let k : Some a ≡ None = e in cc)), (λ e. absurd (let k : Some b ≡ None = e in cc)))

stands-none : (t : ℕ) (a : Option ℕ) (w : Option EffectiveJob) (r : Option Placed) → Stands t None a w r → a ≡ None
stands-none t a w r h = h.0

pub ledger-of-met : (touched : ℕ → Bool) (p q : Plan) (t : ℕ) → AgreeBut touched p q → AllMet touched p q t → HaveMet touched p q t
ledger-of-met touched p q t agree met =
    let xs = starts_before p t in
    let ys = starts_before q t in
    record {
      none_here = follows-alone touched xs ys (λ n e none. (met-none t (job_numbered q.jobs n) (known_start p t n) (known_start q t n) (met n e)).1 none);
      none_there = follows-alone touched ys xs (λ n e none. (met-none t (job_numbered q.jobs n) (known_start p t n) (known_start q t n) (met n e)).0 none);
      ended = apart-each touched q.jobs xs ys t
          (All-weaker (λ (j : EffectiveJob). job_numbered q.jobs j.number ≡ Some j) (λ (j : EffectiveJob). one_apart touched xs ys j ≤ t) (λ j found. one j found (touched j.number) refl) q.jobs (each-itself job_of q.jobs agree.right.once));
    }
  where
    one : (j : EffectiveJob) → job_numbered q.jobs j.number ≡ Some j → (b : Bool) → touched j.number ≡ b → cond b 0 (apart_until j (known_start p t j.number) (known_start q t j.number)) ≤ t
    one j found true e = omega arith
    one j found false e = met-apart t j (known_start p t j.number) (known_start q t j.number) (subst (λ o. HasMet t o (known_start p t j.number) (known_start q t j.number)) found (met j.number e))

pub met-of-ledger : (touched : ℕ → Bool) (p q : Plan) (t : ℕ) → AgreeBut touched p q → HaveMet touched p q t → AllMet touched p q t
met-of-ledger touched p q t agree have n e = go (job_numbered q.jobs n) refl
  where
    here : (known_start p t n ≡ None) → known_start q t n ≡ None
    here none = alone-follows touched (starts_before q t) (starts_before p t) have.none_there n e none

    there : (known_start q t n ≡ None) → known_start p t n ≡ None
    there none = alone-follows touched (starts_before p t) (starts_before q t) have.none_here n e none

    go : (o : Option EffectiveJob) → job_numbered q.jobs n ≡ o → HasMet t o (known_start p t n) (known_start q t n)
    go None f =
        let none : known_start q t n ≡ None = stands-none t (known_start q t n) (look job_of n (before q t).waiting) (look job_in n (before q t).running) (subst (λ o. Stands t o (known_start q t n) (look job_of n (before q t).waiting) (look job_in n (before q t).running)) f (stands-in q n t agree.right)) in
        subst (λ z. HasMet t None z (known_start q t n)) (sym (there none)) (subst (λ z. HasMet t None None z) (sym none) tt)
    go (Some j) f =
        let num = look-has job_of n q.jobs j f in
        let l = All-find (λ (k : EffectiveJob). one_apart touched (starts_before p t) (starts_before q t) k ≤ t) (λ (k : EffectiveJob). nat_eq k.number n) q.jobs j f (each-apart touched q.jobs (starts_before p t) (starts_before q t) t have.ended) in
        let same : one_apart touched (starts_before p t) (starts_before q t) j ≡ apart_until j (known_start p t n) (known_start q t n) =
        ap (λ m. cond (touched m) 0 (apart_until j (known_start p t m) (known_start q t m))) num ∙ cond-false (touched n) 0 (apart_until j (known_start p t n) (known_start q t n)) e in
        apart-met t j (known_start p t n) (known_start q t n) here there (subst (λ m. m ≤ t) same l)

-- two plans have met before a second where, and only where, each number has that is not touched
pub each-has-met : EachHasMet
each-has-met touched p q t agree = (met-of-ledger touched p q t agree, ledger-of-met touched p q t agree)

-- the states of two plans before a second are equal, the touched numbers aside, where, and only where, they have met
pub states-meet : StatesMeet
states-meet touched p q t agree = (
  (λ same. ledger-of-met touched p q t agree (same-is-met touched p q t agree same)),
  (λ have. met-is-same touched p q t agree (met-of-ledger touched p q t agree have)),
)

kept-whole : {X : Type 0} (touched : ℕ → Bool) (f : X → ℕ) (xs : List X) → ((n : ℕ) → touched n ≡ true → 1 ≤ many f n xs → ⊥) → rest_of touched f xs ≡ xs
kept-whole touched f [] none = refl
kept-whole touched f (x ∷ xs) none =
    let k : (n : ℕ) → many f n (x ∷ xs) ≡ cond {A = ℕ} (nat_eq (f x) n) 1 0 + many f n xs = λ n. sum_by-cons (λ y. cond {A = ℕ} (nat_eq (f y) n) 1 0) x xs in
    let free : (touched (f x) ≡ true → ⊥) = λ y. none (f x) y (let z = k (f x) in let one = cond-true {A = ℕ} (nat_eq (f x) (f x)) 1 0 (eq-eqb (f x) (f x) refl) in omega (arith, z, one)) in
    let rest = kept-whole touched f xs (λ n y l. none n y (let z = k n in omega (arith, z, l))) in
    ⊎_elim
    (λ (y : touched (f x) ≡ true). absurd (free y))
    (λ (y : touched (f x) ≡ false). cond-true (not (touched (f x))) (x ∷ rest_of touched f xs) (rest_of touched f xs) (ap not y) ∙ ap (λ l. x ∷ l) rest)
    (cases_Bool (touched (f x)))

whole : (touched : ℕ → Bool) (there : Numbers) → NoneOf touched there → untouched touched there ≡ there
whole touched there none =
    let w = kept-whole touched (λ m. m) there.waiting (λ n y l. none n y (omega (arith, l))) in
    let r = kept-whole touched (λ (x : RunningNumber). x.number) there.running (λ n y l. none n y (omega (arith, l))) in
    λ i. record { waiting = w i; running = r i }

-- the numbers of both states are equal with none touched where, and only where, the plans have met and no touched number waits or runs in either
pub snapshots-meet : SnapshotsMeet
snapshots-meet touched p q t agree = (
  (λ (same, none).
      ((states-meet touched p q t agree).0 (ap (untouched touched) same), subst (NoneOf touched) (sym same) none, none)),
  (λ (have, here, there).
      (sym (whole touched (numbers_of (before p t)) here) ∙ (states-meet touched p q t agree).1 have ∙ whole touched (numbers_of (before q t)) there, there)),
)
