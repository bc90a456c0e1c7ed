-- Lists in order: what keeps them so, and that look-ups by number decide them, where no two have one number.
use Rattle.std.proofs.Common.{◌≡◌, ℕ, ◌≤◌, Bool, nat_eq, nat_lt, List, [], ◌∷◌, ◌++◌, Some, None, All, filter, refl, sym, ◌∙◌, arith, inl, inr, ⊎_elim}
use Rattle.std.proofs.lemmas.List.Elements.{All-head, All-tail, All-nil, All-cons, All-append, All-filter, All-weaker}
use Rattle.std.proofs.lemmas.Bool.{cond_both, cases_eq, ltb-true, ltb-false}
use Rattle.scenarios.specs.Job.{EffectiveJob}
use Rattle.scenarios.specs.SoundPlan.{IsRising}
use Rattle.scenarios.specs.declared.placed.Placed.{Placed}
use Rattle.scenarios.proofs.Lemmas.{Lex, Lex-true, Lex-trans}
use Rattle.cluster_state.specs.State.{without, placed}
use Rattle.cluster_state.specs.Ends.{by_number}
use Rattle.cluster_state.proofs.Lemmas.{All-placed, All-without, All-find}
use Rattle.timeline.proofs.Lookups.{look, Once, look-here, look-past, look-others, once-tail}

-- each stands before all behind it
abbrev pub Rises : {X : Type 0} → (X → X → Type 0) → List X → Type 0
Rises B [] = Unit {0}
Rises B (x ∷ xs) = All (B x) xs × Rises B xs

-- a job arrives before another one: at an earlier second, or at the same one with a smaller number
abbrev pub Ahead : EffectiveJob → EffectiveJob → Type 0
Ahead a b = Lex a.submit a.number b.submit b.number

-- a running job has no greater number than another
abbrev pub NotAbove : Placed → Placed → Type 0
NotAbove a b = a.job.number ≤ b.job.number

-- those that pass stay in order
pub rises-filter : {X : Type 0} (B : X → X → Type 0) (p : X → Bool) (xs : List X) → Rises B xs → Rises B (filter p xs)
rises-filter B p [] h = tt
rises-filter B p (x ∷ xs) h =
    cond_both (p x) (x ∷ filter p xs) (filter p xs) (λ l. Rises B l)
    (λ _. (All-filter p (B x) xs h.0, rises-filter B p xs h.1))
    (λ _. rises-filter B p xs h.1)

-- two lists in order, where each of the one stands before all of the other, are in order together
pub rises-append : {X : Type 0} (B : X → X → Type 0) (xs ys : List X) → Rises B xs → Rises B ys → All (λ x. All (B x) ys) xs → Rises B (xs ++ ys)
rises-append B [] ys h k a = k
rises-append B (x ∷ xs) ys h k a =
    (All-append (B x) xs ys h.0 (All-head (λ x. All (B x) ys) x xs a), rises-append B xs ys h.1 k (All-tail (λ x. All (B x) ys) x xs a))

-- waiting jobs in order of arrival stay in it without one of them
pub rises-without : (n : ℕ) (js : List EffectiveJob) → Rises Ahead js → Rises Ahead (without n js)
rises-without n [] h = tt
rises-without n (j ∷ js) h =
    cond_both (nat_eq j.number n) js (j ∷ without n js) (λ l. Rises Ahead l)
    (λ _. h.1)
    (λ _. (All-without (Ahead j) n js h.0, rises-without n js h.1))

-- running jobs that do not fall by number do not with one more
pub rises-placed : (r : Placed) (rs : List Placed) → Rises NotAbove rs → Rises NotAbove (placed r rs)
rises-placed r [] h = (All-nil (NotAbove r), tt)
rises-placed r (x ∷ xs) h =
    cond_both (nat_lt r.job.number x.job.number) (r ∷ x ∷ xs) (x ∷ placed r xs) (λ l. Rises NotAbove l)
    (λ y. (let l = ltb-true r.job.number x.job.number y in
    let first : r.job.number ≤ x.job.number = omega (arith, l) in
    (All-cons (NotAbove r) x xs first (All-weaker (NotAbove x) (NotAbove r) (λ z m. omega (arith, l, m)) xs h.0), h)))
    (λ y. (let l = ltb-false r.job.number x.job.number y in
    let first : x.job.number ≤ r.job.number = omega (arith, l) in
    (All-placed (NotAbove x) r xs first h.0, rises-placed r xs h.1)))

-- sorted by number, running jobs do not fall by number
pub rises-by_number : (rs : List Placed) → Rises NotAbove (by_number rs)
rises-by_number [] = tt
rises-by_number (r ∷ rs) = rises-placed r (by_number rs) (rises-by_number rs)

ahead-all : (a b : EffectiveJob) (js : List EffectiveJob) → Ahead a b → All (Ahead b) js → All (Ahead a) js
ahead-all a b js l h = All-weaker (Ahead b) (Ahead a) (λ c m. Lex-trans a.submit a.number b.submit b.number c.submit c.number l m) js h

-- where each job comes before the next, each arrives before all later ones
pub rises-jobs : (js : List EffectiveJob) → IsRising js → Rises Ahead js
rises-jobs [] h = tt
rises-jobs (j ∷ []) h = (All-nil (Ahead j), tt)
rises-jobs (j ∷ k ∷ js) h =
    let i = rises-jobs (k ∷ js) h.1 in
    let l : Ahead j k = Lex-true j.submit j.number k.submit k.number h.0 in
    (All-cons (Ahead j) k js l (ahead-all j k js l i.0), i)

-- two jobs that arrive before one another have one number
pub ahead-once : (a b : EffectiveJob) → Ahead a b → Ahead b a → a.number ≡ b.number
ahead-once a b (inl l) (inl m) = absurd (omega (arith, l, m))
ahead-once a b (inl l) (inr m) = absurd (let k = m.0 in omega (arith, l, k))
ahead-once a b (inr l) (inl m) = absurd (let k = l.0 in omega (arith, m, k))
ahead-once a b (inr l) (inr m) = absurd (let k = l.1 in let n = m.1 in omega (arith, k, n))

-- two running jobs of which neither has the greater number have one number
pub above-once : (a b : Placed) → NotAbove a b → NotAbove b a → a.job.number ≡ b.job.number
above-once a b l m = omega (arith, l, m)

module _ {X : Type 0} (f : X → ℕ) (B : X → X → Type 0) (one : (x y : X) → B x y → B y x → f x ≡ f y) where
  first-same : (x y : X) (xs ys : List X) → All (B x) xs → All (B y) ys → ((n : ℕ) → look f n (x ∷ xs) ≡ look f n (y ∷ ys)) → f x ≡ f y
  first-same x y xs ys a b h =
      ⊎_elim
      (λ (e : f x ≡ f y). e)
      (λ (ne : f x ≡ f y → ⊥).
      let y-behind : look f (f y) xs ≡ Some y = sym (look-past f (f y) x xs ne) ∙ h (f y) ∙ look-here f (f y) y ys refl in
      let x-behind : look f (f x) ys ≡ Some x = sym (look-past f (f x) y ys (λ e. ne (sym e))) ∙ sym (h (f x)) ∙ look-here f (f x) x xs refl in
      one x y (All-find (B x) (λ z. nat_eq (f z) (f y)) xs y y-behind a) (All-find (B y) (λ z. nat_eq (f z) (f x)) ys x x-behind b))
      (cases_eq (f x) (f y))

  rest-same : (x y : X) (xs ys : List X) → f x ≡ f y → Once f (x ∷ xs) → Once f (y ∷ ys) → ((n : ℕ) → look f n (x ∷ xs) ≡ look f n (y ∷ ys)) → (n : ℕ) → look f n xs ≡ look f n ys
  rest-same x y xs ys same o q h n =
      ⊎_elim
      (λ (e : f x ≡ n). look-others f n x xs e (o n) ∙ sym (look-others f n y ys (sym same ∙ e) (q n)))
      (λ (ne : f x ≡ n → ⊥). sym (look-past f n x xs ne) ∙ h n ∙ look-past f n y ys (λ e. ne (same ∙ e)))
      (cases_eq (f x) n)

  -- two lists in order, each without two of one number, are equal where each number finds the same in both
  pub same-rows : (xs ys : List X) → Rises B xs → Rises B ys → Once f xs → Once f ys → ((n : ℕ) → look f n xs ≡ look f n ys) → xs ≡ ys
  same-rows [] [] r s o q h = refl
  same-rows [] (y ∷ ys) r s o q h = absurd (let k : None ≡ Some y = h (f y) ∙ look-here f (f y) y ys refl in cc)
  same-rows (x ∷ xs) [] r s o q h = absurd (let k : None ≡ Some x = sym (h (f x)) ∙ look-here f (f x) x xs refl in cc)
  same-rows (x ∷ xs) (y ∷ ys) r s o q h =
      let same : f x ≡ f y = first-same x y xs ys r.0 s.0 h in
      let k : Some x ≡ Some y = sym (look-here f (f x) x xs refl) ∙ h (f x) ∙ look-here f (f x) y ys (sym same) in
      let e : x ≡ y = cc in
      let t : xs ≡ ys = same-rows xs ys r.1 s.1 (once-tail f x xs o) (once-tail f y ys q) (rest-same x y xs ys same o q h) in
      cc
