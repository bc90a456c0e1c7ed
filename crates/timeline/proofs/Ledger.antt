-- The ledger of two plans' starts is kept start by start: who started in one of them alone, and until when those run who started at different seconds.
use Rattle.std.proofs.Common.{◌≡◌, ℕ, ◌+◌, Bool, true, false, cond, not, ◌&&◌, nat_eq, max, List, [], ◌∷◌, ◌++◌, append-nil, Option, Some, None, filter, refl, sym, ◌∙◌, ap, arith, subst, ⊎_elim}
use Rattle.std.specs.Prelude.{is_none}
use Rattle.std.specs.Option.{option_map, option_or}
use Rattle.std.proofs.lemmas.List.Elements.{filter-append}
use Rattle.std.proofs.lemmas.Bool.{cond_both, cond-true, cond-false, cases_Bool, cases_eq, eq-eqb, ne_eqb}
use Rattle.scenarios.specs.Job.{EffectiveJob}
use Rattle.scenarios.specs.Plan.{job_numbered}
use Rattle.easy_rule.specs.declared.start.Start.{Start}
use Rattle.easy_rule.specs.Simulation.{start_of}
use Rattle.timeline.specs.Ledger.{Ledger, LedgersSwap, NotesKeepTheLedger, alone, apart_until, all_apart_until, ledger_of, noted_beside}
use Rattle.timeline.proofs.Lookups.{look, Once, job_of, look-here, look-past, look-others, once-tail, start-append}

abbrev start_in : Start → ℕ
start_in x = x.number

filter-same : {X : Type 0} (p q : X → Bool) (xs : List X) → ((x : X) → p x ≡ q x) → filter p xs ≡ filter q xs
filter-same p q [] h = refl
filter-same p q (x ∷ xs) h = ap (λ b. cond b (x ∷ filter p xs) (filter p xs)) (h x) ∙ ap (λ l. cond (q x) (x ∷ l) l) (filter-same p q xs h)

filter-both : {X : Type 0} (p q : X → Bool) (xs : List X) → filter (λ x. p x && q x) xs ≡ filter q (filter p xs)
filter-both p q [] = refl
filter-both p q (x ∷ xs) =
    let both = filter (λ z. p z && q z) xs in
    ⊎_elim
    (λ (y : p x ≡ true).
    ap (λ b. cond (b && q x) (x ∷ both) both) y ∙ ap (λ l. cond (q x) (x ∷ l) l) (filter-both p q xs) ∙ sym (ap (filter q) (cond-true (p x) (x ∷ filter p xs) (filter p xs) y)))
    (λ (y : p x ≡ false).
    ap (λ b. cond (b && q x) (x ∷ both) both) y ∙ filter-both p q xs ∙ sym (ap (filter q) (cond-false (p x) (x ∷ filter p xs) (filter p xs) y)))
    (cases_Bool (p x))

look-by : (test : ℕ → Bool) (n : ℕ) (xs : List Start) → test n ≡ true → look start_in n (filter (λ (x : Start). test x.number) xs) ≡ look start_in n xs
look-by test n [] e = refl
look-by test n (x ∷ xs) e =
    let p : Start → Bool = λ y. test y.number in
    ⊎_elim
    (λ (here : x.number ≡ n).
    ap (look start_in n) (cond-true (p x) (x ∷ filter p xs) (filter p xs) (ap test here ∙ e)) ∙ look-here start_in n x (filter p xs) here ∙ sym (look-here start_in n x xs here))
    (λ (ne : x.number ≡ n → ⊥).
    cond_both (p x) (x ∷ filter p xs) (filter p xs) (λ l. look start_in n l ≡ look start_in n xs) (λ _. look-past start_in n x (filter p xs) ne ∙ look-by test n xs e) (λ _. look-by test n xs e)
    ∙ sym (look-past start_in n x xs ne))
    (cases_eq x.number n)

none-leaves : (n : ℕ) (xs : List Start) → start_of xs n ≡ None → filter (λ (y : Start). not (nat_eq n y.number)) xs ≡ xs
none-leaves n [] e = refl
none-leaves n (x ∷ xs) e =
    let q : Start → Bool = λ y. not (nat_eq n y.number) in
    ⊎_elim
    (λ (here : x.number ≡ n). absurd (let k : Some x.at ≡ None = sym (ap (option_map (λ (y : Start). y.at)) (look-here start_in n x xs here)) ∙ e in cc))
    (λ (ne : x.number ≡ n → ⊥).
    cond-true (q x) (x ∷ filter q xs) (filter q xs) (ap not (ne_eqb n x.number (λ h. ne (sym h))))
    ∙ ap (λ l. x ∷ l) (none-leaves n xs (sym (ap (option_map (λ (y : Start). y.at)) (look-past start_in n x xs ne)) ∙ e)))
    (cases_eq x.number n)

start-more : (n : ℕ) (xs : List Start) (x : Start) → x.number ≡ n → start_of xs n ≡ None → start_of (xs ++ x ∷ []) n ≡ Some x.at
start-more n xs x e none =
    start-append n xs (x ∷ []) ∙ ap (λ o. option_or o (start_of (x ∷ []) n)) none ∙ ap (option_map (λ (y : Start). y.at)) (look-here start_in n x [] e)

or-none : (o : Option ℕ) → option_or o None ≡ o
or-none None = refl
or-none (Some a) = refl

start-other : (n : ℕ) (xs : List Start) (x : Start) → (x.number ≡ n → ⊥) → start_of (xs ++ x ∷ []) n ≡ start_of xs n
start-other n xs x ne =
    start-append n xs (x ∷ []) ∙ ap (λ o. option_or (start_of xs n) o) (ap (option_map (λ (y : Start). y.at)) (look-past start_in n x [] ne)) ∙ or-none (start_of xs n)

and-none : (b : Bool) → (b && true) ≡ b
and-none true = refl
and-none false = refl

and-gone : (b : Bool) → (b && false) ≡ false
and-gone true = refl
and-gone false = refl

module _ (touched : ℕ → Bool) (x : Start) (starts others : List Start) (new : start_of starts x.number ≡ None) where
  there-touched : touched x.number ≡ true → alone touched others (starts ++ x ∷ []) ≡ alone touched others starts
  there-touched e =
      filter-same (λ (y : Start). not (touched y.number) && is_none (start_of (starts ++ x ∷ []) y.number)) (λ (y : Start). not (touched y.number) && is_none (start_of starts y.number)) others
      (λ y. ⊎_elim
      (λ (s : x.number ≡ y.number).
      let t : not (touched y.number) ≡ false = ap (λ m. not (touched m)) (sym s) ∙ ap not e in
      ap (λ b. b && is_none (start_of (starts ++ x ∷ []) y.number)) t ∙ sym (ap (λ b. b && is_none (start_of starts y.number)) t))
      (λ (ne : x.number ≡ y.number → ⊥). ap (λ o. not (touched y.number) && is_none o) (start-other y.number starts x ne))
      (cases_eq x.number y.number))

  there-left : alone touched others (starts ++ x ∷ []) ≡ filter (λ (y : Start). not (nat_eq x.number y.number)) (alone touched others starts)
  there-left =
      let p : Start → Bool = λ y. not (touched y.number) && is_none (start_of starts y.number) in
      let q : Start → Bool = λ y. not (nat_eq x.number y.number) in
      filter-same (λ (y : Start). not (touched y.number) && is_none (start_of (starts ++ x ∷ []) y.number)) (λ y. p y && q y) others
      (λ y. ⊎_elim
      (λ (s : x.number ≡ y.number).
      ap (λ o. not (touched y.number) && is_none o) (start-more y.number starts x s (subst (λ m. start_of starts m ≡ None) s new)) ∙ and-gone (not (touched y.number))
      ∙ sym (ap (λ b. p y && not b) (eq-eqb x.number y.number s) ∙ and-gone (p y)))
      (λ (ne : x.number ≡ y.number → ⊥).
      ap (λ o. not (touched y.number) && is_none o) (start-other y.number starts x ne) ∙ sym (ap (λ b. p y && not b) (ne_eqb x.number y.number ne) ∙ and-none (p y)))
      (cases_eq x.number y.number))
      ∙ filter-both p q others

  there-found : touched x.number ≡ false → start_of (alone touched others starts) x.number ≡ start_of others x.number
  there-found e =
      ap (option_map (λ (y : Start). y.at))
      (look-by (λ m. not (touched m) && is_none (start_of starts m)) x.number others (ap (λ b. not b && is_none (start_of starts x.number)) e ∙ ap (λ o. is_none o) new))

  here-is : (b : Bool) → (not (touched x.number) && is_none (start_of others x.number)) ≡ b → alone touched (starts ++ x ∷ []) others ≡ cond b (alone touched starts others ++ x ∷ []) (alone touched starts others)
  here-is b e =
      let p : Start → Bool = λ y. not (touched y.number) && is_none (start_of others y.number) in
      filter-append p starts (x ∷ []) ∙ ap (λ c. alone touched starts others ++ cond c (x ∷ []) []) e ∙ pushed b
    where
      pushed : (c : Bool) → alone touched starts others ++ cond c (x ∷ []) [] ≡ cond c (alone touched starts others ++ x ∷ []) (alone touched starts others)
      pushed true = refl
      pushed false = append-nil (alone touched starts others)

nothing : (b : Bool) → cond {A = ℕ} b 0 0 ≡ 0
nothing true = refl
nothing false = refl

abbrev one_of : (ℕ → Bool) → EffectiveJob → Option ℕ → Option ℕ → ℕ
one_of touched j a b = cond (touched j.number) 0 (apart_until j a b)

module _ (touched : ℕ → Bool) (x : Start) (starts others : List Start) (new : start_of starts x.number ≡ None) where
  until-other : (js : List EffectiveJob) → job_numbered js x.number ≡ None → all_apart_until touched js (starts ++ x ∷ []) others ≡ all_apart_until touched js starts others
  until-other [] e = refl
  until-other (j ∷ js) e =
      ⊎_elim
      (λ (s : j.number ≡ x.number). absurd (let k : Some j ≡ None = sym (look-here job_of x.number j js s) ∙ e in cc))
      (λ (ne : j.number ≡ x.number → ⊥).
      let head = ap (λ o. one_of touched j o (start_of others j.number)) (start-other j.number starts x (λ s. ne (sym s))) in
      let rest = until-other js (sym (look-past job_of x.number j js ne) ∙ e) in
      omega (arith, head, rest))
      (cases_eq j.number x.number)

  pub until-more : (js : List EffectiveJob) (job : EffectiveJob) → Once job_of js → job_numbered js x.number ≡ Some job
      → all_apart_until touched js (starts ++ x ∷ []) others ≡ max (all_apart_until touched js starts others) (cond (touched x.number) 0 (apart_until job (Some x.at) (start_of others x.number)))
  until-more [] job once e = absurd (let k : None ≡ Some job = e in cc)
  until-more (j ∷ js) job once e =
      ⊎_elim
      (λ (s : j.number ≡ x.number).
      let k : Some j ≡ Some job = sym (look-here job_of x.number j js s) ∙ e in
      let is : j ≡ job = cc in
      let was : one_of touched j (start_of starts j.number) (start_of others j.number) ≡ 0 =
      ap (λ m. one_of touched j (start_of starts m) (start_of others j.number)) s ∙ ap (λ o. one_of touched j o (start_of others j.number)) new ∙ nothing (touched j.number) in
      let now : one_of touched j (start_of (starts ++ x ∷ []) j.number) (start_of others j.number) ≡ cond (touched x.number) 0 (apart_until job (Some x.at) (start_of others x.number)) =
      ap (λ o. one_of touched j o (start_of others j.number)) (start-more j.number starts x (sym s) (subst (λ m. start_of starts m ≡ None) (sym s) new))
      ∙ ap (λ m. cond (touched m) 0 (apart_until j (Some x.at) (start_of others m))) s ∙ ap (λ (i : EffectiveJob). cond (touched x.number) 0 (apart_until i (Some x.at) (start_of others x.number))) is in
      let rest = until-other js (look-others job_of x.number j js s (once x.number)) in
      omega (arith, was, now, rest))
      (λ (ne : j.number ≡ x.number → ⊥).
      let head = ap (λ o. one_of touched j o (start_of others j.number)) (start-other j.number starts x (λ s. ne (sym s))) in
      let rest = until-more js job (once-tail job_of j js once) (sym (look-past job_of x.number j js ne) ∙ e) in
      omega (arith, head, rest))
      (cases_eq j.number x.number)

made-of : (l : Ledger) (hs ts : List Start) (u : ℕ) → l.here ≡ hs → l.there ≡ ts → l.until ≡ u → l ≡ (let z : Ledger = record { here = hs; there = ts; until = u } in z)
made-of l hs ts u a b c = λ i. record { here = a i; there = b i; until = c i }

-- with a number's first start in the one plan, the ledger is the one before with that start noted
pub notes-keep-the-ledger : NotesKeepTheLedger
notes-keep-the-ledger touched jobs job starts others x once found new =
    let was = ledger_of touched jobs starts others in
    let is = ledger_of touched jobs (starts ++ x ∷ []) others in
    let late = until-more touched x starts others new jobs job once found in
    ⊎_elim
    (λ (e : touched x.number ≡ true).
    let none : (not (touched x.number) && is_none (start_of others x.number)) ≡ false = ap (λ b. not b && is_none (start_of others x.number)) e in
    let zero' = cond-true (touched x.number) 0 (apart_until job (Some x.at) (start_of others x.number)) e in
    made-of is was.here was.there was.until (here-is touched x starts others new false none) (there-touched touched x starts others new e) (omega (arith, late, zero'))
    ∙ sym (cond-true (touched x.number) was (noted_beside job x was (start_of was.there x.number)) e))
    (λ (e : touched x.number ≡ false).
    let apart : all_apart_until touched jobs (starts ++ x ∷ []) others ≡ max was.until (apart_until job (Some x.at) (start_of others x.number)) =
    late ∙ ap (λ m. max was.until m) (cond-false (touched x.number) 0 (apart_until job (Some x.at) (start_of others x.number)) e) in
    beside e (start_of others x.number) refl apart
    ∙ sym (cond-false (touched x.number) was (noted_beside job x was (start_of was.there x.number)) e ∙ ap (noted_beside job x was) (there-found touched x starts others new e)))
    (cases_Bool (touched x.number))
  where
    beside : touched x.number ≡ false → (o : Option ℕ) → start_of others x.number ≡ o → all_apart_until touched jobs (starts ++ x ∷ []) others ≡ max (all_apart_until touched jobs starts others) (apart_until job (Some x.at) o)
        → ledger_of touched jobs (starts ++ x ∷ []) others ≡ noted_beside job x (ledger_of touched jobs starts others) o
    beside e None f late =
        made-of (ledger_of touched jobs (starts ++ x ∷ []) others) (alone touched starts others ++ x ∷ []) (alone touched others starts) (all_apart_until touched jobs starts others)
        (here-is touched x starts others new true (ap (λ b. not b && is_none (start_of others x.number)) e ∙ ap (λ o. is_none o) f))
        (there-left touched x starts others new ∙ none-leaves x.number (alone touched others starts) (there-found touched x starts others new e ∙ f))
        (omega (arith, late))
    beside e (Some other) f late =
        made-of (ledger_of touched jobs (starts ++ x ∷ []) others) (alone touched starts others) (filter (λ (y : Start). not (nat_eq x.number y.number)) (alone touched others starts)) (max (all_apart_until touched jobs starts others) (apart_until job (Some x.at) (Some other)))
        (here-is touched x starts others new false (ap (λ b. not b && is_none (start_of others x.number)) e ∙ ap (λ o. is_none o) f))
        (there-left touched x starts others new)
        late

apart-swap : (j : EffectiveJob) (a b : Option ℕ) → apart_until j a b ≡ apart_until j b a
apart-swap j None None = refl
apart-swap j None (Some b) = refl
apart-swap j (Some a) None = refl
apart-swap j (Some a) (Some b) =
    ⊎_elim
    (λ (e : a ≡ b). cond-true (nat_eq a b) 0 (max a b + j.length + 1) (eq-eqb a b e) ∙ sym (cond-true (nat_eq b a) 0 (max b a + j.length + 1) (eq-eqb b a (sym e))))
    (λ (ne : a ≡ b → ⊥).
    let k = cond-false (nat_eq a b) 0 (max a b + j.length + 1) (ne_eqb a b ne) in
    let l = cond-false (nat_eq b a) 0 (max b a + j.length + 1) (ne_eqb b a (λ s. ne (sym s))) in
    omega (arith, k, l))
    (cases_eq a b)

until-swap : (touched : ℕ → Bool) (js : List EffectiveJob) (xs ys : List Start) → all_apart_until touched js xs ys ≡ all_apart_until touched js ys xs
until-swap touched [] xs ys = refl
until-swap touched (j ∷ js) xs ys =
    let head = ap (λ m. cond (touched j.number) 0 m) (apart-swap j (start_of xs j.number) (start_of ys j.number)) in
    let rest = until-swap touched js xs ys in
    omega (arith, head, rest)

-- as the other plan sees it, the ledger has its two sides exchanged
pub ledgers-swap : LedgersSwap
ledgers-swap touched jobs starts others =
    made-of (ledger_of touched jobs others starts) (alone touched others starts) (alone touched starts others) (all_apart_until touched jobs starts others) refl refl (until-swap touched jobs others starts)
