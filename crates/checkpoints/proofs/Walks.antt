-- Stretches that are made one after another, of those of a list that are picked and stand somewhere; and the jobs that come between two seconds.
use Rattle.std.proofs.Common.{◌≡◌, ℕ, ◌+◌, ◌≤◌, ◌<◌, nat_le, nat_lt, true, false, cond, ◌&&◌, List, [], ◌∷◌, ◌++◌, map, filter, length, get_or, drop, drop-cons, add-one, suc, Option, Some, None, All, refl, sym, ◌∙◌, ap, arith, append_assoc, ⊎_elim}
use Rattle.std.specs.List.{cons_option, filter_map}
use Rattle.std.proofs.lemmas.Bool.{cases_Bool, cond-true, cond-false, le-ltb, lt-ltb, leb-true, leb-false}
use Rattle.std.proofs.lemmas.List.{map-append}
use Rattle.std.proofs.lemmas.List.Elements.{All-cons, All-head, All-tail, All-weaker, filter-append}
use Rattle.scenarios.specs.Job.{EffectiveJob}
use Rattle.scenarios.specs.Plan.{from_on}
use Rattle.scenarios.proofs.Lemmas.{from-in, from-out}
use Rattle.event_loop.specs.Upcoming.{NonFalling}
use Rattle.frames.specs.Frames.{stands_somewhere}
use Rattle.frames.specs.declared.stretch.Stretch.{Stretch}
use Rattle.timeline.specs.Stretches.{coming_between}

module _ {X Y : Type 0} (stretch : X → Stretch Y) where
  abbrev pub somewhere : List X → List (Stretch Y)
  somewhere xs = filter stands_somewhere (map stretch xs)

  pub somewhere-append : (xs ys : List X) → somewhere (xs ++ ys) ≡ somewhere xs ++ somewhere ys
  somewhere-append xs ys = ap (filter stands_somewhere) (map-append stretch xs ys) ∙ filter-append stands_somewhere (map stretch xs) (map stretch ys)

  -- where the stretches made and those to come are all, and the next one, if it stands somewhere, was put to those made, they and the rest are all
  pub put-one : (made new all : List (Stretch Y)) (x : X) (xs : List X) → new ≡ made ++ somewhere (x ∷ []) → made ++ somewhere (x ∷ xs) ≡ all → new ++ somewhere xs ≡ all
  put-one made new all x xs e h = ap (λ l. l ++ somewhere xs) e ∙ append_assoc made (somewhere (x ∷ [])) (somewhere xs) ∙ ap (λ l. made ++ l) (sym (somewhere-append (x ∷ []) xs)) ∙ h

module _ {W X Y : Type 0} (stretch : X → Stretch Y) (pick : W → Option X) where
  abbrev pub picked : List W → List (Stretch Y)
  picked ws = filter stands_somewhere (map stretch (filter_map pick ws))

  next-picked : (i : ℕ) (ws : List W) (w : W) → i < length ws → w ≡ get_or ws i w → filter_map pick (drop i ws) ≡ cons_option (pick w) (filter_map pick (drop (i + 1) ws))
  next-picked i ws w l e =
      let same : drop i ws ≡ w ∷ drop (i + 1) ws = rw (add-one, drop-cons ws i w) (ap (λ v. v ∷ drop (suc i) ws) (sym e)) in
      ap (filter_map pick) same

  -- where the stretches made and those to come are all, and the next one isn't picked, those made and the rest are all
  pub pick-none : (made all : List (Stretch Y)) (i : ℕ) (ws : List W) (w : W) → i < length ws → w ≡ get_or ws i w → pick w ≡ None → made ++ picked (drop i ws) ≡ all → made ++ picked (drop (i + 1) ws) ≡ all
  pick-none made all i ws w l e none h =
      ap (λ xs. made ++ filter stands_somewhere (map stretch xs)) (sym (next-picked i ws w l e ∙ ap (λ o. cons_option o (filter_map pick (drop (i + 1) ws))) none)) ∙ h

  -- where the stretches made and those to come are all, and the next one is picked and put to those made, they and the rest are all
  pub pick-some : (made new all : List (Stretch Y)) (i : ℕ) (ws : List W) (w : W) (x : X) → i < length ws → w ≡ get_or ws i w → pick w ≡ Some x → new ≡ made ++ somewhere stretch (x ∷ [])
      → made ++ picked (drop i ws) ≡ all → new ++ picked (drop (i + 1) ws) ≡ all
  pick-some made new all i ws w x l e some put h =
      put-one stretch made new all x (filter_map pick (drop (i + 1) ws)) put
      (ap (λ xs. made ++ filter stands_somewhere (map stretch xs)) (sym (next-picked i ws w l e ∙ ap (λ o. cons_option o (filter_map pick (drop (i + 1) ws))) some)) ∙ h)

-- those of these jobs that come before second u
abbrev pub until : ℕ → List EffectiveJob → List EffectiveJob
until u js = filter (λ (j : EffectiveJob). nat_lt j.submit u) js

-- where the first job comes before second u, those that do are it and those of the others that do
pub until-in : (u : ℕ) (j : EffectiveJob) (js : List EffectiveJob) → j.submit < u → until u (j ∷ js) ≡ j ∷ until u js
until-in u j js l = cond-true (nat_lt j.submit u) (j ∷ until u js) (until u js) (lt-ltb j.submit u l)

until-out : (u : ℕ) (j : EffectiveJob) (js : List EffectiveJob) → u ≤ j.submit → until u (j ∷ js) ≡ until u js
until-out u j js l = cond-false (nat_lt j.submit u) (j ∷ until u js) (until u js) (le-ltb j.submit u l)

none-until : (u : ℕ) (js : List EffectiveJob) → All (λ (j : EffectiveJob). u ≤ j.submit) js → until u js ≡ []
none-until u [] h = refl
none-until u (j ∷ js) h = until-out u j js (All-head (λ (j : EffectiveJob). u ≤ j.submit) j js h) ∙ none-until u js (All-tail (λ (j : EffectiveJob). u ≤ j.submit) j js h)

-- of jobs that come in order none comes before second u, where the first doesn't
pub ended-at : (u : ℕ) (j : EffectiveJob) (js : List EffectiveJob) → NonFalling (j ∷ js) → u ≤ j.submit → until u (j ∷ js) ≡ []
ended-at u j js h l = none-until u (j ∷ js) (All-cons (λ (k : EffectiveJob). u ≤ k.submit) j js l (All-weaker (λ (k : EffectiveJob). j.submit ≤ k.submit) (λ (k : EffectiveJob). u ≤ k.submit) (λ k m. omega (arith, l, m)) js h.0))

-- the jobs that come between two seconds are those from the first second on that come before the other
pub coming-is : (a u : ℕ) (js : List EffectiveJob) → coming_between js a u ≡ until u (from_on a js)
coming-is a u [] = refl
coming-is a u (j ∷ js) =
    ⊎_elim
    (λ (y : nat_le a j.submit ≡ true).
    ap (λ b. cond (b && nat_lt j.submit u) (j ∷ coming_between js a u) (coming_between js a u)) y
    ∙ ap (λ l. cond (nat_lt j.submit u) (j ∷ l) l) (coming-is a u js)
    ∙ ap (until u) (sym (from-in a j js (leb-true a j.submit y))))
    (λ (n : nat_le a j.submit ≡ false).
    ap (λ b. cond (b && nat_lt j.submit u) (j ∷ coming_between js a u) (coming_between js a u)) n
    ∙ coming-is a u js
    ∙ ap (until u) (sym (from-out a j js (leb-false a j.submit n))))
    (cases_Bool (nat_le a j.submit))
