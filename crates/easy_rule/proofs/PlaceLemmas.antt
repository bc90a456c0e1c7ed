-- Places of which some are empty, and the first of them that passes: tests that answer the same of all who wait have the same one, and those who
-- wait from a place on are some who do not pass, and those from the first one on.
use Rattle.std.proofs.Common.{◌≡◌, ℕ, zero, suc, ◌+◌, ◌≤◌, Bool, true, false, List, [], ◌∷◌, ◌++◌, length, drop, Option, None, Some, All, refl, sym, ◌∙◌, ap, arith}
use Rattle.std.proofs.lemmas.List.Elements.{All-head, All-tail, All-nil, All-cons}
use Rattle.std.proofs.lemmas.Bool.{true≢false}
use Rattle.waiting_places.specs.Offers.{holds}
use Rattle.waiting_places.specs.Places.{IsFirst, NonePasses, at_place, waiting}

module _ {X : Type 0} where
  pub at-All : (P : X → Type 0) (places : List (Option X)) (k : ℕ) (x : X) → All P (waiting places) → at_place places k ≡ Some x → P x
  at-All P [] k x a e = cc
  at-All P (None ∷ ps) zero x a e = cc
  at-All P (None ∷ ps) (suc k) x a e = at-All P ps k x a e
  at-All P (Some y ∷ ps) zero x a e = let same : y ≡ x = cc in rw (← same) (All-head P y (waiting ps) a)
  at-All P (Some y ∷ ps) (suc k) x a e = at-All P ps k x (All-tail P y (waiting ps) a) e

  holds-same : (p q : X → Bool) (places : List (Option X)) (k : ℕ) → All (λ x. p x ≡ q x) (waiting places) → holds p (at_place places k) ≡ holds q (at_place places k)
  holds-same p q places k a = go (at_place places k) refl
    where
      go : (o : Option X) → at_place places k ≡ o → holds p o ≡ holds q o
      go None e = refl
      go (Some x) e = at-All (λ x. p x ≡ q x) places k x a e

  -- tests that answer the same of all who wait have the same first place
  pub first-same : (p q : X → Bool) (places : List (Option X)) (from to : ℕ) (r : Option ℕ) → All (λ x. p x ≡ q x) (waiting places) → IsFirst (holds p) places from to r → IsFirst (holds q) places from to r
  first-same p q places from to None a none = λ k l u. sym (holds-same p q places k a) ∙ none k l u
  first-same p q places from to (Some k) a f = (f.0, f.1, sym (holds-same p q places k a) ∙ f.2, λ m l u. sym (holds-same p q places m a) ∙ f.3 m l u)

pub record Skips {X : Type 0} (q : X → Bool) (places : List (Option X)) (from to : ℕ) : Type 0 where
  pub skip : List X
  pub parts : waiting (drop from places) ≡ skip ++ waiting (drop to places)
  pub refused : All (λ x. q x ≡ false) skip

module _ {X : Type 0} (q : X → Bool) where
  behind : (o : Option X) (ps : List (Option X)) (from to : ℕ) → NonePasses (holds q) (o ∷ ps) (suc from) (suc to) → NonePasses (holds q) ps from to
  behind o ps from to none k l u = none (suc k) (omega arith) (omega arith)

  next-one : (o : Option X) (ps : List (Option X)) (to : ℕ) → NonePasses (holds q) (o ∷ ps) 0 (suc to) → NonePasses (holds q) ps 0 to
  next-one o ps to none k l u = none (suc k) (omega arith) (omega arith)

  from-first : (places : List (Option X)) (to : ℕ) → NonePasses (holds q) places 0 to → Skips q places 0 to
  from-first places zero none = record { skip = []; parts = refl; refused = All-nil (λ x. q x ≡ false) }
  from-first [] (suc to) none = record { skip = []; parts = refl; refused = All-nil (λ x. q x ≡ false) }
  from-first (None ∷ ps) (suc to) none =
      let i = from-first ps to (next-one None ps to none) in
      record { skip = i.skip; parts = i.parts; refused = i.refused }
  from-first (Some x ∷ ps) (suc to) none =
      let i = from-first ps to (next-one (Some x) ps to none) in
      record {
        skip = x ∷ i.skip;
        parts = ap (λ l. x ∷ l) i.parts;
        refused = All-cons (λ x. q x ≡ false) x i.skip (none 0 (omega arith) (omega arith)) i.refused;
      }

  -- where no place from one to another passes, those from the one on are some who do not pass, and those from the other on
  pub skips : (places : List (Option X)) (from to : ℕ) → from ≤ to → NonePasses (holds q) places from to → Skips q places from to
  skips places zero to l none = from-first places to none
  skips [] (suc from) zero l none = absurd (omega (arith, l))
  skips [] (suc from) (suc to) l none = record { skip = []; parts = refl; refused = All-nil (λ x. q x ≡ false) }
  skips (o ∷ ps) (suc from) zero l none = absurd (omega (arith, l))
  skips (o ∷ ps) (suc from) (suc to) l none =
      let i = skips ps from to (omega (arith, l)) (behind o ps from to none) in
      record { skip = i.skip; parts = i.parts; refused = i.refused }

  -- at a place that passes stands one who passes
  pub passes-at : (places : List (Option X)) (k : ℕ) → holds q (at_place places k) ≡ true → (x : X) × (at_place places k ≡ Some x) × (q x ≡ true)
  passes-at places k y = go (at_place places k) refl y
    where
      go : (o : Option X) → at_place places k ≡ o → holds q o ≡ true → (x : X) × (at_place places k ≡ Some x) × (q x ≡ true)
      go None e y = absurd (true≢false (sym y))
      go (Some x) e y = (x, e, y)

module _ {X : Type 0} where
  -- those who wait from a job's place on are this job and those behind it
  pub waiting-at : (places : List (Option X)) (k : ℕ) (x : X) → at_place places k ≡ Some x → waiting (drop k places) ≡ x ∷ waiting (drop (k + 1) places)
  waiting-at [] k x e = cc
  waiting-at (None ∷ ps) zero x e = cc
  waiting-at (Some y ∷ ps) zero x e = let same : y ≡ x = cc in ap (λ z. z ∷ waiting ps) same
  waiting-at (o ∷ ps) (suc k) x e = waiting-at ps k x e ∙ ap (λ n. x ∷ waiting (drop n (o ∷ ps))) (let m : suc (k + 1) ≡ suc k + 1 = omega arith in m)

  -- past the last place nobody waits
  pub past : (places : List (Option X)) (k : ℕ) → length places ≤ k → waiting (drop k places) ≡ []
  past places zero l = nobody places (omega (arith, l))
    where
      nobody : (ps : List (Option X)) → length ps ≤ 0 → waiting ps ≡ []
      nobody [] l = refl
      nobody (o ∷ ps) l = absurd (omega (arith, l))
  past [] (suc k) l = refl
  past (o ∷ ps) (suc k) l = past ps k (omega (arith, l))
