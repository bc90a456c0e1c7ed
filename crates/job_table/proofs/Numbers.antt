-- Pairs that rise by job number: where one stands, and what they give after an edit, which puts a pair in, takes one out, or gives
-- a number another second.
use Rattle.std.proofs.Common.{◌≡◌, ℕ, suc, ◌+◌, ◌<◌, ◌≤◌, List, [], ◌∷◌, Option, Some, None, Bool, true, false, ◌==◌, find, length, option_map, is_some, insert, remove, slice_get, slice_set, refl, ap, sym, subst, ◌∙◌, arith, if◌then◌else◌}
use Rattle.std.specs.List.Sorted.{IsPartitionedBy}
use Rattle.std.proofs.lemmas.Bool.Decides.{nat_tests}
use Rattle.chunks.specs.Chunks.{place_in, stands}
use Rattle.chunks.specs.declared.numbered.Numbered.{Numbered}
use Rattle.job_table.specs.Table.{number_in, second_in, second_of, IsBelow, NumbersRise}
use Rattle.job_table.proofs.Arrangement.{comes, Leads}
use Rattle.job_table.proofs.Keyed.{Rise, Apart, Lacks, found, left, placed, parted, same_number, other_number, found-number, found-placed, found-without, found-Lacks, insert-placed, remove_place, rising-placed, rising-without, Lacks-from_none, none_there, at_within, get_place}

one_more : (k : ℕ) → 1 + k ≡ suc k
one_more k = omega arith

abbrev pub Up : List Numbered → Type 0
Up pairs = Rise number_in number_in pairs

less-comes : (a b : ℕ) → a < b → comes a a b b ≡ true
less-comes a b h = grind (arith, nat_tests)

comes-less : (a b : ℕ) → comes a a b b ≡ true → a < b
comes-less a b h = grind (arith, nat_tests)

comes-not : (a b : ℕ) → comes a a b b ≡ false → b ≤ a
comes-not a b h = grind (arith, nat_tests)

leads-below : (p : Numbered) (ps : List Numbered) → IsBelow (number_in p) ps → Leads number_in number_in p ps
leads-below p [] h = tt
leads-below p (q ∷ ps) h = (less-comes (number_in p) (number_in q) h.0, leads-below p ps h.1)

below-leads : (p : Numbered) (ps : List Numbered) → Leads number_in number_in p ps → IsBelow (number_in p) ps
below-leads p [] h = tt
below-leads p (q ∷ ps) h = (comes-less (number_in p) (number_in q) h.0, below-leads p ps h.1)

pub up-from : (ps : List Numbered) → NumbersRise ps → Up ps
up-from [] h = tt
up-from (p ∷ ps) h = (leads-below p ps h.0, up-from ps h.1)

-- pairs of which each comes before all later ones by number have rising numbers
pub rise-from : (ps : List Numbered) → Up ps → NumbersRise ps
rise-from [] h = tt
rise-from (p ∷ ps) h = (below-leads p ps h.0, rise-from ps h.1)

-- of pairs with rising numbers, those below a number stand before all others
pub parted-numbers : (n : ℕ) (ps : List Numbered) → NumbersRise ps → IsPartitionedBy (stands number_in number_in n n) ps
parted-numbers n ps h = parted number_in number_in n n ps (up-from ps h)

lacks-below : (n : ℕ) (ps : List Numbered) → IsBelow n ps → Lacks number_in number_in n ps
lacks-below n [] h = tt
lacks-below n (p ∷ ps) h = ((λ e. absurd (omega (arith, h.0, e))), lacks-below n ps h.1)

below-down : (n m : ℕ) (ps : List Numbered) → n ≤ m → IsBelow m ps → IsBelow n ps
below-down n m [] le h = tt
below-down n m (p ∷ ps) le h = (omega (arith, le, h.0), below-down n m ps le h.1)

apart-from : (ps : List Numbered) → NumbersRise ps → Apart number_in number_in ps
apart-from [] h = tt
apart-from (p ∷ ps) h = (lacks-below (number_in p) ps h.0, apart-from ps h.1)

abbrev pub has : ℕ → Option Numbered → Bool
has n None = false
has n (Some p) = number_in p == n

none-below : (n : ℕ) (ps : List Numbered) → IsBelow n ps → is_some (second_of ps n) ≡ false
none-below n ps h = ap (λ (o : Option Numbered). is_some (option_map second_in o)) (found-Lacks number_in number_in n ps (lacks-below n ps h))

pub has-is : (n : ℕ) (ps : List Numbered) → NumbersRise ps → has n (slice_get ps (place_in number_in number_in n n ps)) ≡ is_some (second_of ps n)
has-is n [] h = refl
has-is n (p ∷ ps) h = go (stands number_in number_in n n p) refl (number_in p == n) refl (has-is n ps h.1)
  where
    go : (b : Bool) → stands number_in number_in n n p ≡ b → (d : Bool) → (number_in p == n) ≡ d → has n (slice_get ps (place_in number_in number_in n n ps)) ≡ is_some (second_of ps n)
        → has n (slice_get (p ∷ ps) (place_in number_in number_in n n (p ∷ ps))) ≡ is_some (second_of (p ∷ ps) n)
    go true t true u i = absurd (let lt : number_in p < n = comes-less (number_in p) n t in omega (arith, lt, same_number (number_in p) n u))
    go true t false u i = rw (t, u, one_more) i
    go false t true u i = rw (t, u) refl
    go false t false u i =
        let le : n ≤ number_in p = comes-not (number_in p) n t in
        rw (t, u) (sym (none-below n ps (below-down n (number_in p) ps le h.0)))

-- the pair at the place of a number has the number exactly if the pairs give it a second
pub has-copied : (n : ℕ) (ps : List Numbered) (o : Option Numbered) → NumbersRise ps → o ≡ slice_get ps (place_in number_in number_in n n ps) → has n o ≡ is_some (second_of ps n)
has-copied n ps o h e = ap (has n) e ∙ has-is n ps h

abbrev pub outcome : ℕ → Option Numbered → Option ℕ
outcome n None = None
outcome n (Some p) = if number_in p == n then Some (second_in p) else None

pub outcome-is : (n : ℕ) (ps : List Numbered) → NumbersRise ps → outcome n (slice_get ps (place_in number_in number_in n n ps)) ≡ second_of ps n
outcome-is n [] h = refl
outcome-is n (p ∷ ps) h = go (stands number_in number_in n n p) refl (number_in p == n) refl (outcome-is n ps h.1)
  where
    go : (b : Bool) → stands number_in number_in n n p ≡ b → (d : Bool) → (number_in p == n) ≡ d → outcome n (slice_get ps (place_in number_in number_in n n ps)) ≡ second_of ps n
        → outcome n (slice_get (p ∷ ps) (place_in number_in number_in n n (p ∷ ps))) ≡ second_of (p ∷ ps) n
    go true t true u i = absurd (let lt : number_in p < n = comes-less (number_in p) n t in omega (arith, lt, same_number (number_in p) n u))
    go true t false u i = rw (t, u, one_more) i
    go false t true u i = rw (t, u) refl
    go false t false u i =
        let le : n ≤ number_in p = comes-not (number_in p) n t in
        let none : second_of ps n ≡ None = ap (λ (o : Option Numbered). option_map second_in o) (found-Lacks number_in number_in n ps (lacks-below n ps (below-down n (number_in p) ps le h.0))) in
        rw (t, u) (sym none)

-- a pair with the number at its place has the second that the pairs give it; where there is no such pair, they give none
pub outcome-copied : (n : ℕ) (ps : List Numbered) (o : Option Numbered) → NumbersRise ps → o ≡ slice_get ps (place_in number_in number_in n n ps) → outcome n o ≡ second_of ps n
outcome-copied n ps o h e = ap (outcome n) e ∙ outcome-is n ps h

given : (b : Bool) (p : Numbered) (o : Option Numbered) → option_map second_in (if b then Some p else o) ≡ (if b then Some (second_in p) else option_map second_in o)
given true p o = refl
given false p o = refl

module _ (pair : Numbered) (ps new : List Numbered) (h : NumbersRise ps) where
  lacks-new : second_of ps (number_in pair) ≡ None → Lacks number_in number_in (number_in pair) ps
  lacks-new e = Lacks-from_none number_in number_in (number_in pair) ps (none_there second_in number_in (number_in pair) ps (sym e))

  -- pairs that rise by number rise with a pair put in at its place, where they give no second to its number
  pub more-rises : second_of ps (number_in pair) ≡ None → new ≡ insert ps (place_in number_in number_in (number_in pair) (number_in pair) ps) pair → NumbersRise new
  more-rises e f = subst NumbersRise (sym (f ∙ insert-placed number_in number_in pair ps)) (rise-from (placed number_in number_in pair ps) (rising-placed number_in number_in pair ps (up-from ps h) (lacks-new e)))

  -- with a pair of a new number put in at its place, the pairs give its number its second, and each other number what they gave before
  pub more-gives : second_of ps (number_in pair) ≡ None → new ≡ insert ps (place_in number_in number_in (number_in pair) (number_in pair) ps) pair → (q : ℕ) → second_of new q ≡ (if number_in pair == q then Some (second_in pair) else second_of ps q)
  more-gives e f q =
      ap (λ (l : List Numbered). second_of l q) (f ∙ insert-placed number_in number_in pair ps)
      ∙ ap (λ (o : Option Numbered). option_map second_in o) (found-placed number_in number_in q pair ps (lacks-new e)) ∙ given (number_in pair == q) pair (found number_in number_in q ps)

pub number-there : (n : ℕ) (ps : List Numbered) → is_some (second_of ps n) ≡ true → Some n ≡ option_map number_in (found number_in number_in n ps)
number-there n ps h = go (found number_in number_in n ps) refl h
  where
    go : (o : Option Numbered) → found number_in number_in n ps ≡ o → is_some (option_map second_in o) ≡ true → Some n ≡ option_map number_in o
    go None t k = cc
    go (Some p) t k = ap (λ (m : ℕ). Some m) (sym (found-number number_in number_in n ps p t))

-- the place of a number to which rising pairs give a second is within them
pub number-within : (n : ℕ) (ps : List Numbered) → NumbersRise ps → is_some (second_of ps n) ≡ true → place_in number_in number_in n n ps < length ps
number-within n ps h k = at_within number_in number_in n n ps (place_in number_in number_in n n ps) (number-there n ps k) (get_place number_in number_in n n ps (up-from ps h) (number-there n ps k))

module _ (n : ℕ) (ps new : List Numbered) (h : NumbersRise ps) (k : is_some (second_of ps n) ≡ true) (f : new ≡ remove ps (place_in number_in number_in n n ps)) where
  fewer : new ≡ left number_in number_in n ps
  fewer = f ∙ remove_place number_in number_in n n ps (up-from ps h) (apart-from ps h) (number-there n ps k)

  -- pairs that rise by number rise without the pair of a number to which they give a second
  pub fewer-rises : NumbersRise new
  fewer-rises = subst NumbersRise (sym fewer) (rise-from (left number_in number_in n ps) (rising-without number_in number_in n ps (up-from ps h)))

  -- without the pair of a number, the pairs give that number no second, and each other number what they gave before
  pub fewer-gives : (q : ℕ) → second_of new q ≡ (if n == q then None else second_of ps q)
  fewer-gives q = ap (λ (l : List Numbered). second_of l q) fewer ∙ ap (λ (o : Option Numbered). option_map second_in o) (found-without number_in number_in q n ps) ∙ gone (n == q) (found number_in number_in q ps)
    where
      gone : (b : Bool) (o : Option Numbered) → option_map second_in (if b then None else o) ≡ (if b then None else option_map second_in o)
      gone true o = refl
      gone false o = refl

module _ (pair : Numbered) where
  abbrev pub spot : List Numbered → ℕ
  spot ps = place_in number_in number_in (number_in pair) (number_in pair) ps

  below-set : (m : ℕ) (ps : List Numbered) → m < number_in pair → IsBelow m ps → IsBelow m (slice_set ps (spot ps) pair)
  below-set m [] lt h = tt
  below-set m (p ∷ ps) lt h = go (stands number_in number_in (number_in pair) (number_in pair) p) refl (below-set m ps lt h.1)
    where
      go : (b : Bool) → stands number_in number_in (number_in pair) (number_in pair) p ≡ b → IsBelow m (slice_set ps (spot ps) pair) → IsBelow m (slice_set (p ∷ ps) (spot (p ∷ ps)) pair)
      go true t i = rw (t, one_more) (h.0, i)
      go false t i = rw t (lt, h.1)

  pub set-rises : (ps : List Numbered) → NumbersRise ps → is_some (second_of ps (number_in pair)) ≡ true → NumbersRise (slice_set ps (spot ps) pair)
  set-rises [] h k = tt
  set-rises (p ∷ ps) h k = go (stands number_in number_in (number_in pair) (number_in pair) p) refl (number_in p == number_in pair) refl k (set-rises ps h.1)
    where
      go : (b : Bool) → stands number_in number_in (number_in pair) (number_in pair) p ≡ b → (d : Bool) → (number_in p == number_in pair) ≡ d → is_some (option_map second_in (if number_in p == number_in pair then Some p else find (λ q. number_in q == number_in pair) ps)) ≡ true
          → (is_some (second_of ps (number_in pair)) ≡ true → NumbersRise (slice_set ps (spot ps) pair)) → NumbersRise (slice_set (p ∷ ps) (spot (p ∷ ps)) pair)
      go true t true u k i = absurd (let lt : number_in p < number_in pair = comes-less (number_in p) (number_in pair) t in omega (arith, lt, same_number (number_in p) (number_in pair) u))
      go true t false u k i =
          let lt : number_in p < number_in pair = comes-less (number_in p) (number_in pair) t in
          let r = rw u at k in
          rw (t, one_more) (below-set (number_in p) ps lt h.0, i r)
      go false t true u k i =
          let same : number_in p ≡ number_in pair = same_number (number_in p) (number_in pair) u in
          rw t (subst (λ (m : ℕ). IsBelow m ps) same h.0, h.1)
      go false t false u k i =
          let le : number_in pair ≤ number_in p = comes-not (number_in p) (number_in pair) t in
          let r = rw u at k in
          let none = none-below (number_in pair) ps (below-down (number_in pair) (number_in p) ps le h.0) in
          cc

  pub set-gives : (ps : List Numbered) → NumbersRise ps → is_some (second_of ps (number_in pair)) ≡ true → (q : ℕ) → second_of (slice_set ps (spot ps) pair) q ≡ (if number_in pair == q then Some (second_in pair) else second_of ps q)
  set-gives [] h k q = cc
  set-gives (p ∷ ps) h k q = go (stands number_in number_in (number_in pair) (number_in pair) p) refl (number_in p == number_in pair) refl k (λ r. set-gives ps h.1 r q)
    where
      go : (b : Bool) → stands number_in number_in (number_in pair) (number_in pair) p ≡ b → (d : Bool) → (number_in p == number_in pair) ≡ d → is_some (option_map second_in (if number_in p == number_in pair then Some p else find (λ q. number_in q == number_in pair) ps)) ≡ true
          → (is_some (second_of ps (number_in pair)) ≡ true → second_of (slice_set ps (spot ps) pair) q ≡ (if number_in pair == q then Some (second_in pair) else second_of ps q))
          → second_of (slice_set (p ∷ ps) (spot (p ∷ ps)) pair) q ≡ (if number_in pair == q then Some (second_in pair) else second_of (p ∷ ps) q)
      go true t true u k i = absurd (let lt : number_in p < number_in pair = comes-less (number_in p) (number_in pair) t in omega (arith, lt, same_number (number_in p) (number_in pair) u))
      go true t false u k i =
          let r = rw u at k in
          rw (t, one_more) (kept (number_in p == q) (number_in pair == q) refl refl (i r))
        where
          kept : (a b : Bool) → (number_in p == q) ≡ a → (number_in pair == q) ≡ b → second_of (slice_set ps (spot ps) pair) q ≡ (if number_in pair == q then Some (second_in pair) else second_of ps q)
              → second_of (p ∷ slice_set ps (spot ps) pair) q ≡ (if number_in pair == q then Some (second_in pair) else second_of (p ∷ ps) q)
          kept true true x y j = absurd (other_number (number_in p) (number_in pair) u (same_number (number_in p) q x ∙ sym (same_number (number_in pair) q y)))
          kept true false x y j = rw (x, y) refl
          kept false true x y j = rw (x, j, y) refl
          kept false false x y j = rw (x, j, y) refl
      go false t true u k i =
          let same : number_in p ≡ number_in pair = same_number (number_in p) (number_in pair) u in
          rw t (over (number_in pair == q) refl same)
        where
          over : (b : Bool) → (number_in pair == q) ≡ b → number_in p ≡ number_in pair → second_of (pair ∷ ps) q ≡ (if number_in pair == q then Some (second_in pair) else second_of (p ∷ ps) q)
          over true y e = rw y refl
          over false y e = let z : (number_in p == q) ≡ false = ap (λ (m : ℕ). m == q) e ∙ y in rw (y, z) refl
      go false t false u k i =
          let le : number_in pair ≤ number_in p = comes-not (number_in p) (number_in pair) t in
          let r = rw u at k in
          let none = none-below (number_in pair) ps (below-down (number_in pair) (number_in p) ps le h.0) in
          cc

  module _ (ps new : List Numbered) (h : NumbersRise ps) (k : is_some (second_of ps (number_in pair)) ≡ true) (f : new ≡ slice_set ps (spot ps) pair) where
    -- pairs that rise by number rise with another second at the place of a number that they have
    pub other-rises : NumbersRise new
    other-rises = subst NumbersRise (sym f) (set-rises ps h k)

    -- they give that number the other second, and each other number what they gave before
    pub other-gives : (q : ℕ) → second_of new q ≡ (if number_in pair == q then Some (second_in pair) else second_of ps q)
    other-gives q = ap (λ (l : List Numbered). second_of l q) f ∙ set-gives ps h k q
