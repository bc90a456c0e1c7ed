-- Items that weigh at most so much, by their places, and where blocks begin: a walk over the blocks, up to a place or to the end, which
-- passes over a group none of whose items is light.
use Rattle.std.proofs.Common.{◌≡◌, ℕ, zero, suc, ◌+◌, ◌-◌, ◌<◌, ◌≤◌, Bool, true, false, nat_le, nat_lt, Option, Some, None, List, [], ◌∷◌, ◌++◌, length, length-append, take, drop, slice_get, get_or, set, refl, ap, sym, subst, ◌∙◌, arith, ⊎_elim}
use Rattle.std.specs.List.{All, sum_by}
use Rattle.std.specs.Prelude.{if◌then◌else◌}
use Rattle.std.proofs.lemmas.Bool.Decides.{nat_tests}
use Rattle.std.proofs.lemmas.Bool.{cases_lt}
use Rattle.std.proofs.lemmas.List.{append-nil, set-get_or, take_more}
use Rattle.std.proofs.lemmas.List.Concat.{flat_map-append}
use Rattle.std.proofs.lemmas.List.Sums.{sum_by-append}
use Rattle.std.proofs.lemmas.Option.{slice_get_cases, slice_get_past}
use Rattle.blocks.specs.Rows.{flat, passes, start, weight_to}
use Rattle.blocks.specs.Groups.{IsGroup}
use Rattle.blocks.specs.declared.groups.Group.{Group}
use Rattle.blocks.specs.Light.{IsFirstLight, IsFirstUntil, NoneLight, NoneWithin, is_light}
use Rattle.blocks.proofs.Changes.{flat_at}
use Rattle.blocks.proofs.Edits.{read_is}
use Rattle.blocks.proofs.Found.{get_is, inside_flat}

next : {X : Type 0} (i : ℕ) (cs : List (List X)) (b : List X) → i < length cs → b ≡ get_or cs i b → start (i + 1) cs ≡ start i cs + length b
next {X} i cs b lt read =
    ap (λ (r : List (List X)). length (flat r)) (take_more cs i [] lt) ∙ ap length (flat_map-append (λ (c : List X). c) (take i cs) (get_or cs i [] ∷ [])) ∙ length-append (flat (take i cs)) (flat (get_or cs i [] ∷ []))
    ∙ ap (λ (n : ℕ). start i cs + n) (ap length (append-nil (get_or cs i [])) ∙ ap length (sym (read_is i cs b lt read)))

-- what the blocks weigh together, one block further
pub weight_next : {X : Type 0} (f : X → ℕ) (i : ℕ) (cs : List (List X)) (b : List X) → i < length cs → b ≡ get_or cs i b → (weight more : ℕ) → weight ≡ weight_to f i cs → more ≡ sum_by f b → weight + more ≡ weight_to f (i + 1) cs
weight_next {X} f i cs b lt read weight more sum own =
    let all : flat (take (i + 1) cs) ≡ flat (take i cs) ++ b = ap flat (take_more cs i [] lt) ∙ flat_map-append (λ (c : List X). c) (take i cs) (get_or cs i [] ∷ []) ∙ ap (λ (l : List X). flat (take i cs) ++ l) (append-nil (get_or cs i []) ∙ sym (read_is i cs b lt read)) in
    omega (arith, sum, own, ap (sum_by f) all, sum_by-append f (flat (take i cs)) b)

module _ {X : Type 0} (f : X → ℕ) (limit : ℕ) where
  too_heavy : (x : X) (least : ℕ) → limit < least → least ≤ f x → nat_le (f x) limit ≡ false
  too_heavy x least lt le = grind (arith, nat_tests)

  -- none is light where all weigh more
  pub none_light : (xs : List X) (least from to : ℕ) → limit < least → All (λ x. least ≤ f x) xs → NoneLight f limit xs from to
  none_light xs least from to lt low place _ _ =
      ⊎_elim
      (λ (h : (x : X) × (place < length xs) × (slice_get xs place ≡ Some x) × (get_or xs place x ≡ x)).
      let heavy : nat_le (f h.0) limit ≡ false = too_heavy h.0 least lt (omega (arith, low place h.0 h.1, ap f h.3)) in
      ap (passes (λ x. nat_le (f x) limit)) h.2 ∙ heavy)
      (λ (h : (length xs ≤ place) × (slice_get xs place ≡ None)). ap (passes (λ x. nat_le (f x) limit)) h.1)
      (slice_get_cases xs place).1

  module _ (i from : ℕ) (cs : List (List X)) (b : List X) (lt : i < length cs) (read : b ≡ get_or cs i b) where
    here : b ≡ get_or cs i []
    here = read_is i cs b lt read

    same_at : (at : ℕ) → at < length b → is_light f limit (flat cs) (start i cs + at) ≡ is_light f limit b at
    same_at at le = ap (passes (λ x. nat_le (f x) limit)) (get_is i at cs (λ _. omega (arith, ap length here, le)) ∙ ap (λ (l : List X). slice_get l at) (sym here))

    pub on : (n : ℕ) → n ≤ length b → NoneLight f limit (flat cs) from (start i cs) → NoneLight f limit b (from - start i cs) n → NoneLight f limit (flat cs) from (start i cs + n)
    on n le none these place low high =
        ⊎_elim
        (λ (l : place < start i cs). none place low l)
        (λ (g : start i cs ≤ place).
        let at = place - start i cs in
        let back : start i cs + at ≡ place = omega (arith, g) in
        ap (is_light f limit (flat cs)) (sym back) ∙ same_at at (omega (arith, high, le, g)) ∙ these at (omega (arith, low)) (omega (arith, high, g)))
        (cases_lt place (start i cs))

    pub found : (end at : ℕ) → NoneLight f limit (flat cs) from (start i cs) → IsFirstLight f limit b (from - start i cs) (length b) (Some at) → IsFirstLight f limit (flat cs) from end (if nat_lt (start i cs + at) end then Some (start i cs + at) else None)
    found end at none first = go (nat_lt (start i cs + at) end) refl
      where
        before : NoneLight f limit (flat cs) from (start i cs + at)
        before = on at (let u = first.1 in omega (arith, u)) none first.3

        go : (t : Bool) → nat_lt (start i cs + at) end ≡ t → IsFirstLight f limit (flat cs) from end (if t then Some (start i cs + at) else None)
        go true e = let l = first.0 in (omega (arith, l), grind (arith, nat_tests, e), same_at at first.1 ∙ first.2, before)
        go false e = λ place low high. before place low (grind (arith, nat_tests, e, high))

  module _ (n from : ℕ) (cs now : List (List X)) (b : List X) (begin first : ℕ) (same : now ≡ cs) (within : n < length now) (read : b ≡ get_or now n b) (at_start : begin ≡ start n cs) (skip : first ≡ from - begin) (none : NoneLight f limit (flat cs) from begin) where
    there : n < length cs
    there = subst (λ (l : List (List X)). n < length l) same within

    read_here : b ≡ get_or cs n b
    read_here = read ∙ ap (λ (l : List (List X)). get_or l n b) same

    b_is : b ≡ get_or cs n []
    b_is = read_is n cs b there read_here

    none_here : NoneLight f limit (flat cs) from (start n cs)
    none_here = subst (λ (k : ℕ). NoneLight f limit (flat cs) from k) at_start none

    first_here : (r : Option ℕ) → IsFirstLight f limit (get_or now n b) first (length (get_or now n b)) r → IsFirstLight f limit b (from - start n cs) (length b) r
    first_here r h = subst (λ (k : ℕ). IsFirstLight f limit b k (length b) r) (skip ∙ ap (λ (k : ℕ). from - k) at_start) (subst (λ (l : List X). IsFirstLight f limit l first (length l) r) (sym read) h)

    -- the place of an item found in a block is below a number that all items are fewer than
    pub fits_found : (at size : ℕ) → length (flat cs) < size → at < length (get_or now n b) → begin + at < size
    fits_found at size le lt = omega (arith, le, at_start, inside_flat n at cs (subst (λ (l : List X). at < length l) (sym read ∙ b_is) lt))

    -- the first light item of a block, behind none among those before it, is the first of all where it stands before the end
    pub found_by : (end at : ℕ) → IsFirstLight f limit (get_or now n b) first (length (get_or now n b)) (Some at) → IsFirstLight f limit (flat cs) from end (if nat_lt (begin + at) end then Some (begin + at) else None)
    found_by end at h =
        subst (λ (k : ℕ). IsFirstLight f limit (flat cs) from end (if nat_lt (k + at) end then Some (k + at) else None)) (sym at_start)
        (found n from cs b there read_here end at none_here (first_here (Some at) h))

    -- the next block begins behind the items of a block
    pub next_by : (len : ℕ) → len ≡ length b → begin + len ≡ start (n + 1) cs
    next_by len e = omega (arith, e, at_start, next n cs b there read_here)

    -- the next block begins below a number that all items are fewer than
    pub fits_next : (len size : ℕ) → length (flat cs) < size → len ≡ length b → begin + len < size
    fits_next len size le e = omega (arith, le, at_start, e, ap length b_is, ap length (flat_at n cs), length-append (flat (take n cs)) (get_or cs n [] ++ flat (drop (suc n) cs)), length-append (get_or cs n []) (flat (drop (suc n) cs)))

    -- no item is light up to the end of a block none of whose items is, behind none before it
    pub none_by : (len : ℕ) → len ≡ length b → IsFirstLight f limit (get_or now n b) first (length (get_or now n b)) None → NoneLight f limit (flat cs) from (begin + len)
    none_by len e h =
        subst (λ (k : ℕ). NoneLight f limit (flat cs) from k) (ap (λ (k : ℕ). k + length b) (sym at_start) ∙ ap (λ (k : ℕ). begin + k) (sym e))
        (on n from cs b there read_here (length b) (omega arith) none_here (first_here None h))

    -- a block that is set to itself leaves the blocks as they are
    pub same_by : (new : List X) → new ≡ get_or now n b → set now n new ≡ cs
    same_by new e = ap (set now n) e ∙ set-get_or now n b ∙ same

  -- a block that was read twice has its length each time
  pub same_length : (n : ℕ) (now : List (List X)) (a b items : List X) → n < length now → a ≡ get_or now n a → b ≡ get_or now n b → items ≡ a → length items ≡ length b
  same_length n now a b items lt one two e = ap length (e ∙ read_is n now a lt one ∙ sym (read_is n now b lt two))

module _ {X : Type 0} (f : X → ℕ) (limit : ℕ) (xs : List X) (from end : ℕ) where
  -- none is light up to a place, and so none is up to the place and the end
  pub within_none : (to : ℕ) → NoneLight f limit xs from to → NoneWithin f limit xs from end to
  within_none to none place low _ high = none place low high

  -- none is light up to a place before the end, where none is before the end
  pub none_within : (to : ℕ) → to ≤ end → NoneWithin f limit xs from end to → NoneLight f limit xs from to
  none_within to le none place low high = none place low (omega (arith, high, le)) high

  -- none is light before the end, up to any place, once a walk is behind the end
  pub ended : (at to : ℕ) → end ≤ at → NoneWithin f limit xs from end at → NoneWithin f limit xs from end to
  ended at to le none place low high _ = none place low high (omega (arith, high, le))

  -- none is light up to the end, once a walk is behind the end
  pub ended_none : (at : ℕ) → end ≤ at → NoneWithin f limit xs from end at → NoneLight f limit xs from end
  ended_none at le none place low high = none place low high (omega (arith, high, le))

  pub all_none : (at : ℕ) → length xs ≤ at → NoneWithin f limit xs from end at → NoneLight f limit xs from end
  all_none at le none place low high =
      ⊎_elim
      (λ (l : place < at). none place low high l)
      (λ (g : at ≤ place). ap (passes (λ x. nat_le (f x) limit)) (slice_get_past xs place (omega (arith, g, le))))
      (cases_lt place at)

  -- the first light item up to the end is the first up to a place
  pub until : (to : ℕ) (r o : Option ℕ) → r ≡ o → IsFirstLight f limit xs from end o → IsFirstUntil f limit xs from end to r
  until to r o e h = go r (subst (IsFirstLight f limit xs from end) (sym e) h)
    where
      go : (r : Option ℕ) → IsFirstLight f limit xs from end r → IsFirstUntil f limit xs from end to r
      go None h = λ place low high _. h place low high
      go (Some k) h = h

  -- the first light item of all is the first up to a place behind the last
  pub until_all : (to : ℕ) (r : Option ℕ) → length xs ≤ to → IsFirstUntil f limit xs from end to r → IsFirstLight f limit xs from end r
  until_all to None le h = all_none to le h
  until_all to (Some k) le h = h

module _ {X : Type 0} (f : X → ℕ) (limit from end : ℕ) (cs : List (List X)) (first : ℕ) (group : Group) (g : IsGroup f cs first group) where
  -- none is light in a group that lies before the place from which on one is sought
  pub behind_from : (begin : ℕ) → begin ≡ start first cs → begin + group.items ≤ from → NoneWithin f limit (flat cs) from end (start (first + 64) cs)
  behind_from begin at le place low _ high = absurd (omega (arith, at, le, low, high, g.count))

  heavy_next : (n : ℕ) → n ≤ 64 → limit < group.least → NoneLight f limit (flat cs) from (start first cs) → NoneLight f limit (flat cs) from (start (first + n) cs)
  heavy_next zero le lt none = let same : first ≡ first + 0 = omega arith in subst (λ (k : ℕ). NoneLight f limit (flat cs) from (start k cs)) same none
  heavy_next (suc n) le lt none =
      let there : first + n < length cs = omega (arith, le, g.there) in
      let far : first + n + 1 ≡ first + suc n = omega arith in
      let b = get_or cs (first + n) [] in
      let low = g.bound (first + n) (omega arith) (omega (arith, le)) in
      let read : b ≡ get_or cs (first + n) b = item_read (first + n) cs there in
      subst (λ (k : ℕ). NoneLight f limit (flat cs) from (start k cs)) far
      (subst (λ (k : ℕ). NoneLight f limit (flat cs) from k) (sym (next (first + n) cs b there read))
      (on f limit (first + n) from cs b there read (length b) (omega arith) (heavy_next n (omega (arith, le)) lt none) (none_light f limit b group.least (from - start (first + n) cs) (length b) lt low)))
    where
      item_read : (k : ℕ) (ds : List (List X)) → k < length ds → get_or ds k [] ≡ get_or ds k (get_or ds k [])
      item_read k [] l = absurd (omega (arith, l))
      item_read zero (d ∷ ds) l = refl
      item_read (suc k) (d ∷ ds) l = item_read k ds (omega (arith, l))

  -- none is light up to the end of a group whose items all weigh more, where none is before it
  pub heavy_group : (begin : ℕ) → begin ≡ start first cs → limit < group.least → NoneWithin f limit (flat cs) from end begin → NoneWithin f limit (flat cs) from end (start (first + 64) cs)
  heavy_group begin at lt none =
      ⊎_elim
      (λ (l : begin < end).
      let strong : NoneLight f limit (flat cs) from begin = none_within f limit (flat cs) from end begin (omega (arith, l)) none in
      within_none f limit (flat cs) from end (start (first + 64) cs) (heavy_next 64 (omega arith) lt (subst (λ (k : ℕ). NoneLight f limit (flat cs) from k) at strong)))
      (λ (le : end ≤ begin). ended f limit (flat cs) from end begin (start (first + 64) cs) le none)
      (cases_lt begin end)
