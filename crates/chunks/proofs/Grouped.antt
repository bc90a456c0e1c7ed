-- Rows of groups, read as rows of chunks: one chunk of a group among those of all, what an edit of it leaves of sizes and of elements, and
-- where a search over the groups ends.
use Rattle.std.proofs.Common.{◌≡◌, ℕ, zero, suc, ◌+◌, ◌<◌, ◌≤◌, Bool, List, [], ◌∷◌, ◌++◌, length, length-append, take, drop, get_or, refl, ap, sym, subst, ◌∙◌, append_assoc, arith, zero-add}
use Rattle.std.specs.List.Sorted.{IsPartitionedBy}
use Rattle.std.proofs.Math.Seq.{drop-append-add, take-append-add}
use Rattle.std.proofs.lemmas.List.{append-nil, drop-append-le, get_or-append-add, get_or_append_left, get_or_past, take-append-le, take_all}
use Rattle.std.proofs.lemmas.List.Concat.{flat_map-append}
use Rattle.chunks.specs.Chunks.{flat, start, ends_by, AreSized}
use Rattle.chunks.specs.Groups.{IsSpot}
use Rattle.chunks.proofs.Changes.{flat_at, sized-append, sized-drop, some_at}
use Rattle.chunks.proofs.Places.{place_by, there_by, inside_by, first_of, start_more, parted-front, parted-rest, parted-ends, chunks_before, place}

module _ {Y : Type 0} where
  sized-left : (a b : List (List Y)) → AreSized (a ++ b) → AreSized a
  sized-left [] b s = tt
  sized-left (c ∷ a) b s = (s.0, sized-left a b s.1)

  sized-right : (a b : List (List Y)) → AreSized (a ++ b) → AreSized b
  sized-right [] b s = s
  sized-right (c ∷ a) b s = sized-right a b s.1

  regroup : (a b c d e : List Y) → a ++ (b ++ c ++ d) ++ e ≡ (a ++ b) ++ c ++ (d ++ e)
  regroup a b c d e =
      ap (λ (x : List Y). x ++ e) (sym (append_assoc a (b ++ c) d) ∙ ap (λ (x : List Y). x ++ d) (sym (append_assoc a b c))) ∙ append_assoc ((a ++ b) ++ c) d e

  first_from : (k : ℕ) (cs : List (List Y)) → get_or (drop k cs) 0 [] ≡ get_or cs k []
  first_from zero cs = refl
  first_from (suc k) [] = refl
  first_from (suc k) (c ∷ cs) = first_from k cs

  later_from : (k : ℕ) (cs : List (List Y)) → drop 1 (drop k cs) ≡ drop (k + 1) cs
  later_from k cs = let next : k + 1 ≡ suc k = omega arith in go k cs ∙ ap (λ (n : ℕ). drop n cs) (sym next)
    where
      go : (k : ℕ) (cs : List (List Y)) → drop 1 (drop k cs) ≡ drop (suc k) cs
      go zero cs = refl
      go (suc k) [] = refl
      go (suc k) (c ∷ cs) = go k cs

  take_part : (g i : ℕ) (gs : List (List Y)) → i ≤ length (get_or gs g []) → take (start g gs + i) (flat gs) ≡ flat (take g gs) ++ take i (get_or gs g [])
  take_part g i gs le =
      ap (take (start g gs + i)) (flat_at g gs) ∙ take-append-add (flat (take g gs)) (get_or gs g [] ++ flat (drop (suc g) gs)) i
      ∙ ap (λ (x : List Y). flat (take g gs) ++ x) (take-append-le i (get_or gs g []) (flat (drop (suc g) gs)) le)

  drop_seam : (g n : ℕ) (gs : List (List Y)) → (g < length gs → n ≤ length (get_or gs g [])) → drop n (get_or gs g [] ++ flat (drop (suc g) gs)) ≡ drop n (get_or gs g []) ++ flat (drop (suc g) gs)
  drop_seam zero n [] h = sym (append-nil (drop n []))
  drop_seam (suc g) n [] h = sym (append-nil (drop n []))
  drop_seam zero n (c ∷ gs) h = drop-append-le n c (flat gs) (h (omega arith))
  drop_seam (suc g) n (c ∷ gs) h = drop_seam g n gs (λ lt. h (omega (arith, lt)))

  drop_part : (g i : ℕ) (gs : List (List Y)) → (g < length gs → i < length (get_or gs g [])) → drop (start g gs + i + 1) (flat gs) ≡ drop (i + 1) (get_or gs g []) ++ flat (drop (suc g) gs)
  drop_part g i gs h =
      let far : start g gs + i + 1 ≡ length (flat (take g gs)) + (i + 1) = omega arith in
      ap (λ (n : ℕ). drop n (flat gs)) far ∙ ap (drop (length (flat (take g gs)) + (i + 1))) (flat_at g gs) ∙ drop-append-add (flat (take g gs)) (get_or gs g [] ++ flat (drop (suc g) gs)) (i + 1)
      ∙ drop_seam g (i + 1) gs (λ lt. let less : i < length (get_or gs g []) = h lt in omega (arith, less))

  -- a chunk of a group is one of the chunks of all groups
  pub inside_flat : (g i : ℕ) (gs : List (List Y)) → g < length gs → i < length (get_or gs g []) → start g gs + i < length (flat gs)
  inside_flat g i [] lt h = absurd (omega (arith, lt))
  inside_flat zero i (c ∷ gs) lt h = omega (arith, h, length-append c (flat gs))
  inside_flat (suc g) i (c ∷ gs) lt h =
      let next : start g gs + i < length (flat gs) = inside_flat g i gs (omega (arith, lt)) h in
      omega (arith, next, first_of g i c gs, length-append c (flat gs))

  -- the chunk with the number of a group's chunk is that chunk
  pub chunk_is : (g i : ℕ) (gs : List (List Y)) (d : Y) → (g < length gs → i < length (get_or gs g [])) → get_or (flat gs) (start g gs + i) d ≡ get_or (get_or gs g []) i d
  chunk_is zero i [] d h = refl
  chunk_is (suc g) i [] d h = refl
  chunk_is zero i (c ∷ gs) d h = ap (λ (n : ℕ). get_or (c ++ flat gs) n d) (zero-add i) ∙ get_or_append_left c (flat gs) d i (h (omega arith))
  chunk_is (suc g) i (c ∷ gs) d h =
      ap (λ (n : ℕ). get_or (c ++ flat gs) n d) (first_of g i c gs) ∙ get_or-append-add c (flat gs) (start g gs + i) d ∙ chunk_is g i gs d (λ lt. h (omega (arith, lt)))

  behind : (g : ℕ) (gs : List (List Y)) → length gs ≤ g → start g gs ≡ length (flat gs)
  behind g gs le = ap (λ (x : List (List Y)). length (flat x)) (take_all g gs le)

  -- the place behind all groups is behind all chunks
  pub behind_is : (gs : List (List Y)) (g i : ℕ) → length gs ≤ g → i ≤ length (get_or gs g []) → start g gs + i ≡ length (flat gs)
  behind_is gs g i le h =
      let none : length (get_or gs g []) ≡ 0 = ap length (get_or_past gs g [] le) in
      omega (arith, behind g gs le, none, h)

  -- where there are no groups, there are no chunks
  pub none_in : (gs : List (List Y)) → length gs ≡ 0 → length (flat gs) ≡ 0
  none_in [] e = refl
  none_in (c ∷ gs) e = absurd (omega (arith, e))

  -- the last chunk of the last group is the last of all
  pub last_is : (gs : List (List Y)) (g i : ℕ) (chunks : List Y) → chunks ≡ get_or gs g [] → g + 1 ≡ length gs → i + 1 ≡ length chunks → start g gs + i + 1 ≡ length (flat gs)
  last_is gs g i chunks e h k =
      let more : start (suc g) gs ≡ start g gs + length (get_or gs g []) = start_more g gs (omega (arith, h)) in
      omega (arith, more, k, ap length e, behind (suc g) gs (omega (arith, h)))

  -- a group that is there has a chunk
  pub some_in : (gs : List (List Y)) (g : ℕ) (chunks : List Y) → AreSized gs → g < length gs → chunks ≡ get_or gs g [] → 1 ≤ length chunks
  some_in gs g chunks s lt e = omega (arith, some_at g gs s lt, ap length e)

module _ {X : Type 0} where
  -- the last chunk of the last group is a chunk of a group
  pub last_spot : (gs : List (List (List X))) (g i : ℕ) (chunks : List (List X)) → chunks ≡ get_or gs g [] → g + 1 ≡ length gs → i + 1 ≡ length chunks → IsSpot g i gs
  last_spot gs g i chunks e h k = record { group = omega (arith, h); chunk = omega (arith, k, ap length e); there = λ lt. omega (arith, k, ap length e) }

  -- elements found in a group's chunk are those of the chunk of that number among all
  pub elements_is : (gs : List (List (List X))) (g i : ℕ) (chunks : List (List X)) (found : List X) → (g < length gs → i < length (get_or gs g [])) → chunks ≡ get_or gs g [] → found ≡ get_or chunks i []
      → found ≡ get_or (flat gs) (start g gs + i) []
  elements_is gs g i chunks found there e f = f ∙ ap (λ (x : List (List X)). get_or x i []) e ∙ sym (chunk_is g i gs [] there)

  -- the chunks of a group have 1 to 256 elements where all chunks do
  pub sized_group : (gs : List (List (List X))) (g : ℕ) (chunks : List (List X)) → AreSized (flat gs) → chunks ≡ get_or gs g [] → AreSized chunks
  sized_group gs g chunks s e = subst AreSized (sym e) (sized-left _ _ (sized-right (flat (take g gs)) _ (subst AreSized (flat_at g gs) s)))

  -- the groups whose one group was edited have chunks of 1 to 256 elements
  pub sized_is : (gs new : List (List (List X))) (g : ℕ) (chunks : List (List X)) → AreSized (flat gs) → AreSized chunks → flat new ≡ flat (take g gs) ++ chunks ++ flat (drop (g + 1) gs) → AreSized (flat new)
  sized_is gs new g chunks s t e =
      let next : g + 1 ≡ suc g = omega arith in
      let parts = subst AreSized (flat_at g gs) s in
      let back : AreSized (flat (drop (suc g) gs)) = sized-right (get_or gs g []) _ (sized-right (flat (take g gs)) _ parts) in
      subst AreSized (sym (e ∙ ap (λ (n : ℕ). flat (take g gs) ++ chunks ++ flat (drop n gs)) next)) (sized-append (flat (take g gs) ++ chunks) _ (sized-append (flat (take g gs)) chunks (sized-left _ _ parts) t) back)

  all-append : (a b : List (List X)) → flat (a ++ b) ≡ flat a ++ flat b
  all-append a b = flat_map-append (λ (c : List X). c) a b

  front_is : (g i : ℕ) (gs : List (List (List X))) → i ≤ length (get_or gs g []) → flat (take (start g gs + i) (flat gs)) ≡ flat (flat (take g gs)) ++ flat (take i (get_or gs g []))
  front_is g i gs le = ap flat (take_part g i gs le) ∙ all-append (flat (take g gs)) (take i (get_or gs g []))

  back_is : (g i : ℕ) (gs : List (List (List X))) → (g < length gs → i < length (get_or gs g [])) → flat (drop (start g gs + i + 1) (flat gs)) ≡ flat (drop (i + 1) (get_or gs g [])) ++ flat (flat (drop (suc g) gs))
  back_is g i gs h = ap flat (drop_part g i gs h) ∙ all-append (drop (i + 1) (get_or gs g [])) (flat (drop (suc g) gs))

  -- where one chunk of one group was edited, all elements are those before the chunk, the new ones of the chunk, and those behind it
  pub edited_is : (gs new : List (List (List X))) (g i : ℕ) (old chunks : List (List X)) (items : List X) → i ≤ length (get_or gs g []) → (g < length gs → i < length (get_or gs g []))
      → old ≡ get_or gs g [] → flat chunks ≡ flat (take i old) ++ items ++ flat (drop (i + 1) old) → flat new ≡ flat (take g gs) ++ chunks ++ flat (drop (g + 1) gs)
      → flat (flat new) ≡ flat (take (start g gs + i) (flat gs)) ++ items ++ flat (drop (start g gs + i + 1) (flat gs))
  edited_is gs new g i old chunks items le there same inner outer =
      let next : g + 1 ≡ suc g = omega arith in
      let back = flat (flat (drop (suc g) gs)) in
      let within : flat chunks ≡ flat (take i (get_or gs g [])) ++ items ++ flat (drop (i + 1) (get_or gs g [])) = inner ∙ ap (λ (x : List (List X)). flat (take i x) ++ items ++ flat (drop (i + 1) x)) same in
      ap flat (outer ∙ ap (λ (n : ℕ). flat (take g gs) ++ chunks ++ flat (drop n gs)) next) ∙ all-append (flat (take g gs) ++ chunks) (flat (drop (suc g) gs))
      ∙ ap (λ (x : List X). x ++ back) (all-append (flat (take g gs)) chunks ∙ ap (λ (x : List X). flat (flat (take g gs)) ++ x) within)
      ∙ regroup (flat (flat (take g gs))) (flat (take i (get_or gs g []))) items (flat (drop (i + 1) (get_or gs g []))) back
      ∙ ap (λ (x : List X). x ++ items ++ (flat (drop (i + 1) (get_or gs g [])) ++ back)) (sym (front_is g i gs le))
      ∙ ap (λ (x : List X). flat (take (start g gs + i) (flat gs)) ++ items ++ x) (sym (back_is g i gs there))

  module _ (cs : List (List X)) (k : ℕ) (rest : List (List X)) (e : rest ≡ drop k cs) where
    -- the chunks from one on have 1 to 256 elements where all chunks do
    pub rest_sized : AreSized cs → AreSized rest
    rest_sized s = subst AreSized (sym e) (sized-drop k cs s)

    -- the first of the chunks from one on is that chunk
    pub next_is : (found : List X) → found ≡ get_or rest 0 [] → found ≡ get_or cs k []
    next_is found f = f ∙ ap (λ (x : List (List X)). get_or x 0 []) e ∙ first_from k cs

    -- the chunks behind the first of those from one on are those from the next one on
    pub rest_later : (later : List (List X)) → later ≡ drop 1 rest → later ≡ drop (k + 1) cs
    rest_later later f = f ∙ ap (drop 1) e ∙ later_from k cs

    -- the chunks behind the first of those from one on have 1 to 256 elements where all chunks do
    pub sized_later : (later : List (List X)) → AreSized cs → later ≡ drop 1 rest → AreSized later
    sized_later later s f = subst AreSized (sym (rest_later later f)) (sized-drop (k + 1) cs s)

    -- a place in a chunk is one in the first of the chunks from that one on
    pub next_within : (at : ℕ) (found : List X) → found ≡ get_or rest 0 [] → at ≤ length (get_or cs k []) → at ≤ length found
    next_within at found f le = subst (λ (xs : List X). at ≤ length xs) (sym (next_is found f)) le

  module _ (test : X → Bool) where
    -- a test that parts all elements parts those of one group
    pub parted_group : (gs : List (List (List X))) (g : ℕ) (chunks : List (List X)) → IsPartitionedBy test (flat (flat gs)) → chunks ≡ get_or gs g [] → IsPartitionedBy test (flat chunks)
    parted_group gs g chunks p e =
        let parts : flat (flat gs) ≡ flat (flat (take g gs)) ++ (flat (get_or gs g []) ++ flat (flat (drop (suc g) gs)))
        = ap flat (flat_at g gs) ∙ all-append (flat (take g gs)) (get_or gs g [] ++ flat (drop (suc g) gs)) ∙ ap (λ (x : List X). flat (flat (take g gs)) ++ x) (all-append (get_or gs g []) (flat (drop (suc g) gs))) in
        subst (λ (x : List (List X)). IsPartitionedBy test (flat x)) (sym e)
        (parted-front test (flat (get_or gs g [])) (flat (flat (drop (suc g) gs))) (parted-rest test (flat (flat (take g gs))) _ (subst (λ (xs : List X). IsPartitionedBy test xs) parts p)))

    -- a test that parts all elements parts the groups, by the last element of the last chunk of each
    pub parted_groups : (gs : List (List (List X))) → AreSized gs → AreSized (flat gs) → IsPartitionedBy test (flat (flat gs)) → IsPartitionedBy (ends_by (ends_by test)) gs
    parted_groups gs s t p = parted-ends (ends_by test) gs s (parted-ends test (flat gs) t p)

    module _ (gs : List (List (List X))) (g i at : ℕ) (chunks : List (List X)) (found : List X) (groups : AreSized gs) (sized : AreSized (flat gs))
        (e : g ≡ chunks_before (ends_by test) gs) (f : chunks ≡ get_or gs g []) (h : i ≡ chunks_before test chunks) where
      -- the chunk that a search found is in its group, where the group is there
      pub group_there : g < length gs → i < length (get_or gs g [])
      group_there = there_by (ends_by test) gs g i chunks groups e f h

      number_is : IsPartitionedBy test (flat (flat gs)) → start g gs + i ≡ chunks_before test (flat gs)
      number_is p = place_by (ends_by test) gs g i chunks groups (parted-ends test (flat gs) sized p) e f h

      found_is : found ≡ get_or chunks i [] → found ≡ get_or (flat gs) (start g gs + i) []
      found_is = elements_is gs g i chunks found group_there f

      -- a place in the chunk that was found is one in the chunk of that number among all
      pub found_within : found ≡ get_or chunks i [] → at ≤ length found → at ≤ length (get_or (flat gs) (start g gs + i) [])
      found_within k le = subst (λ (xs : List X). at ≤ length xs) (found_is k) le

      module _ (p : IsPartitionedBy test (flat (flat gs))) (k : found ≡ get_or chunks i []) (l : at ≡ place test found) where
        -- the place that was found in a chunk is, among all elements, the place of the first that doesn't pass
        pub group_place : start (start g gs + i) (flat gs) + at ≡ place test (flat (flat gs))
        group_place = place_by test (flat gs) (start g gs + i) at found sized p (number_is p) (found_is k) l

        -- the place lies in the chunk that was found, where an element stands at it
        pub group_inside : start (start g gs + i) (flat gs) + at < length (flat (flat gs)) → at < length (get_or (flat gs) (start g gs + i) [])
        group_inside = inside_by test (flat gs) (start g gs + i) at found sized (number_is p) (found_is k) l

        -- the place lies in the chunk that was found, where the group is there
        pub place_there : g < length gs → at < length (get_or (flat gs) (start g gs + i) [])
        place_there lt = there_by test (flat gs) (start g gs + i) at found sized (number_is p) (found_is k) l (inside_flat g i gs lt (group_there lt))
