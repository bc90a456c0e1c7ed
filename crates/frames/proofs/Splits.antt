-- The items that stand at a place, one stretch after another.
use Rattle.std.proofs.Common.{◌≡◌, ℕ, ◌+◌, ◌≤◌, ◌<◌, Bool, true, false, cond, ◌&&◌, nat_le, nat_lt, List, [], ◌∷◌, length, map, filter, count_by, refl, sym, ap, ◌∙◌, arith, ⊎_elim}
use Rattle.std.proofs.lemmas.Bool.{cases_Bool, cases_lt, cond-true, cond-false, le-ltb, lt-leb, ltb-false}
use Rattle.std.proofs.lemmas.List.{length-map}
use Rattle.std.proofs.lemmas.List.Sums.{length-filter, sum_by-cons}
use Rattle.frames.specs.declared.stretch.Stretch.{Stretch}
use Rattle.frames.specs.Frames.{EmptyStretchesStandNowhere, once, stands, stands_somewhere, standing_at}

never : (b : Bool) → (b && false) ≡ false
never true = refl
never false = refl

module _ {X : Type 0} where
  -- where the first of the stretches to come stands at the place, its item is the next of those that stand there
  pub here : (place : ℕ) (all rest behind : List (Stretch X)) (s : Stretch X) → standing_at place rest ≡ standing_at place all → rest ≡ s ∷ behind → stands place s ≡ true → standing_at place all ≡ s.item ∷ standing_at place behind
  here place all rest behind s h is e =
      sym h ∙ ap (standing_at place) is ∙ ap (λ (b : Bool). map (λ (x : Stretch X). x.item) (cond b (s ∷ filter (stands place) behind) (filter (stands place) behind))) e

  -- where the first of the stretches to come doesn't stand at the place, those behind it have all items of these that do
  pub elsewhere : (place : ℕ) (all rest behind : List (Stretch X)) (s : Stretch X) → standing_at place rest ≡ standing_at place all → rest ≡ s ∷ behind → stands place s ≡ false → standing_at place behind ≡ standing_at place all
  elsewhere place all rest behind s h is e =
      sym (ap (standing_at place) is ∙ ap (λ (b : Bool). map (λ (x : Stretch X). x.item) (cond b (s ∷ filter (stands place) behind) (filter (stands place) behind))) e) ∙ h

  -- where the first of the items to come passes the test, and those to come have all that pass, at least one of all passes
  pub one_there : (test : X → Bool) (all rest behind : List X) (x : X) → count_by test rest ≡ count_by test all → rest ≡ x ∷ behind → test x ≡ true → 1 ≤ count_by test all
  one_there test all rest behind x h is e =
      let first = ap (count_by test) is ∙ sum_by-cons (λ (y : X). cond {A = ℕ} (test y) 1 0) x behind ∙ ap (λ (b : Bool). cond {A = ℕ} b 1 0 + count_by test behind) e in
      omega (arith, h, first)

  -- where the first of the items to come doesn't pass the test, as many pass of those behind it as of all
  pub none_here : (test : X → Bool) (all rest behind : List X) (x : X) → count_by test rest ≡ count_by test all → rest ≡ x ∷ behind → test x ≡ false → count_by test behind ≡ count_by test all
  none_here test all rest behind x h is e =
      let first = ap (count_by test) is ∙ sum_by-cons (λ (y : X). cond {A = ℕ} (test y) 1 0) x behind ∙ ap (λ (b : Bool). cond {A = ℕ} b 1 0 + count_by test behind) e in
      omega (arith, h, first)

  -- as many items stand at a place as stretches do
  pub counted : (place n : ℕ) (ss : List (Stretch X)) → n ≡ count_by (stands place) ss → n ≡ length (standing_at place ss)
  counted place n ss e = e ∙ sym (length-filter (stands place) ss) ∙ sym (length-map (filter (stands place) ss) (λ (s : Stretch X). s.item))

  -- items that stand at place 0 alone all stand there
  pub alone_first : (xs : List X) → standing_at 0 (map once xs) ≡ xs
  alone_first [] = refl
  alone_first (x ∷ xs) = ap (λ l. x ∷ l) (alone_first xs)

  -- no items that stand at place 0 alone stand at a later place
  pub alone_later : (n : ℕ) (xs : List X) → 1 ≤ n → standing_at n (map once xs) ≡ []
  alone_later n [] l = refl
  alone_later n (x ∷ xs) l =
      let after : stands n (once x) ≡ false = ap (λ (b : Bool). nat_le 0 n && b) (le-ltb n 1 l) ∙ never (nat_le 0 n) in
      sym (elsewhere n (map once (x ∷ xs)) (map once (x ∷ xs)) (map once xs) (once x) refl refl after) ∙ alone_later n xs l

  nowhere : (place : ℕ) (s : Stretch X) → stands_somewhere s ≡ false → stands place s ≡ false
  nowhere place s e =
      let l = ltb-false s.from s.to e in
      ⊎_elim
      (λ (m : place < s.from). ap (λ (b : Bool). b && nat_lt place s.to) (lt-leb s.from place m))
      (λ (m : s.from ≤ place). ap (λ (b : Bool). nat_le s.from place && b) (le-ltb place s.to (omega (arith, l, m))) ∙ never (nat_le s.from place))
      (cases_lt place s.from)

  -- stretches that stand nowhere leave what stands at each place
  pub without-empty : EmptyStretchesStandNowhere X
  without-empty place [] = refl
  without-empty place (s ∷ ss) =
      ⊎_elim
      (λ (y : stands_somewhere s ≡ true).
      ap (standing_at place) (cond-true (stands_somewhere s) (s ∷ filter stands_somewhere ss) (filter stands_somewhere ss) y) ∙ one (stands place s) (without-empty place ss))
      (λ (y : stands_somewhere s ≡ false).
      ap (standing_at place) (cond-false (stands_somewhere s) (s ∷ filter stands_somewhere ss) (filter stands_somewhere ss) y)
      ∙ without-empty place ss
      ∙ sym (ap (map (λ (x : Stretch X). x.item)) (cond-false (stands place s) (s ∷ filter (stands place) ss) (filter (stands place) ss) (nowhere place s y))))
      (cases_Bool (stands_somewhere s))
    where
      one : (b : Bool) → standing_at place (filter stands_somewhere ss) ≡ standing_at place ss
          → map (λ (x : Stretch X). x.item) (cond b (s ∷ filter (stands place) (filter stands_somewhere ss)) (filter (stands place) (filter stands_somewhere ss))) ≡ map (λ (x : Stretch X). x.item) (cond b (s ∷ filter (stands place) ss) (filter (stands place) ss))
      one true h = ap (λ (l : List X). s.item ∷ l) h
      one false h = h
