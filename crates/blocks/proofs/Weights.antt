-- What the items of a block weigh together.
use Rattle.std.proofs.Common.{◌≡◌, ℕ, suc, ◌+◌, ◌-◌, ◌*◌, ◌^◌, ◌<◌, ◌≤◌, List, [], ◌∷◌, ◌++◌, length, length-drop, take, drop, get_or, ap, sym, subst, ◌∙◌, arith}
use Rattle.std.specs.List.{All, insert, remove, sum_by}
use Rattle.std.proofs.lemmas.List.{length-take, take_rest}
use Rattle.std.proofs.lemmas.List.Edits.{length-insert, length-remove}
use Rattle.std.proofs.lemmas.List.Elements.{All-append, All-cons, All-drop, All-take, All-weaker}
use Rattle.std.proofs.lemmas.List.Sums.{sum_by-insert, sum_by-le, sum_by-remove, sum_by-take-drop, sum_by-take-le}
use Rattle.blocks.specs.Rows.{IsBlock}

module _ {X : Type 0} where
  -- the items from one on, as they are lent
  pub lent_back : (k : ℕ) (xs seen : List X) → seen ≡ xs → take (length seen - k) (drop k seen) ≡ drop k xs
  lent_back k xs seen e = take_rest seen k ∙ ap (drop k) e

  -- a list that had none has what was put behind it
  pub put_behind_none : (xs was none back : List X) → xs ≡ was ++ back → was ≡ none → none ≡ [] → xs ≡ back
  put_behind_none xs was none back e f g = e ∙ ap (λ (l : List X). l ++ back) (f ∙ g)

module _ {X : Type 0} (f : X → ℕ) where
  abbrev Fit : X → Type 0
  Fit x = f x < 2 ^ 64

  light : (xs : List X) → All Fit xs → length xs ≤ 128 → sum_by f xs < 2 ^ 80
  light xs h le =
      let most : sum_by f xs ≤ length xs * 18446744073709551616 = sum_by-le f 18446744073709551616 xs (All-weaker Fit (λ x. f x ≤ 18446744073709551616) (λ x (k : f x < 2 ^ 64). omega (arith, k)) xs h) in
      omega (arith, most, le)

  abbrev Below : ℕ → List X → Type 0
  Below least xs = All (λ x. least ≤ f x) xs

  lower : (least less : ℕ) (xs : List X) → less ≤ least → Below least xs → Below less xs
  lower least less xs le h = All-weaker (λ x. least ≤ f x) (λ x. less ≤ f x) (λ x (k : least ≤ f x). omega (arith, k, le)) xs h

  -- a block weighs less than 2 ^ 80
  pub block_light : (weight least capacity : ℕ) (xs : List X) → IsBlock f weight least capacity xs → weight < 2 ^ 80
  block_light weight least capacity xs b = omega (arith, b.sum, light xs b.fit b.most)

  -- the items of a block from a place on weigh less than 2 ^ 80, and no more than the block
  pub back_light : (weight least capacity k : ℕ) (xs back : List X) → IsBlock f weight least capacity xs → back ≡ drop k xs → (sum_by f back < 2 ^ 80) × (sum_by f back ≤ weight)
  back_light weight least capacity k xs back b e =
      let parts : sum_by f (take k xs) + sum_by f (drop k xs) ≡ sum_by f xs = sum_by-take-drop f xs k in
      (omega (arith, ap (sum_by f) e, parts, light xs b.fit b.most), omega (arith, ap (sum_by f) e, parts, b.sum))

  -- the first items of a block weigh less than 2 ^ 80
  pub front_light : (weight least capacity k : ℕ) (xs front : List X) → IsBlock f weight least capacity xs → front ≡ take k xs → sum_by f front < 2 ^ 80
  front_light weight least capacity k xs front b e = omega (arith, ap (sum_by f) e, sum_by-take-le f xs k, light xs b.fit b.most)

  -- a block that had capacity keeps what a block keeps, with an item inserted
  pub block_insert : (weight least capacity more at : ℕ) (xs ys : List X) (x : X) (least' capacity' : ℕ) → IsBlock f weight least capacity xs → at ≤ length xs → length xs < 128 → more ≡ f x → more < 2 ^ 64 → ys ≡ insert xs at x → least' ≤ least → least' ≤ more → capacity ≤ capacity' → IsBlock f (weight + more) least' capacity' ys
  block_insert weight least capacity more at xs ys x least' capacity' b le lt e fits is low under wide =
      let fit : f x < 2 ^ 64 = omega (arith, e, fits) in
      let low' : least' ≤ f x = omega (arith, e, under) in
      let bound : Below least' xs = lower least least' xs low b.bound in
      subst (IsBlock f (weight + more) least' capacity') (sym is)
      (record {
        sum = omega (arith, sum_by-insert f xs at x, b.sum, e);
        bound = All-append (λ y. least' ≤ f y) (take at xs) (x ∷ drop at xs) (All-take (λ y. least' ≤ f y) at xs bound) (All-cons (λ y. least' ≤ f y) x (drop at xs) low' (All-drop (λ y. least' ≤ f y) at xs bound));
        fit = All-append Fit (take at xs) (x ∷ drop at xs) (All-take Fit at xs b.fit) (All-cons Fit x (drop at xs) fit (All-drop Fit at xs b.fit));
        most = omega (arith, length-insert xs at x le);
        wide = omega (arith, b.wide, wide);
      })

  -- a block keeps it with an item removed
  pub block_remove : (weight least capacity less at : ℕ) (xs ys : List X) (x : X) (capacity' : ℕ) → IsBlock f weight least capacity xs → at < length xs → x ≡ get_or xs at x → less ≡ f x → ys ≡ remove xs at → capacity' ≡ capacity → IsBlock f (weight - less) least capacity' ys
  block_remove weight least capacity less at xs ys x capacity' b lt here e is same =
      let left : sum_by f (remove xs at) + f (get_or xs at x) ≡ sum_by f xs = sum_by-remove f xs at x lt in
      subst (IsBlock f (weight - less) least capacity') (sym is)
      (record {
        sum = omega (arith, left, ap f here, b.sum, e);
        bound = All-append (λ y. least ≤ f y) (take at xs) (drop (suc at) xs) (All-take (λ y. least ≤ f y) at xs b.bound) (All-drop (λ y. least ≤ f y) (suc at) xs b.bound);
        fit = All-append Fit (take at xs) (drop (suc at) xs) (All-take Fit at xs b.fit) (All-drop Fit (suc at) xs b.fit);
        most = omega (arith, length-remove xs at lt, b.most);
        wide = omega (arith, b.wide, same);
      })

  -- a block that is cut keeps it for the items before the place
  pub block_low : (weight least capacity more k : ℕ) (xs ys back : List X) (capacity' : ℕ) → IsBlock f weight least capacity xs → back ≡ drop k xs → more ≡ sum_by f back → ys ≡ take k xs → capacity' ≡ capacity → IsBlock f (weight - more) least capacity' ys
  block_low weight least capacity more k xs ys back capacity' b e s is same =
      let parts : sum_by f (take k xs) + sum_by f (drop k xs) ≡ sum_by f xs = sum_by-take-drop f xs k in
      subst (IsBlock f (weight - more) least capacity') (sym is)
      (record {
        sum = omega (arith, parts, b.sum, s, ap (sum_by f) e);
        bound = All-take (λ y. least ≤ f y) k xs b.bound;
        fit = All-take Fit k xs b.fit;
        most = omega (arith, length-take k xs, b.most);
        wide = omega (arith, b.wide, same);
      })

  -- a block of the items from a place of another on keeps it
  pub block_high : (weight least capacity more k : ℕ) (xs ys back : List X) (capacity' : ℕ) → IsBlock f weight least capacity xs → back ≡ drop k xs → more ≡ sum_by f back → ys ≡ back → 128 ≤ capacity' → IsBlock f more least capacity' ys
  block_high weight least capacity more k xs ys back capacity' b e s is wide =
      subst (IsBlock f more least capacity') (sym (is ∙ e))
      (record {
        sum = omega (arith, s, ap (sum_by f) e);
        bound = All-drop (λ y. least ≤ f y) k xs b.bound;
        fit = All-drop Fit k xs b.fit;
        most = omega (arith, length-drop k xs, b.most);
        wide = wide;
      })
