-- What is true of all of a row's items, through each edit.
use Rattle.std.proofs.Common.{◌≡◌, ℕ, suc, ◌+◌, ◌<◌, ◌≤◌, List, [], ◌∷◌, length, take, drop, get_or, insert, remove, set, ap, sym, subst, ◌∙◌, arith}
use Rattle.std.specs.List.{All}
use Rattle.std.proofs.lemmas.List.Elements.{All-append, All-cons, All-drop, All-nil, All-take, All-weaker}
use Rattle.blocks.specs.Rows.{cut_at, flat, joined_at}
use Rattle.blocks.proofs.Edits.{cut_flat, join_flat, put_flat, retired_flat, taken_flat}

-- none weighs less than a smaller number
pub lower : {X : Type 0} (f : X → ℕ) (least less : ℕ) (xs : List X) → less ≤ least → All (λ x. least ≤ f x) xs → All (λ x. less ≤ f x) xs
lower f least less xs le low = All-weaker (λ x. least ≤ f x) (λ x. less ≤ f x) (λ x (k : least ≤ f x). omega (arith, k, le)) xs low

module _ {X : Type 0} (P : X → Type 0) where
  -- it is true of all of an equal list
  pub all_by : (xs ys : List X) → All P xs → ys ≡ xs → All P ys
  all_by xs ys all e = subst (All P) (sym e) all

  -- it is true of all once one is inserted of which it is true
  pub all_insert : (at : ℕ) (xs : List X) (x : X) → All P xs → P x → All P (insert xs at x)
  all_insert at xs x all p = All-append P (take at xs) (x ∷ drop at xs) (All-take P at xs all) (All-cons P x (drop at xs) p (All-drop P at xs all))

  -- it is true of all once one is removed
  pub all_remove : (at : ℕ) (xs : List X) → All P xs → All P (remove xs at)
  all_remove at xs all = All-append P (take at xs) (drop (suc at) xs) (All-take P at xs all) (All-drop P (suc at) xs all)

  -- it is true of the one item of a row
  pub all_one : (x : X) (new : List (List X)) → P x → new ≡ (x ∷ []) ∷ [] → All P (flat new)
  all_one x new p e = all_by (x ∷ []) (flat new) (All-cons P x [] p (All-nil P)) (ap flat e)

  module _ (k : ℕ) (cs new : List (List X)) (all : All P (flat cs)) where
    -- it is true of all once an item of which it is true is inserted in a block
    pub all_put : (at : ℕ) (x : X) → k < length cs → at ≤ length (get_or cs k []) → new ≡ set cs k (insert (get_or cs k []) at x) → P x → All P (flat new)
    all_put at x lt le e p = all_by (insert (flat cs) (length (flat (take k cs)) + at) x) (flat new) (all_insert (length (flat (take k cs)) + at) (flat cs) x all p) (put_flat k at cs new x lt le e)

    -- it is true of all once an item is removed from a block
    pub all_taken : (at : ℕ) → k < length cs → at < length (get_or cs k []) → new ≡ set cs k (remove (get_or cs k []) at) → All P (flat new)
    all_taken at lt le e = all_by (remove (flat cs) (length (flat (take k cs)) + at)) (flat new) (all_remove (length (flat (take k cs)) + at) (flat cs) all) (taken_flat k at cs new lt le e)

    -- it is true of all once a block of one item is removed
    pub all_retired : k < length cs → length (get_or cs k []) ≡ 1 → new ≡ remove cs k → All P (flat new)
    all_retired lt one e = all_by (remove (flat cs) (length (flat (take k cs)) + 0)) (flat new) (all_remove (length (flat (take k cs)) + 0) (flat cs) all) (retired_flat k cs new lt one e)

    -- it is true of all once a block is cut
    pub all_cut : k < length cs → new ≡ cut_at k cs → All P (flat new)
    all_cut lt e = all_by (flat cs) (flat new) all (ap flat e ∙ cut_flat k cs lt)

    -- it is true of all once two blocks are joined
    pub all_joined : k + 1 < length cs → new ≡ joined_at k cs → All P (flat new)
    all_joined lt e = all_by (flat cs) (flat new) all (join_flat k cs new lt e)
