-- Lists of entries, each with a key.
use Rattle.std.specs.Prelude.{◌≡◌, ℕ, ◌<◌, ◌≤◌, Bool, All, List, [], ◌∷◌, length, sum_by, if◌then◌else◌, Result, MatchResult}
use Rattle.std.specs.declared.cmp.Ordering.{Ordering}
use Rattle.std.specs.declared.cmp.Ordering.TheVariants.{Less, Equal, Greater}
use Rattle.std.specs.List.{HoldsAt}
use Rattle.std.specs.List.Sorted.{IsPartitionPoint}

-- what a list adds up to at the keys that pass, by a measure of what stands there
abbrev pub total_at : {K X : Type 0} → (K → Bool) → (X → ℕ) → List (K × X) → ℕ
total_at test n es = sum_by (λ e. if test e.0 then n e.1 else 0) es

-- what a search for a key answers: the place of its entry, or else the place behind all lesser keys
abbrev pub IsFound : {K X : Type 0} → (K → K → Ordering) → K → List (K × X) → Result ℕ ℕ → Type 0
IsFound cmp k es r =
    MatchResult r
    (λ i. (i < length es) × HoldsAt (λ e. cmp e.0 k ≡ Equal) es i)
    (λ i. (i ≤ length es) × IsPartitionPoint (λ e. cmp e.0 k ≡ Less) (λ e. cmp e.0 k ≡ Greater) es i)

-- two lists as one: of the first entries of both the one with the lesser key comes first, and two with one key are one, with what both values are together
pub data IsMerge {K X : Type 0} (cmp : K → K → Ordering) (Adds : X → X → X → Type 0) : List (K × X) → List (K × X) → List (K × X) → Type 0 where
  no_left : (r : List (K × X)) → IsMerge cmp Adds [] r r
  no_right : (l : List (K × X)) → IsMerge cmp Adds l [] l
  from_left : (x y : K × X) (l r es : List (K × X)) → cmp x.0 y.0 ≡ Less → IsMerge cmp Adds l (y ∷ r) es → IsMerge cmp Adds (x ∷ l) (y ∷ r) (x ∷ es)
  from_right : (x y : K × X) (l r es : List (K × X)) → cmp x.0 y.0 ≡ Greater → IsMerge cmp Adds (x ∷ l) r es → IsMerge cmp Adds (x ∷ l) (y ∷ r) (y ∷ es)
  from_both : (x y : K × X) (s : X) (l r es : List (K × X)) → cmp x.0 y.0 ≡ Equal → Adds x.1 y.1 s → IsMerge cmp Adds l r es → IsMerge cmp Adds (x ∷ l) (y ∷ r) ((x.0, s) ∷ es)

-- at each key of both lists, what both values are together may be asked for
abbrev pub CanMerge : {K X : Type 0} → (K → K → Ordering) → (X → X → Type 0) → List (K × X) → List (K × X) → Type 0
CanMerge cmp CanAdd l r = All (λ x. All (λ y. cmp x.0 y.0 ≡ Equal → CanAdd x.1 y.1) r) l
