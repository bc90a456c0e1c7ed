-- The first place that passes, in two parts of the places.
use Rattle.std.proofs.Common.{◌≡◌, ℕ, ◌+◌, ◌*◌, ◌/◌, ◌≤◌, ◌<◌, Bool, false, List, length, take, Option, None, Some, max, ap, sym, ◌∙◌, arith, ⊎_elim}
use Rattle.std.proofs.lemmas.Bool.{cases_lt, true≢false}
use Rattle.std.proofs.lemmas.List.{get_or_past, get_or-take, length-take}
use Rattle.waiting_places.specs.Places.{IsFirst, NonePasses}

module _ {X : Type 0} (test : Option X → Bool) (places : List (Option X)) (from to next : ℕ) (end : ℕ) where
  -- the first place that passes in the second part is the first of both, if none passes in the first part
  pub in_second : (r : Option ℕ) → ((p : ℕ) → from ≤ p → to ≤ p → next ≤ p) → from ≤ next → NonePasses test places from to → IsFirst test places next end r → IsFirst test places from end r
  in_second None on after none rest = λ p low high. ⊎_elim (λ (x : p < to). none p low x) (λ (y : to ≤ p). rest p (on p low y) high) (cases_lt p to)
  in_second (Some k) on after none rest =
      let at = rest.0 in
      (omega (arith, at), rest.1, rest.2, λ p low high. ⊎_elim (λ (x : p < to). none p low x) (λ (y : to ≤ p). rest.3 p (on p low y) high) (cases_lt p to))

module _ {X : Type 0} (test : Option X → Bool) (places : List (Option X)) (past : test None ≡ false) (from end : ℕ) where
  pub ends_some : (k : ℕ) → IsFirst test places from end (Some k) → IsFirst test places from (length places) (Some k)
  ends_some k found =
      let there : k < length places = ⊎_elim
      (λ (l : k < length places). l)
      (λ (g : length places ≤ k). absurd (true≢false (sym found.2 ∙ ap test (get_or_past places k None g) ∙ past)))
      (cases_lt k (length places)) in
      (found.0, there, found.2, found.3)

  pub ends : (r : Option ℕ) → length places ≤ end → IsFirst test places from end r → IsFirst test places from (length places) r
  ends None l none = λ p low high. none p low (omega arith)
  ends (Some k) l found = ends_some k found

module _ {X : Type 0} (test : Option X → Bool) (places : List (Option X)) (past : test None ≡ false) (from span : ℕ) (capacity : length places ≤ 64 * span) where
  -- the first place that passes behind a leaf is the first from a place in the leaf on, if none in the leaf passes
  pub behind_leaf : (r : Option ℕ) → NonePasses test places (max from (64 * (from / 64))) (64 * (from / 64 + 1)) → IsFirst test places (max (64 * (from / 64 + 1)) (64 * 0)) (64 * (0 + span)) r → IsFirst test places from (length places) r
  behind_leaf r none rest =
      let edge = 64 * (from / 64 + 1) in
      let end = 64 * (0 + span) in
      ends test places past from end r (omega (arith, capacity)) (in_second test places from edge (max edge (64 * 0)) end r (λ p l m. omega arith) (omega arith) (λ p low high. none p (omega arith) high) rest)

module _ {X : Type 0} (test : Option X → Bool) (places : List (Option X)) (from end : ℕ) (within : end ≤ length places) where
  long : length (take end places) ≡ end
  long = omega (arith, within, length-take end places)

  none_in_front : NonePasses test (take end places) from (length (take end places)) → NonePasses test places from end
  none_in_front none p low high = ap test (sym (get_or-take end places p None high)) ∙ none p low (omega (arith, high, long))

  -- the first place that passes among the first places is the first of all
  pub found_in_front : (k : ℕ) → IsFirst test (take end places) from (length (take end places)) (Some k) → IsFirst test places from (length places) (Some k)
  found_in_front k found =
      let short : k < end = omega (arith, found.1, long) in
      (found.0, omega (arith, short, within), ap test (sym (get_or-take end places k None short)) ∙ found.2, λ p low high. ap test (sym (get_or-take end places p None (omega (arith, high, short)))) ∙ found.3 p low high)

  -- where none of these passes, the first of the others is
  pub found_behind : (r : Option ℕ) → NonePasses test (take end places) from (length (take end places)) → IsFirst test places (max from end) (length places) r → IsFirst test places from (length places) r
  found_behind r none rest = in_second test places from end (max from end) (length places) r (λ p l m. omega (arith, l, m)) (omega arith) (none_in_front none) rest
