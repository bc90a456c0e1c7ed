-- The nodes of a tree, and the places below each: what is known at a node holds of all who wait below it, also once a node is made anew from
-- the two below it, or a leaf from its places.
use Rattle.std.proofs.Common.{◌≡◌, ◌≢◌, ℕ, zero, suc, ◌+◌, ◌*◌, ◌/◌, ◌^◌, ◌≤◌, ◌<◌, Bool, true, false, IsTrue, ◌↔◌, List, length, get_or, slice_index_or, Option, None, Some, refl, sym, ◌∙◌, ap, arith, subst, ⊎_elim}
use Rattle.std.proofs.lemmas.Bool.{cases_eq, cases_lt, cases_Bool, true≢false}
use Rattle.std.proofs.lemmas.List.{get_or_default}
use Rattle.std.proofs.lemmas.Nat.{pow_pos}
use Rattle.std.proofs.Math.Nat.{pow-suc, mul-le-mul_left}
use Rattle.waiting_places.specs.declared.offer.Offer.{Offer}
use Rattle.waiting_places.specs.Bounds.{FrontierView, IsBelow, Keeps, MayFit}
use Rattle.waiting_places.specs.Offers.{fits, holds}
use Rattle.waiting_places.specs.Places.{NonePasses}
use Rattle.waiting_places.specs.Tree.{IsPart, IsTree, halved, leaf_of, node_at}
use Rattle.waiting_places.proofs.Below.{within}
use Rattle.waiting_places.proofs.Fits.{passes}
use Rattle.waiting_places.proofs.Lowered.{halved-more}
use Rattle.waiting_places.proofs.Nodes.{no_node}

ancestor : (times k leaf : ℕ) → k * 2 ^ times ≤ leaf → leaf < (k + 1) * 2 ^ times → halved times leaf ≡ k
ancestor zero k leaf low high = omega arith
ancestor (suc times) k leaf low high =
    let double : 2 ^ suc times ≡ 2 ^ times * 2 = pow-suc 2 times in
    let low' : k * (2 ^ times * 2) ≤ leaf = subst (λ (q : ℕ). k * q ≤ leaf) double low in
    let high' : leaf < (k + 1) * (2 ^ times * 2) = subst (λ (q : ℕ). leaf < (k + 1) * q) double high in
    ⊎_elim
    (λ (first : leaf < (2 * k + 1) * 2 ^ times). let e = ancestor times (2 * k) leaf (omega arith) (omega arith) in omega (arith, e))
    (λ (second : (2 * k + 1) * 2 ^ times ≤ leaf). let e = ancestor times (2 * k + 1) leaf second (omega arith) in omega (arith, e))
    (cases_lt leaf ((2 * k + 1) * 2 ^ times))

module _ (count node low span : ℕ) (part : IsPart count node low span) where
  some : 1 ≤ span
  some = subst (λ (n : ℕ). 1 ≤ n) (sym part.power) (pow_pos part.height)

  -- a node above some leaves is there, and is not the one before the root
  pub is_node : (1 ≤ node) × (node < count)
  is_node = (root node part.start, omega (arith, part.start, part.end, more, some))
    where
      more : node * 1 ≤ node * span
      more = mul-le-mul_left node some

      root : (k : ℕ) → 2 * (k * span) ≡ count + 2 * low → 1 ≤ k
      root zero e = let l = part.end in absurd (omega (arith, e, l, some))
      root (suc k) e = omega arith

  pub record Halves : Type 0 where
    pub first : IsPart count (2 * node) low (span / 2)
    pub second : IsPart count (2 * node + 1) (low + span / 2) (span / 2)
    pub inner : 2 * node + 1 < count
    pub less : span / 2 < span
    pub both : span ≡ span / 2 + span / 2

  -- the leaves below a node are those below its two nodes, half of them each, where they are more than one
  pub halves : span ≢ 1 → Halves
  halves ne = go part.height part.power
    where
      go : (h : ℕ) → span ≡ 2 ^ h → Halves
      go zero e = absurd (ne e)
      go (suc h) e =
          let double : span ≡ 2 ^ h * 2 = e ∙ pow-suc 2 h in
          let one : 1 ≤ 2 ^ h = pow_pos h in
          let half : span / 2 ≡ 2 ^ h = omega arith in
          let twice : span ≡ 2 * (span / 2) = omega arith in
          let times : node * span ≡ node * (2 * (span / 2)) = ap (λ (n : ℕ). node * n) twice in
          let more : node * 2 ≤ node * span = mul-le-mul_left node (omega arith) in
          let start = part.start in
          let end = part.end in
          record {
            first = record { height = h; power = half; start = omega arith; end = omega arith };
            second = record { height = h; power = half; start = omega arith; end = omega arith };
            inner = omega arith;
            less = omega arith;
            both = omega arith;
          }

-- no corner of a node fits an offer that it refuses
pub refused : (offer : Offer) (nodes : List FrontierView) (node : ℕ) (l : FrontierView) (result : Bool) → node < length nodes → IsTrue result ↔ MayFit offer (get_or nodes node l) → result ≡ false → MayFit offer (node_at nodes node) → true ≡ false
refused offer nodes node l result there is fails may = sym (is.1 (subst (MayFit offer) (get_or_default nodes node no_node l there) may)) ∙ fails

module _ {X : Type 0} (size estimate : X → ℕ) (nodes : List FrontierView) (places : List (Option X)) (tree : IsTree size estimate nodes places) where
  pub known : (node low span place : ℕ) (x : X) → IsPart (length nodes) node low span → slice_index_or places place None ≡ Some x → 64 * low ≤ place → place < 64 * (low + span) → IsBelow (node_at nodes node) (size x) (estimate x)
  known node low span place x part is from to =
      let whole = tree.whole.power in
      let start = part.start in
      let leaf = leaf_of (length nodes) place in
      let below : node * span ≤ leaf = omega arith in
      let above : leaf < node * span + span = omega arith in
      let at : halved part.height leaf ≡ node = ancestor part.height node leaf (subst (λ (n : ℕ). node * n ≤ leaf) part.power below) (subst (λ (n : ℕ). leaf < (node + 1) * n) part.power (omega arith)) in
      let one : 1 ≤ halved part.height leaf = subst (λ (n : ℕ). 1 ≤ n) (sym at) (is_node (length nodes) node low span part).0 in
      subst (λ (n : ℕ). IsBelow (node_at nodes n) (size x) (estimate x)) at (tree.below part.height place x is one)

  -- where no corner of a node fits, none below it does
  pub none_fits : (offer : Offer) (node low span from : ℕ) → IsPart (length nodes) node low span → (MayFit offer (node_at nodes node) → true ≡ false) → 64 * low ≤ from → NonePasses (holds (fits size estimate offer)) places from (64 * (low + span))
  none_fits offer node low span from part refused after place l u = go (slice_index_or places place None) refl
    where
      go : (o : Option X) → slice_index_or places place None ≡ o → holds (fits size estimate offer) (slice_index_or places place None) ≡ false
      go None is = ap (holds (fits size estimate offer)) is
      go (Some x) is =
          ⊎_elim
          (λ (yes : fits size estimate offer x ≡ true).
          let up = passes (node_at nodes node) (size x) (estimate x) (known node low span place x part is (omega arith) u) offer yes in
          absurd (true≢false (refused up)))
          (λ (no : fits size estimate offer x ≡ false). ap (holds (fits size estimate offer)) is ∙ no)
          (cases_Bool (fits size estimate offer x))

  -- a node that is made anew from the two below it leaves a tree of lower bounds
  pub raised : (node : ℕ) (new : List FrontierView) → 2 * node + 1 < length nodes → length new ≡ length nodes → Keeps (node_at nodes (2 * node)) (node_at new node) → Keeps (node_at nodes (2 * node + 1)) (node_at new node)
      → ((k : ℕ) → k ≢ node → node_at new k ≡ node_at nodes k) → IsTree size estimate new places
  raised node new inner len first second others = record {
    whole = record { height = tree.whole.height; power = len ∙ tree.whole.power };
    many = let many = tree.many in omega (arith, many, len);
    few = let few = tree.few in omega (arith, few, len);
    capacity = let capacity = tree.capacity in omega (arith, capacity, len);
    below = λ times place x is one. subst (λ (n : ℕ). 1 ≤ halved times (leaf_of n place) → IsBelow (node_at new (halved times (leaf_of n place))) (size x) (estimate x)) (sym len) (at times place x is) one;
  }
    where
      at : (times place : ℕ) (x : X) → slice_index_or places place None ≡ Some x → 1 ≤ halved times (leaf_of (length nodes) place) → IsBelow (node_at new (halved times (leaf_of (length nodes) place))) (size x) (estimate x)
      at times place x is one =
          ⊎_elim
          (λ (same : halved times (leaf_of (length nodes) place) ≡ node). subst (λ (n : ℕ). IsBelow (node_at new n) (size x) (estimate x)) (sym same) (here times same (subst (λ (n : ℕ). 1 ≤ n) same one)))
          (λ (ne : halved times (leaf_of (length nodes) place) ≢ node). subst (λ (l : FrontierView). IsBelow l (size x) (estimate x)) (sym (others (halved times (leaf_of (length nodes) place)) ne)) (tree.below times place x is one))
          (cases_eq (halved times (leaf_of (length nodes) place)) node)
        where
          here : (t : ℕ) → halved t (leaf_of (length nodes) place) ≡ node → 1 ≤ node → IsBelow (node_at new node) (size x) (estimate x)
          here zero same some = absurd (omega (arith, inner, same))
          here (suc t) same some =
              let m = halved t (leaf_of (length nodes) place) in
              ⊎_elim
              (λ (left : m ≡ 2 * node). first (size x) (estimate x) (subst (λ (n : ℕ). IsBelow (node_at nodes n) (size x) (estimate x)) left (tree.below t place x is (positive t same some))))
              (λ (ne : m ≢ 2 * node). second (size x) (estimate x) (subst (λ (n : ℕ). IsBelow (node_at nodes n) (size x) (estimate x)) (right t same ne) (tree.below t place x is (positive t same some))))
              (cases_eq m (2 * node))
            where
              positive : (u : ℕ) → halved (suc u) (leaf_of (length nodes) place) ≡ node → 1 ≤ node → 1 ≤ halved u (leaf_of (length nodes) place)
              positive u e n = omega (arith, e, n)

              right : (u : ℕ) → halved (suc u) (leaf_of (length nodes) place) ≡ node → halved u (leaf_of (length nodes) place) ≢ 2 * node → halved u (leaf_of (length nodes) place) ≡ 2 * node + 1
              right u e ne = omega (arith, e, ne)

  -- a leaf that is made anew from those who wait at its places leaves a tree of lower bounds
  pub raised_leaf : (leaf : ℕ) (new : List FrontierView) → 2 * (leaf + 1) ≤ length nodes → length new ≡ length nodes
      → ((place : ℕ) (x : X) → slice_index_or places place None ≡ Some x → place / 64 ≡ leaf → IsBelow (node_at new (length nodes / 2 + leaf)) (size x) (estimate x))
      → ((k : ℕ) → k ≢ length nodes / 2 + leaf → node_at new k ≡ node_at nodes k) → IsTree size estimate new places
  raised_leaf leaf new inner len here others = record {
    whole = record { height = tree.whole.height; power = len ∙ tree.whole.power };
    many = let many = tree.many in omega (arith, many, len);
    few = let few = tree.few in omega (arith, few, len);
    capacity = let capacity = tree.capacity in omega (arith, capacity, len);
    below = λ times place x is one. subst (λ (n : ℕ). 1 ≤ halved times (leaf_of n place) → IsBelow (node_at new (halved times (leaf_of n place))) (size x) (estimate x)) (sym len) (at times place x is) one;
  }
    where
      at : (times place : ℕ) (x : X) → slice_index_or places place None ≡ Some x → 1 ≤ halved times (leaf_of (length nodes) place) → IsBelow (node_at new (halved times (leaf_of (length nodes) place))) (size x) (estimate x)
      at times place x is one =
          ⊎_elim
          (λ (same : halved times (leaf_of (length nodes) place) ≡ length nodes / 2 + leaf). subst (λ (n : ℕ). IsBelow (node_at new n) (size x) (estimate x)) (sym same) (here place x is (own times same)))
          (λ (ne : halved times (leaf_of (length nodes) place) ≢ length nodes / 2 + leaf). subst (λ (l : FrontierView). IsBelow l (size x) (estimate x)) (sym (others (halved times (leaf_of (length nodes) place)) ne)) (tree.below times place x is one))
          (cases_eq (halved times (leaf_of (length nodes) place)) (length nodes / 2 + leaf))
        where
          own : (t : ℕ) → halved t (leaf_of (length nodes) place) ≡ length nodes / 2 + leaf → place / 64 ≡ leaf
          own zero same = omega (arith, same)
          own (suc t) same =
              let short = within size estimate places place x is in
              let capacity = tree.capacity in
              let whole = tree.whole.power in
              let less = halved-more t 0 t (leaf_of (length nodes) place) (omega arith) in
              absurd (omega (arith, same, short, capacity, whole, less))
