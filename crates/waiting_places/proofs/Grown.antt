-- Where one comes and where one leaves.
use Rattle.std.proofs.Common.{◌≡◌, ◌≢◌, ℕ, ◌+◌, ◌-◌, ◌*◌, ◌/◌, ◌^◌, ◌≤◌, ◌<◌, ◌⊎◌, inl, inr, List, [], ◌∷◌, ◌++◌, length, take, drop, slice_index_or, set, Option, None, Some, sym, ◌∙◌, ap, arith, subst, ⊎_elim}
use Rattle.std.proofs.lemmas.Bool.{cases_eq, cases_lt}
use Rattle.std.proofs.lemmas.List.{length-append, length-set, length-take, get_or-set_same, get_or-set_other, get_or-take, get_or-drop}
use Rattle.waiting_places.specs.Bounds.{AreBelow, FrontierView, IsBelow, Keeps}
use Rattle.waiting_places.specs.declared.refused.Refused.{Refused}
use Rattle.waiting_places.specs.Places.{IsHead, IsPlaces, at_place, capacity_of, waiting}
use Rattle.waiting_places.specs.Tree.{IsTree, covered, halved, leaf_of, node_at}
use Rattle.waiting_places.proofs.Below.{within}
use Rattle.waiting_places.proofs.Heads.{head_comes}
use Rattle.waiting_places.proofs.Refusals.{refused_too, still_refused}
use Rattle.waiting_places.proofs.Standing.{no_more, one_comes, one_less}

module _ {X : Type 0} (places : List (Option X)) (place : ℕ) where
  pub in_leaves : place < 64 * (length places / 64) → at_place (covered places) place ≡ at_place places place
  in_leaves short = get_or-take (64 * (length places / 64)) places place None short

  pub has_leaf : (x : X) → at_place (covered places) place ≡ Some x → place < 64 * (length places / 64)
  has_leaf x is =
      let there = within (λ (y : X). 0) (λ (y : X). 0) (covered places) place x is in
      omega (arith, there, length-take (64 * (length places / 64)) places)

module _ {X : Type 0} (size estimate : X → ℕ) (nodes : List FrontierView) (places : List (Option X)) (tree : IsTree size estimate nodes places) where
  -- nodes that keep what these know are a tree of lower bounds too, over places where only those wait who waited there before, and
  -- others whose leaf and all nodes above it are below them
  pub renewed : (new : List FrontierView) (more : List (Option X)) → length new ≡ length nodes → length more ≤ 32 * length nodes → ((k : ℕ) → Keeps (node_at nodes k) (node_at new k))
      → ((times place : ℕ) (x : X) → at_place more place ≡ Some x → 1 ≤ halved times (leaf_of (length nodes) place) → (at_place places place ≡ Some x) ⊎ IsBelow (node_at new (halved times (leaf_of (length nodes) place))) (size x) (estimate x)) → IsTree size estimate new more
  renewed new more len capacity kept met = record {
    whole = record { height = tree.whole.height; power = len ∙ tree.whole.power };
    many = let many = tree.many in omega (arith, many, len);
    few = let few = tree.few in omega (arith, few, len);
    capacity = omega (arith, capacity, len);
    below = λ times place x is one. subst (λ (n : ℕ). 1 ≤ halved times (leaf_of n place) → IsBelow (node_at new (halved times (leaf_of n place))) (size x) (estimate x)) (sym len) (at times place x is) one;
  }
    where
      at : (times place : ℕ) (x : X) → at_place more place ≡ Some x → 1 ≤ halved times (leaf_of (length nodes) place) → IsBelow (node_at new (halved times (leaf_of (length nodes) place))) (size x) (estimate x)
      at times place x is one =
          ⊎_elim
          (λ (old : at_place places place ≡ Some x). kept (halved times (leaf_of (length nodes) place)) (size x) (estimate x) (tree.below times place x old one))
          (λ (new : IsBelow (node_at new (halved times (leaf_of (length nodes) place))) (size x) (estimate x)). new)
          (met times place x is one)

module _ {X : Type 0} (size estimate : X → ℕ) (nodes : List FrontierView) (places : List (Option X)) (some : 1 ≤ length places) (capacity : length places ≤ 32 * length nodes) (tree : IsTree size estimate nodes (covered (take (length places - 1) places))) where
  abbrev before : List (Option X)
  before = take (length places - 1) places

  shorter : length before ≡ length places - 1
  shorter = omega (arith, some, length-take (length places - 1) places)

  stood : (place : ℕ) (x : X) → place < 64 * ((length places - 1) / 64) → at_place places place ≡ Some x → at_place (covered before) place ≡ Some x
  stood place x short is =
      let same : 64 * (length before / 64) ≡ 64 * ((length places - 1) / 64) = ap (λ (n : ℕ). 64 * (n / 64)) shorter in
      in_leaves before place (omega (arith, short, same)) ∙ get_or-take (length places - 1) places place None (omega (arith, short)) ∙ is

  -- one has come to the last place of a leaf: it comes to the tree with all who wait there
  pub now_covered : (from : ℕ) (f : FrontierView) (new : List FrontierView) → length places ≡ 64 * (length places / 64) → from + 64 ≡ length places → AreBelow size estimate f (take (length places - from) (drop from places)) → length new ≡ length nodes
      → ((k : ℕ) → Keeps (node_at nodes k) (node_at new k)) → ((times : ℕ) → 1 ≤ halved times (length nodes / 2 + from / 64) → Keeps f (node_at new (halved times (length nodes / 2 + from / 64)))) → IsTree size estimate new (covered places)
  now_covered from f new whole e below len kept met = renewed size estimate nodes (covered before) tree new (covered places) len (omega (arith, capacity, length-take (64 * (length places / 64)) places)) kept
      (λ times place x is one. let short = has_leaf places place x is in
      let at : at_place places place ≡ Some x = sym (in_leaves places place short) ∙ is in
      ⊎_elim
      (λ (front : place < from). inl (stood place x (omega (arith, front, e, whole)) at))
      (λ (last : from ≤ place).
      let leaf : from / 64 ≡ place / 64 = omega (arith, last, short, e, whole) in
      let rest : from + (place - from) ≡ place = omega (arith, last) in
      let here : at_place (take (length places - from) (drop from places)) (place - from) ≡ Some x = get_or-take (length places - from) (drop from places) (place - from) None (omega (arith, last, short, e, whole)) ∙ get_or-drop from places (place - from) None ∙ ap (λ (i : ℕ). at_place places i) rest ∙ at in
      inr (subst (λ (n : ℕ). 1 ≤ halved times (length nodes / 2 + n) → Keeps f (node_at new (halved times (length nodes / 2 + n)))) leaf (met times) one (size x) (estimate x) (below (place - from) x here)))
      (cases_lt place from))

module _ {X : Type 0} (size estimate : X → ℕ) (places : List (Option X)) (nodes : List FrontierView) (len head capacity : ℕ) (refused : Refused) (kept : IsPlaces size estimate places nodes len head capacity refused) where
  few : length places ≤ 2 ^ 46
  few = let list = kept.list in let some = kept.few in omega arith

  -- no more than 2 ^ 46 wait
  pub count_fits : len ≤ 2 ^ 46
  count_fits = let count = kept.count in omega (arith, count, few, no_more places)

  -- one comes at a new place: the fields keep what they kept, if the nodes are a tree over whole leaves
  pub comes : (more : List (Option X)) (new : List FrontierView) (item : X) (wide : ℕ) → more ≡ places ++ Some item ∷ [] → length new ≡ length nodes → (1 ≤ length new → IsTree size estimate new (covered more))
      → length places + 1 ≤ capacity_of (length nodes) → length more ≤ wide → IsPlaces size estimate more new (len + 1) head wide refused
  comes more new item wide e same tree l fit =
      let count = kept.count in
      let small = kept.few in
      let longer = ap length e ∙ length-append places (Some item ∷ []) in
      record {
        count = omega (arith, count, ap length (one_comes places more item e), length-append (waiting places) (item ∷ []));
        first = head_comes places head kept.first more item e;
        fit = fit;
        list = omega (arith, longer, same, l);
        few = omega (arith, small, same);
        tree = tree;
        unfit = still_refused size estimate places refused kept.unfit more item e;
      }

  -- one leaves its place: the fields keep what they kept, with one fewer who waits and the place of the next who waits first
  pub leaves : (place : ℕ) (item : X) → at_place places place ≡ Some item → (next : ℕ) → IsHead (set places place None) next → (new : List FrontierView) → length new ≡ length nodes → ((k : ℕ) → Keeps (node_at nodes k) (node_at new k)) → IsPlaces size estimate (set places place None) new (len - 1) next capacity refused
  leaves place item is next first new long keeps =
      let there = within size estimate places place item is in
      let count = kept.count in
      let fit = kept.fit in
      let list = kept.list in
      let same = length-set {A = Option X} places place None in
      record {
        count = omega (arith, count, one_less places place item there is);
        first = first;
        fit = omega (arith, fit, same);
        list = omega (arith, list, same, long);
        few = let few = kept.few in omega (arith, few, long);
        tree = λ some. left (omega (arith, some, long));
        unfit = refused_too size estimate places refused kept.unfit place;
      }
    where
      gone : (p : ℕ) (x : X) → at_place (set places place None) p ≡ Some x → at_place places p ≡ Some x
      gone p x is =
          ⊎_elim
          (λ (same : p ≡ place).
          let there = within size estimate (set places place None) p x is in
          let short : place < length places = omega (arith, there, same, length-set {A = Option X} places place None) in
          absurd (some≢none x (sym (ap (λ (i : ℕ). slice_index_or (set places place None) i None) same ∙ get_or-set_same places place None None short) ∙ is)))
          (λ (ne : p ≢ place). sym (get_or-set_other places place p None None ne) ∙ is)
          (cases_eq p place)
        where
          some≢none : (y : X) → None ≡ Some y → ⊥
          some≢none y h = cc

      left : 1 ≤ length nodes → IsTree size estimate new (covered (set places place None))
      left some =
          let tree = kept.tree some in
          let list = kept.list in
          let many = tree.many in
          let same = length-set {A = Option X} places place None in
          renewed size estimate nodes (covered places) tree new (covered (set places place None)) long (omega (arith, list, many, same, length-take (64 * (length (set places place None) / 64)) (set places place None))) keeps
          (λ times p x is one. inl (let short = has_leaf (set places place None) p x is in in_leaves places p (omega (arith, short, same)) ∙ gone p x (sym (in_leaves (set places place None) p short) ∙ is)))

  -- who waits has a place below 2 ^ 46
  pub place_fits : (place : ℕ) (item : X) → at_place places place ≡ Some item → place < 2 ^ 46
  place_fits place item is = omega (arith, few, within size estimate places place item is)

  -- where one has a place, at least one waits
  pub somebody : (place : ℕ) (item : X) → at_place places place ≡ Some item → 1 ≤ len
  somebody place item is = let count = kept.count in omega (arith, count, one_less places place item (within size estimate places place item is) is)
