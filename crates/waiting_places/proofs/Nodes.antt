-- A node of a tree is read and written, and what is known below it is kept.
use Rattle.std.proofs.Common.{◌≡◌, ◌≢◌, ℕ, false, ◌+◌, ◌-◌, ◌*◌, ◌/◌, ◌≤◌, ◌<◌, min, List, [], length, take, drop, get_or, set, slice_index_or, Option, None, Some, arith, ⊎_elim, ap, sym, subst, ◌∙◌}
use Rattle.std.proofs.lemmas.Bool.{cases_eq}
use Rattle.std.proofs.lemmas.List.{get_or_default, get_or-set_same, get_or-set_other, get_or-take, get_or-drop}
use Rattle.waiting_places.specs.Bounds.{FrontierView, IsBelow, Keeps}
use Rattle.waiting_places.specs.Tree.{node_at}
use Rattle.waiting_places.proofs.Below.{within}

-- what stands where there is no node
abbrev pub no_node : FrontierView
no_node = record { stale = false; len = 1; corners = [] }

pub read : (nodes : List FrontierView) (k : ℕ) (l : FrontierView) → k < length nodes → l ≡ get_or nodes k l → node_at nodes k ≡ l
read nodes k l lt is = get_or_default nodes k no_node l lt ∙ sym is

-- a node to which a frontier is written has it
pub written : (nodes : List FrontierView) (k : ℕ) (l : FrontierView) → k < length nodes → node_at (set nodes k l) k ≡ l
written nodes k l lt = get_or-set_same nodes k l no_node lt

pub left : (nodes : List FrontierView) (k j : ℕ) (l : FrontierView) → j ≢ k → node_at (set nodes k l) j ≡ node_at nodes j
left nodes k j l ne = get_or-set_other nodes k j l no_node ne

kept_at : (nodes : List FrontierView) (from k : ℕ) (old new : FrontierView) → from < length nodes → k < length nodes → old ≡ get_or nodes from old → Keeps old new → Keeps (node_at nodes from) (node_at (set nodes k new) k)
kept_at nodes from k old new lt l is keeps size estimate below =
    subst (λ (m : FrontierView). IsBelow m size estimate) (sym (written nodes k new l)) (keeps size estimate (subst (λ (m : FrontierView). IsBelow m size estimate) (read nodes from old lt is) below))

-- each node keeps what it knows once a frontier that keeps what one of them knows is written to that one
pub kept_by : (nodes : List FrontierView) (k j : ℕ) (old new : FrontierView) → k < length nodes → old ≡ get_or nodes k old → Keeps old new → Keeps (node_at nodes j) (node_at (set nodes k new) j)
kept_by nodes k j old new lt is keeps size estimate below =
    ⊎_elim
    (λ (same : j ≡ k).
    subst (λ (i : ℕ). IsBelow (node_at (set nodes k new) i) size estimate) (sym same) (kept_at nodes k k old new lt lt is keeps size estimate (subst (λ (i : ℕ). IsBelow (node_at nodes i) size estimate) same below)))
    (λ (ne : j ≢ k). subst (λ (m : FrontierView). IsBelow m size estimate) (sym (left nodes k j new ne)) below)
    (cases_eq j k)

-- who waits at a place of a leaf waits in its part of the places
pub in_leaf : {X : Type 0} (places : List (Option X)) (place leaf from to : ℕ) (x : X) → slice_index_or places place None ≡ Some x → place / 64 ≡ leaf → from ≡ min (leaf * 64) (length places) → to ≡ min (from + 64) (length places)
    → slice_index_or (take (to - from) (drop from places)) (place - from) None ≡ Some x
in_leaf {X} places place leaf from to x is at f t =
    let short : place < length places = within (λ (y : X). 0) (λ (y : X). 0) places place x is in
    let low : from ≤ place = omega arith in
    let high : place - from < to - from = omega arith in
    let same : from + (place - from) ≡ place = omega arith in
    get_or-take (to - from) (drop from places) (place - from) None high ∙ get_or-drop from places (place - from) None ∙ ap (λ (i : ℕ). get_or places i None) same ∙ is
