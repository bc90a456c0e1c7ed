-- The nodes from a leaf up to another node are lowered.
use Rattle.std.proofs.Common.{◌≡◌, ℕ, zero, suc, ◌+◌, ◌-◌, ◌/◌, ◌≤◌, ◌<◌, List, length, get_or, set, arith, ⊎_elim, ap, sym, subst, ◌∙◌}
use Rattle.std.proofs.lemmas.Bool.{cases_lt}
use Rattle.std.proofs.lemmas.List.{length-set}
use Rattle.waiting_places.specs.Bounds.{FrontierView, IsBelow, Keeps}
use Rattle.waiting_places.specs.Tree.{halved, node_at}
use Rattle.waiting_places.proofs.Nodes.{kept_by, written}

-- a number that is halved more often is no greater
pub halved-more : (more times often n : ℕ) → often ≡ times + more → halved often n ≤ halved times n
halved-more zero times often n e =
    let same : halved often n ≡ halved times n = ap (λ (i : ℕ). halved i n) (omega arith) in
    omega (arith, same)
halved-more (suc more) times zero n e = absurd (omega arith)
halved-more (suc more) times (suc often) n e = omega (arith, halved-more more times often n (omega arith))

-- from a leaf up to before a node, each keeps what another frontier knows; each node keeps what it knew
pub record IsLoweredTo (old new : List FrontierView) (other : FrontierView) (leaf node : ℕ) : Type 0 where
  pub steps : ℕ
  pub here : node ≡ halved steps leaf
  pub low : node ≤ leaf
  pub len : length new ≡ length old
  pub kept : (k : ℕ) → Keeps (node_at old k) (node_at new k)
  pub met : (times : ℕ) → times < steps → Keeps other (node_at new (halved times leaf))

module _ (old new : List FrontierView) (other : FrontierView) (leaf node : ℕ) (low : IsLoweredTo old new other leaf node) where
  -- one node further up, if the frontier written there keeps its own and the other
  pub one_up : (here l : FrontierView) → node < length new → here ≡ get_or new node here → Keeps here l → Keeps other l → IsLoweredTo old (set new node l) other leaf (node / 2)
  one_up here l lt is keeps others =
      let less = low.low in
      record {
        steps = suc low.steps;
        here = ap (λ (n : ℕ). n / 2) low.here;
        low = omega arith;
        len = length-set new node l ∙ low.len;
        kept = λ k s e b. kept_by new node k here l lt is keeps s e (low.kept k s e b);
        met = met;
      }
    where
      met : (times : ℕ) → times < suc low.steps → Keeps other (node_at (set new node l) (halved times leaf))
      met times short size estimate below =
          ⊎_elim
          (λ (before : times < low.steps). kept_by new node (halved times leaf) here l lt is keeps size estimate (low.met times before size estimate below))
          (λ (after : low.steps ≤ times).
          let same : times ≡ low.steps = omega arith in
          let at : node ≡ halved times leaf = low.here ∙ ap (λ (n : ℕ). halved n leaf) (sym same) in
          subst (λ (k : ℕ). IsBelow (node_at (set new node l) k) size estimate) at (subst (λ (m : FrontierView). IsBelow m size estimate) (sym (written new node l lt)) (others size estimate below)))
          (cases_lt times low.steps)

  -- at the top, the leaf and all nodes above it keep what the other knows
  pub to_the_top : node ≡ 0 → (times : ℕ) → 1 ≤ halved times leaf → Keeps other (node_at new (halved times leaf))
  to_the_top top times some =
      ⊎_elim
      (λ (before : times < low.steps). low.met times before)
      (λ (after : low.steps ≤ times).
      let less = halved-more (times - low.steps) low.steps times leaf (omega arith) in
      let here = low.here in
      absurd (omega (arith, less, here, top, some)))
      (cases_lt times low.steps)
