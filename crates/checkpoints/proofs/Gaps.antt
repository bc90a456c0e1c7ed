-- Pieces behind segments: what their first seconds are, and which starts come before the last of them.
use Rattle.std.proofs.Common.{◌≡◌, ℕ, zero, suc, ◌-◌, ◌≤◌, ◌<◌, List, [], ◌∷◌, ◌++◌, map, length, slice_index_or, Option, Some, refl, sym, ◌∙◌, ap, arith, subst, append_assoc}
use Rattle.std.specs.Prelude.{slice_get}
use Rattle.std.specs.List.{flat_map}
use Rattle.std.specs.Option.{option_map}
use Rattle.std.specs.List.Sorted.{IsNonDecreasing}
use Rattle.std.proofs.lemmas.List.{map-append, length-map}
use Rattle.std.proofs.lemmas.Option.{slice_get-map}
use Rattle.std.proofs.lemmas.List.Concat.{flat_map-cons}
use Rattle.scenarios.specs.Plan.{Plan}
use Rattle.cluster_state.specs.Snapshot.{numbers_of}
use Rattle.easy_rule.specs.Simulation.{before, starts_before}
use Rattle.checkpoints.specs.Segment.{SegmentView}
use Rattle.checkpoints.specs.Cut.{Chain, all_starts}
use Rattle.checkpoints.specs.Pieces.{PieceView, segment_of}
use Rattle.checkpoints.specs.Closing.{BaseView, last_of, base_of}
use Rattle.checkpoints.proofs.Chains.{chain-outcome}

-- a base at or before second k: its numbers are those of the state before its own second, and its starts those from there to before k
pub record IsBase (plan : Plan) (base : BaseView) (k : ℕ) : Type 0 where
  pub numbers : base.numbers ≡ numbers_of (before plan base.second)
  pub outcome : starts_before plan k ≡ starts_before plan base.second ++ base.starts
  pub first : base.second ≤ k

base-last : (plan : Plan) (a k : ℕ) (s : SegmentView) (ss : List SegmentView) → Chain plan a (s ∷ ss) k → IsBase plan (base_of (last_of (s ∷ ss))) k
base-last plan a k s [] (m, sp, e) =
    let at = sp.first in
    let l = sp.ends.1 in
    let n = sp.ends.2 in
    record {
      numbers = sp.snapshot ∙ ap (λ t. numbers_of (before plan t)) (sym at);
      outcome = ap (starts_before plan) (sym e) ∙ sp.starts ∙ ap (λ t. starts_before plan t ++ s.starts) (sym at);
      first = omega (arith, at, l, n, e);
    }
base-last plan a k s (t ∷ ss) (m, sp, rest) = base-last plan m k t ss rest

-- the last segment of a chain from 0 to before k, or second 0 where there is none, is a base at or before k
pub base-is : (plan : Plan) (k : ℕ) (ss : List SegmentView) → Chain plan 0 ss k → IsBase plan (base_of (last_of ss)) k
unfolding before starts_before
base-is plan k [] e = record { numbers = refl; outcome = ap (starts_before plan) (sym e); first = omega arith }
base-is plan k (s ∷ ss) c = base-last plan 0 k s ss c

-- a chain of some segments and others behind them is two chains, of which the second begins where the first ends
pub chain-seam : (plan : Plan) (a b : ℕ) (ss ts : List SegmentView) → Chain plan a (ss ++ ts) b → (m : ℕ) × Chain plan a ss m × Chain plan m ts b
chain-seam plan a b [] ts c = (a, refl, c)
chain-seam plan a b (s ∷ ss) ts (m, sp, rest) = let k = chain-seam plan m b ss ts rest in (k.0, (m, sp, k.1), k.2)

piece-starts : (plan : Plan) (ps : List PieceView) → all_starts (map (segment_of plan) ps) ≡ flat_map (λ (p : PieceView). p.starts) ps
piece-starts plan [] = refl
piece-starts plan (p ∷ ps) =
    flat_map-cons (λ (s : SegmentView). s.starts) (segment_of plan p) (map (segment_of plan) ps)
    ∙ ap (λ l. p.starts ++ l) (piece-starts plan ps) ∙ sym (flat_map-cons (λ (q : PieceView). q.starts) p ps)

later : (plan : Plan) (a b k d : ℕ) (ps : List PieceView) → Chain plan a (map (segment_of plan) ps) b → k < length (map (λ (p : PieceView). p.first) ps) → a ≤ slice_index_or (map (λ (p : PieceView). p.first) ps) k d
later plan a b k d [] c l = absurd (omega arith)
later plan a b zero d (p ∷ ps) (m, sp, rest) l = let e = sp.first in omega (arith, e)
later plan a b (suc k) d (p ∷ ps) (m, sp, rest) l =
    let i = later plan m b k d ps rest (omega arith) in
    let n = sp.ends.1 in
    let e = sp.ends.2 in
    omega (arith, i, n, e)

-- the first seconds of pieces that are a chain never fall
pub seconds-rise : (plan : Plan) (a b : ℕ) (ps : List PieceView) → Chain plan a (map (segment_of plan) ps) b → IsNonDecreasing (map (λ (p : PieceView). p.first) ps)
seconds-rise plan a b [] c i j d le l = absurd (omega arith)
seconds-rise plan a b (p ∷ ps) (m, sp, rest) zero zero d le l = omega arith
seconds-rise plan a b (p ∷ ps) (m, sp, rest) zero (suc j) d le l =
    let i = later plan m b j d ps rest (omega arith) in
    let f = sp.first in
    let n = sp.ends.1 in
    let e = sp.ends.2 in
    omega (arith, i, f, n, e)
seconds-rise plan a b (p ∷ ps) (m, sp, rest) (suc i) zero d le l = absurd (omega arith)
seconds-rise plan a b (p ∷ ps) (m, sp, rest) (suc i) (suc j) d le l = seconds-rise plan m b ps rest i j d (omega arith) (omega arith)

last-after : (plan : Plan) (a b : ℕ) (ps : List PieceView) (q : PieceView) → Chain plan a (map (segment_of plan) (ps ++ q ∷ [])) b → a ≤ q.first
last-after plan a b [] q (m, sp, rest) = let e = sp.first in omega (arith, e)
last-after plan a b (p ∷ ps) q (m, sp, rest) =
    let i = last-after plan m b ps q rest in
    let n = sp.ends.1 in
    let e = sp.ends.2 in
    omega (arith, i, n, e)

-- the first seconds of a chain's pieces lie between where the chain begins and the first second of the last piece
pub seconds-within : (plan : Plan) (a b place t : ℕ) (ps : List PieceView) (q : PieceView) → Chain plan a (map (segment_of plan) (ps ++ q ∷ [])) b → slice_get (map (λ (p : PieceView). p.first) (ps ++ q ∷ [])) place ≡ Some t → (a ≤ t) × (t ≤ q.first)
seconds-within plan a b zero t [] q (m, sp, rest) e = let f = sp.first in let s : q.first ≡ t = cc in (omega (arith, f, s), omega (arith, s))
seconds-within plan a b (suc place) t [] q (m, sp, rest) e = absurd (cc e)
seconds-within plan a b zero t (p ∷ ps) q (m, sp, rest) e =
    let f = sp.first in
    let s : p.first ≡ t = cc in
    let i = last-after plan m b ps q rest in
    let n = sp.ends.1 in
    let n' = sp.ends.2 in
    (omega (arith, f, s), omega (arith, f, s, i, n, n'))
seconds-within plan a b (suc place) t (p ∷ ps) q (m, sp, rest) e =
    let i = seconds-within plan m b place t ps q rest e in
    let low = i.0 in
    let n = sp.ends.1 in
    let n' = sp.ends.2 in
    (omega (arith, low, n, n'), i.1)

-- the starts before the last piece's first second: those before the base's second, the base's own, and those of the pieces before
pub gap-outcome : (plan : Plan) (k b : ℕ) (base : BaseView) (ps : List PieceView) (q : PieceView) → IsBase plan base k → Chain plan k (map (segment_of plan) (ps ++ q ∷ [])) b
    → starts_before plan q.first ≡ starts_before plan base.second ++ (base.starts ++ flat_map (λ (p : PieceView). p.starts) ps)
gap-outcome plan k b base ps q h c =
    let two = chain-seam plan k b (map (segment_of plan) ps) (segment_of plan q ∷ []) (subst (λ (ss : List SegmentView). Chain plan k ss b) (map-append (segment_of plan) ps (q ∷ [])) c) in
    let at : q.first ≡ two.0 = two.2.1.first in
    ap (starts_before plan) at ∙ chain-outcome plan k two.0 (map (segment_of plan) ps) two.1 ∙ ap (λ l. starts_before plan k ++ l) (piece-starts plan ps)
    ∙ ap (λ l. l ++ flat_map (λ (p : PieceView). p.starts) ps) h.outcome ∙ append_assoc (starts_before plan base.second) base.starts (flat_map (λ (p : PieceView). p.starts) ps)

last-at : (ss : List SegmentView) → slice_get ss (length ss - 1) ≡ last_of ss
last-at [] = refl
last-at (s ∷ []) = refl
last-at (s ∷ t ∷ ss) = let n : length (s ∷ t ∷ ss) - 1 ≡ suc (length (t ∷ ss) - 1) = omega arith in ap (slice_get (s ∷ t ∷ ss)) n ∙ last-at (t ∷ ss)

-- what stands at the last place of a list is, as a segment, the last one of its segments, or none
pub last-seen : {X : Type 0} (f : X → SegmentView) (xs : List X) (o : Option X) → o ≡ slice_get xs (length xs - 1) → option_map f o ≡ last_of (map f xs)
last-seen f xs o e = ap (option_map f) e ∙ sym (slice_get-map f xs (length xs - 1)) ∙ ap (λ n. slice_get (map f xs) (n - 1)) (sym (length-map xs f)) ∙ last-at (map f xs)
