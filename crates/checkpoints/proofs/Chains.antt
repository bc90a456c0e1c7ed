-- Segments, one after another: the starts that they hold, where they end, and that their first seconds rise.
use Rattle.std.proofs.Common.{◌≡◌, ℕ, zero, suc, ◌+◌, ◌≤◌, ◌<◌, List, [], ◌∷◌, ◌++◌, map, take, drop, length, get_or, refl, sym, ◌∙◌, ap, arith, subst, append-nil, append_assoc}
use Rattle.std.specs.List.Sorted.{IsNonDecreasingBy}
use Rattle.std.proofs.lemmas.List.Concat.{flat_map-cons}
use Rattle.scenarios.specs.Plan.{Plan}
use Rattle.easy_rule.specs.Simulation.{starts_before, sim, bound}
use Rattle.scenarios.specs.SoundPlan.{IsPlan}
use Rattle.timeline.proofs.Lemmas.{events-end-by-the-bound}
use Rattle.event_loop.proofs.Lemmas.{outcome-all}
use Rattle.metrics.specs.Part.{IsPartOf}
use Rattle.checkpoints.specs.Segment.{SegmentView}
use Rattle.checkpoints.specs.Cut.{placed_of, Spans, Chain, IsFull, ShortChain, IsCut, IsShortCut, all_starts}

-- the starts before the end of a chain are those before its beginning and those of its segments
pub chain-outcome : (plan : Plan) (a b : ℕ) (ss : List SegmentView) → Chain plan a ss b → starts_before plan b ≡ starts_before plan a ++ all_starts ss
chain-outcome plan a b [] e = sym (append-nil (starts_before plan a) ∙ ap (starts_before plan) e)
chain-outcome plan a b (s ∷ ss) (m, sp, rest) =
    chain-outcome plan m b ss rest ∙ ap (λ l. l ++ all_starts ss) sp.starts ∙ append_assoc (starts_before plan a) s.starts (all_starts ss)
    ∙ ap (λ l. starts_before plan a ++ l) (sym (flat_map-cons (λ (x : SegmentView). x.starts) s ss))

-- the starts of a cut's segments, in order, are all starts of the simulation
pub cut-outcome : (plan : Plan) (ss : List SegmentView) → IsPlan plan → IsCut plan ss → all_starts ss ≡ sim plan
unfolding starts_before
cut-outcome plan ss p (e, chain, over) = sym (chain-outcome plan 0 e ss chain) ∙ outcome-all plan e p over

-- the first i segments of a chain and the others are a chain each, and the second begins where the first ends
pub chain-split : (plan : Plan) (i a b : ℕ) (ss : List SegmentView) → Chain plan a ss b → i ≤ length ss → (m : ℕ) × Chain plan a (take i ss) m × Chain plan m (drop i ss) b
chain-split plan zero a b ss c l = (a, refl, c)
chain-split plan (suc i) a b [] c l = absurd (omega arith)
chain-split plan (suc i) a b (s ∷ ss) (m, sp, rest) l = let k = chain-split plan i m b ss rest (omega arith) in (k.0, (m, sp, k.1), k.2)

-- the part of a chain's i-th segment is that of the jobs of its own starts
pub chain-part : (plan : Plan) (i a b : ℕ) (ss : List SegmentView) (d : SegmentView) → Chain plan a ss b → i < length ss → IsPartOf (placed_of plan.jobs (get_or ss i d).starts) (get_or ss i d).part
chain-part plan i a b [] d c l = absurd (omega arith)
chain-part plan zero a b (s ∷ ss) d (m, sp, rest) l = sp.part
chain-part plan (suc i) a b (s ∷ ss) d (m, sp, rest) l = chain-part plan i m b ss d rest (omega arith)

-- segments of n event seconds each, one after another, stay so with one more such segment that begins where they end
pub chain-push : (plan : Plan) (n a m b : ℕ) (ss : List SegmentView) (s : SegmentView) → ShortChain plan n a ss m → Spans plan s m b → IsFull plan n m b → ShortChain plan n a (ss ++ s ∷ []) b
chain-push plan n a m b [] s e sp l = (b, subst (λ x. Spans plan s x b) (sym e) sp, subst (λ x. IsFull plan n x b) (sym e) l, refl)
chain-push plan n a m b (x ∷ xs) s (k, sx, lx, rest) sp l = (k, sx, lx, chain-push plan n k m b xs s rest sp l)

-- segments of n event seconds each, one after another, are a chain
pub short-chain : (plan : Plan) (n a b : ℕ) (ss : List SegmentView) → ShortChain plan n a ss b → Chain plan a ss b
short-chain plan n a b [] e = e
short-chain plan n a b (s ∷ ss) (m, sp, l, rest) = (m, sp, short-chain plan n m b ss rest)

-- a cut into segments of n event seconds each is a cut
pub short-cut : (plan : Plan) (n : ℕ) (ss : List SegmentView) → IsShortCut plan n ss → IsCut plan ss
short-cut plan n ss (e, chain, over) = (e, short-chain plan n 0 e ss chain, over)

-- a segment ends one second after the bound at the latest
pub span-bounded : (plan : Plan) (s : SegmentView) (a b : ℕ) → IsPlan plan → Spans plan s a b → b ≤ bound plan + 1
span-bounded plan s a b p sp =
    let l = events-end-by-the-bound plan sp.ends.0 p sp.ends.3 in
    let e = sp.ends.2 in
    omega (arith, l, e)

pub first-after : {X : Type 0} (f : X → SegmentView) (plan : Plan) (a b k : ℕ) (xs : List X) (d : X) → Chain plan a (map f xs) b → k < length xs → a ≤ (f (get_or xs k d)).first
first-after f plan a b k [] d c l = absurd (omega arith)
first-after f plan a b zero (x ∷ xs) d (m, sp, rest) l = let e = sp.first in omega (arith, e)
first-after f plan a b (suc k) (x ∷ xs) d (m, sp, rest) l =
    let i = first-after f plan m b k xs d rest (omega arith) in
    let t = sp.ends.1 in
    let e = sp.ends.2 in
    omega (arith, i, t, e)

-- the segments of a chain stand in order of their first seconds
pub firsts-rise : {X : Type 0} (f : X → SegmentView) (plan : Plan) (a b : ℕ) (xs : List X) → Chain plan a (map f xs) b → IsNonDecreasingBy (λ x. (f x).first) xs
firsts-rise f plan a b [] c i j d le l = absurd (omega arith)
firsts-rise f plan a b (x ∷ xs) (m, sp, rest) zero j d le l =
    let e = sp.first in
    let k = first-after f plan a b j (x ∷ xs) d (m, sp, rest) l in
    omega (arith, e, k)
firsts-rise f plan a b (x ∷ xs) (m, sp, rest) (suc i) zero d le l = absurd (omega arith)
firsts-rise f plan a b (x ∷ xs) (m, sp, rest) (suc i) (suc j) d le l = firsts-rise f plan m b xs rest i j d (omega arith) (omega arith)
