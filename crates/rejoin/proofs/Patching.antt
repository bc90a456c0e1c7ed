-- New segments, one more after the others: a worked one, or the next old one that is reused.
use Rattle.std.proofs.Common.{◌≡◌, ℕ, ◌+◌, List, [], ◌∷◌, ◌++◌, refl, sym, ◌∙◌, ap, subst, arith, append_assoc, append-nil, inl, inr}
use Rattle.scenarios.specs.Plan.{Plan}
use Rattle.event_loop.specs.Events.{events_before}
use Rattle.checkpoints.specs.Segment.{SegmentView}
use Rattle.checkpoints.specs.Cut.{Spans, Chain}
use Rattle.rejoin.specs.Reused.{next_first, MayBegin, IsReused}
use Rattle.rejoin.specs.Patch.{AreReused, IsPiece, Patched}

-- new segments with a worked one behind them, which may hold so many event seconds, hold these too
pub patched-worked : (q : Plan) (old : List SegmentView) (n a m b k : ℕ) (new us : List SegmentView) (s : SegmentView) (h : ℕ) → Patched q old n a new us h m → Spans q s m b → events_before q b ≡ events_before q m + k → IsPiece q old n k b → Patched q old n a (new ++ s ∷ []) us (h + k) b
patched-worked q old n a m b k [] us s h (e, u, z) sp count le =
    (b, subst (λ x. Spans q s x b) (sym e) sp, inr (k, count ∙ ap (λ x. events_before q x + k) (sym e), le, (0, omega (arith, z), (refl, u, refl))))
patched-worked q old n a m b k (x ∷ xs) us s h (c, sx, inl (vs, e, rest)) sp count le = (c, sx, inl (vs, e, patched-worked q old n c m b k xs vs s h rest sp count le))
patched-worked q old n a m b k (x ∷ xs) us s h (c, sx, inr (j, held, few, (g, e, rest))) sp count le =
    (c, sx, inr (j, held, few, (g + k, omega (arith, e), patched-worked q old n c m b k xs us s g rest sp count le)))

-- new segments with a reused one behind them have it as the last of those reused
pub patched-taken : (q : Plan) (old : List SegmentView) (n a m b : ℕ) (new us : List SegmentView) (s : SegmentView) (h : ℕ) → Patched q old n a new us h m → Spans q s m b → Patched q old n a (new ++ s ∷ []) (us ++ s ∷ []) h b
patched-taken q old n a m b [] us s h (e, u, z) sp =
    (b, subst (λ x. Spans q s x b) (sym e) sp, inl ([], ap (λ l. l ++ s ∷ []) u, (refl, refl, z)))
patched-taken q old n a m b (x ∷ xs) us s h (c, sx, inl (vs, e, rest)) sp = (c, sx, inl (vs ++ s ∷ [], ap (λ l. l ++ s ∷ []) e, patched-taken q old n c m b xs vs s h rest sp))
patched-taken q old n a m b (x ∷ xs) us s h (c, sx, inr (j, held, few, (g, e, rest))) sp = (c, sx, inr (j, held, few, (g, e, patched-taken q old n c m b xs us s g rest sp)))

-- the new segments are one after another
pub patched-chain : (q : Plan) (old : List SegmentView) (n a b : ℕ) (new us : List SegmentView) (h : ℕ) → Patched q old n a new us h b → Chain q a new b
patched-chain q old n a b [] us h p = p.0
patched-chain q old n a b (x ∷ xs) us h (c, sx, inl (vs, e, rest)) = (c, sx, patched-chain q old n c b xs vs h rest)
patched-chain q old n a b (x ∷ xs) us h (c, sx, inr (j, held, few, (g, e, rest))) = (c, sx, patched-chain q old n c b xs us g rest)

-- where a segment may begin at the beginning of a chain, one may begin at its end
pub chain-begins : (q : Plan) (a b : ℕ) (ss : List SegmentView) → MayBegin q a → Chain q a ss b → MayBegin q b
chain-begins q a b [] may e = subst (MayBegin q) e may
chain-begins q a b (s ∷ ss) may (m, sp, rest) = chain-begins q m b ss (inr (sp.ends.0, sp.ends.2, sp.ends.3)) rest

-- where the next old segment is reused, it is the last of those that are
pub keep-last : (p q : Plan) (front rest us : List SegmentView) (s : SegmentView) → AreReused p q front (s ∷ rest) us → IsReused p q s.first (next_first rest) → AreReused p q (front ++ s ∷ []) rest (us ++ s ∷ [])
keep-last p q [] rest us s e k = inl (k, ([], ap (λ l. l ++ s ∷ []) e, refl))
keep-last p q (z ∷ zs) rest us s (inl (here, (vs, e, h))) k =
    inl (
      subst (λ l. IsReused p q z.first (next_first l)) (sym (append_assoc zs (s ∷ []) rest)) here,
      (vs ++ s ∷ [], ap (λ l. l ++ s ∷ []) e, keep-last p q zs rest vs s h k),
    )
keep-last p q (z ∷ zs) rest us s (inr (never, h)) k =
    inr ((λ here. never (subst (λ l. IsReused p q z.first (next_first l)) (append_assoc zs (s ∷ []) rest) here)), keep-last p q zs rest us s h k)

-- where the next old segment is not reused, those that are stay as they are
pub pass-last : (p q : Plan) (front rest us : List SegmentView) (s : SegmentView) → AreReused p q front (s ∷ rest) us → (IsReused p q s.first (next_first rest) → ⊥) → AreReused p q (front ++ s ∷ []) rest us
pass-last p q [] rest us s e no' = inr (no', e)
pass-last p q (z ∷ zs) rest us s (inl (here, (vs, e, h))) no' =
    inl (
      subst (λ l. IsReused p q z.first (next_first l)) (sym (append_assoc zs (s ∷ []) rest)) here,
      (vs, e, pass-last p q zs rest vs s h no'),
    )
pass-last p q (z ∷ zs) rest us s (inr (never, h)) no' =
    inr ((λ here. never (subst (λ l. IsReused p q z.first (next_first l)) (append_assoc zs (s ∷ []) rest) here)), pass-last p q zs rest us s h no')

-- where no old segment is left, the reused ones are all of the old ones that are reused
pub all-are-reused : (p q : Plan) (old front us : List SegmentView) → old ≡ front ++ [] → AreReused p q front [] us → AreReused p q old [] us
all-are-reused p q old front us e kept = subst (λ l. AreReused p q l [] us) (sym (e ∙ append-nil front)) kept
