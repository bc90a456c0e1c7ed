-- Parts merged into one: none, one, two, or two halves of a list, and those of segments that have the parts of their own starts.
use Rattle.std.proofs.Common.{◌≡◌, ℕ, ◌+◌, ◌≤◌, List, [], ◌∷◌, ◌++◌, map, take, drop, length, length-append, get_or, All, refl, sym, ◌∙◌, ap, arith, subst, append-nil}
use Rattle.std.specs.List.{AllZip}
use Rattle.std.proofs.lemmas.Grind.{flat_map-append}
use Rattle.std.proofs.lemmas.List.{take-append-drop, map-append}
use Rattle.std.proofs.lemmas.List.Concat.{flat_map-cons}
use Rattle.std.proofs.lemmas.List.Elements.{filter_map-append, All-head, All-tail}
use Rattle.scenarios.specs.Job.{EffectiveJob}
use Rattle.scenarios.specs.declared.placed.Placed.{Placed}
use Rattle.metrics.specs.declared.totals.Totals.{Totals}
use Rattle.metrics.specs.Part.{PartSums, IsPartOf}
use Rattle.checkpoints.specs.Segment.{SegmentView}
use Rattle.checkpoints.specs.Cut.{all_starts, placed_of, placed_at}
use Rattle.checkpoints.specs.Sums.{HasOwnPart}
use Rattle.checkpoints.specs.Merged.{joined, IsMerged, AreFew}
use Rattle.checkpoints.specs.Nodes.{parts_of}

joined-both : (xss yss : List (List Placed)) → joined (xss ++ yss) ≡ joined xss ++ joined yss
joined-both xss yss = flat_map-append (λ (ps : List Placed). ps) xss yss

-- a part counts the jobs of which it is
pub count-is : (ps : List Placed) (v : PartSums) → IsPartOf ps v → v.totals.count ≡ length ps
count-is ps v h = ap (λ (t : Totals). t.count) h.totals

-- lists of jobs whose parts are two lists, one behind the other, are the lists of jobs of the first and, behind them, of the second
pub zip-split : (vs ws : List PartSums) (lists : List (List Placed)) → AllZip IsPartOf lists (vs ++ ws)
    → (xss : List (List Placed)) × (yss : List (List Placed)) × (lists ≡ xss ++ yss) × AllZip IsPartOf xss vs × AllZip IsPartOf yss ws
zip-split [] ws lists z = ([], lists, refl, tt, z)
zip-split (v ∷ vs) ws [] z = absurd z
zip-split (v ∷ vs) ws (ps ∷ lists) z = let r = zip-split vs ws lists z.1 in (ps ∷ r.0, r.1, ap (λ l. ps ∷ l) r.2, (z.0, r.3), r.4)

pub merged-none : (v : PartSums) → IsPartOf [] v → IsMerged [] v
merged-none v h [] z = h
merged-none v h (ps ∷ lists) z = absurd z

pub merged-one : (v : PartSums) → IsMerged (v ∷ []) v
merged-one v [] z = absurd z
merged-one v (ps ∷ []) z = subst (λ qs. IsPartOf qs v) (sym (flat_map-cons (λ (xs : List Placed). xs) ps [] ∙ append-nil ps)) z.0
merged-one v (ps ∷ qs ∷ lists) z = absurd z.1

pub merged-both : (vs ws : List PartSums) (v w u : PartSums) → IsMerged vs v → IsMerged ws w → ((xs ys : List Placed) → IsPartOf xs v → IsPartOf ys w → IsPartOf (xs ++ ys) u) → IsMerged (vs ++ ws) u
merged-both vs ws v w u h k join lists z =
    let r = zip-split vs ws lists z in
    subst (λ qs. IsPartOf qs u) (sym (ap joined r.2 ∙ joined-both r.0 r.1)) (join (joined r.0) (joined r.1) (h r.0 r.3) (k r.1 r.4))

both-few : (lists xss yss : List (List Placed)) → lists ≡ xss ++ yss → length (joined lists) ≤ 4194304 → length (joined xss) + length (joined yss) ≤ 4194304
both-few lists xss yss e l =
    let n = ap (λ ls. length (joined ls)) e in
    let j = ap length (joined-both xss yss) in
    let b = length-append (joined xss) (joined yss) in omega (arith, n, j, b, l)

pub few-front : (vs ws : List PartSums) → AreFew (vs ++ ws) → AreFew vs
few-front vs ws h =
    let r = zip-split vs ws h.lists h.parts in
    let both = both-few h.lists r.0 r.1 r.2 h.few in
    record { lists = r.0; parts = r.3; few = omega (arith, both) }

pub few-back : (vs ws : List PartSums) → AreFew (vs ++ ws) → AreFew ws
few-back vs ws h =
    let r = zip-split vs ws h.lists h.parts in
    let both = both-few h.lists r.0 r.1 r.2 h.few in
    record { lists = r.1; parts = r.4; few = omega (arith, both) }

pub few-both : (vs ws : List PartSums) (v w : PartSums) → AreFew (vs ++ ws) → IsMerged vs v → IsMerged ws w → v.totals.count + w.totals.count ≤ 4194304
few-both vs ws v w h m k =
    let r = zip-split vs ws h.lists h.parts in
    let both = both-few h.lists r.0 r.1 r.2 h.few in
    let a = count-is (joined r.0) v (m r.0 r.3) in
    let b = count-is (joined r.1) w (k r.1 r.4) in omega (arith, both, a, b)

module _ {X : Type 0} (f : X → PartSums) where
  -- the part of no job is the merged part of no parts
  pub none-merged : (xs : List X) (e : PartSums) → length xs ≡ 0 → IsPartOf [] e → IsMerged (map f xs) e
  none-merged [] e l h = merged-none e h
  none-merged (x ∷ xs) e l h = absurd (omega (arith, l))

  one-is : (xs : List X) (x : X) → length xs ≡ 1 → x ≡ get_or xs 0 x → map f xs ≡ f x ∷ []
  one-is [] x l e = absurd (omega (arith, l))
  one-is (y ∷ []) x l e = ap (λ z. f z ∷ []) (sym e)
  one-is (y ∷ z ∷ xs) x l e = absurd (omega (arith, l))

  -- the part of no job and a list's only part, which is over few jobs, count together 4194304 at most
  pub one-few : (xs : List X) (x : X) (e : PartSums) → length xs ≡ 1 → x ≡ get_or xs 0 x → IsPartOf [] e → AreFew (map f xs) → e.totals.count + (f x).totals.count ≤ 4194304
  one-few xs x e l is h few' = few-both [] (f x ∷ []) e (f x) (subst AreFew (one-is xs x l is) few') (merged-none e h) (merged-one (f x))

  -- the sum of the part of no job and a list's only part is the list's merged part
  pub one-merged : (xs : List X) (x : X) (e u : PartSums) → length xs ≡ 1 → x ≡ get_or xs 0 x → IsPartOf [] e → ((ps qs : List Placed) → IsPartOf ps e → IsPartOf qs (f x) → IsPartOf (ps ++ qs) u) → IsMerged (map f xs) u
  one-merged xs x e u l is h join = subst (λ vs. IsMerged vs u) (sym (one-is xs x l is)) (merged-both [] (f x ∷ []) e (f x) u (merged-none e h) (merged-one (f x)) join)

  two-are : (xs : List X) (x y : X) → length xs ≡ 2 → x ≡ get_or xs 0 x → y ≡ get_or xs 1 y → map f xs ≡ f x ∷ f y ∷ []
  two-are [] x y l d e = absurd (omega (arith, l))
  two-are (a ∷ []) x y l d e = absurd (omega (arith, l))
  two-are (a ∷ b ∷ []) x y l d e = λ i. f (sym d i) ∷ f (sym e i) ∷ []
  two-are (a ∷ b ∷ c ∷ xs) x y l d e = absurd (omega (arith, l))

  -- a list's only two parts, which are over few jobs, count together 4194304 at most
  pub two-few : (xs : List X) (x y : X) → length xs ≡ 2 → x ≡ get_or xs 0 x → y ≡ get_or xs 1 y → AreFew (map f xs) → (f x).totals.count + (f y).totals.count ≤ 4194304
  two-few xs x y l d e few' = few-both (f x ∷ []) (f y ∷ []) (f x) (f y) (subst AreFew (two-are xs x y l d e) few') (merged-one (f x)) (merged-one (f y))

  -- the sum of a list's only two parts is its merged part
  pub two-merged : (xs : List X) (x y : X) (u : PartSums) → length xs ≡ 2 → x ≡ get_or xs 0 x → y ≡ get_or xs 1 y → ((ps qs : List Placed) → IsPartOf ps (f x) → IsPartOf qs (f y) → IsPartOf (ps ++ qs) u) → IsMerged (map f xs) u
  two-merged xs x y u l d e join = subst (λ vs. IsMerged vs u) (sym (two-are xs x y l d e)) (merged-both (f x ∷ []) (f y ∷ []) (f x) (f y) u (merged-one (f x)) (merged-one (f y)) join)

  -- the parts of a list are those of its first k elements and those of the others
  pub halves : (xs ys zs : List X) (k : ℕ) → ys ≡ take k xs → zs ≡ drop k xs → map f ys ++ map f zs ≡ map f xs
  halves xs ys zs k d e = (λ i. map f (d i) ++ map f (e i)) ∙ sym (map-append f (take k xs) (drop k xs)) ∙ ap (map f) (take-append-drop k xs)

  -- where the parts of a list are over few jobs, so are those of its first k elements
  pub front-few : (xs ys zs : List X) (k : ℕ) → ys ≡ take k xs → zs ≡ drop k xs → AreFew (map f xs) → AreFew (map f ys)
  front-few xs ys zs k d e h = few-front (map f ys) (map f zs) (subst AreFew (sym (halves xs ys zs k d e)) h)

  -- where the parts of a list are over few jobs, so are those behind its first k elements
  pub back-few : (xs ys zs : List X) (k : ℕ) → ys ≡ take k xs → zs ≡ drop k xs → AreFew (map f xs) → AreFew (map f zs)
  back-few xs ys zs k d e h = few-back (map f ys) (map f zs) (subst AreFew (sym (halves xs ys zs k d e)) h)

  -- where the parts of a list are over few jobs, the merged parts of its two halves count together 4194304 at most
  pub halves-few : (xs ys zs : List X) (k : ℕ) (v w : PartSums) → ys ≡ take k xs → zs ≡ drop k xs → AreFew (map f xs) → IsMerged (map f ys) v → IsMerged (map f zs) w → v.totals.count + w.totals.count ≤ 4194304
  halves-few xs ys zs k v w d e h m n = few-both (map f ys) (map f zs) v w (subst AreFew (sym (halves xs ys zs k d e)) h) m n

  -- the sum of the merged parts of a list's two halves is the list's merged part
  pub halves-merged : (xs ys zs : List X) (k : ℕ) (v w u : PartSums) → ys ≡ take k xs → zs ≡ drop k xs → IsMerged (map f ys) v → IsMerged (map f zs) w
      → ((ps qs : List Placed) → IsPartOf ps v → IsPartOf qs w → IsPartOf (ps ++ qs) u) → IsMerged (map f xs) u
  halves-merged xs ys zs k v w u d e m n join = subst (λ vs. IsMerged vs u) (halves xs ys zs k d e) (merged-both (map f ys) (map f zs) v w u m n join)

lists_of : List EffectiveJob → List SegmentView → List (List Placed)
lists_of jobs ss = map (λ (s : SegmentView). placed_of jobs s.starts) ss

own-lists : (jobs : List EffectiveJob) (ss : List SegmentView) → All (HasOwnPart jobs) ss → AllZip IsPartOf (lists_of jobs ss) (parts_of ss)
unfolding lists_of
own-lists jobs [] h = tt
own-lists jobs (s ∷ ss) h = (All-head (HasOwnPart jobs) s ss h, own-lists jobs ss (All-tail (HasOwnPart jobs) s ss h))

joined-lists : (jobs : List EffectiveJob) (ss : List SegmentView) → joined (lists_of jobs ss) ≡ placed_of jobs (all_starts ss)
unfolding lists_of
joined-lists jobs [] = refl
joined-lists jobs (s ∷ ss) = ap (λ l. placed_of jobs s.starts ++ l) (joined-lists jobs ss) ∙ sym (filter_map-append (placed_at jobs) s.starts (all_starts ss))

-- the parts of segments that have the parts of their own starts are over few jobs, where the jobs of all these starts are few
pub own-few : (jobs : List EffectiveJob) (ss : List SegmentView) → All (HasOwnPart jobs) ss → length (placed_of jobs (all_starts ss)) ≤ 4194304 → AreFew (parts_of ss)
own-few jobs ss h l =
    let e = ap length (joined-lists jobs ss) in
    record { lists = lists_of jobs ss; parts = own-lists jobs ss h; few = omega (arith, e, l) }

-- the merged part of segments that have the parts of their own starts is that of all jobs that start in them
pub own-merged : (jobs : List EffectiveJob) (ss : List SegmentView) (v : PartSums) → All (HasOwnPart jobs) ss → IsMerged (parts_of ss) v → IsPartOf (placed_of jobs (all_starts ss)) v
own-merged jobs ss v h m = subst (λ ps. IsPartOf ps v) (joined-lists jobs ss) (m (lists_of jobs ss) (own-lists jobs ss h))
