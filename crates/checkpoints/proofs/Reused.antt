-- Old nodes that are reused, and what stands between them: an old node is passed over, or it is reused behind nodes of the parts before it.
use Rattle.std.proofs.Common.{◌≡◌, ℕ, zero, suc, ◌+◌, ◌-◌, ◌≤◌, ◌<◌, ◌^◌, List, [], ◌∷◌, ◌++◌, map, take, drop, length, length-append, length-drop, Option, Some, None, IfSome, option_map, refl, sym, ◌∙◌, ap, arith, subst, drop_at, drop-drop, take-add, take_all}
use Rattle.std.specs.List.{AllZip, slice_get, slice_range}
use Rattle.std.proofs.lemmas.List.{take-map, drop-map, drop_more, length-map, map-append, take-append-drop}
use Rattle.std.proofs.lemmas.Option.{slice_get_within, slice_get-map, get_or_from_slice_get}
use Rattle.metrics.specs.Part.{PartSums}
use Rattle.checkpoints.specs.Segment.{SegmentView}
use Rattle.checkpoints.specs.Merged.{AreFew}
use Rattle.checkpoints.specs.Nodes.{NodeView, parts_of, node_parts, AreNodesOf, AreFrom, ArePartsFrom, AreInRow}
use Rattle.checkpoints.specs.Rebuilding.{IsRebuilding}
use Rattle.checkpoints.proofs.Levels.{nodes-last}
use Rattle.checkpoints.proofs.Merging.{halves, front-few, back-few}

abbrev From : List PartSums → PartSums → Option ℕ → Type 0
From olds v place = IfSome place (λ k. slice_get olds k ≡ Some v)

zip-drop : {A B : Type 0} (R : A → B → Type 0) (n : ℕ) (xs : List A) (ys : List B) → AllZip R xs ys → AllZip R (drop n xs) (drop n ys)
zip-drop R zero xs ys z = z
zip-drop R (suc n) [] [] z = tt
zip-drop R (suc n) [] (y ∷ ys) z = absurd z
zip-drop R (suc n) (x ∷ xs) [] z = absurd z
zip-drop R (suc n) (x ∷ xs) (y ∷ ys) z = zip-drop R n xs ys z.1

pub zip-long : {A B : Type 0} (R : A → B → Type 0) (xs : List A) (ys : List B) → AllZip R xs ys → length xs ≡ length ys
zip-long R [] [] z = refl
zip-long R [] (y ∷ ys) z = absurd z
zip-long R (x ∷ xs) [] z = absurd z
zip-long R (x ∷ xs) (y ∷ ys) z = let e = zip-long R xs ys z.1 in omega (arith, e)

zip-last : {A B : Type 0} (R : A → B → Type 0) (xs : List A) (ys : List B) (x : A) (y : B) → AllZip R xs ys → R x y → AllZip R (xs ++ x ∷ []) (ys ++ y ∷ [])
zip-last R [] [] x y z r = (r, tt)
zip-last R [] (b ∷ ys) x y z r = absurd z
zip-last R (a ∷ xs) [] x y z r = absurd z
zip-last R (a ∷ xs) (b ∷ ys) x y z r = (z.0, zip-last R xs ys x y z.1 r)

-- where the parts of nodes come from their places, and that of one more node from its place, all do
pub from-last : (olds : List PartSums) (gs : List NodeView) (places : List (Option ℕ)) (g : NodeView) (place : Option ℕ) → ArePartsFrom olds (node_parts gs) places → IfSome place (λ k. slice_get olds k ≡ Some g.part) → ArePartsFrom olds (node_parts (gs ++ g ∷ [])) (places ++ place ∷ [])
from-last olds gs places g place z r =
    subst (λ vs. ArePartsFrom olds vs (places ++ place ∷ [])) (sym (map-append (λ (g : NodeView). g.part) gs (g ∷ []))) (zip-last (From olds) (node_parts gs) places g.part place z r)

part-found : (olds : List SegmentView) (k : ℕ) (s : SegmentView) → slice_get olds k ≡ Some s → slice_get (parts_of olds) k ≡ Some s.part
part-found olds k s e = slice_get-map (λ (s : SegmentView). s.part) olds k ∙ ap (option_map (λ (s : SegmentView). s.part)) e

part-from : (olds : List SegmentView) (s : SegmentView) (place : Option ℕ) → IfSome place (λ k. slice_get olds k ≡ Some s) → From (parts_of olds) s.part place
part-from olds s None h = tt
part-from olds s (Some k) h = part-found olds k s h

-- the parts of segments come from the places that the segments come from
pub parts-from : (olds news : List SegmentView) (places : List (Option ℕ)) → AreFrom olds news places → ArePartsFrom (parts_of olds) (parts_of news) places
parts-from olds [] [] z = tt
parts-from olds [] (p ∷ places) z = absurd z
parts-from olds (s ∷ news) [] z = absurd z
parts-from olds (s ∷ news) (p ∷ places) z = (part-from olds s p z.0, parts-from olds news places z.1)

drop-is : (olds : List PartSums) (k : ℕ) (v : PartSums) → slice_get olds k ≡ Some v → drop k olds ≡ v ∷ drop (k + 1) olds
drop-is olds k v e = drop_more olds k v (slice_get_within olds k v e) ∙ ap (λ x. x ∷ drop (k + 1) olds) (get_or_from_slice_get olds k v v e)

row-same : (olds : List PartSums) (n k : ℕ) (vs : List PartSums) (places : List (Option ℕ)) → AllZip (From olds) vs places → AreInRow k (take n places) → n ≤ length places → take n vs ≡ take n (drop k olds)
row-same olds zero k vs places z row l = refl
row-same olds (suc n) k [] [] z row l = absurd (omega (arith, l))
row-same olds (suc n) k [] (p ∷ places) z row l = absurd z
row-same olds (suc n) k (v ∷ vs) [] z row l = absurd z
row-same olds (suc n) k (v ∷ vs) (p ∷ places) z row l =
    let here : slice_get olds k ≡ Some v = subst (From olds v) row.0 z.0 in
    ap (λ l. v ∷ l) (row-same olds n (k + 1) vs places z.1 row.1 (omega (arith, l))) ∙ sym (ap (take (suc n)) (drop-is olds k v here))

pub row-taken : (olds news : List PartSums) (places : List (Option ℕ)) (place k n : ℕ) → ArePartsFrom olds news places → AreInRow k (take n (drop place places)) → place + n ≤ length places → take n (drop place news) ≡ take n (drop k olds)
row-taken olds news places place k n z row l =
    let d = length-drop place places in
    row-same olds n k (drop place news) (drop place places) (zip-drop (From olds) place news places z) row (omega (arith, d, l))

parts-behind : (olds : List PartSums) (first : ℕ) (front back : List PartSums) (c : ℕ) → drop first olds ≡ front ++ back → length front ≡ c → drop (first + c) olds ≡ back
parts-behind olds first front back c e n = sym (drop-drop c first olds) ∙ ap (drop c) e ∙ drop_at front back c n

parts-within : (olds : List PartSums) (first : ℕ) (front back : List PartSums) (c : ℕ) → drop first olds ≡ front ++ back → length front ≡ c → first ≤ length olds → first + c ≤ length olds
parts-within olds first front back c e n l =
    let a = ap length e in
    let d = length-drop first olds in
    let b = length-append front back in omega (arith, a, d, b, n, l)

-- the old place behind the next old node's parts is less than 2^64
pub node-few : (news : List PartSums) (places : List (Option ℕ)) (left gs : List NodeView) (g : NodeView) (count place first : ℕ) → IsRebuilding news places (g ∷ left) gs count place first → first + g.count < 2 ^ 64
node-few news places left gs g count place first h =
    let o = h.old in
    let w = parts-within h.olds first o.0 o.1 g.count o.2 o.3 h.first_within in
    let few = h.few in omega (arith, w, few)

-- the new place from which old parts are looked for is no further than the places go
pub place-known : (news : List PartSums) (places : List (Option ℕ)) (left gs : List NodeView) (count place first : ℕ) → IsRebuilding news places left gs count place first → place ≤ length places
place-known news places left gs count place first h =
    let long = zip-long (From h.olds) news places h.from in
    let w = h.place_within in omega (arith, long, w)

-- the next old node is passed over: old parts are looked for behind its own, from the same new place or a later one on
pub passed-over : (news : List PartSums) (places : List (Option ℕ)) (left gs : List NodeView) (g : NodeView) (count place first to : ℕ) → IsRebuilding news places (g ∷ left) gs count place first → place ≤ to → to ≤ length places → IsRebuilding news places left gs count to (first + g.count)
passed-over news places left gs g count place first to h l m =
    let o = h.old in
    let long = zip-long (From h.olds) news places h.from in
    let c = h.count_within in
    record {
      olds = h.olds;
      from = h.from;
      old = subst (λ vs. AreNodesOf vs left) (sym (parts-behind h.olds first o.0 o.1 g.count o.2 o.3)) o.5;
      first_within = parts-within h.olds first o.0 o.1 g.count o.2 o.3 h.first_within;
      few = h.few;
      nodes = h.nodes;
      count_within = omega (arith, c, l);
      place_within = omega (arith, long, m);
    }

parts-between : (news : List PartSums) (a b n : ℕ) → a ≤ b → (take a news ++ slice_range news a b) ++ take n (drop b news) ≡ take (b + n) news
parts-between news a b n l =
    let whole : a + (b - a) ≡ b = omega (arith, l) in
    ap (λ x. x ++ take n (drop b news)) (sym (take-add a (b - a) news) ∙ ap (λ k. take k news) whole) ∙ sym (take-add b n news)

take-front : (xs ys zs : List PartSums) (c : ℕ) → zs ≡ xs ++ ys → length xs ≡ c → take c zs ≡ xs
take-front xs ys zs c e n = ap (take c) e ∙ go xs ys c n where
  go : (xs ys : List PartSums) (c : ℕ) → length xs ≡ c → take c (xs ++ ys) ≡ xs
  go [] ys zero n = refl
  go [] ys (suc c) n = absurd (omega (arith, n))
  go (x ∷ xs) ys zero n = absurd (omega (arith, n))
  go (x ∷ xs) ys (suc c) n = ap (λ l. x ∷ l) (go xs ys c (omega (arith, n)))

-- the next old node is reused, behind nodes of the new parts that stand before its parts
pub node-reused : (news : List PartSums) (places : List (Option ℕ)) (left gs hs all : List NodeView) (g : NodeView) (count place first to end : ℕ) → IsRebuilding news places (g ∷ left) gs count place first
    → place ≤ to → end ≡ to + g.count → end ≤ length places → AreInRow first (take g.count (drop to places))
    → ((vs : List PartSums) → AreNodesOf vs gs → AreNodesOf (vs ++ slice_range news count to) hs) → all ≡ hs ++ g ∷ []
    → IsRebuilding news places left all end end (first + g.count)
node-reused news places left gs hs all g count place first to end h l e m row more is =
    let o = h.old in
    let passed = passed-over news places left gs g count place first end h (omega (arith, l, e)) m in
    let c = h.count_within in
    let between : count ≤ to = omega (arith, c, l) in
    let same : take g.count (drop to news) ≡ take g.count (drop first h.olds) = row-taken h.olds news places to first g.count h.from row (omega (arith, e, m)) in
    let front : take g.count (drop to news) ≡ o.0 = same ∙ take-front o.0 o.1 (drop first h.olds) g.count o.2 o.3 in
    let parts : (take count news ++ slice_range news count to) ++ o.0 ≡ take end news =
    ap (λ x. (take count news ++ slice_range news count to) ++ x) (sym front) ∙ parts-between news count to g.count between ∙ ap (λ k. take k news) (sym e) in
    let level : AreNodesOf ((take count news ++ slice_range news count to) ++ o.0) (hs ++ g ∷ []) = nodes-last (take count news ++ slice_range news count to) o.0 hs g (more (take count news) h.nodes) o.3 o.4 in
    record {
      olds = passed.olds;
      from = passed.from;
      old = passed.old;
      first_within = passed.first_within;
      few = passed.few;
      nodes = subst (λ vs. AreNodesOf vs all) parts (subst (λ gs'. AreNodesOf ((take count news ++ slice_range news count to) ++ o.0) gs') (sym is) level);
      count_within = omega arith;
      place_within = passed.place_within;
    }

-- where nodes of all new parts behind the first `count` are added to the nodes so far, these are nodes of all new parts
pub rest-level : (news : List PartSums) (places : List (Option ℕ)) (left gs hs : List NodeView) (count place first : ℕ) → IsRebuilding news places left gs count place first
    → ((vs : List PartSums) → AreNodesOf vs gs → AreNodesOf (vs ++ drop count news) hs) → AreNodesOf news hs
rest-level news places left gs hs count place first h more = subst (λ vs. AreNodesOf vs hs) (take-append-drop count news) (more (take count news) h.nodes)

-- at first all old nodes are left, and no new part has a node
pub rebuilding-begins : (olds news : List PartSums) (places : List (Option ℕ)) (gs : List NodeView) → ArePartsFrom olds news places → AreNodesOf olds gs → length olds < 2 ^ 64 → IsRebuilding news places gs [] 0 0 0
rebuilding-begins olds news places gs from old few = record {
  olds = olds;
  from = from;
  old = old;
  first_within = omega arith;
  few = few;
  nodes = refl;
  count_within = omega arith;
  place_within = omega arith;
}

module _ {X : Type 0} (f : X → PartSums) where
  -- where the parts of a list are over few jobs, so are those between two places
  pub between-few : (xs : List X) (a b : ℕ) → AreFew (map f xs) → AreFew (map f (slice_range xs a b))
  between-few xs a b h = front-few f (drop a xs) (take (b - a) (drop a xs)) (drop (b - a) (drop a xs)) (b - a) refl refl (back-few f xs (take a xs) (drop a xs) a refl refl h)

  -- where the places of the new parts go as far as a bound, so does the list of these parts
  pub bounds-known : (xs : List X) (places : List (Option ℕ)) (left gs : List NodeView) (count place first to : ℕ) → IsRebuilding (map f xs) places left gs count place first → to ≤ length places → to ≤ length xs
  bounds-known xs places left gs count place first to h l =
      let long = zip-long (From h.olds) (map f xs) places h.from in
      let m = length-map xs f in omega (arith, long, m, l)

  -- the parts of the elements between two places are the parts between these places
  pub between-same : (xs : List X) (a b : ℕ) → map f (slice_range xs a b) ≡ slice_range (map f xs) a b
  between-same xs a b = sym (ap (take (b - a)) (drop-map f a xs) ∙ take-map f (b - a) (drop a xs))

  -- the parts of the elements from a place to the end are the parts from that place on
  pub behind-same : (xs : List X) (a : ℕ) → map f (slice_range xs a (length xs)) ≡ drop a (map f xs)
  behind-same xs a =
      let l = length-drop a xs in
      ap (map f) (take_all (length xs - a) (drop a xs) (omega (arith, l))) ∙ sym (drop-map f a xs)

  -- the parts from a place on are those from there to a later place, and those from that place on
  pub next-parts : (xs : List X) (a b : ℕ) → a ≤ b → map f (drop a xs) ≡ map f (slice_range xs a b) ++ map f (drop b xs)
  next-parts xs a b l =
      let whole : a + (b - a) ≡ b = omega (arith, l) in
      sym (halves f (drop a xs) (slice_range xs a b) (drop b xs) (b - a) refl (sym (drop-drop (b - a) a xs ∙ ap (λ k. drop k xs) whole)))
