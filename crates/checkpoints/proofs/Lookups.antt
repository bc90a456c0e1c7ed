-- A job's start, looked up in segments, from the first on or from the last one that begins by its submit second: those before that have none.
use Rattle.std.proofs.Common.{◌≡◌, ℕ, zero, suc, ◌+◌, ◌-◌, ◌≤◌, ◌<◌, Bool, true, false, nat_eq, nat_le, List, [], ◌∷◌, ◌++◌, map, take, drop, length, get_or, Option, Some, None, is_some, refl, sym, ◌∙◌, ap, arith, subst, add-one}
use Rattle.std.specs.Prelude.{find}
use Rattle.std.specs.Option.{option_map, option_or}
use Rattle.std.proofs.Math.Seq.{drop-cons}
use Rattle.std.proofs.lemmas.Bool.{false≢true, leb-true}
use Rattle.std.proofs.lemmas.Grind.{flat_map-append}
use Rattle.std.proofs.lemmas.List.{drop-map, get_or-map, length-map, length-drop, take_all, take-append-drop}
use Rattle.std.proofs.lemmas.List.Concat.{flat_map-cons}
use Rattle.std.proofs.lemmas.List.Folds.{find-append}
use Rattle.std.specs.List.Sorted.{IsPartitionedBy}
use Rattle.std.proofs.lemmas.List.Sorted.{IsPartitionedBy-leb}
use Rattle.scenarios.specs.Job.{EffectiveJob}
use Rattle.scenarios.specs.Plan.{Plan, job_numbered}
use Rattle.easy_rule.specs.declared.start.Start.{Start}
use Rattle.easy_rule.specs.Simulation.{sim, start_of, starts_before}
use Rattle.scenarios.specs.SoundPlan.{IsPlan}
use Rattle.checkpoints.specs.Segment.{SegmentView}
use Rattle.checkpoints.specs.Cut.{Chain, IsCut, all_starts}
use Rattle.checkpoints.proofs.Chains.{chain-outcome, chain-split, cut-outcome, firsts-rise}
use Rattle.checkpoints.proofs.Late.{not-before}

abbrev second_of : Option Start → Option ℕ
second_of o = option_map (λ (x : Start). x.at) o

some-first : (o r : Option Start) → is_some (second_of o) ≡ true → second_of (option_or o r) ≡ second_of o
some-first None r e = absurd (false≢true e)
some-first (Some x) r e = refl

none-first : (o r : Option Start) → is_some (second_of o) ≡ false → second_of (option_or o r) ≡ second_of r
none-first None r e = refl
none-first (Some x) r e = absurd (false≢true (sym e))

start-first : (n : ℕ) (xs ys : List Start) → is_some (start_of xs n) ≡ true → start_of (xs ++ ys) n ≡ start_of xs n
start-first n xs ys e =
    let has : Start → Bool = λ x. nat_eq x.number n in
    ap second_of (find-append has xs ys) ∙ some-first (find has xs) (find has ys) e

start-later : (n : ℕ) (xs ys : List Start) → is_some (start_of xs n) ≡ false → start_of (xs ++ ys) n ≡ start_of ys n
start-later n xs ys e =
    let has : Start → Bool = λ x. nat_eq x.number n in
    ap second_of (find-append has xs ys) ∙ none-first (find has xs) (find has ys) e

-- of a list from place k on, as many elements as the length less k are all that there are
pub rest-is : {X : Type 0} (k : ℕ) (xs : List X) → take (length xs - k) (drop k xs) ≡ drop k xs
rest-is k xs = let l = length-drop k xs in take_all (length xs - k) (drop k xs) (omega (arith, l))

module _ {X : Type 0} (f : X → SegmentView) where
  -- the starts of the segments from the i-th on
  abbrev pub starts-from : List X → ℕ → List Start
  starts-from xs i = all_starts (map f (drop i xs))

  pub next-starts : (xs : List X) (i : ℕ) (d : X) → i < length xs → starts-from xs i ≡ (f (get_or xs i d)).starts ++ starts-from xs (i + 1)
  next-starts xs i d l =
      ap (λ ys. all_starts (map f ys)) (drop-cons xs i d l)
      ∙ flat_map-cons (λ (s : SegmentView). s.starts) (f (get_or xs i d)) (map f (drop (suc i) xs))
      ∙ ap (λ k. (f (get_or xs i d)).starts ++ starts-from xs k) (sym (add-one i))

  -- where the i-th segment has a start of the number, it is the one that is looked for from there on
  pub found-here : (n : ℕ) (xs : List X) (i : ℕ) (d : X) (o w : Option ℕ) → i < length xs → o ≡ start_of (f (get_or xs i d)).starts n → is_some o ≡ true → start_of (starts-from xs i) n ≡ w → o ≡ w
  found-here n xs i d o w l e s h =
      e ∙ sym (start-first n (f (get_or xs i d)).starts (starts-from xs (i + 1)) (ap is_some (sym e) ∙ s)) ∙ ap (λ ys. start_of ys n) (sym (next-starts xs i d l)) ∙ h

  -- where the i-th segment has no start of the number, the one that is looked for is that from the next segment on
  pub found-later : (n : ℕ) (xs : List X) (i : ℕ) (d : X) (o w : Option ℕ) → i < length xs → o ≡ start_of (f (get_or xs i d)).starts n → is_some o ≡ false → start_of (starts-from xs i) n ≡ w → start_of (starts-from xs (i + 1)) n ≡ w
  found-later n xs i d o w l e s h =
      sym (start-later n (f (get_or xs i d)).starts (starts-from xs (i + 1)) (ap is_some (sym e) ∙ s)) ∙ ap (λ ys. start_of ys n) (sym (next-starts xs i d l)) ∙ h

  pub found-from : (plan : Plan) (xs : List X) (n i : ℕ) (d : X) (job : EffectiveJob) → IsPlan plan → IsCut plan (map f xs) → job_numbered plan.jobs n ≡ Some job → i < length xs → (f (get_or xs i d)).first ≤ job.submit
      → start_of (starts-from xs i) n ≡ start_of (sim plan) n
  unfolding starts_before
  found-from plan xs n i d job p (e, chain, over) is l le =
      let ss : List SegmentView = map f xs in
      let same = length-map xs f in
      let k = chain-split plan i 0 e ss chain (omega (arith, same, l)) in
      let back : Chain plan k.0 (get_or ss i (f d) ∷ drop (suc i) ss) e = subst (λ zs. Chain plan k.0 zs e) (drop-cons ss i (f d) (omega (arith, same, l))) k.2 in
      let first : (get_or ss i (f d)).first ≡ k.0 = back.1.first in
      let at : get_or ss i (f d) ≡ f (get_or xs i d) = get_or-map f xs i d (f d) l in
      let first' = ap (λ (s : SegmentView). s.first) at in
      let front : starts_before plan k.0 ≡ all_starts (take i ss) = chain-outcome plan 0 k.0 (take i ss) k.1 in
      let none : start_of (all_starts (take i ss)) n ≡ None = ap (λ ys. start_of ys n) (sym front) ∙ not-before plan n k.0 job p is (omega (arith, first, first', le)) in
      let whole : all_starts (take i ss) ++ all_starts (drop i ss) ≡ sim plan =
      sym (flat_map-append (λ (s : SegmentView). s.starts) (take i ss) (drop i ss)) ∙ ap all_starts (take-append-drop i ss) ∙ cut-outcome plan ss p (e, chain, over) in
      ap (λ ys. start_of (all_starts ys) n) (sym (drop-map f i xs))
      ∙ sym (start-later n (all_starts (take i ss)) (all_starts (drop i ss)) (ap is_some none))
      ∙ ap (λ ys. start_of ys n) whole

  pub found-among : (plan : Plan) (xs : List X) (n : ℕ) → IsPlan plan → IsCut plan (map f xs) → start_of (starts-from xs 0) n ≡ start_of (sim plan) n
  found-among plan xs n p cut = ap (λ ys. start_of ys n) (cut-outcome plan (map f xs) p cut)

  -- from the last of some first segments that begin by a job's submit second on, or from the first one, its number starts as in the simulation
  pub found-by : (plan : Plan) (xs : List X) (n later k submit : ℕ) (job : EffectiveJob) → IsPlan plan → IsCut plan (map f xs) → job_numbered plan.jobs n ≡ Some job → submit ≡ job.submit → later ≤ length xs → k ≡ later - 1
      → ((j : ℕ) (d : X) → j < later → nat_le (f (get_or xs j d)).first submit ≡ true) → start_of (starts-from xs k) n ≡ start_of (sim plan) n
  found-by plan [] n zero k submit job p cut is same w e h = let e' : k ≡ 0 = omega (arith, e) in subst (λ j. start_of (starts-from [] j) n ≡ start_of (sim plan) n) (sym e') (found-among plan [] n p cut)
  found-by plan [] n (suc m) k submit job p cut is same w e h = absurd (omega (arith, w))
  found-by plan (x ∷ xs) n zero k submit job p cut is same w e h = let e' : k ≡ 0 = omega (arith, e) in subst (λ j. start_of (starts-from (x ∷ xs) j) n ≡ start_of (sim plan) n) (sym e') (found-among plan (x ∷ xs) n p cut)
  found-by plan (x ∷ xs) n (suc m) k submit job p cut is same w e h =
      let e' : k ≡ m = omega (arith, e) in
      let le = leb-true (f (get_or (x ∷ xs) m x)).first submit (h m x (omega arith)) in
      subst (λ j. start_of (starts-from (x ∷ xs) j) n ≡ start_of (sim plan) n) (sym e') (found-from plan (x ∷ xs) n m x job p cut is (omega (arith, w)) (omega (arith, le, same)))

  -- whether a segment begins at second t or before
  abbrev pub begins-by : ℕ → X → Bool
  begins-by t x = nat_le (f x).first t

  -- the segments of a cut that begin by a second come before the others
  pub parted : (plan : Plan) (xs : List X) (t : ℕ) → IsCut plan (map f xs) → IsPartitionedBy (begins-by t) xs
  parted plan xs t (e, chain, over) = IsPartitionedBy-leb (λ x. (f x).first) xs t (firsts-rise f plan 0 e xs chain)
