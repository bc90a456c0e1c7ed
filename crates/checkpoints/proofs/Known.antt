-- Starts that are looked up by number, in places and a list: with one start more, with more places, segment after segment; and the rows by them.
use Rattle.std.proofs.Common.{◌≡◌, ◌≢◌, ℕ, ◌+◌, ◌-◌, ◌≤◌, ◌<◌, ◌^◌, Bool, nat_eq, List, [], ◌∷◌, ◌++◌, length, take, replicate, map, get_or, set, length-set, Option, Some, None, refl, ap, sym, subst, ◌∙◌, arith, ⊎_elim}
use Rattle.std.specs.Prelude.{IfSome, find, slice_index_or}
use Rattle.std.specs.List.{cons_option, filter_map}
use Rattle.std.specs.Option.{option_map, option_or}
use Rattle.std.proofs.lemmas.Bool.{cond-false, cond-true, eq-eqb, ne_eqb, cases_eq, le-leb, lt-leb, lt-ltb, le-ltb, cases_lt}
use Rattle.std.proofs.lemmas.List.{append-nil, take_more, map_push, length-append, length-replicate, get_or_append_left, get_or-append_right, get_or-replicate, get_or-set_same, get_or-set_other}
use Rattle.std.proofs.lemmas.List.Folds.{find-append}
use Rattle.std.proofs.lemmas.Grind.{flat_map-append}
use Rattle.scenarios.specs.Job.{EffectiveJob}
use Rattle.easy_rule.specs.declared.start.Start.{Start}
use Rattle.easy_rule.specs.Pass.{start_at}
use Rattle.easy_rule.specs.Simulation.{start_of}
use Rattle.checkpoints.specs.Segment.{SegmentView}
use Rattle.checkpoints.specs.Cut.{all_starts}
use Rattle.checkpoints.specs.Schedule.{row_at, row_of}
use Rattle.checkpoints.specs.Starts.{KnownStarts, AreApart, AreEarly, known_start, place_in, row_by, second_at, start_in}

or-none : (o : Option ℕ) → option_or o None ≡ o
or-none None = refl
or-none (Some n) = refl

pub or-later : (a b c : Option ℕ) → option_or (option_or a b) c ≡ option_or a (option_or b c)
or-later None b c = refl
or-later (Some n) b c = refl

-- the start of a number in two lists is that in the first, or else that in the second
pub start-append : (n : ℕ) (xs ys : List Start) → start_of (xs ++ ys) n ≡ option_or (start_of xs n) (start_of ys n)
start-append n xs ys =
    let has : Start → Bool = λ x. nat_eq x.number n in
    ap (λ (o : Option Start). option_map (λ (x : Start). x.at) o) (find-append has xs ys) ∙ go (find has xs) (find has ys)
  where
    go : (o r : Option Start) → option_map (λ (x : Start). x.at) (option_or o r) ≡ option_or (option_map (λ (x : Start). x.at) o) (option_map (λ (x : Start). x.at) r)
    go None r = refl
    go (Some x) r = refl

other-start : (x : Start) (n : ℕ) → (x.number ≡ n → ⊥) → start_of (x ∷ []) n ≡ None
other-start x n other = ap (λ (o : Option Start). option_map (λ (y : Start). y.at) o) (cond-false (nat_eq x.number n) (Some x) None (ne_eqb x.number n other))

some-none : (o : Option ℕ) (k : ℕ) → o ≡ Some k → o ≡ None → ⊥
some-none None k e f = cc
some-none (Some j) k e f = cc

-- a start without a place, put at the end of the list, is that of its number where none was known; all else is as before
pub noted-other : (least n : ℕ) (places : List (Option ℕ)) (others new : List Start) (x : Start) → place_in least (length places) x.number ≡ None → new ≡ others ++ x ∷ []
    → start_in least places new n ≡ option_or (start_in least places others n) (start_of (x ∷ []) n)
noted-other least n places others new x none push = go (place_in least (length places) n) refl
  where
    go : (o : Option ℕ) → place_in least (length places) n ≡ o → second_at o places (start_of new n) ≡ option_or (second_at o places (start_of others n)) (start_of (x ∷ []) n)
    go None e = ap (λ (xs : List Start). start_of xs n) push ∙ start-append n others (x ∷ [])
    go (Some k) e =
        let other : start_of (x ∷ []) n ≡ None = other-start x n (λ same. some-none (place_in least (length places) n) k e (ap (place_in least (length places)) (sym same) ∙ none)) in
        sym (or-none (slice_index_or places k None)) ∙ ap (option_or (slice_index_or places k None)) (sym other)

place-low : (least len n : ℕ) → n < least → place_in least len n ≡ None
place-low least len n l = rw (lt-leb least n l) refl

place-at : (least len n : ℕ) → least ≤ n → n - least < len → place_in least len n ≡ Some (n - least)
place-at least len n le l = rw (le-leb least n le, lt-ltb (n - least) len l) refl

place-high : (least len n : ℕ) → least ≤ n → len ≤ n - least → place_in least len n ≡ None
place-high least len n le l = rw (le-leb least n le, le-ltb (n - least) len l) refl

place-is : (least len n k : ℕ) → place_in least len n ≡ Some k → (least ≤ n) × (k ≡ n - least) × (k < len)
place-is least len n k is =
    ⊎_elim
    (λ (low : n < least). absurd (some-none (place_in least len n) k is (place-low least len n low)))
    (λ (le : least ≤ n).
    ⊎_elim
    (λ (here : n - least < len). let same : k ≡ n - least = same-some (sym is ∙ place-at least len n le here) in (le, same, omega (arith, same, here)))
    (λ (past : len ≤ n - least). absurd (some-none (place_in least len n) k is (place-high least len n le past)))
    (cases_lt (n - least) len))
    (cases_lt n least)
  where
    same-some : {a b : ℕ} → Some a ≡ Some b → a ≡ b
    same-some e = cc

-- a start noted at its place, where that has none, is that of its number where none was known; all else is as before
pub noted-here : (least n p : ℕ) (places new : List (Option ℕ)) (others : List Start) (x : Start) → place_in least (length places) x.number ≡ Some p → new ≡ set places p (option_or (get_or places p None) (Some x.at))
    → start_in least new others n ≡ option_or (start_in least places others n) (start_of (x ∷ []) n)
noted-here least n p places new others x at is =
    let here = place-is least (length places) x.number p at in
    let len : length new ≡ length places = ap length is ∙ length-set places p (option_or (get_or places p None) (Some x.at)) in
    ap (λ (k : ℕ). second_at (place_in least k n) new (start_of others n)) len
    ∙ ⊎_elim
    (λ (same : x.number ≡ n).
    let mine : place_in least (length places) n ≡ Some p = ap (place_in least (length places)) (sym same) ∙ at in
    let one : start_of (x ∷ []) n ≡ Some x.at = ap (λ (o : Option Start). option_map (λ (y : Start). y.at) o) (cond-true (nat_eq x.number n) (Some x) None (eq-eqb x.number n same)) in
    ap (λ (o : Option ℕ). second_at o new (start_of others n)) mine ∙ ap (λ (xs : List (Option ℕ)). slice_index_or xs p None) is ∙ get_or-set_same places p (option_or (get_or places p None) (Some x.at)) None here.2
    ∙ ap (option_or (get_or places p None)) (sym one) ∙ ap (λ (o : Option ℕ). option_or (second_at o places (start_of others n)) (start_of (x ∷ []) n)) (sym mine))
    (λ (differ : x.number ≡ n → ⊥).
    other-places (place_in least (length places) n) refl (other-start x n differ) (λ k e. let there = place-is least (length places) n k e in omega (arith, differ, here.0, here.1, there.0, there.1)))
    (cases_eq x.number n)
  where
    other-places : (o : Option ℕ) → place_in least (length places) n ≡ o → start_of (x ∷ []) n ≡ None → ((k : ℕ) → place_in least (length places) n ≡ Some k → k ≢ p) → second_at o new (start_of others n) ≡ option_or (second_at o places (start_of others n)) (start_of (x ∷ []) n)
    other-places None e none apart = sym (or-none (start_of others n)) ∙ ap (option_or (start_of others n)) (sym none)
    other-places (Some k) e none apart =
        ap (λ (xs : List (Option ℕ)). slice_index_or xs k None) is ∙ get_or-set_other places p k (option_or (get_or places p None) (Some x.at)) None (apart k e)
        ∙ sym (or-none (slice_index_or places k None)) ∙ ap (option_or (slice_index_or places k None)) (sym none)

-- with more places, which are empty, each number starts as before, where none that may have a place has a start in the list
pub noted-places : (least most n k : ℕ) (places new : List (Option ℕ)) (others : List Start) → AreApart least most others → length new ≤ most → new ≡ places ++ replicate k None
    → start_in least new others n ≡ start_in least places others n
noted-places least most n k places new others apart within more =
    let len : length new ≡ length places + k = ap length more ∙ length-append places (replicate k None) ∙ ap (λ (m : ℕ). length places + m) (length-replicate k None) in
    ⊎_elim
    (λ (low : n < least).
    ap (λ (o : Option ℕ). second_at o new (start_of others n)) (place-low least (length new) n low) ∙ sym (ap (λ (o : Option ℕ). second_at o places (start_of others n)) (place-low least (length places) n low)))
    (λ (le : least ≤ n).
    ⊎_elim
    (λ (here : n - least < length places).
    ap (λ (o : Option ℕ). second_at o new (start_of others n)) (place-at least (length new) n le (omega (arith, here, len)))
    ∙ ap (λ (xs : List (Option ℕ)). slice_index_or xs (n - least) None) more ∙ get_or_append_left places (replicate k None) None (n - least) here
    ∙ sym (ap (λ (o : Option ℕ). second_at o places (start_of others n)) (place-at least (length places) n le here)))
    (λ (past : length places ≤ n - least).
    ⊎_elim
    (λ (new' : n - least < length new).
    ap (λ (o : Option ℕ). second_at o new (start_of others n)) (place-at least (length new) n le new')
    ∙ ap (λ (xs : List (Option ℕ)). slice_index_or xs (n - least) None) more ∙ get_or-append_right places (replicate k None) (length places) (n - least) None refl past
    ∙ get_or-replicate k (n - least - length places) None None (omega (arith, len, new', past))
    ∙ sym (apart n (n - least) (place-at least most n le (omega (arith, new', within))))
    ∙ sym (ap (λ (o : Option ℕ). second_at o places (start_of others n)) (place-high least (length places) n le past)))
    (λ (beyond : length new ≤ n - least).
    ap (λ (o : Option ℕ). second_at o new (start_of others n)) (place-high least (length new) n le beyond)
    ∙ sym (ap (λ (o : Option ℕ). second_at o places (start_of others n)) (place-high least (length places) n le past)))
    (cases_lt (n - least) (length new)))
    (cases_lt (n - least) (length places)))
    (cases_lt n least)

-- with one more start, of a number that may have no place, the list still has none of a number that may have one
pub apart-more : (least most : ℕ) (others new : List Start) (x : Start) → AreApart least most others → place_in least most x.number ≡ None → new ≡ others ++ x ∷ [] → AreApart least most new
apart-more least most others new x apart none push n place at =
    let other : start_of (x ∷ []) n ≡ None = other-start x n (λ same. some-none (place_in least most n) place at (ap (place_in least most) (sym same) ∙ none)) in
    ap (λ (xs : List Start). start_of xs n) push ∙ start-append n others (x ∷ []) ∙ ap (λ (o : Option ℕ). option_or o (start_of (x ∷ []) n)) (apart n place at) ∙ other

-- the place of a number among the most that there may be is its place among those that there are, where it is one of them
pub placed-some : (least most len n k : ℕ) → place_in least most n ≡ Some k → k < len → place_in least len n ≡ Some k
placed-some least most len n k is here = let there = place-is least most n k is in place-at least len n there.0 (omega (arith, there.1, here)) ∙ ap Some (sym there.1)

-- a number without a place among the most that there may be has none among those that there are
pub placed-none : (least most len n : ℕ) → len ≤ most → place_in least most n ≡ None → place_in least len n ≡ None
placed-none least most len n within none =
    ⊎_elim
    (λ (low : n < least). place-low least len n low)
    (λ (le : least ≤ n).
    ⊎_elim
    (λ (here : n - least < most). absurd (some-none (place_in least most n) (n - least) (place-at least most n le here) none))
    (λ (past : most ≤ n - least). place-high least len n le (omega (arith, past, within)))
    (cases_lt (n - least) most))
    (cases_lt n least)

-- what is known of a number, or else nothing, is what is known of it
pub noted-none : (o : Option ℕ) → o ≡ option_or o None
noted-none o = sym (or-none o)

-- where the first i starts of a list are noted, and the next one is then, the first i + 1 are
pub noted-more : (n i : ℕ) (xs : List Start) (x : Start) (first old new : Option ℕ) → i < length xs → x ≡ get_or xs i x → old ≡ option_or first (start_of (take i xs) n) → new ≡ option_or old (start_of (x ∷ []) n)
    → new ≡ option_or first (start_of (take (i + 1) xs) n)
noted-more n i xs x first old new l at before more =
    let next : take (i + 1) xs ≡ take i xs ++ x ∷ [] = take_more xs i x l ∙ ap (λ (y : Start). take i xs ++ y ∷ []) (sym at) in
    more ∙ ap (λ (o : Option ℕ). option_or o (start_of (x ∷ []) n)) before ∙ or-later first (start_of (take i xs) n) (start_of (x ∷ []) n)
    ∙ ap (option_or first) (sym (start-append n (take i xs) (x ∷ [])) ∙ ap (λ (ys : List Start). start_of ys n) (sym next))

-- where the starts at second t of the first i jobs are noted, and that of the next job is then, those of the first i + 1 are
pub noted-job : (n i t : ℕ) (jobs : List EffectiveJob) (job : EffectiveJob) (x : Start) (first old new : Option ℕ) → i < length jobs → job ≡ get_or jobs i job → x ≡ start_at t job → old ≡ option_or first (start_of (map (start_at t) (take i jobs)) n)
    → new ≡ option_or old (start_of (x ∷ []) n) → new ≡ option_or first (start_of (map (start_at t) (take (i + 1) jobs)) n)
noted-job n i t jobs job x first old new l at is before more =
    let front : List Start = map (start_at t) (take i jobs) in
    let next : map (start_at t) (take (i + 1) jobs) ≡ front ++ x ∷ [] =
    ap (map (start_at t)) (take_more jobs i job l) ∙ map_push (start_at t) (take i jobs) (get_or jobs i job) ∙ ap (λ (j : EffectiveJob). front ++ start_at t j ∷ []) (sym at) ∙ ap (λ (y : Start). front ++ y ∷ []) (sym is) in
    more ∙ ap (λ (o : Option ℕ). option_or o (start_of (x ∷ []) n)) before ∙ or-later first (start_of front n) (start_of (x ∷ []) n)
    ∙ ap (option_or first) (sym (start-append n front (x ∷ [])) ∙ ap (λ (ys : List Start). start_of ys n) (sym next))

all-append : (ss ts : List SegmentView) → all_starts (ss ++ ts) ≡ all_starts ss ++ all_starts ts
all-append ss ts = flat_map-append (λ (s : SegmentView). s.starts) ss ts

-- where the starts of the first i segments are noted, and those of the next one are then, those of the first i + 1 are
pub noted-segment : {X : Type 0} (f : X → SegmentView) (n i : ℕ) (xs : List X) (x : X) (starts : List Start) (old new : Option ℕ) → i < length xs → x ≡ get_or xs i x → starts ≡ (f x).starts → old ≡ start_of (all_starts (map f (take i xs))) n
    → new ≡ option_or old (start_of starts n) → new ≡ start_of (all_starts (map f (take (i + 1) xs))) n
noted-segment f n i xs x starts old new l at is before more =
    let next : take (i + 1) xs ≡ take i xs ++ x ∷ [] = take_more xs i x l ∙ ap (λ y. take i xs ++ y ∷ []) (sym at) in
    let one : all_starts (f x ∷ []) ≡ starts = append-nil (f x).starts ∙ sym is in
    let all : all_starts (map f (take (i + 1) xs)) ≡ all_starts (map f (take i xs)) ++ starts =
    ap (λ ys. all_starts (map f ys)) next ∙ ap all_starts (map_push f (take i xs) x) ∙ all-append (map f (take i xs)) (f x ∷ []) ∙ ap (λ (ys : List Start). all_starts (map f (take i xs)) ++ ys) one in
    more ∙ ap (λ (o : Option ℕ). option_or o (start_of starts n)) before ∙ sym (ap (λ (ys : List Start). start_of ys n) all ∙ start-append n (all_starts (map f (take i xs))) starts)

-- rows by known starts are the rows by a list in which each number has the same start
pub rows-same : (known : KnownStarts) (starts : List Start) (jobs : List EffectiveJob) → ((n : ℕ) → known_start known n ≡ start_of starts n) → filter_map (row_by known) jobs ≡ filter_map (row_of starts) jobs
rows-same known starts [] h = refl
rows-same known starts (job ∷ jobs) h =
    ap (λ (o : Option ℕ). cons_option (option_map (row_at job) o) (filter_map (row_by known) jobs)) (h job.number)
    ∙ ap (cons_option (row_of starts job)) (rows-same known starts jobs h)

-- starts are early where a list in which each number has the same start has none at second 2^49 or later
pub early-same : (known : KnownStarts) (starts : List Start) → ((n : ℕ) → known_start known n ≡ start_of starts n) → ((n : ℕ) → IfSome (start_of starts n) (λ at. at < 2 ^ 49)) → AreEarly known
early-same known starts h early n = subst (λ (o : Option ℕ). IfSome o (λ at. at < 2 ^ 49)) (sym (h n)) (early n)
