-- The ids of what is shown: they are those of the listing, and rise.
use Rattle.std.proofs.Common.{◌≡◌, ℕ, ◌+◌, ◌≤◌, ◌<◌, ◌==◌, List, [], ◌∷◌, ◌++◌, map, refl, sym, ◌∙◌, ap, ap₂, subst, Bool, true, false, not, cond, arith}
use Rattle.std.specs.Prelude.{Option, None, Some, find, filter}
use Rattle.std.specs.List.{All}
use Rattle.std.specs.Option.{option_map}
use Rattle.std.proofs.lemmas.Bool.{eqb-true, ne_eqb, eq-eqb, both_ways}
use Rattle.std.proofs.lemmas.List.{map-append}
use Rattle.std.proofs.lemmas.List.Elements.{All-nil, All-cons, All-weaker}
use Rattle.std.proofs.lemmas.List.Kept.{AllPairs-cons}
use Rattle.scenarios.specs.Scenario.{ScenarioView}
use Rattle.book_machine.specs.Machine.{is_below}
use Rattle.scenarios.specs.ScenarioList.{Listed, Listing, IdsRise, has_name, named, id_of, without, with_scenario, without_scenario}
use Rattle.version_book.specs.Book.{ShownView, published_version}
use Rattle.version_book.specs.Sound.{Under, AreListed, under_of_shown, under_of_listed}
use Rattle.version_book.specs.Lookups.{AreApart, has_id, version_shown}
use Rattle.version_book.proofs.Lists.{filter-map, find-All}

abbrev Rises : ℕ → List ShownView → ℕ → Type 0
Rises first [] next = first ≤ next
Rises first (x ∷ xs) next = (first ≤ x.id) × Rises (x.id + 1) xs next

rises-of : (first : ℕ) (xs : List ShownView) (ss : List Listed) (next : ℕ) → map under_of_shown xs ≡ map under_of_listed ss → IdsRise first ss next → Rises first xs next
rises-of first [] [] next same h = h
rises-of first [] (s ∷ ss) next same h = cc
rises-of first (x ∷ xs) [] next same h = cc
rises-of first (x ∷ xs) (s ∷ ss) next same h =
    let us : map under_of_shown xs ≡ map under_of_listed ss = cc in
    let u : under_of_shown x ≡ under_of_listed s = cc in
    let id : x.id ≡ s.id = ap (λ (p : Under). p.0) u in
    let more = rises-of (s.id + 1) xs ss next us h.1 in
    (omega arith, subst (λ (n : ℕ). Rises (n + 1) xs next) (sym id) more)

rises-below : (first : ℕ) (xs : List ShownView) (next : ℕ) → Rises first xs next → first ≤ next
rises-below first [] next h = h
rises-below first (x ∷ xs) next h = let more = rises-below (x.id + 1) xs next h.1 in omega (arith, h.0)

at-least : (first low : ℕ) (xs : List ShownView) (next : ℕ) → low ≤ first → Rises first xs next → All (λ (x : ShownView). low ≤ x.id) xs
at-least first low [] next le h = All-nil (λ (x : ShownView). low ≤ x.id)
at-least first low (x ∷ xs) next le h = All-cons (λ (x : ShownView). low ≤ x.id) x xs (omega (arith, h.0)) (at-least (x.id + 1) low xs next (omega (arith, h.0)) h.1)

given : (first : ℕ) (xs : List ShownView) (next : ℕ) → Rises first xs next → All (λ (x : ShownView). x.id < next) xs
given first [] next h = All-nil (λ (x : ShownView). x.id < next)
given first (x ∷ xs) next h = let more = rises-below (x.id + 1) xs next h.1 in All-cons (λ (x : ShownView). x.id < next) x xs (omega arith) (given (x.id + 1) xs next h.1)

apart : (first : ℕ) (xs : List ShownView) (next : ℕ) → Rises first xs next → AreApart xs
apart first [] next h = λ i j d lt in_xs. absurd (omega arith)
apart first (x ∷ xs) next h = AllPairs-cons (λ (a b : ShownView). a.id < b.id) x xs (All-weaker (λ (b : ShownView). x.id + 1 ≤ b.id) (λ (b : ShownView). x.id < b.id) (λ b le. omega arith) xs (at-least (x.id + 1) (x.id + 1) xs next (omega arith) h.1)) (apart (x.id + 1) xs next h.1)

alike-later : (p : ShownView → Bool) (x : ShownView) (xs : List ShownView) (next : ℕ) (y : ShownView) → Rises (x.id + 1) xs next → find p xs ≡ Some y → x.id < y.id
alike-later p x xs next y h is = find-All (λ (z : ShownView). x.id < z.id) p xs y (All-weaker (λ (z : ShownView). x.id + 1 ≤ z.id) (λ (z : ShownView). x.id < z.id) (λ z le. omega arith) xs (at-least (x.id + 1) (x.id + 1) xs next (omega arith) h)) is

abbrev Alike : ShownView → ShownView → Type 0
Alike y x = x.id ≡ y.id → x.scenario ≡ y.scenario

alike-here : (p : ShownView → Bool) (x : ShownView) (xs : List ShownView) (next : ℕ) (y : ShownView) (b : Bool) → Rises (x.id + 1) xs next → (find p xs ≡ Some y → All (Alike y) xs) → cond b (Some x) (find p xs) ≡ Some y → All (Alike y) (x ∷ xs)
alike-here p x xs next y true h later is =
    let same : x ≡ y = cc in
    let above = at-least (x.id + 1) (x.id + 1) xs next (omega arith) h in
    let rest : All (Alike x) xs = All-weaker (λ (z : ShownView). x.id + 1 ≤ z.id) (Alike x) (λ z le e. absurd (omega arith)) xs above in
    subst (λ (w : ShownView). All (Alike w) (x ∷ xs)) same (All-cons (Alike x) x xs (λ e. refl) rest)
alike-here p x xs next y false h later is =
    let lt : x.id < y.id = alike-later p x xs next y h is in
    All-cons (Alike y) x xs (λ e. absurd (omega arith)) (later is)

alike : (p : ShownView → Bool) (first : ℕ) (xs : List ShownView) (next : ℕ) (y : ShownView) → Rises first xs next → find p xs ≡ Some y → All (Alike y) xs
alike p first [] next y h is = cc
alike p first (x ∷ xs) next y h is = alike-here p x xs next y (p x) h.1 (alike p (x.id + 1) xs next y h.1) is

abbrev ShowsAs : ℕ → ℕ → Bool → ShownView → Type 0
ShowsAs id v b x = has_id id x ≡ true → is_below (published_version x) v ≡ b

below-here : (id v : ℕ) (x : ShownView) (xs : List ShownView) (next : ℕ) (b : Bool) → has_id id x ≡ b → Rises (x.id + 1) xs next → All (ShowsAs id v (is_below (version_shown id xs) v)) xs → All (ShowsAs id v (is_below (elim (cond b (Some x) (find (has_id id) xs)) [ None ↦ None | Some y ↦ published_version y ]) v)) (x ∷ xs)
below-here id v x xs next true is h later =
    let above = at-least (x.id + 1) (x.id + 1) xs next (omega arith) h in
    let e : x.id ≡ id = eqb-true x.id id is in
    All-cons (ShowsAs id v (is_below (published_version x) v)) x xs (λ _. refl) (All-weaker (λ (y : ShownView). x.id + 1 ≤ y.id) (ShowsAs id v (is_below (published_version x) v)) (λ y le has. let f : y.id ≡ id = eqb-true y.id id has in absurd (omega arith)) xs above)
below-here id v x xs next false is h later =
    All-cons (ShowsAs id v (is_below (version_shown id xs) v)) x xs (λ has. absurd (both_ways (has_id id x) is has)) later

below-all : (id v first : ℕ) (xs : List ShownView) (next : ℕ) → Rises first xs next → All (ShowsAs id v (is_below (version_shown id xs) v)) xs
below-all id v first [] next h = All-nil (ShowsAs id v (is_below None v))
below-all id v first (x ∷ xs) next h = below-here id v x xs next (has_id id x) refl h.1 (below-all id v (x.id + 1) xs next h.1)

-- as ids rise, each scenario with an id shows an older version, or none, exactly where the one found by the id does
pub ids-below : (id v : ℕ) (xs : List ShownView) (list : Listing) → AreListed xs list → IdsRise 1 list.scenarios list.next → All (λ (x : ShownView). has_id id x ≡ true → is_below (published_version x) v ≡ is_below (version_shown id xs) v) xs
ids-below id v xs list same h = below-all id v 1 xs list.next (rises-of 1 xs list.scenarios list.next same h)

-- what is shown of a listing whose ids rise has rising ids, so no two scenarios have one id
pub ids-apart : (xs : List ShownView) (list : Listing) → AreListed xs list → IdsRise 1 list.scenarios list.next → AreApart xs
ids-apart xs list same h = apart 1 xs list.next (rises-of 1 xs list.scenarios list.next same h)

-- what is shown of a listing whose ids rise has ids below the next
pub ids-given : (xs : List ShownView) (list : Listing) → AreListed xs list → IdsRise 1 list.scenarios list.next → All (λ (x : ShownView). x.id < list.next) xs
ids-given xs list same h = given 1 xs list.next (rises-of 1 xs list.scenarios list.next same h)

-- as ids rise, whatever is shown with the id of one that a test finds has the scenario of that one
pub ids-alike : (p : ShownView → Bool) (xs : List ShownView) (list : Listing) (y : ShownView) → AreListed xs list → IdsRise 1 list.scenarios list.next → find p xs ≡ Some y → All (λ (x : ShownView). x.id ≡ y.id → x.scenario ≡ y.scenario) xs
ids-alike p xs list y same h is = alike p 1 xs list.next y (rises-of 1 xs list.scenarios list.next same h) is

-- ids that rise below the next still rise with a scenario of the next id at the end, below the id after it
pub ids-push : (first : ℕ) (ss : List Listed) (next : ℕ) (name : List ℕ) (scenario : ScenarioView) → IdsRise first ss next → IdsRise first (ss ++ record { name = name; id = next; scenario = scenario } ∷ []) (next + 1)
ids-push first [] next name scenario h = (h, omega arith)
ids-push first (s ∷ ss) next name scenario h = (h.0, ids-push (s.id + 1) ss next name scenario h.1)

-- what is shown are the listed scenarios still, where both get the same scenario more, under the next id, at the end
pub listed-push : (xs : List ShownView) (list : Listing) (x : ShownView) (name : List ℕ) → AreListed xs list → x.id ≡ list.next → AreListed (xs ++ x ∷ []) (with_scenario name x.scenario list)
listed-push xs list x name same is =
    map-append under_of_shown xs (x ∷ [])
    ∙ (ap₂ (λ (us : List Under) (n : ℕ). us ++ (n, x.scenario) ∷ []) same is
    ∙ sym (map-append under_of_listed list.scenarios (record { name = name; id = list.next; scenario = x.scenario } ∷ [])))

ids-weaker : (low first : ℕ) (ss : List Listed) (next : ℕ) → low ≤ first → IdsRise first ss next → IdsRise low ss next
ids-weaker low first [] next le h = omega arith
ids-weaker low first (s ∷ ss) next le h = (omega (arith, h.0), h.1)

without-here : (name : List ℕ) (first : ℕ) (s : Listed) (ss : List Listed) (next : ℕ) (b : Bool) → first ≤ s.id → IdsRise (s.id + 1) ss next → IdsRise (s.id + 1) (without name ss) next → IdsRise first (cond b ss (s ∷ without name ss)) next
without-here name first s ss next true le h more = ids-weaker first (s.id + 1) ss next (omega arith) h
without-here name first s ss next false le h more = (le, more)

-- ids that rise still rise without the scenario of a name
pub ids-without : (name : List ℕ) (first : ℕ) (ss : List Listed) (next : ℕ) → IdsRise first ss next → IdsRise first (without name ss) next
ids-without name first [] next h = h
ids-without name first (s ∷ ss) next h = without-here name first s ss next (has_name name s) h.0 h.1 (ids-without name (s.id + 1) ss next h.1)

abbrev the_id : Option Listed → Option ℕ
the_id o = option_map (λ (s : Listed). s.id) o

none-here : (s : Listed) (o : Option Listed) (ss ts : List Listed) (b : Bool) → the_id (cond b (Some s) o) ≡ None → (the_id o ≡ None → ts ≡ ss) → cond b ss (s ∷ ts) ≡ s ∷ ss
none-here s o ss ts true is h = cc
none-here s o ss ts false is h = ap (λ zs. s ∷ zs) (h is)

none-without : (name : List ℕ) (ss : List Listed) → the_id (named name ss) ≡ None → without name ss ≡ ss
none-without name [] is = refl
none-without name (s ∷ ss) is = none-here s (named name ss) ss (without name ss) (has_name name s) is (none-without name ss)

-- where no scenario has the name, the listing without it is the listing
pub without-none : (name : List ℕ) (list : Listing) → id_of name list ≡ None → without_scenario name list ≡ list
without-none name list is = ap (λ (ss : List Listed). let l : Listing = record list { scenarios = ss } in l) (none-without name list.scenarios is)

abbrev other : ℕ → Listed → Bool
other id s = not (s.id == id)

keep-one : (id : ℕ) (s : Listed) (ss : List Listed) → (s.id ≡ id → ⊥) → filter (other id) (s ∷ ss) ≡ s ∷ filter (other id) ss
keep-one id s ss h = ap (λ (b : Bool). cond (not b) (s ∷ filter (other id) ss) (filter (other id) ss)) (ne_eqb s.id id h)

drop-one : (id : ℕ) (s : Listed) (ss : List Listed) → s.id ≡ id → filter (other id) (s ∷ ss) ≡ filter (other id) ss
drop-one id s ss h = ap (λ (b : Bool). cond (not b) (s ∷ filter (other id) ss) (filter (other id) ss)) (eq-eqb s.id id h)

keep-all : (id first : ℕ) (ss : List Listed) (next : ℕ) → id < first → IdsRise first ss next → filter (other id) ss ≡ ss
keep-all id first [] next lt h = refl
keep-all id first (s ∷ ss) next lt h = keep-one id s ss (λ e. absurd (omega (arith, h.0))) ∙ ap (λ zs. s ∷ zs) (keep-all id (s.id + 1) ss next (omega (arith, h.0)) h.1)

later-here : (first : ℕ) (s : Listed) (o : Option Listed) (id : ℕ) (b : Bool) → first ≤ s.id → (the_id o ≡ Some id → s.id + 1 ≤ id) → the_id (cond b (Some s) o) ≡ Some id → first ≤ id
later-here first s o id true le h is = let e : s.id ≡ id = cc in omega arith
later-here first s o id false le h is = let more : s.id + 1 ≤ id = h is in omega arith

later : (name : List ℕ) (first : ℕ) (ss : List Listed) (next id : ℕ) → IdsRise first ss next → the_id (named name ss) ≡ Some id → first ≤ id
later name first [] next id h is = cc
later name first (s ∷ ss) next id h is = later-here first s (named name ss) id (has_name name s) h.0 (later name (s.id + 1) ss next id h.1) is

gone-here : (name : List ℕ) (s : Listed) (ss : List Listed) (next id : ℕ) (b : Bool) → IdsRise (s.id + 1) ss next → (the_id (named name ss) ≡ Some id → without name ss ≡ filter (other id) ss) → the_id (cond b (Some s) (named name ss)) ≡ Some id → cond b ss (s ∷ without name ss) ≡ filter (other id) (s ∷ ss)
gone-here name s ss next id true h more is = let e : s.id ≡ id = cc in sym (drop-one id s ss e ∙ keep-all id (s.id + 1) ss next (omega arith) h)
gone-here name s ss next id false h more is =
    let le : s.id + 1 ≤ id = later name (s.id + 1) ss next id h is in
    ap (λ zs. s ∷ zs) (more is) ∙ sym (keep-one id s ss (λ e. absurd (omega arith)))

gone : (name : List ℕ) (first : ℕ) (ss : List Listed) (next id : ℕ) → IdsRise first ss next → the_id (named name ss) ≡ Some id → without name ss ≡ filter (other id) ss
gone name first [] next id h is = refl
gone name first (s ∷ ss) next id h is = gone-here name s ss next id (has_name name s) h.1 (gone name (s.id + 1) ss next id h.1) is

abbrev not_this : ℕ → Under → Bool
not_this id u = not (u.0 == id)

-- what is shown are the listed scenarios still, where the scenario of a name leaves the listing and its id is no longer shown
pub listed-without : (xs : List ShownView) (list : Listing) (name : List ℕ) (id : ℕ) → AreListed xs list → IdsRise 1 list.scenarios list.next → id_of name list ≡ Some id → AreListed (filter (λ (x : ShownView). not (has_id id x)) xs) (without_scenario name list)
listed-without xs list name id same h is =
    sym (filter-map under_of_shown (not_this id) xs)
    ∙ (ap (filter (not_this id)) same
    ∙ (filter-map under_of_listed (not_this id) list.scenarios
    ∙ ap (map under_of_listed) (sym (gone name 1 list.scenarios list.next id h is))))
