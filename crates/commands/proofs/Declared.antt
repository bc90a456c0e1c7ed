-- The comments of a log one after another: which are kept, which scenarios they tell of, and each step of the loops that gather either.
use Rattle.std.proofs.Common.{◌≡◌, ℕ, ◌+◌, ◌<◌, ◌≤◌, Bool, true, false, not, List, [], ◌∷◌, ◌++◌, length, get_or, take, drop, map, Option, Some, None, is_some, refl, sym, ap, ◌∙◌, arith, take-append-drop, length-append, append_assoc, eqb, eq-eqb}
use Rattle.std.specs.Prelude.{is_none, Result, Ok, Err, IfOk}
use Rattle.std.specs.List.{filter, fold}
use Rattle.std.proofs.lemmas.List.{take_more, get_or-map, length-map, map-append}
use Rattle.scenarios.specs.Scenario.{ScenarioView}
use Rattle.scenarios.specs.ScenarioList.{Listed, Listing, empty, add_fault}
use Rattle.commands.specs.declared.comment.ScenarioLine.{ScenarioLine}
use Rattle.commands.specs.ScenarioLine.{scenario_line}
use Rattle.commands.specs.Opening.{kept, with_added, with_line, declared, machine_of, base_on, opened}

pub take_next : (xs : List (List ℕ)) (i : ℕ) (x : List ℕ) → i < length xs → get_or xs i [] ≡ x → take (i + 1) xs ≡ take i xs ++ x ∷ []
take_next xs i x lt is = take_more xs i [] lt ∙ ap (λ (y : List ℕ). take i xs ++ y ∷ []) is

-- what is kept of comments and others behind them is what is kept of the former, and then of the latter
pub kept-append : (xs ys : List (List ℕ)) → kept (xs ++ ys) ≡ kept xs ++ kept ys
kept-append [] ys = refl
kept-append (x ∷ xs) ys = go (is_none (scenario_line x)) refl (kept-append xs ys)
  where
    go : (b : Bool) → is_none (scenario_line x) ≡ b → kept (xs ++ ys) ≡ kept xs ++ kept ys → kept ((x ∷ xs) ++ ys) ≡ kept (x ∷ xs) ++ kept ys
    go true e more = rw e (ap (λ (l : List (List ℕ)). x ∷ l) more)
    go false e more = rw e more

-- a list with the scenarios that further comments tell of, in order, as far as each can be added
abbrev pub declared_from : Listing → List (List ℕ) → Listing
declared_from list comments = fold (λ l comment. with_line l (scenario_line comment)) list comments

-- comments and others behind them make of a list what the latter make of it once the former are done
pub declared_from-append : (list : Listing) (xs ys : List (List ℕ)) → declared_from list (xs ++ ys) ≡ declared_from (declared_from list xs) ys
declared_from-append list [] ys = refl
declared_from-append list (x ∷ xs) ys = declared_from-append (with_line list (scenario_line x)) xs ys

pub with_added-grows : (name : List ℕ) (o : Option ScenarioView) (list : Listing) → length list.scenarios ≤ length (with_added name o list).scenarios
with_added-grows name None list = omega arith
with_added-grows name (Some scenario) list = go (is_some (add_fault name list)) refl
  where
    go : (b : Bool) → is_some (add_fault name list) ≡ b → length list.scenarios ≤ length (with_added name (Some scenario) list).scenarios
    go true e = rw e (omega arith)
    go false e = rw e (omega (arith, length-append {A = Listed}))

pub with_line-grows : (list : Listing) (o : Option ScenarioLine) → length list.scenarios ≤ length (with_line list o).scenarios
with_line-grows list None = omega arith
with_line-grows list (Some line) = with_added-grows line.name _ list

pub declared_from-grows : (list : Listing) (xs : List (List ℕ)) → length list.scenarios ≤ length (declared_from list xs).scenarios
declared_from-grows list [] = omega arith
declared_from-grows list (x ∷ xs) =
    let here = with_line-grows list (scenario_line x) in
    let later = declared_from-grows (with_line list (scenario_line x)) xs in
    omega arith

-- where one of the comments adds a scenario, the list that all of them make isn't empty
pub declared_some : (xs : List (List ℕ)) (i : ℕ) (x : List ℕ) (list : Listing) → i < length xs → get_or xs i [] ≡ x → list ≡ declared (take i xs) → length (with_line list (scenario_line x)).scenarios ≡ length list.scenarios + 1 → 0 < length (declared xs).scenarios
declared_some xs i x list lt is sofar more =
    let next : declared (take (i + 1) xs) ≡ with_line list (scenario_line x) =
    ap declared (take_next xs i x lt is) ∙ declared_from-append empty (take i xs) (x ∷ []) ∙ ap (λ (l : Listing). with_line l (scenario_line x)) (sym sofar) in
    let whole : declared xs ≡ declared_from (declared (take (i + 1) xs)) (drop (i + 1) xs) = ap declared (sym (take-append-drop (i + 1) xs)) ∙ declared_from-append empty (take (i + 1) xs) (drop (i + 1) xs) in
    let grows = declared_from-grows (declared (take (i + 1) xs)) (drop (i + 1) xs) in
    let size : length (declared (take (i + 1) xs)).scenarios ≡ length (with_line list (scenario_line x)).scenarios = ap (λ (l : Listing). length l.scenarios) next in
    let all : length (declared xs).scenarios ≡ length (declared_from (declared (take (i + 1) xs)) (drop (i + 1) xs)).scenarios = ap (λ (l : Listing). length l.scenarios) whole in
    omega arith

-- the list that the comments before a place make, with the scenario of the comment there, is what they make with that comment
pub declared_next : (xs : List (List ℕ)) (i : ℕ) (x : List ℕ) (list : Listing) → i < length xs → get_or xs i [] ≡ x → list ≡ declared (take i xs) → with_line list (scenario_line x) ≡ declared (take (i + 1) xs)
declared_next xs i x list lt is sofar =
    ap (λ (l : Listing). with_line l (scenario_line x)) sofar ∙ sym (declared_from-append empty (take i xs) (x ∷ [])) ∙ ap declared (sym (take_next xs i x lt is))

-- the text at a place is that of the item there
pub item_text : {X : Type 0} (f : X → List ℕ) (xs : List X) (i : ℕ) (x : X) → i < length xs → x ≡ get_or xs i x → get_or (map f xs) i [] ≡ f x
item_text f xs i x lt is = get_or-map f xs i x [] lt ∙ ap f (sym is)

-- a place in a list is one in the list of its texts
pub within_map : {X : Type 0} (f : X → List ℕ) (xs : List X) (i : ℕ) → i < length xs → i < length (map f xs)
within_map f xs i lt = omega (arith, length-map xs f)

-- an item more at the end is its text more at the end of the texts
pub text_pushed : {X : Type 0} (f : X → List ℕ) (old new : List X) (x : X) (text : List ℕ) → new ≡ old ++ x ∷ [] → f x ≡ text → map f new ≡ map f old ++ text ∷ []
text_pushed f old new x text is same = ap (map f) is ∙ map-append f old (x ∷ []) ∙ ap (λ (t : List ℕ). map f old ++ t ∷ []) same

-- the first texts of a list, and its next one behind them, are one more of its first
pub taken_more : (old new xs : List (List ℕ)) (i : ℕ) (x : List ℕ) → old ≡ take i xs → new ≡ old ++ x ∷ [] → i < length xs → get_or xs i [] ≡ x → new ≡ take (i + 1) xs
taken_more old new xs i x sofar is lt there = is ∙ ap (λ (l : List (List ℕ)). l ++ x ∷ []) sofar ∙ sym (take_next xs i x lt there)

-- some texts, the first of a list, and its next one behind them, are the former and one more of the list's first
pub joined_more : (front old new xs : List (List ℕ)) (i : ℕ) (x : List ℕ) → old ≡ front ++ take i xs → new ≡ old ++ x ∷ [] → i < length xs → get_or xs i [] ≡ x → new ≡ front ++ take (i + 1) xs
joined_more front old new xs i x sofar is lt there =
    is ∙ ap (λ (l : List (List ℕ)). l ++ x ∷ []) sofar ∙ append_assoc front (take i xs) (x ∷ []) ∙ ap (λ (l : List (List ℕ)). front ++ l) (sym (take_next xs i x lt there))

-- a test that answers the opposite of whether there is a scenario's line tells whether there is none
pub none_as_told : (o : Option ScenarioLine) (b : Bool) → is_some o ≡ not b → b ≡ is_none o
none_as_told None true e = refl
none_as_told None false e = absurd (cc)
none_as_told (Some line) true e = absurd (cc)
none_as_told (Some line) false e = refl

-- the texts of the items whose text tells of no scenario are what is kept of all their texts
pub kept_texts : {X : Type 0} (f : X → List ℕ) (xs : List X) → map f (filter (λ x. is_none (scenario_line (f x))) xs) ≡ kept (map f xs)
kept_texts f [] = refl
kept_texts f (x ∷ xs) = go (is_none (scenario_line (f x))) refl (kept_texts f xs)
  where
    go : (b : Bool) → is_none (scenario_line (f x)) ≡ b → map f (filter (λ y. is_none (scenario_line (f y))) xs) ≡ kept (map f xs) → map f (filter (λ y. is_none (scenario_line (f y))) (x ∷ xs)) ≡ kept (map f (x ∷ xs))
    go true e more = rw e (ap (λ (l : List (List ℕ)). f x ∷ l) more)
    go false e more = rw e more

-- where the comments make no scenario, a log is opened with `base` alone, on its machine, or refused for the reason that there is no `base`
pub opened_is_base : (procs : Option ℕ) (comments : List (List ℕ)) → length (declared comments).scenarios ≡ 0 → opened procs comments ≡ base_on (machine_of procs comments)
opened_is_base procs comments none = let test : eqb (length (declared comments).scenarios) 0 ≡ true = eq-eqb _ 0 none in rw test refl

-- a value, if a result has one, is that of another result where it is that of an equal one
pub if_ok_as : {T E : Type 0} (r : Result T E) (a b : Result T E) → a ≡ b → IfOk r (λ l. b ≡ Ok l) → IfOk r (λ l. a ≡ Ok l)
if_ok_as (Ok x) a b same h = same ∙ h
if_ok_as (Err e) a b same h = tt
