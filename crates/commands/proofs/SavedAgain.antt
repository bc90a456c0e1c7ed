-- What is saved is opened as it was, and saved as it is: the comments of scenarios are sound, none of them is kept, each adds its
-- scenario again, and a log in its order stays so.
use Rattle.std.proofs.Common.{◌≡◌, ℕ, zero, suc, ◌+◌, ◌-◌, ◌<◌, ◌≤◌, Bool, true, false, cond, ◌&&◌, ◌||◌, eqb, ltb, leb, List, [], ◌∷◌, ◌++◌, length, get_or, map, Option, Some, None, is_some, refl, sym, ap, ◌∙◌, append_assoc, length-append, arith, rules}
use Rattle.std.specs.Prelude.{is_none}
use Rattle.std.specs.List.{AllByRecursion, list_all, list_any}
use Rattle.std.specs.Char.{is_ascii_digit}
use Rattle.std.specs.Fmt.{decimal as decimal_text}
use Rattle.std.proofs.lemmas.Bool.Decides.{nat_tests}
use Rattle.std.proofs.lemmas.Fmt.{length-decimal-le}
use Rattle.std.proofs.lemmas.Grind.{common_steps}
use Rattle.std.proofs.lemmas.List.{append-nil, length-map, map-append}
use Rattle.std.proofs.lemmas.List.Folds.{list_all-append}
use Rattle.swf_text.specs.Line.{is_return}
use Rattle.swf_text.specs.Text.{LogText, is_feed}
use Rattle.swf_text.specs.Comment.{IsComment}
use Rattle.swf_text.specs.Entry.{LogEntry, number_of_entry, submit_of}
use Rattle.swf_text.specs.Log.{comes_before, IsRising, with_entry, log_of}
use Rattle.swf_text.proofs.Lemmas.{and_first, and_second, spelled}
use Rattle.scenarios.specs.declared.order.Order.{Order}
use Rattle.scenarios.specs.declared.order.Order.TheVariants.{Arrival, Shortest}
use Rattle.scenarios.specs.Name.{is_name, is_name_byte}
use Rattle.scenarios.specs.Scenario.{ScenarioView, IsScenario, scenario_with}
use Rattle.scenarios.specs.ScenarioList.{Listed, Listing, empty, named, AreApart, IsListed, add_fault, with_scenario}
use Rattle.scenarios.proofs.Lemmas.{bytes_eq-swap, named-append, named-first}
use Rattle.scenarios.specs.Order.{order_word}
use Rattle.commands.specs.ScenarioLine.{scenario_line, scenario_comment}
use Rattle.commands.specs.Opening.{kept, with_added, with_order, with_line, declared, comment_of}
use Rattle.commands.specs.Laws.{SavesSoundComments, SavesTheSame}
use Rattle.commands.proofs.LineWords.{name_bytes, length-name}
use Rattle.commands.proofs.Declared.{kept-append, declared_from, declared_from-append}
use Rattle.commands.proofs.Saved.{line_for, scenario_line-comment}

leb_of : (a b : ℕ) → a ≤ b → leb a b ≡ true
leb_of a b h = grind (arith, nat_tests)

abbrev is_visible : ℕ → Bool
is_visible b = leb 32 b

visible_name : (b : ℕ) → is_name_byte b ≡ true → is_visible b ≡ true
visible_name b h = grind (arith, common_steps)

visible_digit : (b : ℕ) → is_ascii_digit b ≡ true → is_visible b ≡ true
visible_digit b h = grind (arith, common_steps)

visible_all : (p : ℕ → Bool) → ((b : ℕ) → p b ≡ true → is_visible b ≡ true) → (bs : List ℕ) → list_all p bs ≡ true → list_all is_visible bs ≡ true
visible_all p all [] h = refl
visible_all p all (b ∷ bs) h = rw (all b (and_first _ _ h), visible_all p all bs (and_second (p b) (list_all p bs) h)) refl

both_visible : (xs ys : List ℕ) → list_all is_visible xs ≡ true → list_all is_visible ys ≡ true → list_all is_visible (xs ++ ys) ≡ true
both_visible xs ys p q = list_all-append is_visible xs ys ∙ rw (p, q) refl

visible_order : (o : Order) → (list_all is_visible (order_word o) ≡ true) × (length (order_word o) ≤ 8)
visible_order Arrival = (refl, omega arith)
visible_order Shortest = (refl, omega arith)

no_feeds : (bs : List ℕ) → list_all is_visible bs ≡ true → list_any is_feed bs ≡ false
no_feeds [] h = refl
no_feeds (b ∷ bs) h =
    let here : is_feed b ≡ false = other b (and_first _ _ h) in
    rw (here, no_feeds bs (and_second (is_visible b) (list_all is_visible bs) h)) refl
  where
    other : (b : ℕ) → is_visible b ≡ true → is_feed b ≡ false
    other b v = grind (arith, common_steps)

no_returns : (bs : List ℕ) → list_all is_visible bs ≡ true → (k : ℕ) → is_return (get_or bs k 0) ≡ false
no_returns [] h k = refl
no_returns (b ∷ bs) h zero = other b (and_first _ _ h)
  where
    other : (b : ℕ) → is_visible b ≡ true → is_return b ≡ false
    other b v = grind (arith, common_steps)
no_returns (b ∷ bs) h (suc k) = no_returns bs (and_second (is_visible b) (list_all is_visible bs) h) k

comment_sound : (name : List ℕ) (scenario : ScenarioView) → is_name name ≡ true → IsScenario scenario → IsComment (scenario_comment name scenario)
comment_sound name scenario called set =
    let p = set.procs_fit in
    let f = set.factor_fits in
    let procs = decimal_text scenario.procs in
    let factor = decimal_text scenario.factor in
    let order = order_word scenario.order in
    let last = visible_order scenario.order in
    let third = both_visible factor (32 ∷ order) (visible_all is_ascii_digit visible_digit factor (spelled scenario.factor (omega arith)).0) last.0 in
    let second = both_visible procs (32 ∷ (factor ++ 32 ∷ order)) (visible_all is_ascii_digit visible_digit procs (spelled scenario.procs (omega arith)).0) third in
    let first = both_visible name (32 ∷ (procs ++ 32 ∷ (factor ++ 32 ∷ order))) (visible_all is_name_byte visible_name name (name_bytes name called)) second in
    let all : list_all is_visible (scenario_comment name scenario) ≡ true = first in
    let a : length name ≤ 16 = length-name name called in
    let b : length procs ≤ 8 = length-decimal-le 8 scenario.procs (omega arith) (omega arith) (omega arith) in
    let c : length factor ≤ 8 = length-decimal-le 8 scenario.factor (omega arith) (omega arith) (omega arith) in
    let d : length order ≤ 8 = last.1 in
    record {
      begins = refl;
      no_feed = no_feeds (scenario_comment name scenario) all;
      no_return = no_returns (scenario_comment name scenario) all (length (scenario_comment name scenario) - 1);
      fits = omega (arith, length-append name (32 ∷ (procs ++ 32 ∷ (factor ++ 32 ∷ order))), length-append procs (32 ∷ (factor ++ 32 ∷ order)), length-append factor (32 ∷ order), a, b, c, d);
    }

all_joined : {X : Type 0} (P : X → Type 0) (xs ys : List X) → AllByRecursion P xs → AllByRecursion P ys → AllByRecursion P (xs ++ ys)
all_joined P [] ys p q = q
all_joined P (x ∷ xs) ys p q = (p.0, all_joined P xs ys p.1 q)

all_kept : (P : List ℕ → Type 0) (xs : List (List ℕ)) → AllByRecursion P xs → AllByRecursion P (kept xs)
all_kept P [] h = tt
all_kept P (x ∷ xs) h = go (is_none (scenario_line x)) refl (all_kept P xs h.1)
  where
    go : (b : Bool) → is_none (scenario_line x) ≡ b → AllByRecursion P (kept xs) → AllByRecursion P (kept (x ∷ xs))
    go true e more = rw e (h.0, more)
    go false e more = rw e more

comments_sound : (ss : List Listed) → AllByRecursion IsListed ss → AllByRecursion IsComment (map comment_of ss)
comments_sound [] h = tt
comments_sound (s ∷ ss) h = (comment_sound s.name s.scenario h.0.called h.0.scenario, comments_sound ss h.1)

-- the comments that are saved are sound, where those of the opened log are
pub saves_sound : SavesSoundComments
saves_sound comments entries list sound is = all_joined IsComment (kept comments) (map comment_of list.scenarios) (all_kept IsComment comments sound) (comments_sound list.scenarios is.listed)

line_is_declared : (s : Listed) → IsListed s → scenario_line (comment_of s) ≡ Some (line_for s.name s.scenario)
line_is_declared s is = scenario_line-comment s.name s.scenario is.called is.scenario

kept_again : (xs : List (List ℕ)) → kept (kept xs) ≡ kept xs
kept_again [] = refl
kept_again (x ∷ xs) = go (is_none (scenario_line x)) refl (kept_again xs)
  where
    go : (b : Bool) → is_none (scenario_line x) ≡ b → kept (kept xs) ≡ kept xs → kept (kept (x ∷ xs)) ≡ kept (x ∷ xs)
    go true e more = rw (e, e) (ap (λ (l : List (List ℕ)). x ∷ l) more)
    go false e more = rw e more

none_is : {X : Type 0} (o : Option X) → is_none o ≡ true → o ≡ None
none_is None h = refl
none_is (Some x) h = absurd (cc)

none_declared : (list : Listing) (xs : List (List ℕ)) → declared_from list (kept xs) ≡ list
none_declared list [] = refl
none_declared list (x ∷ xs) = go (is_none (scenario_line x)) refl (none_declared list xs)
  where
    go : (b : Bool) → is_none (scenario_line x) ≡ b → declared_from list (kept xs) ≡ list → declared_from list (kept (x ∷ xs)) ≡ list
    go true e more = rw e (ap (λ o. declared_from (with_line list o) (kept xs)) (none_is (scenario_line x) e) ∙ more)
    go false e more = rw e more

none_kept : (ss : List Listed) → AllByRecursion IsListed ss → kept (map comment_of ss) ≡ []
none_kept [] h = refl
none_kept (s ∷ ss) h = let declared_of = line_is_declared s h.0 in rw declared_of (none_kept ss h.1)

adds : (s : Listed) (list : Listing) → IsListed s → named s.name list.scenarios ≡ None → length list.scenarios < 64 → list.next ≤ 4294967295 → with_line list (scenario_line (comment_of s)) ≡ with_scenario s.name s.scenario list
adds s list is new capacity last =
    let set = is.scenario in
    let a = leb_of 1 s.scenario.procs set.some_procs in
    let b = leb_of s.scenario.procs 16777216 set.procs_fit in
    let c = leb_of 1 s.scenario.factor set.some_factor in
    let d = leb_of s.scenario.factor 100000 set.factor_fits in
    let called = is.called in
    let more : leb 64 (length list.scenarios) ≡ false = grind (arith, nat_tests) in
    let ids : ltb 4294967295 list.next ≡ false = grind (arith, nat_tests) in
    let free : add_fault s.name list ≡ None = rw (called, new, more, ids) refl in
    let within : scenario_with s.scenario.procs s.scenario.factor ≡ Some (record { procs = s.scenario.procs; factor = s.scenario.factor; order = Arrival }) = rw (a, b, c, d) refl in
    ap (with_line list) (line_is_declared s is)
    ∙ ap (λ o. with_added s.name (with_order o (line_for s.name s.scenario)) list) within
    ∙ ap (λ o. cond (is_some o) list (with_scenario s.name s.scenario list)) free

AllNew : Listing → List Listed → Type 0
AllNew list ss = AllByRecursion (λ (t : Listed). named t.name list.scenarios ≡ None) ss

still_new : (ss : List Listed) (s : Listed) (list : Listing) → named s.name ss ≡ None → AllNew list ss → AllNew (with_scenario s.name s.scenario list) ss
unfolding AllNew
still_new [] s list none new = tt
still_new (t ∷ ss) s list none new =
    let first = named-first s.name t ss none in
    (named-append t.name list.scenarios _ new.0 (bytes_eq-swap s.name t.name first.0), still_new ss s list first.1 new.1)

all_declared : (ss : List Listed) (list : Listing) → AllByRecursion IsListed ss → AreApart ss → AllNew list ss → length list.scenarios + length ss ≤ 64 → list.next + length ss ≤ 4294967296 → map comment_of (declared_from list (map comment_of ss)).scenarios ≡ map comment_of list.scenarios ++ map comment_of ss
unfolding AllNew
all_declared [] list listed apart new capacity last = sym (append-nil (map comment_of list.scenarios))
all_declared (s ∷ ss) list listed apart new capacity last =
    let here = adds s list listed.0 new.0 (omega arith) (omega arith) in
    let size = length-append list.scenarios (record { name = s.name; id = list.next; scenario = s.scenario } ∷ []) in
    ap (λ (l : Listing). map comment_of (declared_from l (map comment_of ss)).scenarios) here
    ∙ all_declared ss (with_scenario s.name s.scenario list) listed.1 apart.1 (still_new ss s list apart.0 new.1) (omega (arith, size)) (omega arith)
    ∙ ap (λ (l : List (List ℕ)). l ++ map comment_of ss) (map-append comment_of list.scenarios (record { name = s.name; id = list.next; scenario = s.scenario } ∷ []))
    ∙ append_assoc (map comment_of list.scenarios) (comment_of s ∷ []) (map comment_of ss)

all_new : (ss : List Listed) → AllNew empty ss
unfolding AllNew
all_new [] = tt
all_new (s ∷ ss) = (refl, all_new ss)

not_before : (s t m n : ℕ) → (ltb s t || (eqb s t && ltb m n)) ≡ true → (ltb t s || (eqb t s && ltb n m)) ≡ false
not_before s t m n h = grind (arith, nat_tests)

pub log_of-rising : (entries : List LogEntry) → IsRising entries → log_of entries ≡ entries
log_of-rising [] h = refl
log_of-rising (e ∷ []) h = refl
log_of-rising (e ∷ next ∷ entries) h =
    let before : comes_before e next ≡ true = search (rules, h.0) in
    let after : comes_before next e ≡ false = not_before (submit_of e) (submit_of next) (number_of_entry e) (number_of_entry next) before in
    ap (with_entry e) (log_of-rising (next ∷ entries) h.1) ∙ rw after refl

abbrev text_with : List (List ℕ) → List LogEntry → LogText
text_with comments entries = record { comments = comments; entries = entries }

both_same : {c d : List (List ℕ)} {e f : List LogEntry} → c ≡ d → e ≡ f → text_with c e ≡ text_with d f
both_same {c} {d} {e} {f} p q = ap (λ (x : List (List ℕ)). text_with x e) p ∙ ap (text_with d) q

-- a log that is saved with a scenario or more is opened and saved again as the same log, whatever machine is named beside it
pub saves_same : SavesTheSame
saves_same comments entries list table is some procs =
    let lines = map comment_of list.scenarios in
    let text = kept comments ++ lines in
    let capacity : length list.scenarios ≤ 64 = is.capacity in
    let rest = declared text in
    let begins : declared text ≡ declared_from empty lines = declared_from-append empty (kept comments) lines ∙ ap (λ (l : Listing). declared_from l lines) (none_declared empty comments) in
    let comments_same : map comment_of rest.scenarios ≡ lines = ap (λ (l : Listing). map comment_of l.scenarios) begins ∙ all_declared list.scenarios empty is.listed is.apart (all_new list.scenarios) (omega (arith, capacity)) (omega (arith, capacity)) in
    let count : length rest.scenarios ≡ length list.scenarios = sym (length-map rest.scenarios comment_of) ∙ ap length comments_same ∙ length-map list.scenarios comment_of in
    let any : eqb (length rest.scenarios) 0 ≡ false = grind (arith, nat_tests) in
    let kept_same : kept text ≡ kept comments = kept-append (kept comments) lines ∙ ap (λ (l : List (List ℕ)). kept (kept comments) ++ l) (none_kept list.scenarios is.listed) ∙ append-nil (kept (kept comments)) ∙ kept_again comments in
    let log_same : log_of entries ≡ entries = log_of-rising entries table.rising in
    let all_comments : kept text ++ map comment_of rest.scenarios ≡ text = ap (λ (l : List (List ℕ)). l ++ map comment_of rest.scenarios) kept_same ∙ ap (λ (l : List (List ℕ)). kept comments ++ l) comments_same in
    (rest, rw any refl, both_same all_comments log_same)
