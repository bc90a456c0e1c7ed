-- The book that a log's scenarios begin, one after another.
use Rattle.std.proofs.Common.{◌≡◌, ℕ, ◌+◌, ◌≤◌, List, [], ◌∷◌, ◌++◌, length, map, cond, Bool, true, false, Option, None, Some, Result, Ok, Err, is_some, eqb, refl, sym, ◌∙◌, ap, ap₂, subst, arith}
use Rattle.std.specs.Prelude.{codes}
use Rattle.std.specs.List.{AllByRecursion, fold}
use Rattle.std.proofs.lemmas.List.{length-append, map-append}
use Rattle.swf_text.specs.Entry.{LogEntry}
use Rattle.scenarios.specs.Name.{is_name}
use Rattle.scenarios.specs.Scenario.{ScenarioView, scenario_with}
use Rattle.scenarios.specs.ScenarioList.{Listed, Listing, IdsRise, add_fault, empty, with_scenario}
use Rattle.scenarios.proofs.Lemmas.{can_add}
use Rattle.commands.specs.declared.comment.ScenarioLine.{ScenarioLine}
use Rattle.commands.specs.declared.opening_fault.OpenTextFault.{OpenTextFault}
use Rattle.commands.specs.ScenarioLine.{scenario_line}
use Rattle.commands.specs.Opening.{base_on, machine_of, base_of, opened, declared, with_line, with_order, with_added}
use Rattle.book_machine.specs.Call.{AddScenario}
use Rattle.book_machine.specs.Machine.{Machine, Progress, after, fresh, noted, opened as just_opened}
use Rattle.scripts.specs.Transcript.{with_scenarios}

-- nothing is published for these scenarios
abbrev pub fresh_of : List Listed → List Progress
fresh_of scenarios = map (λ (s : Listed). fresh s.id) scenarios

-- a book with these scenarios, as far as they are, before any edit and with no ticket
abbrev pub state : List LogEntry → Listing → List Progress → ℕ → ℕ → Machine
state log list progress next notes = record { opening = log; edits = []; listing = list; progress = progress; tickets = []; next_ticket = next; notes = notes }

-- a book just opened with these scenarios, of which nothing is published, and whose additions are its only notes
abbrev pub start : List LogEntry → Listing → Machine
start log list = state log list (fresh_of list.scenarios) 1 (length list.scenarios)

pub record IsBuilt (log : List LogEntry) (list : Listing) : Type 0 where
  pub begins : with_scenarios (just_opened log) list.scenarios ≡ start log list
  pub ids : IdsRise 1 list.scenarios list.next
  pub called : AllByRecursion (λ (s : Listed). is_name s.name ≡ true) list.scenarios
  pub few : length list.scenarios ≤ 64

-- scenarios and one more behind them are added by a call for the last, once the others are
pub with-one : (m : Machine) (front : List Listed) (s : Listed) → with_scenarios m (front ++ s ∷ []) ≡ after (AddScenario s.name s.scenario) (with_scenarios m front)
with-one m [] s = refl
with-one m (x ∷ front) s = with-one (after (AddScenario x.name x.scenario) m) front s

not_some : {X : Type 0} (o : Option X) → is_some o ≡ false → o ≡ None
not_some None h = refl
not_some (Some x) h = absurd (cc)

all-append : (P : Listed → Type 0) (xs : List Listed) (x : Listed) → AllByRecursion P xs → P x → AllByRecursion P (xs ++ x ∷ [])
all-append P [] x all h = (h, tt)
all-append P (y ∷ xs) x all h = (all.0, all-append P xs x all.1 h)

ids-append : (first : ℕ) (ss : List Listed) (next : ℕ) (s : Listed) → s.id ≡ next → IdsRise first ss next → IdsRise first (ss ++ s ∷ []) (next + 1)
ids-append first [] next s is h = (omega (arith, h, is), omega (arith, is))
ids-append first (t ∷ ss) next s is h = (h.0, ids-append (t.id + 1) ss next s is h.1)

added-one : (log : List LogEntry) (name : List ℕ) (scenario : ScenarioView) (list : Listing) → is_some (add_fault name list) ≡ false → after (AddScenario name scenario) (start log list) ≡ start log (with_scenario name scenario list)
added-one log name scenario list can =
    let s : Listed = record { name = name; id = list.next; scenario = scenario } in
    let grown : Machine = state log (with_scenario name scenario list) (fresh_of list.scenarios ++ fresh list.next ∷ []) 1 (length list.scenarios) in
    let more : length list.scenarios + 1 ≡ length (list.scenarios ++ s ∷ []) = sym (length-append list.scenarios (s ∷ [])) in
    let progress : fresh_of list.scenarios ++ fresh list.next ∷ [] ≡ fresh_of (list.scenarios ++ s ∷ []) = sym (map-append (λ (x : Listed). fresh x.id) list.scenarios (s ∷ [])) in
    ap (λ (b : Bool). noted (cond b (start log list) grown)) can
    ∙ ap₂ (λ (p : List Progress) (n : ℕ). state log (with_scenario name scenario list) p 1 n) progress more

built-more : (log : List LogEntry) (name : List ℕ) (scenario : ScenarioView) (list : Listing) → IsBuilt log list → is_some (add_fault name list) ≡ false → IsBuilt log (with_scenario name scenario list)
built-more log name scenario list is can =
    let s : Listed = record { name = name; id = list.next; scenario = scenario } in
    let ok = can_add name list (not_some (add_fault name list) can) in
    let more : length (list.scenarios ++ s ∷ []) ≡ length list.scenarios + 1 = length-append list.scenarios (s ∷ []) in
    record {
      begins = with-one (just_opened log) list.scenarios s ∙ ap (after (AddScenario name scenario)) is.begins ∙ added-one log name scenario list can;
      ids = ids-append 1 list.scenarios list.next s refl is.ids;
      called = all-append (λ (x : Listed). is_name x.name ≡ true) list.scenarios s is.called ok.called;
      few = omega (arith, more, ok.capacity);
    }

built-scenario : (log : List LogEntry) (name : List ℕ) (o : Option ScenarioView) (list : Listing) → IsBuilt log list → IsBuilt log (with_added name o list)
built-scenario log name None list is = is
built-scenario log name (Some scenario) list is = go (is_some (add_fault name list)) refl
  where
    go : (b : Bool) → is_some (add_fault name list) ≡ b → IsBuilt log (with_added name (Some scenario) list)
    go true e = subst (λ (b : Bool). IsBuilt log (cond b list (with_scenario name scenario list))) (sym e) is
    go false e = subst (λ (b : Bool). IsBuilt log (cond b list (with_scenario name scenario list))) (sym e) (built-more log name scenario list is e)

built-line : (log : List LogEntry) (list : Listing) (line : Option ScenarioLine) → IsBuilt log list → IsBuilt log (with_line list line)
built-line log list None is = is
built-line log list (Some line) is = built-scenario log line.name (with_order (scenario_with line.procs line.factor) line) list is

built-declared : (log : List LogEntry) (list : Listing) (comments : List (List ℕ)) → IsBuilt log list → IsBuilt log (fold (λ l comment. with_line l (scenario_line comment)) list comments)
built-declared log list [] is = is
built-declared log list (comment ∷ comments) is = built-declared log (with_line list (scenario_line comment)) comments (built-line log list (scenario_line comment) is)

built-empty : (log : List LogEntry) → IsBuilt log empty
built-empty log = record { begins = refl; ids = omega arith; called = tt; few = omega arith }

abbrev IsBuiltOf : List LogEntry → Result Listing OpenTextFault → Type 0
IsBuiltOf log (Ok list) = IsBuilt log list
IsBuiltOf log (Err fault) = Unit {0}

built-base : (log : List LogEntry) (o : Option ScenarioView) → IsBuiltOf log (base_of o)
built-base log None = tt
built-base log (Some scenario) = built-more log (codes "base") scenario empty (built-empty log) refl

built-on : (log : List LogEntry) (procs : Option ℕ) → IsBuiltOf log (base_on procs)
built-on log None = tt
built-on log (Some procs) = built-base log (scenario_with procs 1000)

built-opened : (log : List LogEntry) (procs : Option ℕ) (comments : List (List ℕ)) → IsBuiltOf log (opened procs comments)
built-opened log procs comments = go (eqb (length (declared comments).scenarios) 0) refl
  where
    go : (b : Bool) → eqb (length (declared comments).scenarios) 0 ≡ b → IsBuiltOf log (opened procs comments)
    go true e = subst (λ (b : Bool). IsBuiltOf log (cond b (base_on (machine_of procs comments)) (Ok (declared comments)))) (sym e) (built-on log (machine_of procs comments))
    go false e = subst (λ (b : Bool). IsBuiltOf log (cond b (base_on (machine_of procs comments)) (Ok (declared comments)))) (sym e) (built-declared log empty comments (built-empty log))

-- the scenarios that a log is opened with begin its book, 64 at most, each with a name, and with ids that rise from 1
pub built : (log : List LogEntry) (procs : Option ℕ) (comments : List (List ℕ)) (list : Listing) → opened procs comments ≡ Ok list → IsBuilt log list
built log procs comments list is = subst (IsBuiltOf log) is (built-opened log procs comments)
