-- Scenarios by name, in the order in which they were added.
use Rattle.std.specs.Prelude.{◌≡◌, ℕ, ◌+◌, ◌≤◌, List, [], ◌∷◌, ◌++◌, length, find, Bool, true, ◌||◌, not, nat_le, nat_lt, is_some, if◌then◌else◌, Option, Some, None}
use Rattle.std.specs.Option.{option_map}
use Rattle.std.specs.List.{AllByRecursion}
use Rattle.std.specs.Str.{bytes_eq}
use Rattle.scenarios.specs.declared.list_fault.AddFault.{AddFault}
use Rattle.scenarios.specs.declared.list_fault.AddFault.TheVariants.{BadName, NameTaken, TooMany}
use Rattle.scenarios.specs.Limits.{scenarios_limit}
use Rattle.scenarios.specs.Name.{is_name}
use Rattle.scenarios.specs.Scenario.{ScenarioView, IsScenario}

-- a scenario that was added: its name, its id, and what a log is simulated under
pub record Listed : Type 0 where
  pub name : List ℕ
  pub id : ℕ
  pub scenario : ScenarioView

-- the scenarios that stand, and the id that the next one gets
pub record Listing : Type 0 where
  pub scenarios : List Listed
  pub next : ℕ

-- no scenario stands, and the first gets the id 1
abbrev pub empty : Listing
empty = record { scenarios = []; next = 1 }

-- ---- by name

abbrev pub has_name : List ℕ → Listed → Bool
has_name name scenario = bytes_eq name scenario.name

-- the scenario with this name
abbrev pub named : List ℕ → List Listed → Option Listed
named name scenarios = find (has_name name) scenarios

-- the id of the scenario with this name
abbrev pub id_of : List ℕ → Listing → Option ℕ
id_of name list = option_map (λ s. s.id) (named name list.scenarios)

-- ---- what holds of every list

-- no name stands twice
abbrev pub AreApart : List Listed → Type 0
AreApart [] = Unit {0}
AreApart (s ∷ scenarios) = (named s.name scenarios ≡ None) × AreApart scenarios

-- the ids rise from one on, and stay below another
abbrev pub IdsRise : ℕ → List Listed → ℕ → Type 0
IdsRise first [] next = first ≤ next
IdsRise first (s ∷ scenarios) next = (first ≤ s.id) × IdsRise (s.id + 1) scenarios next

-- a scenario has a name, and a scenario within the limits
pub record IsListed (listed : Listed) : Type 0 where
  pub called : is_name listed.name ≡ true
  pub scenario : IsScenario listed.scenario

-- such scenarios, not too many, of which no two have one name, by rising ids; the last id is 4,294,967,295
pub record IsListing (list : Listing) : Type 0 where
  pub listed : AllByRecursion IsListed list.scenarios
  pub apart : AreApart list.scenarios
  pub ids : IdsRise 1 list.scenarios list.next
  pub capacity : length list.scenarios ≤ scenarios_limit
  pub last : list.next ≤ 4294967296

-- ---- the changes

-- why no scenario can be added under this name: the first of these that holds
abbrev pub add_fault : List ℕ → Listing → Option AddFault
add_fault name list =
    if not (is_name name) then Some BadName
    else (if is_some (id_of name list) then Some NameTaken
    else (if nat_le scenarios_limit (length list.scenarios) || nat_lt 4294967295 list.next then Some TooMany
    else None))

-- the list with one more scenario, which gets the next id
abbrev pub with_scenario : List ℕ → ScenarioView → Listing → Listing
with_scenario name scenario list = record {
  scenarios = list.scenarios ++ record { name = name; id = list.next; scenario = scenario } ∷ [];
  next = list.next + 1;
}

-- the scenarios but the one with this name
abbrev pub without : List ℕ → List Listed → List Listed
without name [] = []
without name (s ∷ scenarios) = if has_name name s then scenarios else s ∷ without name scenarios

-- the list without the scenario of this name; its id is not given again
abbrev pub without_scenario : List ℕ → Listing → Listing
without_scenario name list = record list { scenarios = without name list.scenarios }
