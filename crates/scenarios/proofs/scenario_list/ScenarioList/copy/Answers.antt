use Rattle.std.proofs.Common.{ap, ◌∙◌, List}
use Rattle.std.specs.String.{string_bytes}
use Rattle.scenarios.specs.ScenarioList.{Listed}
use Rattle.scenarios.proofs.Listings.{rows-same}
use Rattle.scenarios.proofs.scenario_list.ScenarioList.copy.Goals as goal

pub invariant_of-result : goal.invariant_of-result
invariant_of-result g c = rw (rows-same string_bytes c.self.inside.named.entries c.in_ok-clone.field-0.entries c.in_ok-clone.ensures.cases) c.self.invariant

pub returns : goal.returns
returns g c = ap (λ (l : List Listed). record { scenarios = l; next = c.self.inside.next }) (rows-same string_bytes c.self.inside.named.entries c.in_ok-clone.field-0.entries c.in_ok-clone.ensures.cases) ∙ c.self.view_is
