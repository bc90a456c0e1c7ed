use Rattle.std.proofs.Common.{option_map, ap, ◌∙◌, sym}
use Rattle.std.specs.String.{string_bytes}
use Rattle.scenarios.proofs.Listings.{id_of-rows}
use Rattle.scenarios.proofs.scenario_list.ScenarioList.id_of.Goals as goal

pub returns-in-Some : goal.returns-in-Some
returns-in-Some g c = rw (← c.self.view_is) (ap (option_map (λ v. v.0)) c.in-Some.ensures.value ∙ sym (id_of-rows string_bytes c.args.name.now c.self.inside.named.entries))

pub returns-in-None : goal.returns-in-None
returns-in-None g c = rw (← c.self.view_is) (ap (option_map (λ v. v.0)) c.in-None.ensures.value ∙ sym (id_of-rows string_bytes c.args.name.now c.self.inside.named.entries))
