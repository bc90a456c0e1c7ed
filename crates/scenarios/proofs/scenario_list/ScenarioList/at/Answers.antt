use Rattle.std.proofs.Common.{option_map, ap, ◌∙◌, sym}
use Rattle.std.specs.String.{string_bytes}
use Rattle.std.proofs.lemmas.Option.{slice_get-map}
use Rattle.scenarios.proofs.Listings.{row}
use Rattle.scenarios.proofs.scenario_list.ScenarioList.at.Goals as goal

pub returns-in-Some-clause-value : goal.returns-in-Some-clause-value
returns-in-Some-clause-value g c = rw (← c.self.view_is) (rw c.as_str.ensures.value (ap (option_map (row string_bytes)) c.in-Some.ensures.entry ∙ sym (slice_get-map (row string_bytes) c.self.inside.named.entries c.args.place)))

pub returns-in-None-clause-value : goal.returns-in-None-clause-value
returns-in-None-clause-value g c = rw (← c.self.view_is) (ap (option_map (row string_bytes)) c.in-None.ensures.entry ∙ sym (slice_get-map (row string_bytes) c.self.inside.named.entries c.args.place))
