use Rattle.std.proofs.Common.{List, option_map, ok_or, ap, ◌∙◌, sym}
use Rattle.std.specs.String.{string_bytes}
use Rattle.scenarios.specs.ScenarioList.{Listed}
use Rattle.scenarios.proofs.Listings.{id_of-rows, rows-remove_entry, IsListing-without}
use Rattle.scenarios.proofs.scenario_list.ScenarioList.drop_named.Goals as goal
use Rattle.scenarios.proofs.scenario_list.ScenarioList.drop_named.Goals.{in-Some, in-None}

pub invariant_of-self : goal.invariant_of-self
invariant_of-self g c = rw (c.shift_remove.ensures.entries, rows-remove_entry string_bytes c.args.name.now c.self.inside.named.entries) (IsListing-without c.args.name.now _ c.self.invariant)

pub returns-clause-answer : goal.returns-clause-answer
returns-clause-answer g c =
    let found = sym (id_of-rows string_bytes c.args.name.now c.self.inside.named.entries) in
    rw (← c.self.view_is) (elim c.match-shift_remove.branch [
      | in-Some w ↦ w.result-is ∙ ap (λ o. ok_or (option_map (λ v. v.0) o) (record {})) w.in-Some.ensures.value ∙ ap (λ o. ok_or o (record {})) found
      | in-None w ↦ w.result-is ∙ ap (λ o. ok_or (option_map (λ v. v.0) o) (record {})) w.in-None.ensures.value ∙ ap (λ o. ok_or o (record {})) found
    ])

pub returns-clause-dropped : goal.returns-clause-dropped
returns-clause-dropped g c =
    rw (← c.self.view_is) (rw (c.shift_remove.ensures.entries) (ap (λ (l : List Listed). record { scenarios = l; next = c.self.inside.next }) (rows-remove_entry string_bytes c.args.name.now c.self.inside.named.entries)))
