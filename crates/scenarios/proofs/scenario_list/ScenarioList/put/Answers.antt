use Rattle.std.proofs.Common.{◌≡◌, sym, subst, refl, None}
use Rattle.std.specs.String.{string_bytes}
use Rattle.scenarios.specs.ScenarioList.{Listing, add_fault}
use Rattle.scenarios.proofs.Listings.{can_add, next-positive, rows, rows-insert_entry, IsListing-with}
use Rattle.scenarios.proofs.scenario_list.ScenarioList.put.Goals as goal

pub of-id-requires : goal.of-id-requires
of-id-requires g c = next-positive 1 _ _ c.self.invariant.ids

pub invariant_of-self-2 : goal.invariant_of-self-2
invariant_of-self-2 g c =
    let old : Listing = record { scenarios = rows string_bytes c.self.inside.named.entries; next = c.self.inside.next } in
    let is_free : Listing → Type 0 = λ l. add_fault c.args.name.now l ≡ None in
    let can = can_add c.args.name.now old (subst is_free (sym c.self.view_is) c.requires) in
    rw (c.in_ok-insert.ensures.entries, rows-insert_entry string_bytes c.args.name.now c.in_ok-key.key (c.of-id.result, c.args.scenario) c.in_ok-key.ensures.ok c.self.inside.named.entries can.new, c.of-id.ensures)
    (IsListing-with c.args.name.now c.args.scenario old c.self.invariant can c.procs.ensures.scenario)

pub returns-clause-added : goal.returns-clause-added
returns-clause-added g c =
    let old : Listing = record { scenarios = rows string_bytes c.self.inside.named.entries; next = c.self.inside.next } in
    let is_free : Listing → Type 0 = λ l. add_fault c.args.name.now l ≡ None in
    let can = can_add c.args.name.now old (subst is_free (sym c.self.view_is) c.requires) in
    rw (← c.self.view_is)
    (rw (c.in_ok-insert.ensures.entries, rows-insert_entry string_bytes c.args.name.now c.in_ok-key.key (c.of-id.result, c.args.scenario) c.in_ok-key.ensures.ok c.self.inside.named.entries can.new, c.of-id.ensures) refl)
