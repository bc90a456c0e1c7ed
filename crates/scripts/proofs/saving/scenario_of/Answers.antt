use Rattle.std.proofs.Common.{◌≡◌, true, false, sym, ◌∙◌, ap, arith}
use Rattle.std.specs.Prelude.{Some, slice_get}
use Rattle.std.specs.Option.{option_map}
use Rattle.scenarios.specs.ScenarioList.{Listed, has_name}
use Rattle.scripts.proofs.Named.{is-here, not-here, none-left}
use Rattle.scripts.proofs.saving.scenario_of.Goals as goal

pub returns-then-eq : goal.returns-then-eq
returns-then-eq g c =
    let s : Listed = record { name = c.in-Some.listed.0.now; id = c.in-Some.listed.1; scenario = c.in-Some.listed.2 } in
    let at : slice_get c.args.list.now.scenarios c.loop-place.place ≡ Some s = sym c.in-Some.ensures.value in
    let has : has_name c.args.name.now s ≡ true = sym c.if-eq.ensures in
    ap (option_map (λ (s : Listed). s.scenario)) (sym (c.loop-place.invariant ∙ is-here c.args.name.now c.args.list.now.scenarios c.loop-place.place s at has))

pub loop-place-preserved : goal.loop-place-preserved
loop-place-preserved g c =
    let s : Listed = record { name = c.in-Some.listed.0.now; id = c.in-Some.listed.1; scenario = c.in-Some.listed.2 } in
    let at : slice_get c.args.list.now.scenarios c.loop-place.place ≡ Some s = sym c.in-Some.ensures.value in
    let has_not : has_name c.args.name.now s ≡ false = sym c.if-eq.ensures in
    c.loop-place.invariant ∙ not-here c.args.name.now c.args.list.now.scenarios c.loop-place.place s at has_not

pub returns : goal.returns
returns g c = ap (option_map (λ (s : Listed). s.scenario)) (sym (c.loop-place.invariant ∙ none-left c.args.name.now c.args.list.now.scenarios c.loop-place.place (omega (arith, c.loop-place-test.false, c.len-place-end.ensures.value))))
