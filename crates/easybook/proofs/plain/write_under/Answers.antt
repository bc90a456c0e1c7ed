use Rattle.std.proofs.Common.{◌≡◌, rules, ap, ◌∙◌}
use Rattle.std.specs.Arc.{arc_value}
use Rattle.scenarios.specs.PlanView.{PlanView}
use Rattle.easybook.proofs.Openings.{is-printed}
use Rattle.easybook.proofs.plain.write_under.Goals as goal

pub returns : goal.returns
returns g c =
    let table : arc_value c.in_ok-new.field-0 ≡ c.args.table = search rules in
    let log = ap (λ (v : PlanView). v.log) c.new-plan.ensures.view ∙ table in
    let scenario = ap (λ (v : PlanView). v.scenario) c.new-plan.ensures.view in
    (_, is-printed c.args.name.now _ c.in_ok-report.ensures.text c.in_ok-report.ensures.lines log scenario, c.in_ok-write.ensures)
