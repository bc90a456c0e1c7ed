use Rattle.std.proofs.Common.{◌≡◌, length, sym, ap, ◌∙◌, arith}
use Rattle.scenarios.specs.ScenarioList.{Listing}
use Rattle.commands.specs.Opening.{declared, base_on}
use Rattle.commands.proofs.Declared.{opened_is_base, if_ok_as}
use Rattle.commands.proofs.opening.opened.Goals as goal

pub returns-clause-list : goal.returns-clause-list
returns-clause-list g c =
    let list : c.in_ok-declared.declared ≡ declared c.args.text.now.comments = c.in_ok-declared.ensures.list ∙ ap declared c.comments.ensures in
    let size = ap (λ (l : Listing). length l.scenarios) list in
    if_ok_as _ _ _ (opened_is_base c.args.procs c.args.text.now.comments (omega (arith, size, c.len.ensures.value)) ∙ ap base_on (sym c.machine_of.ensures)) c.base_on.ensures.list
