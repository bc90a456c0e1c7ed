use Rattle.std.proofs.Common.{rules, refl}
use Rattle.scenarios.specs.Names.{add_fault_name}
use Rattle.book_machine.specs.declared.reply.Reply.TheVariants as reply
use Rattle.book_machine.specs.Call.{AddScenario}
use Rattle.version_book.specs.Answers.{add_answer}
use Rattle.scripts.specs.declared.answer.Became.TheVariants as became
use Rattle.scripts.proofs.CallAnswers.{call-scenario}
use Rattle.scripts.proofs.calls.add.Goals as goal

pub returns : goal.returns
returns g c =
    let answered : g.S.Analyst.rules.does c.args.analyst.now (AddScenario c.args.name c.args.scenario) (add_answer c.add_scenario-outcome.result) c.add_scenario-outcome.new.self = search rules in
    call-scenario g.S.Analyst.rules c.args.analyst.now c.add_scenario-outcome.new.self (AddScenario c.args.name c.args.scenario) c.args.name became.Added reply.Added reply.AddRefused add_fault_name (λ value. refl) (λ fault. refl) c.add_scenario-outcome.result _ answered c.of_scenario.ensures
