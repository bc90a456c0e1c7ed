use Rattle.std.proofs.Common.{rules, refl}
use Rattle.scenarios.specs.Names.{no_such_scenario_name}
use Rattle.book_machine.specs.declared.reply.Reply.TheVariants as reply
use Rattle.book_machine.specs.Call.{DropScenario}
use Rattle.version_book.specs.Answers.{drop_answer}
use Rattle.scripts.specs.declared.answer.Became.TheVariants as became
use Rattle.scripts.proofs.CallAnswers.{call-scenario}
use Rattle.scripts.proofs.calls.drop_named.Goals as goal

pub returns : goal.returns
returns g c =
    let answered : g.S.Analyst.rules.does c.args.analyst.now (DropScenario c.args.name) (drop_answer c.drop_scenario-outcome.result) c.drop_scenario-outcome.new.self = search rules in
    call-scenario g.S.Analyst.rules c.args.analyst.now c.drop_scenario-outcome.new.self (DropScenario c.args.name) c.args.name became.Dropped reply.Dropped (λ _. reply.NoSuchScenario) (λ _. no_such_scenario_name) (λ value. refl) (λ fault. refl) c.drop_scenario-outcome.result _ answered c.of_scenario.ensures
