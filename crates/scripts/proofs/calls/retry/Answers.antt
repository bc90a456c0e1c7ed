use Rattle.std.proofs.Common.{rules, refl}
use Rattle.std.specs.Prelude.{Some}
use Rattle.scenarios.specs.Names.{no_such_scenario_name}
use Rattle.book_machine.specs.declared.reply.Reply.TheVariants as reply
use Rattle.book_machine.specs.Call.{Retry}
use Rattle.scripts.specs.declared.answer.Became.TheVariants as became
use Rattle.scripts.proofs.CallAnswers.{call-scenario}
use Rattle.scripts.proofs.calls.retry.Goals as goal

pub returns : goal.returns
returns g c =
    let found : g.S.Analyst.rules.finds c.args.analyst.now c.args.name (Some c.in-Some.id) c.find.new.self = search rules in (
      Some c.in-Some.id,
      c.find.new.self,
      found,
      call-scenario g.S.Analyst.rules c.find.new.self c.retry-outcome.new.self (Retry c.in-Some.id) c.args.name became.Retried (λ _. reply.Retried) (λ _. reply.NoSuchScenario) (λ _. no_such_scenario_name) (λ value. refl) (λ fault. refl) c.retry-outcome.result _ c.retry-outcome.ensures c.of_scenario.ensures,
    )
