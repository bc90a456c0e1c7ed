use Rattle.std.proofs.Common.{rules, IsTrue, arith, refl}
use Rattle.chronicle.specs.Fronts.{Begins}
use Rattle.workers.specs.Callers.{SessionView}
use Rattle.workers.proofs.Portions.{more}
use Rattle.workers.proofs.closing.sessions_begin.Goals as goal

pub loop-session-preserved : goal.loop-session-preserved
loop-session-preserved g c =
    let yes : IsTrue c.begins.result = search rules in
    more (λ (s : SessionView). Begins s.front c.args.whole.now) c.args.sessions.now c.loop-session.session-index c.session-item.result c.loop-session.invariant c.loop-session-test.true c.session-item.is (c.begins.ensures.0 yes)

pub returns : goal.returns
returns g c = ((λ t k d below. let end = c.loop-session-test.false in c.loop-session.invariant k d (omega arith)), (λ all. refl))
