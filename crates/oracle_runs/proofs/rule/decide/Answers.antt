use Rattle.std.proofs.Common.{◌≡◌, ◌-◌, ◌<◌, ◌∙◌, sym, arith, Some, None, length}
use Rattle.cluster_state.specs.State.{State}
use Rattle.easy_rule.specs.Rule.{next}
use Rattle.easy_rule.proofs.Lemmas.{next-found, next-fits}
use Rattle.oracle_runs.proofs.Decided.{state-more, starts-more, state-stop, starts-stop, state-end, starts-end}
use Rattle.oracle_runs.proofs.rule.decide.Goals as goal

pub returns-in_default-clause-state : goal.returns-in_default-clause-state
returns-in_default-clause-state g c =
    let none : next c.loop-turn.state c.args.now ≡ None = sym c.next.ensures.next ∙ c.in_default.is in
    state-stop (length c.args.state.now.waiting - c.loop-turn.turn) c.loop-turn.state _ c.args.now none c.loop-turn.invariant.state

pub returns-in_default-clause-starts : goal.returns-in_default-clause-starts
returns-in_default-clause-starts g c =
    let none : next c.loop-turn.state c.args.now ≡ None = sym c.next.ensures.next ∙ c.in_default.is in
    starts-stop (length c.args.state.now.waiting - c.loop-turn.turn) c.loop-turn.state _ _ c.args.now none c.loop-turn.invariant.starts

pub start-requires-clause-waits : goal.start-requires-clause-waits
start-requires-clause-waits g c = next-found c.loop-turn.state c.args.now c.in-Some.job c.next.ensures.sound (sym c.next.ensures.next ∙ c.in-Some.is)

pub start-requires-clause-fits : goal.start-requires-clause-fits
start-requires-clause-fits g c = next-fits c.loop-turn.state c.args.now c.in-Some.job (sym c.next.ensures.next ∙ c.in-Some.is)

pub loop-turn-preserved : goal.loop-turn-preserved
loop-turn-preserved g c =
    let s : State = c.loop-turn.state in
    let all = length c.args.state.now.waiting in
    let found : next s c.args.now ≡ Some c.in-Some.job = sym c.next.ensures.next ∙ c.in-Some.is in
    let below : c.loop-turn.turn < all = rw c.waiting-turn-end.ensures.jobs at c.loop-turn-test.true in
    record {
      state = rw c.in_ok-start.ensures (state-more all c.loop-turn.turn s _ c.in-Some.job c.args.now below found c.loop-turn.invariant.state);
      starts = rw (c.in_ok-push.ensures.items, c.number.ensures.value, c.in_ok-start.ensures) (starts-more all c.loop-turn.turn s _ _ c.in-Some.job c.args.now below found c.loop-turn.invariant.starts);
    }

pub returns-clause-state : goal.returns-clause-state
returns-clause-state g c =
    let past = rw c.waiting-turn-end.ensures.jobs at c.loop-turn-test.false in
    state-end (length c.args.state.now.waiting - c.loop-turn.turn) c.loop-turn.state _ c.args.now (omega (arith, past)) c.loop-turn.invariant.state

pub returns-clause-starts : goal.returns-clause-starts
returns-clause-starts g c =
    let past = rw c.waiting-turn-end.ensures.jobs at c.loop-turn-test.false in
    starts-end (length c.args.state.now.waiting - c.loop-turn.turn) c.loop-turn.state _ _ c.args.now (omega (arith, past)) c.loop-turn.invariant.starts
