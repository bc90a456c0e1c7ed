use Rattle.std.proofs.Common.{◌≡◌, ◌-◌, ◌++◌, length}
use Rattle.easy_rule.specs.Rule.{decided, decisions, starts_at, state_after}
use Rattle.oracle_runs.proofs.rule.decide.Given as goal

abbrev pub invariant-loop-turn : goal.invariant-loop-turn
invariant-loop-turn g l =
    let all = length l.fn.state.waiting in
    record {
      state : decided (all - l.turn) l.state l.now ≡ state_after l.fn.state l.now;
      starts : l.starts.items ++ decisions (all - l.turn) l.state l.now ≡ starts_at l.fn.state l.now;
    }
