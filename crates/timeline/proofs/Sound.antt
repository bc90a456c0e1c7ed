-- The state before each second is sound, however late.
use Rattle.std.proofs.Common.{◌+◌, ◌≤◌, ◌<◌, sym, ◌∙◌, arith, subst, ⊎_elim}
use Rattle.std.proofs.lemmas.Bool.{cases_lt}
use Rattle.cluster_state.specs.State.{State, IsSound}
use Rattle.easy_rule.specs.Simulation.{bound}
use Rattle.timeline.specs.Laws.{EachStateIsSound}
use Rattle.timeline.proofs.Short.{short-plan}
use Rattle.timeline.proofs.Facts.{run-before}
use Rattle.timeline.proofs.Bound.{all-have-ended}

-- the state before each second is sound
pub each-state-is-sound : EachStateIsSound
each-state-is-sound plan t p =
    let short = short-plan plan p in
    ⊎_elim
    (λ (l : bound plan < t).
    let e = all-have-ended plan (bound plan + 1) p (omega arith) in
    let early = (run-before plan (bound plan + 1) (omega (arith, short)) p).sound in
    subst (λ (s : State). IsSound s) (e ∙ sym (all-have-ended plan t p l)) early)
    (λ (l : t ≤ bound plan). (run-before plan t (omega (arith, short, l)) p).sound)
    (cases_lt (bound plan) t)
