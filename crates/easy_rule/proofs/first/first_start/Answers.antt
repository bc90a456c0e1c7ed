use Rattle.std.proofs.Common.{◌≡◌, arith, refl}
use Rattle.cluster_state.specs.State.{free}
use Rattle.easy_rule.proofs.NextLemmas.{next-full}
use Rattle.easy_rule.proofs.PassLemmas.{pass-shadow}
use Rattle.easy_rule.proofs.CandidateLemmas.{candidate-at, candidate-none, pass-begins, some≢none}
use Rattle.easy_rule.specs.Rule.{next}
use Rattle.easy_rule.specs.Pass.{candidates_from}
use Rattle.easy_rule.proofs.first.first_start.Goals as goal

pub returns-then-free-eq0-clause-first : goal.returns-then-free-eq0-clause-first
returns-then-free-eq0-clause-first g c =
    let none : free c.args.cluster.now.state ≡ 0 = let f = c.free-free.ensures.free in omega arith in
    (next-full c.args.cluster.now.state c.args.now c.free-free.ensures.sound none, record { is = tt; last_shadow = λ l some. absurd (omega (arith, none, l)) })

pub returns-in-None-clause-first : goal.returns-in-None-clause-first
returns-in-None-clause-first g c =
    let v = c.args.cluster.now in
    let w = c.shadow_for-shadow.result in
    let p = pass-begins v c.args.now c.free-free.result c.size-need.result w c.in-Some.head.now c.in-None.ensures.candidates c.in-Some.ensures c.free-free.ensures.free c.size-need.ensures.value c.if-need-free.false c.shadow_for-shadow.ensures.shadow in
    (candidate-none v c.args.now w 0 p c.in-None.ensures.first, record { is = pass-shadow v.state c.args.now w (candidates_from v 0) p; last_shadow = λ l some. refl })

pub returns-in-Some-next_place-clause-first : goal.returns-in-Some-next_place-clause-first
returns-in-Some-next_place-clause-first g c =
    let v = c.args.cluster.now in
    let w = c.shadow_for-shadow.result in
    let p = pass-begins v c.args.now c.free-free.result c.size-need.result w c.in-Some.head.now c.in-Some-next_place.ensures.candidates c.in-Some.ensures c.free-free.ensures.free c.size-need.ensures.value c.if-need-free.false c.shadow_for-shadow.ensures.shadow in
    let k = candidate-at v c.args.now w 0 p c.in-Some-next_place.place c.in-Some-next_place.ensures.first in
    (some≢none (next v.state c.args.now) k.0 k.1.found, k.1.pass)
