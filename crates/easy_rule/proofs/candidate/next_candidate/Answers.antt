use Rattle.std.proofs.Common.{◌≡◌, None, IfNone, arith, subst, sym}
use Rattle.easy_rule.specs.Rule.{next}
use Rattle.easy_rule.proofs.NextLemmas.{next-full}
use Rattle.easy_rule.proofs.CandidateLemmas.{candidate-at, candidate-is, candidate-none}
use Rattle.easy_rule.proofs.candidate.next_candidate.Goals as goal

pub returns-then-free-eq0-clause-none : goal.returns-then-free-eq0-clause-none
returns-then-free-eq0-clause-none g c = next-full c.args.cluster.now.state c.args.now c.free.ensures.sound (let f = c.free.ensures.free in omega arith)

pub returns-in_err-place-clause-none : goal.returns-in_err-place-clause-none
returns-in_err-place-clause-none g c =
    subst (λ r. IfNone r (next c.args.cluster.now.state c.args.now ≡ None)) (sym c.from_residual.ensures) (candidate-none c.args.cluster.now c.args.now c.args.shadow c.args.from c.requires c.in_err-place.ensures.first)

pub returns-clause-some : goal.returns-clause-some
returns-clause-some g c =
    candidate-is c.args.cluster.now c.next_place.new.cluster c.args.now c.args.shadow c.in_ok-place.place c.in-Some.job.now c.in_ok-place.ensures.same c.in-Some.ensures.job
    (candidate-at c.args.cluster.now c.args.now c.args.shadow c.args.from c.requires c.in_ok-place.place c.in_ok-place.ensures.first)
