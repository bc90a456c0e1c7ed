use Rattle.std.proofs.Common.{◌∙◌, sym, subst}
use Rattle.std.proofs.lemmas.Bool.{true≢false}
use Rattle.cluster_state.specs.State.{State}
use Rattle.easy_rule.proofs.Begun.{begun-done, begun-none}
use Rattle.easy_rule.proofs.BehindLemmas.{IsBehind, behind-is, behind-done, behind-none, behind-pass}
use Rattle.easy_rule.proofs.behind.decide_behind.Goals as goal

pub returns-then-not-may_any-clause-ok : goal.returns-then-not-may_any-clause-ok
returns-then-not-may_any-clause-ok g c =
    let v = c.args.cluster.now in
    let now = c.args.now in
    let behind = behind-is v.state now c.args.settled c.args.shadow c.requires.settled in
    begun-done v v now c.clear.new.self.items (behind-done v.state now c.args.settled c.args.shadow behind (sym c.may_any.ensures ∙ c.if-not-may_any.true))
    (begun-none v now c.clear.new.self.items c.clear.ensures.items)

pub returns-in_err-capacity_for_starts-clause-settled : goal.returns-in_err-capacity_for_starts-clause-settled
returns-in_err-capacity_for_starts-clause-settled g c = λ none.
    let s = c.args.cluster.now.state in
    let behind = behind-is s c.args.now c.args.settled c.args.shadow c.requires.settled in
    absurd (true≢false (sym c.if-not-may_any.false ∙ c.may_any.ensures ∙ behind-none s c.args.now c.args.settled c.args.shadow behind none))

pub pass_on-requires-clause-pass : goal.pass_on-requires-clause-pass
pass_on-requires-clause-pass g c =
    let behind = behind-is c.args.cluster.now.state c.args.now c.args.settled c.args.shadow c.requires.settled in
    behind-pass c.capacity_for_starts.new.cluster c.args.now c.args.settled c.place_behind-place.result c.args.shadow c.place_behind-place.ensures.candidates c.place_behind-place.ensures.rest c.place_behind-place.ensures.all
    (subst (λ (s : State). IsBehind s c.args.now c.args.shadow c.args.settled) (sym c.in_ok-capacity_for_starts.ensures.state) behind)
