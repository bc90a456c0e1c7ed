use Rattle.std.proofs.Common.{◌≤◌, ℕ, IfSome, List, Option, ap, subst, sym, ◌∙◌}
use Rattle.blocks.specs.Rows.{flat, is_at, without_first}
use Rattle.scenarios.specs.Job.{EffectiveJob}
use Rattle.waiting_places.specs.Places.{waiting}
use Rattle.cluster_state.specs.Candidates.{IsKept}
use Rattle.cluster_state.proofs.PlaceLemmas.{Having}
use Rattle.cluster_state.proofs.EstimateLemmas.{estimate, kept-left, place}
use Rattle.cluster_state.proofs.candidates.leave_at.Goals as goal

pub returns-in-Shortest-clause-kept : goal.returns-in-Shortest-clause-kept
returns-in-Shortest-clause-kept g c =
    let places = c.args.jobs.now.places in
    let candidates = flat c.args.candidates.now.blocks in
    let left = flat c.remove.new.self.blocks in
    let x = c.in-Some.waiter in
    let at = sym c.in-Some.ensures.item in
    let once = subst (λ (o : Option EffectiveJob). IfSome o (λ (j : EffectiveJob). Having j.number (waiting places) ≤ 1)) at c.requires.once in
    let long = c.major.ensures ∙ ap (λ (j : EffectiveJob). j.estimate) c.waiter.view_is in
    let there = ap (λ (n : ℕ). without_first (is_at estimate place c.major.result n) candidates) c.minor.ensures in
    let gone = c.remove.ensures.left ∙ there ∙ ap (λ (n : ℕ). without_first (is_at estimate place n c.args.place) candidates) long in
    subst (λ (ps : List (Option EffectiveJob)). IsKept c.args.order ps left) (sym c.in-Some.ensures.places)
    (kept-left places c.args.place x at c.args.order candidates left c.requires.kept once gone)
