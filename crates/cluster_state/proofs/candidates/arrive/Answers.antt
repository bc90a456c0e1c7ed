use Rattle.std.proofs.Common.{◌++◌, [], ◌∷◌, List, ap, subst, sym, ◌∙◌}
use Rattle.blocks.specs.Rows.{flat}
use Rattle.scenarios.specs.declared.order.Order.TheVariants.{Shortest}
use Rattle.scenarios.specs.Job.{EffectiveJob}
use Rattle.cluster_state.specs.declared.candidate.Candidate.{Candidate}
use Rattle.cluster_state.specs.Candidates.{IsKept}
use Rattle.cluster_state.proofs.PlaceLemmas.{waiting-push}
use Rattle.cluster_state.proofs.EstimateLemmas.{kept-pushed}
use Rattle.cluster_state.proofs.candidates.arrive.Goals as goal

pub returns-clause-kept : goal.returns-clause-kept
returns-clause-kept g c =
    let places = c.make_place.new.jobs.places in
    let candidates = flat c.reserve.new.self.blocks in
    let kept = subst (λ (blocks : List (List Candidate)). IsKept Shortest places (flat blocks)) (sym c.in_ok-reserve.ensures.blocks) c.in_ok-make_place.ensures.kept in
    kept-pushed places c.push-place.new.self.places candidates (flat c.insert.new.self.blocks) (record { job = c.args.job; place = c.push-place.result }) kept c.push-place.ensures.place c.push-place.ensures.places c.insert.ensures.items

pub returns-clause-ok : goal.returns-clause-ok
returns-clause-ok g c =
    waiting-push c.make_place.new.jobs.places c.push-place.new.self.places c.args.job c.push-place.ensures.places ∙ ap (λ (l : List EffectiveJob). l ++ c.args.job ∷ []) c.in_ok-make_place.ensures.waiting
