use Rattle.std.proofs.Common.{◌≡◌, ◌+◌, ℕ, List, None, Some, ap, length, subst, ◌∙◌}
use Rattle.blocks.specs.Light.{IsFirstLight}
use Rattle.blocks.specs.Rows.{AreBefore, BlocksView, flat}
use Rattle.cluster_state.specs.declared.candidate.Candidate.{Candidate}
use Rattle.cluster_state.proofs.EstimateLemmas.{estimate, found_behind, found_front, place, size}
use Rattle.cluster_state.proofs.candidates.first_fit.Goals as goal

pub returns-in-Some-clause-first : goal.returns-in-Some-clause-first
returns-in-Some-clause-first g c =
    let candidates = flat c.args.candidates.now.blocks in
    let offer = c.args.offer.now in
    let longer = c.before-longer.result in
    let parts = subst (λ (n : ℕ). AreBefore estimate place n 0 candidates longer) (ap (λ (n : ℕ). n + 1) c.from.ensures) c.before-longer.ensures in
    let found = subst (λ (n : ℕ). IsFirstLight size n candidates c.args.from longer (Some c.in-Some.place)) c.max.ensures c.in-Some.ensures.place in
    found_front offer candidates longer parts c.args.from c.in-Some.place found

pub returns-clause-first : goal.returns-clause-first
returns-clause-first g c =
    let candidates = flat c.args.candidates.now.blocks in
    let offer = c.args.offer.now in
    let longer = c.before-longer.result in
    let parts = subst (λ (n : ℕ). AreBefore estimate place n 0 candidates longer) (ap (λ (n : ℕ). n + 1) c.from.ensures) c.before-longer.ensures in
    let none = subst (λ (n : ℕ). IsFirstLight size n candidates c.args.from longer None) c.max.ensures c.in_default.ensures.place in
    let same : flat c.first_light.new.self.blocks ≡ candidates = ap (λ (v : BlocksView Candidate). flat v.blocks) c.first_light.ensures.same in
    let rest = subst (λ (n : ℕ). IsFirstLight size offer.extra candidates n c.len.result c.first_light-2.result) c.max-2.ensures
    (subst (λ (l : List Candidate). IsFirstLight size offer.extra l c.max-2.result c.len.result c.first_light-2.result) same c.first_light-2.ensures.place) in
    found_behind offer candidates longer parts c.args.from c.len.result c.first_light-2.result none (c.len.ensures ∙ ap (λ (l : List Candidate). length l) same) rest
