use Rattle.std.proofs.Common.{◌≡◌, ℕ, ◌<◌, false}
use Rattle.waiting_places.specs.Bounds.{corner_at}
use Rattle.waiting_places.specs.Offers.{fits}
use Rattle.waiting_places.specs.declared.corner.Corner.{Corner}
use Rattle.waiting_places.proofs.frontier.Frontier.may_fit.Given as goal

abbrev pub invariant-loop-at : goal.invariant-loop-at
invariant-loop-at l = (k : ℕ) → k < l.at → fits (λ (c : Corner). c.size) (λ c. c.estimate) l.offer (corner_at l.self k) ≡ false
