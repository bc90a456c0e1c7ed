use Rattle.std.proofs.Common.{◌≡◌, count_by, nat_eq}
use Rattle.frames.specs.Frames.{standing_at}
use Rattle.frames.proofs.frame.holds_key.Given as goal

abbrev pub invariant-loop-item : goal.invariant-loop-item
invariant-loop-item g l = count_by (λ item. nat_eq (g.T.Keyed.key item) l.key) l.item-iterator ≡ count_by (λ item. nat_eq (g.T.Keyed.key item) l.key) (standing_at l.place l.stretches)
