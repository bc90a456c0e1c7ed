use Rattle.metrics.proofs.Forms.{empty_tally, is_empty_tally, part_from}
use Rattle.metrics.proofs.part.Part.empty.Goals as goal

pub invariant_of-result : goal.invariant_of-result
invariant_of-result g c = is_empty_tally _ (empty_tally _ c.none.ensures c.empty.ensures c.none-2.ensures)

pub returns : goal.returns
returns g c = part_from _ _ (empty_tally _ c.none.ensures c.empty.ensures c.none-2.ensures)
