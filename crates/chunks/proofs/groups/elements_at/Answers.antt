use Rattle.std.proofs.Common.{length, ap}
use Rattle.chunks.proofs.Grouped.{elements_is, sized_group}
use Rattle.chunks.proofs.groups.elements_at.Goals as goal

pub elements-requires : goal.elements-requires
elements-requires g c = sized_group c.args.groups.now c.args.place.group c.elements-chunks.result.now c.requires.sized.chunks c.elements-chunks.ensures.value

pub returns-clause-value : goal.returns-clause-value
returns-clause-value g c =
    elements_is c.args.groups.now c.args.place.group c.args.place.chunk c.elements-chunks.result.now c.elements.result.now c.requires.spot.there c.elements-chunks.ensures.value c.elements.ensures.value

pub returns-clause-len : goal.returns-clause-len
returns-clause-len g c = ap length (returns-clause-value g c)
