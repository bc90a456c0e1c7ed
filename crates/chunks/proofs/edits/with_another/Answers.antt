use Rattle.std.proofs.Common.{refl, set}
use Rattle.chunks.specs.Groups.{chunk_number, chunks_in}
use Rattle.chunks.proofs.Changes.{set_is}
use Rattle.chunks.proofs.edits.with_another.Goals as goal

pub returns-clause-flat : goal.returns-clause-flat
returns-clause-flat g c =
    set_is (chunk_number c.args.place.group c.args.place.chunk c.args.groups.now) c.args.place.at (chunks_in c.args.groups.now) c.args.item c.elements_at.result.now c.in_ok-items.items.items (set c.in_ok-items.items.items c.args.place.at c.args.item) _ c.elements_at.ensures.value c.in_ok-items.ensures.items refl c.requires.element.inside c.in_ok-with_elements.ensures.flat
