use Rattle.chunks.specs.Groups.{chunk_number, chunks_in}
use Rattle.chunks.proofs.Changes.{removed_is}
use Rattle.chunks.proofs.edits.removed.Goals as goal

pub returns-clause-flat : goal.returns-clause-flat
returns-clause-flat g c =
    removed_is (chunk_number c.args.place.group c.args.place.chunk c.args.groups.now) c.args.place.at (chunks_in c.args.groups.now) c.elements_at.result.now c.in_ok-items.items.items c.remove-item.new.self.items _ c.elements_at.ensures.value c.in_ok-items.ensures.items c.remove-item.ensures.items c.requires.element.inside c.in_ok-with_elements.ensures.flat
