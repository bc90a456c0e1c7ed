use Rattle.std.proofs.Common.{◌≡◌, ◌↔◌, drop, map}
use Rattle.book_machine.specs.Noted.{noted_of}
use Rattle.workers.specs.Lists.{listed_of, part_of}
use Rattle.workers.proofs.parts.is_part.Given as goal

abbrev pub invariant-loop-note : goal.invariant-loop-note
invariant-loop-note g l = (map listed_of l.list ≡ part_of l.who (map noted_of l.notes)) ↔ (map listed_of l.left ≡ part_of l.who (map noted_of (drop l.note-index l.notes)))
