use Rattle.std.proofs.Common.{map, ap, arith}
use Rattle.std.specs.Arc.{arc_value}
use Rattle.book_machine.specs.Noted.{noted_edit_of}
use Rattle.version_book.proofs.Stepping.{opened-sound}
use Rattle.version_book.proofs.state.State.new.Goals as goal

pub invariant_of-result : goal.invariant_of-result
invariant_of-result g c =
    let sound = opened-sound c.args.table (arc_value c.in_ok-opening.opening) (arc_value c.in_ok-current.current) c.args.spacing (map noted_edit_of c.new-2.result.items) c.new-3.result c.in_ok-with_capacity.field-0.items c.in_ok-with_capacity-2.field-0.items c.requires c.len.ensures.sound c.in_ok-opening.ensures.ok c.in_ok-current.ensures.cases (ap (map noted_edit_of) c.new-2.ensures.items) c.new-3.ensures c.in_ok-with_capacity.ensures.items c.in_ok-with_capacity-2.ensures.items in
    (sound, omega (arith, c.in_ok-with_capacity.ensures.capacity), omega (arith, c.in_ok-with_capacity-2.ensures.capacity))

pub returns-clause-sound : goal.returns-clause-sound
returns-clause-sound g c =
    let sound = opened-sound c.args.table (arc_value c.in_ok-opening.opening) (arc_value c.in_ok-current.current) c.args.spacing (map noted_edit_of c.new-2.result.items) c.new-3.result c.in_ok-with_capacity.field-0.items c.in_ok-with_capacity-2.field-0.items c.requires c.len.ensures.sound c.in_ok-opening.ensures.ok c.in_ok-current.ensures.cases (ap (map noted_edit_of) c.new-2.ensures.items) c.new-3.ensures c.in_ok-with_capacity.ensures.items c.in_ok-with_capacity-2.ensures.items in
    sound
