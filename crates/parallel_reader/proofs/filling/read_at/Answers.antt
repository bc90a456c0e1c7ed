use Rattle.std.proofs.Common.{arith}
use Rattle.std.proofs.lemmas.List.{length-take-le}
use borrow.Rule.Slice.PartMut.{take_put}
use Rattle.parallel_reader.proofs.Fronts.{read_in_place}
use Rattle.parallel_reader.proofs.filling.read_at.Goals as goal

pub returns-clause-front : goal.returns-clause-front
returns-clause-front g c = take_put _ _ c.args.buffer.now _ (omega (arith, c.requires))

pub returns-clause-given : goal.returns-clause-given
returns-clause-given g c =
    read_in_place _ _ c.read.result _ c.read.new.buf _ c.args.at (length-take-le _ c.args.buffer.now (omega (arith, c.requires)))
    c.read.ensures.bound c.read.ensures.bytes
