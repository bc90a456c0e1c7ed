use Rattle.std.proofs.Common.{length, ◌∙◌}
use Rattle.parallel_reader.proofs.Fronts.{given_before}
use Rattle.parallel_reader.proofs.filling.refill.Goals as goal

pub returns-clause-given : goal.returns-clause-given
returns-clause-given g c =
    given_before _ _ c.fill_behind.new.buffer c.args.front.now (length c.args.front.now) c.fill_behind.result c.fill_behind.ensures.low c.fill_behind.ensures.given (c.fill_behind.ensures.front ∙ c.put_front.ensures.front)
