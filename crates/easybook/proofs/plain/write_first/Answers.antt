use Rattle.std.proofs.Common.{sym}
use Rattle.easybook.proofs.Openings.{printed}
use Rattle.easybook.proofs.plain.write_first.Goals as goal

pub unreachable-requires : goal.unreachable-requires
unreachable-requires g c = c.requires (sym c.in_default.ensures.value)

pub returns : goal.returns
returns g c = λ log procs is.
    printed log procs _ c.args.opening.table c.args.opening.scenarios (record { name = c.in-Some.first.0.now; id = c.in-Some.first.1; scenario = c.in-Some.first.2 }) _ _ c.write_under.result is (sym c.in-Some.ensures.value) c.write_under.ensures
