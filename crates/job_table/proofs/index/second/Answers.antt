use Rattle.chunks.specs.Chunks.{flat}
use Rattle.std.proofs.Common.{Some, None, ◌∙◌}
use Rattle.job_table.proofs.Numbers.{parted-numbers, outcome-copied}
use Rattle.job_table.proofs.index.second.Goals as goal

pub find-requires : goal.find-requires
find-requires g c = parted-numbers c.args.number (flat c.args.index.now) c.requires

pub returns-in-Some : goal.returns-in-Some
returns-in-Some g c = let e = rw c.in-Some.is at c.find.ensures in c.second_if.ensures ∙ outcome-copied c.args.number (flat c.args.index.now) (Some c.in-Some.pair.now) c.requires e

pub returns-in-None : goal.returns-in-None
returns-in-None g c = let e = rw c.in-None.is at c.find.ensures in outcome-copied c.args.number (flat c.args.index.now) None c.requires e
