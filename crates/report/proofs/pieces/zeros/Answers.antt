use Rattle.std.proofs.lemmas.List.{take-replicate}
use Rattle.report.proofs.pieces.zeros.Goals as goal

pub returns : goal.returns
returns c = take-replicate c.args.count 3 48 c.requires
