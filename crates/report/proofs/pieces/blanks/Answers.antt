use Rattle.std.proofs.lemmas.List.{take-replicate}
use Rattle.report.proofs.pieces.blanks.Goals as goal

pub returns : goal.returns
returns c = take-replicate c.args.count 16 32 c.requires
