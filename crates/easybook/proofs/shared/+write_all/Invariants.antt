use Rattle.std.proofs.Common.{length}
use Rattle.easybook.proofs.shared.+write_all.Given as goal

abbrev pub decreases-write_all : goal.decreases-write_all
decreases-write_all g a = length a.texts.now
