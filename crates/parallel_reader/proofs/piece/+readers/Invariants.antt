use Rattle.std.proofs.Common.{◌+◌, ◌*◌}
use Rattle.parallel_reader.proofs.piece.+readers.Given as goal

abbrev pub decreases-read_while : goal.decreases-read_while
decreases-read_while g l = 4 * l.readers + 1

abbrev pub decreases-read_some_while : goal.decreases-read_some_while
decreases-read_some_while g l = 4 * l.readers

abbrev pub decreases-read_some_while-others : goal.decreases-read_some_while-others
decreases-read_some_while-others g l = 4 * l.fewer + 2
