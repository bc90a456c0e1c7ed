use Rattle.book_machine.proofs.Rising.{none_ahead}
use Rattle.book_machine.proofs.laws.no_version_is_ahead.Goals as goal

pub returns : goal.returns
returns c = none_ahead
