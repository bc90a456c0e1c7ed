use Rattle.book_machine.proofs.Rising.{versions}
use Rattle.book_machine.proofs.laws.versions_never_go_down.Goals as goal

pub returns : goal.returns
returns c = versions
