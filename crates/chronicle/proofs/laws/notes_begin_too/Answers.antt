use Rattle.chronicle.proofs.Legal.{notes_begin}
use Rattle.chronicle.proofs.laws.notes_begin_too.Goals as goal

pub returns : goal.returns
returns c = notes_begin
