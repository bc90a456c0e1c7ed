use Rattle.swf_text.proofs.Spellings.{Spells-canonical}
use Rattle.swf_text.proofs.laws.spelling_law.Goals as goal

pub returns : goal.returns
returns c = Spells-canonical
