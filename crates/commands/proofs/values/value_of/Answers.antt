use Rattle.commands.proofs.EntryWords.{from_bytes_is}
use Rattle.commands.proofs.values.value_of.Goals as goal

pub returns : goal.returns
returns c = from_bytes_is _ _ c.from_bytes.ensures.spells c.from_bytes.ensures.only
