use Rattle.book_machine.proofs.Versions.{accepted, kept, noted_edits}
use Rattle.book_machine.proofs.laws.each_version_keeps_its_log.Goals as goal

pub returns : goal.returns
returns c = record { accepted = accepted; noted = noted_edits; kept = kept }
