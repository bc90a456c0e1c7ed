use Rattle.timeline.proofs.Ledger.{ledgers-swap, notes-keep-the-ledger}
use Rattle.timeline.proofs.laws.ledgers_are_kept_by_starts.Goals as goal

pub returns-clause-notes : goal.returns-clause-notes
returns-clause-notes c = notes-keep-the-ledger

pub returns-clause-swap : goal.returns-clause-swap
returns-clause-swap c = ledgers-swap
