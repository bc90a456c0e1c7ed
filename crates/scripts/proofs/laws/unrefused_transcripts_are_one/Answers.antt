use Rattle.scripts.proofs.OneTranscript.{one-line, one-unrefused, unrefused-too}
use Rattle.scripts.proofs.laws.unrefused_transcripts_are_one.Goals as goal

pub returns-clause-line : goal.returns-clause-line
returns-clause-line g c = one-line {A = g.row.A.Denot}

pub returns-clause-one : goal.returns-clause-one
returns-clause-one g c = one-unrefused g.row.A.Denot

pub returns-clause-some : goal.returns-clause-some
returns-clause-some g c = unrefused-too g.row.A.Denot
