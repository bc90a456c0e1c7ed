use Rattle.cluster_state.proofs.EndLemmas.{rises-of, permuted-by_end}
use Rattle.cluster_state.proofs.laws.by_end_rises_and_keeps_all.Goals as goal

pub returns-clause-rising : goal.returns-clause-rising
returns-clause-rising c = rises-of

pub returns-clause-all : goal.returns-clause-all
returns-clause-all c = permuted-by_end
