use Rattle.cluster_state.proofs.SnapshotLemmas.{numbers-give-the-state-back, equal-numbers-are-equal-states}
use Rattle.cluster_state.proofs.laws.numbers_give_the_state_back.Goals as goal

pub returns-clause-back : goal.returns-clause-back
returns-clause-back c = numbers-give-the-state-back

pub returns-clause-equal : goal.returns-clause-equal
returns-clause-equal c = equal-numbers-are-equal-states
