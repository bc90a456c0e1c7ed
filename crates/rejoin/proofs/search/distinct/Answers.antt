use Rattle.rejoin.proofs.Finding.{distinct-left, distinct-same}
use Rattle.rejoin.proofs.search.distinct.Goals as goal

pub returns-clause-same : goal.returns-clause-same
returns-clause-same g c = distinct-same c.args.numbers.items c.sort_unstable.new.self.items _ c.sort_unstable.ensures.permutation c.dedup.ensures.filtered

pub returns-clause-rising : goal.returns-clause-rising
returns-clause-rising g c = distinct-left c.sort_unstable.new.self.items _ c.dedup.ensures.filtered c.sort_unstable.ensures.sorted
