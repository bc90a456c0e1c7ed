use Rattle.std.proofs.Common.{List, subst, sym}
use Rattle.std.specs.List.Sorted.{IsNonDecreasingBy, IsPermutation}
use Rattle.chunks.specs.declared.numbered.Numbered.{Numbered}
use Rattle.job_table.specs.Table.{number_in}
use Rattle.job_table.proofs.index.index_of.Goals as goal

pub returns-clause-same : goal.returns-clause-same
returns-clause-same g c = subst (λ (l : List Numbered). IsPermutation c.args.pairs.items l) (sym c.in_ok-of.ensures.list) c.in_ok-sort_pairs.ensures.same

pub returns-clause-order : goal.returns-clause-order
returns-clause-order g c = subst (λ (l : List Numbered). IsNonDecreasingBy number_in l) (sym c.in_ok-of.ensures.list) c.in_ok-sort_pairs.ensures.order
