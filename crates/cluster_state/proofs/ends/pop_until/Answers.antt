use Rattle.std.proofs.Common.{arith}
use Rattle.std.specs.BinaryHeap.{heap_items}
use Rattle.std.specs.declared.cmp.Reverse.{Reverse}
use Rattle.cluster_state.specs.declared.ends.End.{End}
use Rattle.std.proofs.lemmas.List.Sorted.{sum_by_popped}
use Rattle.cluster_state.proofs.ends.pop_until.Goals as goal

pub returns-clause-popped : goal.returns-clause-popped
returns-clause-popped g c = λ f. (let k = sum_by_popped (λ (x : Reverse End). f x.0) c.in_ok-first.field-0 (heap_items c.args.ends.now) (heap_items c.pop.new.self) c.in_ok-first.ensures.permutation in omega (arith, k))
