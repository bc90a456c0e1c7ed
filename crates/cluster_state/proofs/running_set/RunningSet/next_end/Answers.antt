use Rattle.std.specs.BinaryHeap.{heap_items}
use Rattle.std.specs.declared.cmp.Reverse.{Reverse}
use Rattle.cluster_state.specs.declared.ends.End.{End}
use Rattle.blocks.specs.Rows.{flat}
use Rattle.cluster_state.specs.Ends.{by_number}
use Rattle.cluster_state.proofs.EndLemmas.{next-end-none, next-end-found, next-end-least}
use Rattle.cluster_state.proofs.KeyLemmas.{ends-of}
use Rattle.cluster_state.proofs.running_set.RunningSet.next_end.Goals as goal

pub returns-clause-none : goal.returns-clause-none
returns-clause-none g c =
    let ends = heap_items c.self.inside.ends in
    let runners = flat c.self.inside.runners.blocks in
    rw (← c.self.view_is) (next-end-none (λ (e : Reverse End). e.0.end) ends (by_number runners) c.first_end.result c.first_end.ensures.first (ends-of ends runners c.self.invariant.kept_ends))

pub returns-clause-found : goal.returns-clause-found
returns-clause-found g c =
    let ends = heap_items c.self.inside.ends in
    let runners = flat c.self.inside.runners.blocks in
    rw (← c.self.view_is) (next-end-found (λ (e : Reverse End). e.0.end) ends (by_number runners) c.first_end.result c.first_end.ensures.first (ends-of ends runners c.self.invariant.kept_ends))

pub returns-clause-least : goal.returns-clause-least
returns-clause-least g c =
    let ends = heap_items c.self.inside.ends in
    let runners = flat c.self.inside.runners.blocks in
    rw (← c.self.view_is) (next-end-least (λ (e : Reverse End). e.0.end) ends (by_number runners) c.first_end.result c.first_end.ensures.least (ends-of ends runners c.self.invariant.kept_ends))
