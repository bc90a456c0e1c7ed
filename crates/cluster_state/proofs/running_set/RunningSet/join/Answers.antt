use Rattle.std.proofs.Common.{◌≡◌, ◌∙◌, arith, cond, nat_eq, ap}
use Rattle.std.specs.BinaryHeap.{heap_items}
use Rattle.scenarios.specs.declared.placed.Placed.{Placed}
use Rattle.blocks.specs.Rows.{flat}
use Rattle.cluster_state.specs.Ends.{by_number, entered}
use Rattle.cluster_state.proofs.NumberLemmas.{Having, enters-runners, by_number-entered, once-entered, rises-joined, sum_by-by_number}
use Rattle.cluster_state.proofs.KeyLemmas.{keys-joined}
use Rattle.cluster_state.proofs.running_set.RunningSet.join.Goals as goal

pub invariant_of-self : goal.invariant_of-self
invariant_of-self g c =
    let r = c.args.r in
    let runners = flat c.self.inside.runners.blocks in
    let absent = rw (← c.self.view_is) at c.requires.absent in
    let none : Having r.job.number runners ≡ 0 = omega (arith, absent, sum_by-by_number (λ (x : Placed). cond (nat_eq x.job.number r.job.number) 1 0) runners) in
    let items : flat c.insert.new.self.blocks ≡ entered r runners = c.insert.ensures.items ∙ enters-runners r runners none in
    record {
      once = rw items (once-entered r runners c.self.invariant.once none);
      rises = rw items (rises-joined r runners c.self.invariant.rises none);
      heap = c.in-Ok.ensures.heap_order c.self.invariant.heap;
      kept_ends = rw items (keys-joined (heap_items c.self.inside.ends) (heap_items c.push.new.self) _ r runners c.self.invariant.kept_ends c.in-Ok.ensures.permutation c.of-end.ensures);
    }

pub returns-clause-running : goal.returns-clause-running
returns-clause-running g c =
    let r = c.args.r in
    let runners = flat c.self.inside.runners.blocks in
    let absent = rw (← c.self.view_is) at c.requires.absent in
    let none : Having r.job.number runners ≡ 0 = omega (arith, absent, sum_by-by_number (λ (x : Placed). cond (nat_eq x.job.number r.job.number) 1 0) runners) in
    rw (← c.self.view_is) (ap by_number (c.insert.ensures.items ∙ enters-runners r runners none) ∙ by_number-entered r runners none)
