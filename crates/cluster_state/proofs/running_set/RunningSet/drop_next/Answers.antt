use Rattle.std.proofs.Common.{◌≡◌, ◌∙◌, sym, find, None, Some, ap, arith}
use Rattle.std.specs.BinaryHeap.{heap_items}
use Rattle.scenarios.specs.declared.placed.Placed.{Placed}
use Rattle.scenarios.specs.Placed.{expected_end}
use Rattle.blocks.specs.Rows.{flat, is_at}
use Rattle.cluster_state.proofs.KeyLemmas.{num, left-runners, nobody-due, is-found, keys-leave, once-left, rises-left, sum_by-left, length-left, filter-left}
use Rattle.cluster_state.proofs.running_set.RunningSet.drop_next.Goals as goal

pub returns-in_err-end-clause-later : goal.returns-in_err-end-clause-later
returns-in_err-end-clause-later g c =
    rw (← c.self.view_is, c.from_residual.ensures)
    (nobody-due (heap_items c.self.inside.ends) (flat c.self.inside.runners.blocks) c.args.t c.self.invariant.kept_ends c.in_err-end.ensures.later)

pub unreachable-requires : goal.unreachable-requires
unreachable-requires g c =
    let runners = flat c.self.inside.runners.blocks in
    let e = c.in_ok-end.end in
    let found : find (is_at expected_end num e.expected_end e.number) runners ≡ None = rw c.from.ensures at (sym c.remove.ensures.item ∙ c.in_default.is) in
    is-found (heap_items c.self.inside.ends) (heap_items c.pop_until.new.ends) e runners c.self.invariant.kept_ends c.self.invariant.rises c.self.invariant.once c.in_ok-end.ensures.popped found

pub invariant_of-self-2 : goal.invariant_of-self-2
invariant_of-self-2 g c =
    let ends = heap_items c.self.inside.ends in
    let mid = heap_items c.pop_until.new.ends in
    let runners = flat c.self.inside.runners.blocks in
    let e = c.in_ok-end.end in
    let r : Placed = c.in-Some.runner in
    let found : find (is_at expected_end num e.expected_end e.number) runners ≡ Some r = rw c.from.ensures at (sym c.remove.ensures.item ∙ c.in-Some.is) in
    let left : flat c.remove.new.self.blocks ≡ left-runners e runners = rw c.from.ensures at c.remove.ensures.left in
    let keys = c.self.invariant.kept_ends in
    let rises = c.self.invariant.rises in
    let once = c.self.invariant.once in
    let popped = c.in_ok-end.ensures.popped in
    record {
      once = rw left (once-left ends mid e runners keys rises once popped r found);
      rises = rw left (rises-left ends mid e runners keys rises once popped r found);
      heap = c.pop_until.ensures.heap;
      kept_ends = rw left (keys-leave ends mid e runners keys rises once popped r found);
    }

pub returns-clause-fewer : goal.returns-clause-fewer
returns-clause-fewer g c =
    let runners = flat c.self.inside.runners.blocks in
    let e = c.in_ok-end.end in
    let r : Placed = c.in-Some.runner in
    let found : find (is_at expected_end num e.expected_end e.number) runners ≡ Some r = rw c.from.ensures at (sym c.remove.ensures.item ∙ c.in-Some.is) in
    let left : flat c.remove.new.self.blocks ≡ left-runners e runners = rw c.from.ensures at c.remove.ensures.left in
    rw (← c.self.view_is, left)
    (length-left (heap_items c.self.inside.ends) (heap_items c.pop_until.new.ends) e runners c.self.invariant.kept_ends c.self.invariant.rises c.self.invariant.once c.in_ok-end.ensures.popped r found)

pub returns-clause-left : goal.returns-clause-left
returns-clause-left g c =
    let runners = flat c.self.inside.runners.blocks in
    let e = c.in_ok-end.end in
    let r : Placed = c.in-Some.runner in
    let found : find (is_at expected_end num e.expected_end e.number) runners ≡ Some r = rw c.from.ensures at (sym c.remove.ensures.item ∙ c.in-Some.is) in
    let left : flat c.remove.new.self.blocks ≡ left-runners e runners = rw c.from.ensures at c.remove.ensures.left in
    rw (← c.self.view_is, left)
    (filter-left (heap_items c.self.inside.ends) (heap_items c.pop_until.new.ends) e runners c.self.invariant.kept_ends c.self.invariant.rises c.self.invariant.once c.in_ok-end.ensures.popped r found c.args.t c.in_ok-end.ensures.due)

pub returns-clause-freed : goal.returns-clause-freed
returns-clause-freed g c =
    let runners = flat c.self.inside.runners.blocks in
    let e = c.in_ok-end.end in
    let r : Placed = c.in-Some.runner in
    let found : find (is_at expected_end num e.expected_end e.number) runners ≡ Some r = rw c.from.ensures at (sym c.remove.ensures.item ∙ c.in-Some.is) in
    let left : flat c.remove.new.self.blocks ≡ left-runners e runners = rw c.from.ensures at c.remove.ensures.left in
    let size = ap (λ (r : Placed). r.job.size) c.runner.view_is in
    rw (← c.self.view_is, left)
    (omega (arith, c.size.ensures.value, size, sum_by-left (heap_items c.self.inside.ends) (heap_items c.pop_until.new.ends) e runners c.self.invariant.kept_ends c.self.invariant.rises c.self.invariant.once c.in_ok-end.ensures.popped r found (λ (r : Placed). r.job.size)))
