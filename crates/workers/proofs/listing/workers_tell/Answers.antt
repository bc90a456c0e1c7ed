use Rattle.std.proofs.Common.{rules, ◌≡◌, map, sym, ◌∙◌, ap, ℕ, IsTrue}
use Rattle.book_machine.specs.declared.caller.Caller.TheVariants as caller
use Rattle.book_machine.specs.Noted.{noted_of}
use Rattle.workers.specs.Callers.{WorkerView}
use Rattle.workers.specs.Lists.{part_of}
use Rattle.workers.proofs.Portions.{more}
use Rattle.workers.proofs.listing.workers_tell.Goals as goal

pub loop-worker-preserved : goal.loop-worker-preserved
loop-worker-preserved g c =
    let notes = map noted_of c.args.notes.now in
    let yes : IsTrue c.is_part.result = search rules in
    let here = sym c.list.ensures ∙ (c.is_part.ensures.0 yes ∙ ap (λ (n : ℕ). part_of (caller.Worker n) notes) c.number.ensures) in
    more (λ (w : WorkerView). w.list ≡ part_of (caller.Worker w.number) notes) c.args.workers.now c.loop-worker.worker-index c.worker-item.result c.loop-worker.invariant c.loop-worker-test.true c.worker-item.is here
