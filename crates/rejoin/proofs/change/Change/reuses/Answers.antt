use Rattle.rejoin.proofs.Meeting.{decided}
use Rattle.rejoin.proofs.change.Change.reuses.Goals as goal

pub returns : goal.returns
returns g c =
    let change = c.args.self.now in
    let ok = c.submitted_before-submitted.ensures.sound in
    let all = c.are_all.ensures in
    record {
      reused = λ s rest e.
          let outcome = decided change ok c.args.at c.args.position s rest e (c.requires.here s rest e) c.args.ledger.now c.requires.noted c.requires.begins c.submitted_before-submitted.result c.submitted_before-submitted.ensures.count c.submitted_before-submitted.ensures.small
          c.has_met-met.result c.has_ended-ended.result c.is_clear-clear.result c.has_met-met.ensures c.has_ended-ended.ensures (c.is_clear-clear.ensures s rest e) in
          ((λ t. outcome.0 (all.0 t)), (λ k. all.1 (outcome.1 k)));
    }
