use Rattle.std.proofs.Common.{rules, ◌≡◌, None, drop, List, subst}
use Rattle.easy_rule.specs.declared.start.Start.{Start}
use Rattle.checkpoints.specs.Pieces.{segment_of}
use Rattle.rejoin.specs.Reused.{next_first}
use Rattle.rejoin.proofs.Following.{IsMore}
use Rattle.rejoin.proofs.Meeting.{noted-worked, noted-last}
use Rattle.rejoin.proofs.notes.note_worked.Goals as goal

pub returns-then-is_none : goal.returns-then-is_none
returns-then-is_none g c = record {
  noted = λ a b sp noted.
      let last : next_first (drop c.args.at c.args.change.now.old) ≡ None = search rules in
      noted-last c.args.change.now c.args.at b _ last;
}

pub returns : goal.returns
returns g c = record {
  noted = λ a b sp noted.
      let change = c.args.change.now in
      let s = segment_of change.is c.args.piece.now in
      let starts : c.starts.result.now ≡ s.starts = search rules in
      let more = subst (λ (ys : List Start). IsMore change.touched change.is.jobs ys c.args.ledger.now.started c.note_new.new.self.started c.args.ledger.now.ended c.note_new.new.self.ended) starts (record { count = c.in_ok-note_new.ensures.started; tells = c.in_ok-note_new.ensures.ended }) in
      noted-worked change c.first.ensures.sound c.args.at _ _ s a b sp noted (rw starts at c.in_ok-note_new.ensures.others) more;
}
