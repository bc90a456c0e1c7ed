use Rattle.std.proofs.Common.{rules, ◌≡◌, List, subst}
use Rattle.std.specs.Arc.{arc_value}
use Rattle.easy_rule.specs.declared.start.Start.{Start}
use Rattle.rejoin.proofs.Following.{IsMore}
use Rattle.rejoin.proofs.Meeting.{noted-passed}
use Rattle.rejoin.proofs.notes.pass.Goals as goal

pub returns : goal.returns
returns g c = record {
  noted = λ position begins noted.
      let change = c.args.change.now in
      let s = arc_value c.segment.result.now in
      let starts : c.starts.result.now ≡ s.starts = search rules in
      let more = subst (λ (ys : List Start). IsMore change.touched change.was.jobs ys c.args.ledger.now.started c.note_old.new.self.started c.args.ledger.now.ended c.note_old.new.self.ended) starts (record { count = c.in_ok-note_old.ensures.started; tells = c.in_ok-note_old.ensures.ended }) in
      noted-passed change c.segment.ensures.sound c.args.at _ _ s c.segment.ensures.here position begins noted (rw starts at c.in_ok-note_old.ensures.others) more;
}
