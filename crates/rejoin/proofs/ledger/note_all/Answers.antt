use Rattle.std.proofs.Common.{rules, ◌≡◌, ◌++◌, List, max, take, subst, ◌+◌}
use Rattle.std.proofs.lemmas.List.{take_all}
use Rattle.easy_rule.specs.declared.start.Start.{Start}
use Rattle.timeline.specs.Ledger.{ledger_of}
use Rattle.rejoin.specs.Noted.{Keeps}
use Rattle.rejoin.specs.Started.{among}
use Rattle.rejoin.proofs.Keeping.{note-more}
use Rattle.rejoin.proofs.ledger.note_all.Goals as goal

pub loop-start-preserved : goal.loop-start-preserved
loop-start-preserved g c from starts others ok early k =
    let change = c.args.change.now in
    let latest : max c.loop-start.until c.in_ok-apart.apart ≡ c.max.result = search rules in
    subst (Keeps from (ledger_of (among change.touched) change.is.jobs (starts ++ take (c.loop-start.start-index + 1) c.args.new.now) others) c.note.new.here c.note.new.there) latest
    (note-more (among change.touched) change.is.jobs c.args.new.now c.loop-start.start-index _ c.loop-start-test.true from starts others ok early c.loop-start.here c.loop-start.there c.note.new.here c.note.new.there c.loop-start.until c.in_ok-apart.apart
    (c.loop-start.invariant from starts others ok early k) c.in_ok-apart.ensures)

pub returns : goal.returns
returns g c from starts others ok early k =
    let change = c.args.change.now in
    subst (λ (zs : List Start). Keeps from (ledger_of (among change.touched) change.is.jobs (starts ++ zs) others) c.loop-start.here c.loop-start.there c.loop-start.until) (take_all c.loop-start.start-index c.args.new.now c.loop-start-test.false)
    (c.loop-start.invariant from starts others ok early k)
