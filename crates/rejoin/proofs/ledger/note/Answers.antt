use Rattle.std.proofs.Common.{sym, ◌∙◌}
use Rattle.timeline.proofs.Lemmas.{notes-keep-the-ledger}
use Rattle.rejoin.specs.Started.{among}
use Rattle.rejoin.proofs.Keeping.{keeps-touched, keeps-alone, keeps-apart}
use Rattle.rejoin.proofs.ledger.note.Goals as goal

pub returns-then-is_touched : goal.returns-then-is_touched
returns-then-is_touched g c from until starts others ok early k =
    let change = c.args.change.now in
    keeps-touched notes-keep-the-ledger (among change.touched) change.is.jobs starts others c.args.start ok (sym c.is_touched.ensures ∙ c.if-is_touched.true) from c.args.here.now c.args.there.now until k

pub returns-in-None : goal.returns-in-None
returns-in-None g c from until starts others ok early k =
    let change = c.args.change.now in
    keeps-alone notes-keep-the-ledger (among change.touched) change.is.jobs starts others c.args.start ok (sym c.is_touched.ensures ∙ c.if-is_touched.false) from c.in_ok-exchange.field-0 c.args.here.now c.args.there.now _ _ until k
    c.in_ok-exchange.ensures.other (c.in_ok-exchange.ensures.here, c.in_ok-exchange.ensures.there) c.in-None.is

pub returns-in-Some : goal.returns-in-Some
returns-in-Some g c from until starts others ok early k =
    let change = c.args.change.now in
    keeps-apart notes-keep-the-ledger (among change.touched) change.is.jobs starts others c.args.start ok (sym c.is_touched.ensures ∙ c.if-is_touched.false) from c.in_ok-exchange.field-0 c.args.here.now c.args.there.now _ _ until k
    c.in_ok-exchange.ensures.other (c.in_ok-exchange.ensures.here, c.in_ok-exchange.ensures.there) c.in-Some.other c.in-Some.is early c.apart_until.result c.apart_until.ensures
