use Rattle.std.proofs.Common.{rules, ◌≡◌, Bool, true, false, [], map, refl, sym, subst, Ok, Err}
use Rattle.version_book.specs.Book.{machine_of}
use Rattle.scripts.specs.Live.{IsSaid, Turns}
use Rattle.version_book.specs.Session.{Session}
use Rattle.scripts.specs.declared.live.LiveFault.TheVariants as faults
use Rattle.scripts.proofs.Conversations.{unbegun, unheard, unsaid}
use Rattle.scripts.proofs.live.run_live.Goals as goal

pub loop-number-init : goal.loop-number-init
loop-number-init g c =
    let first : Session = record { machine = machine_of c.args.book; seen = 0 } in
    let from = g.R.Read.remaining c.args.reader.now in
    let old = g.W.Write.contents c.args.writer.now in
    subst (λ (s : Session). IsSaid g.row.A.Denot (map (λ c'. c'.items) c.args.comments.now) first from from old old s 1) (sym c.new-analyst.ensures) (unsaid g.row.A.Denot (map (λ c'. c'.items) c.args.comments.now) first from old)

pub returns-in_err-follows : goal.returns-in_err-follows
returns-in_err-follows g c =
    let outcome : c.from_residual-in_err-follows.result ≡ Err c.in_err-follows.field-0.0 = search rules in
    rw outcome (c.in_err-follows.ensures (record { machine = machine_of c.args.book; seen = 0 }) (g.R.Read.remaining c.args.reader.now) (g.W.Write.contents c.args.writer.now) c.loop-number.invariant)

pub returns-then-not-follows : goal.returns-then-not-follows
returns-then-not-follows g c =
    let first : Session = record { machine = machine_of c.args.book; seen = 0 } in
    let from = g.R.Read.remaining c.args.reader.now in
    let old = g.W.Write.contents c.args.writer.now in
    let ends : c.in_ok-follows.follows ≡ false = search rules in
    subst (λ (b : Bool). Turns g.row.A.Denot (map (λ c'. c'.items) c.args.comments.now) first from (g.R.Read.remaining c.turn.new.reader) old (g.W.Write.contents c.turn.new.writer) c.turn.new.analyst c.loop-number.number (Ok b)) ends
    (c.in_ok-follows.ensures first from old c.loop-number.invariant)

pub loop-number-preserved : goal.loop-number-preserved
loop-number-preserved g c =
    let first : Session = record { machine = machine_of c.args.book; seen = 0 } in
    let from = g.R.Read.remaining c.args.reader.now in
    let old = g.W.Write.contents c.args.writer.now in
    let goes : c.in_ok-follows.follows ≡ true = search rules in
    subst (λ (b : Bool). Turns g.row.A.Denot (map (λ c'. c'.items) c.args.comments.now) first from (g.R.Read.remaining c.turn.new.reader) old (g.W.Write.contents c.turn.new.writer) c.turn.new.analyst c.loop-number.number (Ok b)) goes
    (c.in_ok-follows.ensures first from old c.loop-number.invariant)

pub returns : goal.returns
returns g c =
    let first : Session = record { machine = machine_of c.args.book; seen = 0 } in
    let from = g.R.Read.remaining c.args.reader.now in
    let old = g.W.Write.contents c.args.writer.now in
    unheard g.row.A.Denot (map (λ c'. c'.items) c.args.comments.now) first from _ old _ _ _ c.loop-number.invariant (Err faults.Read) c.loop-number.analyst _ [] refl (unbegun _)
