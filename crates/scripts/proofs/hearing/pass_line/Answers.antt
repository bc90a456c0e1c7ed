use Rattle.std.proofs.Common.{rules, ◌≡◌, Err, subst}
use Rattle.scripts.specs.Hearing.{IsPassed}
use Rattle.scripts.specs.declared.hearing.LineEnd.{LineEnd}
use Rattle.scripts.proofs.Hearings.{passed_more, passed_on}
use Rattle.scripts.proofs.hearing.pass_line.Goals as goal

pub returns-in_err-next_line : goal.returns-in_err-next_line
returns-in_err-next_line g c =
    let (passed, none, read) = c.loop.invariant in
    let outcome : c.from_residual.result ≡ Err c.in_err-next_line.field-0.0 = search rules in
    rw outcome (passed_on (g.R.Read.remaining c.args.reader.now) (g.R.Read.remaining c.loop.reader) (g.R.Read.remaining c.next_line.new.reader) passed _ none read c.in_err-next_line.ensures)

pub returns-in-Feed : goal.returns-in-Feed
returns-in-Feed g c =
    let (passed, none, read) = c.loop.invariant in
    subst (λ (end : LineEnd). IsPassed (g.R.Read.remaining c.args.reader.now) (g.R.Read.remaining c.next_line.new.reader) end) c.in-Feed.is
    (passed_more (g.R.Read.remaining c.args.reader.now) (g.R.Read.remaining c.loop.reader) (g.R.Read.remaining c.next_line.new.reader) passed _ c.in_ok-next_line.field-0 none read c.in_ok-next_line.ensures)

pub returns-in-Input : goal.returns-in-Input
returns-in-Input g c =
    let (passed, none, read) = c.loop.invariant in
    subst (λ (end : LineEnd). IsPassed (g.R.Read.remaining c.args.reader.now) (g.R.Read.remaining c.next_line.new.reader) end) c.in-Input.is
    (passed_more (g.R.Read.remaining c.args.reader.now) (g.R.Read.remaining c.loop.reader) (g.R.Read.remaining c.next_line.new.reader) passed _ c.in_ok-next_line.field-0 none read c.in_ok-next_line.ensures)

pub loop-preserved : goal.loop-preserved
loop-preserved g c =
    let (passed, none, read) = c.loop.invariant in
    subst (λ (end : LineEnd). IsPassed (g.R.Read.remaining c.args.reader.now) (g.R.Read.remaining c.next_line.new.reader) end) c.in-Open.is
    (passed_more (g.R.Read.remaining c.args.reader.now) (g.R.Read.remaining c.loop.reader) (g.R.Read.remaining c.next_line.new.reader) passed _ c.in_ok-next_line.field-0 none read c.in_ok-next_line.ensures)
