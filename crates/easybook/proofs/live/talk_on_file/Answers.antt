use Rattle.std.proofs.Common.{◌++◌}
use Rattle.easybook.proofs.Beguns.{err-is}
use Rattle.easybook.proofs.Lives.{refused, talk_ends}
use Rattle.easybook.proofs.live.talk_on_file.Goals as goal

pub returns-in_err-opened : goal.returns-in_err-opened
returns-in_err-opened g c =
    let u = c.in_ok-begun.ensures.front in
    let outcome = err-is c.from_residual-in_err-opened.result c.in_err-opened.field-0.0 c.from_residual-in_err-opened.ensures.1 in
    talk_ends g.row.A.Denot (g.L.Read.remaining c.args.log) c.args.options.procs (g.R.Read.remaining c.args.reader) (g.W.Write.contents c.args.writer.now) _ (u.front ++ c.in_ok-begun.begun.rest.items) c.from_residual-in_err-opened.result u.whole
    (refused g.row.A.Denot _ c.args.options.procs _ _ c.in_err-opened.field-0.0 c.from_residual-in_err-opened.result outcome (c.in_err-opened.ensures.fault u.front u.is_front))

pub returns : goal.returns
returns g c =
    let u = c.in_ok-begun.ensures.front in
    talk_ends g.row.A.Denot (g.L.Read.remaining c.args.log) c.args.options.procs (g.R.Read.remaining c.args.reader) (g.W.Write.contents c.args.writer.now) (g.W.Write.contents c.talk.new.writer) (u.front ++ c.in_ok-begun.begun.rest.items) c.talk.result u.whole
    (c.talk.ensures (u.front ++ c.in_ok-begun.begun.rest.items) c.args.options.procs c.args.options.spacing (c.in_ok-opened.ensures.book u.front u.is_front))
