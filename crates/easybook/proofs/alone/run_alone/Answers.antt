use Rattle.std.proofs.Common.{ℕ, List, IfSome, ◌≡◌, ◌+◌, take, sym, subst}
use Rattle.easybook.specs.Alone.{script_limit}
use Rattle.easybook.proofs.Alones.{alone_of_script}
use Rattle.easybook.proofs.Beguns.{err-is}
use Rattle.easybook.proofs.Inputs.{unread_input}
use Rattle.easybook.proofs.Sessions.{unread}
use Rattle.easybook.proofs.alone.run_alone.Goals as goal

pub returns-in_err-script : goal.returns-in_err-script
returns-in_err-script g c =
    let outcome = err-is c.from_residual-in_err-script.result c.in_err-script.field-0.0 c.from_residual-in_err-script.ensures.1 in
    unread g.row.A.Denot c.args.log.now c.args.options.procs c.args.options.spacing _ _ (g.R.Read.remaining c.args.script) (g.W.Write.contents c.args.writer.now) c.in_err-script.field-0.0 c.from_residual-in_err-script.result c.in_ok-opened.ensures.book (unread_input (g.R.Read.remaining c.args.script) script_limit c.in_err-script.field-0.0 c.in_err-script.ensures.fault) outcome

pub returns : goal.returns
returns g c =
    let script_is = subst (λ (bs : List ℕ). IfSome (g.R.Read.remaining c.args.script) (λ all. bs ≡ take (script_limit + 1) all)) (sym c.as_slice.ensures.value) c.in_ok-script.ensures.front in
    alone_of_script g.row.A.Denot c.args.log.now c.args.options.procs (g.R.Read.remaining c.args.script) (g.W.Write.contents c.args.writer.now) (g.W.Write.contents c.work_script.new.writer) c.as_slice.result.now c.work_script.result script_is
    (c.work_script.ensures c.args.log.now c.args.options.procs c.args.options.spacing c.in_ok-opened.ensures.book)
