use Rattle.std.proofs.Common.{◌≡◌, ◌+◌, ◌++◌, ℕ, List, IfSome, Some, take, sym, subst}
use Rattle.easybook.specs.Alone.{script_limit}
use Rattle.easybook.proofs.Beguns.{err-is, refused-so}
use Rattle.easybook.proofs.Programs.{file_ends}
use Rattle.easybook.proofs.program.run_file.Goals as goal

pub returns-in_err-opened : goal.returns-in_err-opened
returns-in_err-opened g c =
    let u = c.in_ok-begun.ensures.front in
    let log = u.front ++ c.in_ok-begun.begun.rest.items in
    let outcome = err-is c.from_residual-in_err-opened.result c.in_err-opened.field-0.0 c.from_residual-in_err-opened.ensures.1 in
    file_ends g.row.A.Denot (g.L.Read.remaining c.args.log) c.args.options.procs (g.R.Read.remaining c.args.script) (g.W.Write.contents c.args.writer.now) _ log c.in_ok-script.script.items c.from_residual-in_err-opened.result u.whole c.in_ok-script.ensures.front
    (refused-so g.row.A.Denot log (Some c.in_ok-script.script.items) c.args.options.procs _ c.in_err-opened.field-0.0 c.from_residual-in_err-opened.result outcome (c.in_err-opened.ensures.fault u.front u.is_front))

pub returns : goal.returns
returns g c =
    let u = c.in_ok-begun.ensures.front in
    let log = u.front ++ c.in_ok-begun.begun.rest.items in
    let script_is = subst (λ (bs : List ℕ). IfSome (g.R.Read.remaining c.args.script) (λ all. bs ≡ take (script_limit + 1) all)) (sym c.as_slice.ensures.value) c.in_ok-script.ensures.front in
    file_ends g.row.A.Denot (g.L.Read.remaining c.args.log) c.args.options.procs (g.R.Read.remaining c.args.script) (g.W.Write.contents c.args.writer.now) (g.W.Write.contents c.work_script.new.writer) log c.as_slice.result.now c.work_script.result u.whole script_is
    (c.work_script.ensures log c.args.options.procs c.args.options.spacing (c.in_ok-opened.ensures.book u.front u.is_front))
