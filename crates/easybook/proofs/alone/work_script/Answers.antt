use Rattle.std.proofs.Common.{rules, ◌≡◌, ◌<◌, ◌≤◌, ap, map, length, Err, Some, refl}
use Rattle.easybook.specs.Alone.{script_limit}
use Rattle.easybook.specs.declared.fault.ProgramFault.TheVariants as faults
use Rattle.easybook.proofs.Sessions.{unread, cut_off}
use Rattle.easybook.proofs.alone.work_script.Goals as goal

pub returns-then-script-gt-SCRIPT_LIMIT : goal.returns-then-script-gt-SCRIPT_LIMIT
returns-then-script-gt-SCRIPT_LIMIT g c =
    let long : script_limit < length c.args.script.now = search rules in
    λ log procs spacing book. unread {X = Unit {0}} g.row.A.Denot log procs spacing _ _ (Some c.args.script.now) (g.W.Write.contents c.args.writer.now) faults.TooLong (Err faults.TooLong) book long (λ k. Err faults.TooLong)

pub returns-in_err-run_lines : goal.returns-in_err-run_lines
returns-in_err-run_lines g c =
    let outcome : c.from_residual.result ≡ Err faults.Write = search rules in
    let few : length c.args.script.now ≤ script_limit = search rules in
    let t = c.in_err-run_lines.ensures in
    λ log procs spacing book. cut_off g.row.A.Denot log procs spacing _ _ _ (Some c.args.script.now) (g.W.Write.contents c.args.writer.now) (g.W.Write.contents c.run_lines.new.writer) c.args.script.now c.args.script.now t.0 t.2.0 c.from_residual.result book (ap (map (λ x. x.items)) c.as_slice.ensures.value) refl few refl t.1 t.2.1 outcome
