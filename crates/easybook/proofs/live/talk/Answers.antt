use Rattle.std.proofs.Common.{rules, ◌≡◌, ap, map, Err}
use Rattle.easybook.specs.Fault.{fault_of_talk}
use Rattle.easybook.specs.declared.fault.ProgramFault.TheVariants as faults
use Rattle.easybook.proofs.Beguns.{err-is}
use Rattle.easybook.proofs.Lives.{ended_so, held, no_capacity}
use Rattle.easybook.proofs.live.talk.Goals as goal

pub returns-in_err-reader : goal.returns-in_err-reader
returns-in_err-reader g c =
    let outcome : c.from_residual.result ≡ Err faults.Memory = err-is c.from_residual.result faults.Memory c.from_residual.ensures.1 in
    λ log procs spacing book. no_capacity g.row.A.Denot log procs (g.R.Read.remaining c.args.reader) (g.W.Write.contents c.args.writer.now) c.from_residual.result outcome

pub returns-in_err-run_live : goal.returns-in_err-run_live
returns-in_err-run_live g c =
    let outcome : c.from_residual-in_err-run_live.result ≡ Err (fault_of_talk c.in_err-run_live.field-0.0) = search rules in
    λ log procs spacing book.
    ended_so g.row.A.Denot log procs (g.R.Read.remaining c.args.reader) (g.W.Write.contents c.args.writer.now) (g.W.Write.contents c.run_live.new.writer) c.in_err-run_live.field-0.0 c.from_residual-in_err-run_live.result outcome
    (held g.row.A.Denot log procs spacing _ (map (λ x. x.items) c.as_slice.result.now) _ (g.R.Read.remaining c.args.reader) _ _ _ _ _ book (ap (map (λ x. x.items)) c.as_slice.ensures.value) c.in_ok-reader.ensures c.in_err-run_live.ensures)

pub returns : goal.returns
returns g c =
    λ log procs spacing book.
    held g.row.A.Denot log procs spacing _ (map (λ x. x.items) c.as_slice.result.now) _ (g.R.Read.remaining c.args.reader) _ _ _ _ _ book (ap (map (λ x. x.items)) c.as_slice.ensures.value) c.in_ok-reader.ensures c.in_ok-run_live.ensures
