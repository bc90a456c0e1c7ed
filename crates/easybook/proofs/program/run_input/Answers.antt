use Rattle.std.proofs.Common.{◌++◌, ◌∙◌, ℕ, List, Option, Some, None, Bor, subst}
use Rattle.std.specs.Option.{option_map}
use Rattle.easybook.specs.Alone.{RunsAlone}
use Rattle.easybook.specs.Split.{IsCut}
use Rattle.easybook.proofs.Beguns.{err-is, input-ends, refused-so}
use Rattle.easybook.proofs.Sessions.{unread}
use Rattle.easybook.proofs.program.run_input.Goals as goal

pub returns-in_err-opening : goal.returns-in_err-opening
returns-in_err-opening g c =
    let begun = c.in_ok-begun.begun in
    let log = c.split_input.result.0.now in
    let script = option_map (λ (s : Bor (List ℕ)). s.now) c.split_input.result.1 in
    let outcome = err-is c.from_residual-in_err-opening.result c.in_err-opening.field-0.0 c.from_residual-in_err-opening.ensures.1 in
    let cut = subst (λ (l : List ℕ). IsCut l log script) c.as_slice.ensures.value c.split_input.ensures in
    input-ends _ g.row.A.Denot (g.R.Read.remaining c.args.reader) begun.front begun.rest.items log script c.args.options.procs _ _ c.in_ok-begun.ensures.whole cut c.from_residual-in_err-opening.result
    (λ front is. refused-so g.row.A.Denot (front ++ log) script c.args.options.procs _ c.in_err-opening.field-0.0 c.from_residual-in_err-opening.result outcome (c.in_err-opening.ensures.fault front is))

pub returns-in_err-script-in-Some : goal.returns-in_err-script-in-Some
returns-in_err-script-in-Some g c =
    let begun = c.in_ok-begun.begun in
    let log = c.split_input.result.0.now in
    let cut = subst (λ (o : Option (Bor (List ℕ))). IsCut c.as_slice.result.now log (option_map (λ s. s.now) o)) c.in-Some.is c.split_input.ensures in
    let cut_rest = subst (λ (l : List ℕ). IsCut l log (Some c.in-Some.script.now)) c.as_slice.ensures.value cut in
    let outcome = err-is c.from_residual-in_err-script-in-Some.result c.in_err-script-in-Some.field-0.0 c.from_residual-in_err-script-in-Some.ensures.1 in
    input-ends _ g.row.A.Denot (g.R.Read.remaining c.args.reader) begun.front begun.rest.items log (Some c.in-Some.script.now) c.args.options.procs _ _ c.in_ok-begun.ensures.whole cut_rest c.from_residual-in_err-script-in-Some.result
    (λ front is. unread g.row.A.Denot (front ++ log) c.args.options.procs c.args.options.spacing _ _ (Some c.in-Some.script.now) _ c.in_err-script-in-Some.field-0.0 c.from_residual-in_err-script-in-Some.result (c.in_ok-opened-in-Some.ensures (front ++ log) c.args.options.procs (c.in_ok-opening.ensures.opened front is)) c.in_err-script-in-Some.ensures.fault outcome)

pub returns-in_ok-script-in-Some : goal.returns-in_ok-script-in-Some
returns-in_ok-script-in-Some g c =
    let begun = c.in_ok-begun.begun in
    let log = c.split_input.result.0.now in
    let cut = subst (λ (o : Option (Bor (List ℕ))). IsCut c.as_slice.result.now log (option_map (λ s. s.now) o)) c.in-Some.is c.split_input.ensures in
    let cut_rest = subst (λ (l : List ℕ). IsCut l log (Some c.in-Some.script.now)) c.as_slice.ensures.value cut in
    input-ends _ g.row.A.Denot (g.R.Read.remaining c.args.reader) begun.front begun.rest.items log (Some c.in-Some.script.now) c.args.options.procs _ _ c.in_ok-begun.ensures.whole cut_rest c.work_script.result
    (λ front is. subst (λ (bytes : List ℕ). RunsAlone g.row.A.Denot (front ++ log) c.args.options.procs (Some bytes) (g.W.Write.contents c.args.writer.now) (g.W.Write.contents c.work_script.new.writer) c.work_script.result) (c.as_slice-in-Some.ensures.value ∙ c.in_ok-script-in-Some.ensures.whole)
    (c.work_script.ensures (front ++ log) c.args.options.procs c.args.options.spacing (c.in_ok-opened-in-Some.ensures (front ++ log) c.args.options.procs (c.in_ok-opening.ensures.opened front is))))

pub returns-in-None : goal.returns-in-None
returns-in-None g c =
    let begun = c.in_ok-begun.begun in
    let log = c.split_input.result.0.now in
    let cut = subst (λ (o : Option (Bor (List ℕ))). IsCut c.as_slice.result.now log (option_map (λ s. s.now) o)) c.in-None.is c.split_input.ensures in
    let cut_rest = subst (λ (l : List ℕ). IsCut l log None) c.as_slice.ensures.value cut in
    input-ends _ g.row.A.Denot (g.R.Read.remaining c.args.reader) begun.front begun.rest.items log None c.args.options.procs _ _ c.in_ok-begun.ensures.whole cut_rest c.write_last.result
    (λ front is. c.write_last.ensures (front ++ log) c.args.options.procs (c.in_ok-opening.ensures.opened front is))
