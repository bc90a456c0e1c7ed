use Rattle.std.proofs.Common.{rules, arith, ◌≡◌, ◌≤◌, ◌++◌, length, Err}
use Rattle.std.proofs.lemmas.List.{length-append}
use Rattle.easybook.specs.Fault.{fault_of, fault_of_opening}
use Rattle.easybook.specs.Plain.{log_limit}
use Rattle.easybook.proofs.Beguns.{err-is, fault-opened, fault-read, outcome-so}
use Rattle.easybook.proofs.Openings.{opened-some}
use Rattle.easybook.proofs.opened.opening_behind.Goals as goal

pub returns-in_err-text-clause-fault : goal.returns-in_err-text-clause-fault
returns-in_err-text-clause-fault g c =
    let outcome : c.from_residual.result ≡ Err (fault_of c.in_err-text.field-0.0) = search rules in
    outcome-so _ c.from_residual.result (fault_of c.in_err-text.field-0.0) outcome (λ read is.
    let within : length (read ++ c.args.bytes.now) ≤ log_limit = omega (arith, c.if-saturating_add.false, c.saturating_add.ensures, c.bytes.ensures, is.size, length-append read c.args.bytes.now) in
    fault-read (read ++ c.args.bytes.now) c.args.procs c.in_err-text.field-0.0 within ((c.in_err-text.ensures read is).fault))

pub returns-in_err-opening-clause-fault : goal.returns-in_err-opening-clause-fault
returns-in_err-opening-clause-fault g c =
    let outcome = err-is c.from_residual-in_err-opening.result (fault_of_opening c.in_err-opening.field-0.0) c.from_residual-in_err-opening.ensures.1 in
    outcome-so _ c.from_residual-in_err-opening.result (fault_of_opening c.in_err-opening.field-0.0) outcome (λ read is.
    let within : length (read ++ c.args.bytes.now) ≤ log_limit = omega (arith, c.if-saturating_add.false, c.saturating_add.ensures, c.bytes.ensures, is.size, length-append read c.args.bytes.now) in
    fault-opened (read ++ c.args.bytes.now) c.args.procs c.in_ok-text.text c.in_err-opening.field-0.0 within ((c.in_ok-text.ensures read is).text) c.in_err-opening.ensures.fault)

pub returns-clause-opened : goal.returns-clause-opened
returns-clause-opened g c = λ read is. record {
  within = omega (arith, c.if-saturating_add.false, c.saturating_add.ensures, c.bytes.ensures, is.size, length-append read c.args.bytes.now);
  read = c.in_ok-text.text;
  is_text = (c.in_ok-text.ensures read is).text;
  opened_with = c.in_ok-opening.ensures.scenarios;
  kept_comments = c.in_ok-opening.ensures.comments;
  arranged = c.in_ok-opening.ensures.table;
}

pub returns-clause-some : goal.returns-clause-some
returns-clause-some g c = opened-some c.args.procs c.in_ok-text.text.comments c.in_ok-opening.opening.scenarios c.in_ok-opening.ensures.scenarios
