use Rattle.std.proofs.Common.{◌++◌, ℕ, List, map, subst}
use Rattle.easybook.specs.Opened.{IsOpened}
use Rattle.easybook.specs.Plain.{IsFaultOf}
use Rattle.easybook.proofs.Beguns.{err-is, outcome-so}
use Rattle.easybook.proofs.book.begun_book.Goals as goal

pub returns-clause-book : goal.returns-clause-book
returns-clause-book g c =
    λ read is. c.in_ok-book_over.ensures (read ++ c.args.begun.rest.items) c.args.options.procs
    (subst (λ (bytes : List ℕ). IsOpened (read ++ bytes) c.args.options.procs (map (λ x. x.items) c.in_ok-opening.opening.comments.items) c.in_ok-opening.opening.table c.in_ok-opening.opening.scenarios) c.as_slice.ensures.value (c.in_ok-opening.ensures.opened read is))

pub returns-in_err-opening-clause-fault : goal.returns-in_err-opening-clause-fault
returns-in_err-opening-clause-fault g c =
    let outcome = err-is c.from_residual.result c.in_err-opening.field-0.0 c.from_residual.ensures.1 in
    outcome-so _ c.from_residual.result c.in_err-opening.field-0.0 outcome
    (λ read is. subst (λ (bytes : List ℕ). IsFaultOf (read ++ bytes) c.args.options.procs c.in_err-opening.field-0.0) c.as_slice.ensures.value (c.in_err-opening.ensures.fault read is))
