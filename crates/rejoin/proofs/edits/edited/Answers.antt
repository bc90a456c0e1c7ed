use Rattle.std.proofs.Common.{rules, ◌≡◌, get_or, Err}
use Rattle.job_table.specs.Edit.{edit_of}
use Rattle.rejoin.proofs.Editing.{edited-more, edited-all, edited-refused}
use Rattle.rejoin.proofs.edits.edited.Goals as goal

pub loop-edit-preserved : goal.loop-edit-preserved
loop-edit-preserved g c =
    let is : edit_of c.edit-item.result ≡ edit_of (get_or c.args.edits.now c.loop-edit.edit-index c.edit-item.result) = search rules in
    edited-more edit_of c.args.table.now c.loop-edit.new c.apply.new.self c.args.edits.now c.loop-edit.edit-index c.edit-item.result _ c.loop-edit-test.true is c.in_ok-apply.ensures.sound c.in_ok-apply.ensures.accepted c.in_ok-apply.ensures.applied c.loop-edit.invariant

pub returns-clause-accepted : goal.returns-clause-accepted
returns-clause-accepted g c = (edited-all edit_of c.args.table.now c.loop-edit.new c.args.edits.now c.loop-edit.edit-index c.loop-edit-test.false c.loop-edit.invariant).accepted

pub returns-clause-table : goal.returns-clause-table
returns-clause-table g c = (edited-all edit_of c.args.table.now c.loop-edit.new c.args.edits.now c.loop-edit.edit-index c.loop-edit-test.false c.loop-edit.invariant).after

pub returns-in_err-apply-clause-fault : goal.returns-in_err-apply-clause-fault
returns-in_err-apply-clause-fault g c =
    let is : edit_of c.edit-item.result ≡ edit_of (get_or c.args.edits.now c.loop-edit.edit-index c.edit-item.result) = search rules in
    let outcome = edited-refused edit_of c.args.table.now c.loop-edit.new c.args.edits.now c.loop-edit.edit-index c.edit-item.result _ c.in_err-apply.field-0.0 c.loop-edit-test.true is c.in_err-apply.ensures.fault c.loop-edit.invariant in
    let same : c.from_residual-in_err-apply.result ≡ Err c.in_err-apply.field-0.0 = search rules in
    rw same outcome
