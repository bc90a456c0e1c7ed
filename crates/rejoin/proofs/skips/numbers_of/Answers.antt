use Rattle.std.proofs.Common.{rules, ◌≡◌, get_or}
use Rattle.job_table.specs.Edit.{edit_of}
use Rattle.rejoin.specs.Named.{named}
use Rattle.rejoin.proofs.SkipCounts.{named-more, named-all, named-none}
use Rattle.rejoin.proofs.skips.numbers_of.Goals as goal

pub loop-edit-init : goal.loop-edit-init
loop-edit-init g c = named-none c.new-numbers.result.keys c.new-numbers.ensures.empty c.new-numbers.ensures.ordered

pub loop-edit-preserved : goal.loop-edit-preserved
loop-edit-preserved g c =
    let is : c.number_of.result ≡ named (edit_of (get_or c.args.edits.now c.loop-edit.edit-index c.edit-item.result)) = search rules in
    named-more edit_of c.args.edits.now c.loop-edit.edit-index c.edit-item.result c.number_of.result c.loop-edit.numbers.keys c.insert.new.self.keys c.loop-edit-test.true is c.in_ok-insert.ensures.keys c.in_ok-insert.ensures.ordered c.loop-edit.invariant

pub returns : goal.returns
returns g c = named-all edit_of c.args.edits.now c.loop-edit.edit-index c.loop-edit.numbers.keys c.loop-edit-test.false c.loop-edit.invariant
