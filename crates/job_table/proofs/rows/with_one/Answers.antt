use Rattle.chunks.specs.Chunks.{flat}
use Rattle.std.proofs.Common.{◌∙◌}
use Rattle.swf_text.specs.Entry.{submit_of, number_of_entry}
use Rattle.job_table.proofs.Keyed.{parted, insert-placed}
use Rattle.job_table.proofs.Tables.{table-rising, placed-is}
use Rattle.job_table.proofs.rows.with_one.Goals as goal

pub with-requires-clause-parted : goal.with-requires-clause-parted
with-requires-clause-parted g c = parted submit_of number_of_entry (submit_of c.args.entry) (number_of_entry c.args.entry) (flat c.args.rows.now) (table-rising (flat c.args.rows.now) c.requires.table)

pub returns-clause-rows : goal.returns-clause-rows
returns-clause-rows g c = c.in_ok-with.ensures.list ∙ insert-placed submit_of number_of_entry c.args.entry (flat c.args.rows.now) ∙ placed-is c.args.entry (flat c.args.rows.now)
