use Rattle.chunks.specs.Chunks.{flat}
use Rattle.std.proofs.Common.{◌∙◌}
use Rattle.swf_text.specs.Entry.{submit_of, number_of_entry}
use Rattle.job_table.proofs.Keyed.{parted, get_place, remove_place, at_within}
use Rattle.job_table.proofs.Tables.{table-rising, table-apart}
use Rattle.job_table.proofs.rows.without_one.Goals as goal

pub without-requires-clause-parted : goal.without-requires-clause-parted
without-requires-clause-parted g c = parted submit_of number_of_entry c.args.submit c.args.number (flat c.args.rows.now) (table-rising (flat c.args.rows.now) c.requires.table)

pub without-requires-clause-there : goal.without-requires-clause-there
without-requires-clause-there g c =
    at_within submit_of number_of_entry c.args.number c.args.submit (flat c.args.rows.now) _ c.requires.known
    (get_place submit_of number_of_entry c.args.number c.args.submit (flat c.args.rows.now) (table-rising (flat c.args.rows.now) c.requires.table) c.requires.known)

pub returns-clause-rows : goal.returns-clause-rows
returns-clause-rows g c =
    c.in_ok-without.ensures.list
    ∙ remove_place submit_of number_of_entry c.args.number c.args.submit (flat c.args.rows.now) (table-rising (flat c.args.rows.now) c.requires.table) (table-apart (flat c.args.rows.now) c.requires.table) c.requires.known
