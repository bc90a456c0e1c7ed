use Rattle.chunks.specs.Chunks.{flat}
use Rattle.std.proofs.Common.{◌∙◌}
use Rattle.swf_text.specs.Entry.{submit_of, number_of_entry}
use Rattle.job_table.proofs.Keyed.{parted, get_place}
use Rattle.job_table.proofs.Tables.{table-rising}
use Rattle.job_table.proofs.rows.entry_at.Goals as goal

pub find-requires : goal.find-requires
find-requires g c = parted submit_of number_of_entry c.args.submit c.args.number (flat c.args.rows.now) (table-rising (flat c.args.rows.now) c.requires.table)

pub returns : goal.returns
returns g c = c.find.ensures ∙ get_place submit_of number_of_entry c.args.number c.args.submit (flat c.args.rows.now) (table-rising (flat c.args.rows.now) c.requires.table) c.requires.known
