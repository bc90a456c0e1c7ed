use Rattle.chunks.specs.Chunks.{flat}
use Rattle.std.proofs.Common.{◌∙◌}
use Rattle.swf_text.specs.Entry.{submit_of, number_of_entry}
use Rattle.job_table.proofs.Keyed.{parted}
use Rattle.job_table.proofs.Tables.{table-rising, dropped-from}
use Rattle.job_table.proofs.rows.rest_from.Goals as goal

pub rest-requires : goal.rest-requires
rest-requires g c = parted submit_of number_of_entry c.args.second 0 (flat c.args.rows.now) (table-rising (flat c.args.rows.now) c.requires)

pub returns : goal.returns
returns g c = c.rest.ensures ∙ dropped-from submit_of number_of_entry c.args.second (flat c.args.rows.now) (table-rising (flat c.args.rows.now) c.requires)
