use Rattle.chunks.specs.Chunks.{flat}
use Rattle.std.proofs.Common.{◌∙◌}
use Rattle.std.proofs.lemmas.Result.{on_ok_weaker}
use Rattle.swf_text.specs.Entry.{submit_of, number_of_entry}
use Rattle.job_table.specs.Edit.{without}
use Rattle.job_table.proofs.Keyed.{parted, get_place, set_place, at_within}
use Rattle.job_table.proofs.Tables.{table-rising, table-apart, placed-is}
use Rattle.job_table.proofs.rows.exchange.Goals as goal

pub exchange-requires-clause-parted : goal.exchange-requires-clause-parted
exchange-requires-clause-parted g c = parted submit_of number_of_entry (submit_of c.args.entry) (number_of_entry c.args.entry) (flat c.args.rows.now) (table-rising (flat c.args.rows.now) c.requires.table)

pub exchange-requires-clause-there : goal.exchange-requires-clause-there
exchange-requires-clause-there g c =
    at_within submit_of number_of_entry (number_of_entry c.args.entry) (submit_of c.args.entry) (flat c.args.rows.now) _ c.requires.known
    (get_place submit_of number_of_entry (number_of_entry c.args.entry) (submit_of c.args.entry) (flat c.args.rows.now) (table-rising (flat c.args.rows.now) c.requires.table) c.requires.known)

pub returns-clause-rows : goal.returns-clause-rows
returns-clause-rows g c =
    let rows = flat c.args.rows.now in
    let rising = table-rising rows c.requires.table in
    on_ok_weaker c.exchange.result (λ list. list ∙ set_place submit_of number_of_entry c.args.entry rows rising (table-apart rows c.requires.table) c.requires.known ∙ placed-is c.args.entry (without (number_of_entry c.args.entry) rows))
    c.exchange.ensures.list
