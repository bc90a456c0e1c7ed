use Rattle.std.proofs.Common.{ap, ◌∙◌}
use Rattle.std.specs.Prelude.{codes}
use Rattle.report.specs.Heading.{heading}
use Rattle.report.specs.Entries.{entry_line}
use Rattle.report.proofs.Joins.{headed, first_line}
use Rattle.job_table.proofs.Lemmas.{from-zero}
use Rattle.report.proofs.entries.log_text.Goals as goal

pub entries-init : goal.entries-init
entries-init g c =
    headed (entry_line c.args.scenario) _ _ _ _ c.args.table.now _ c.in_ok-text.ensures.items c.in_ok-push_heading.ensures (ap (heading (codes "log") c.args.name.now c.args.version (codes "entries")) c.len-count.ensures.count) (c.from_second-coming.ensures.entries ∙ from-zero c.args.table.now)

pub entries-preserved : goal.entries-preserved
entries-preserved g c =
    first_line (entry_line c.args.scenario) c.in-Some.entry.now c.entries.coming c.next.new.self _ _ _ c.in-Some.ensures.steps c.entries.invariant c.in_ok-push_entry.ensures
