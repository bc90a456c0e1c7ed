use Rattle.std.proofs.Common.{List, ℕ, ◌++◌, ap, ◌∙◌}
use Rattle.std.specs.Prelude.{codes}
use Rattle.metrics.specs.Tables.{TableRows}
use Rattle.report.specs.Heading.{title}
use Rattle.report.specs.Table.{jobs_line, skips_line, wait_line, length_line, slowdown_line, busy_line, utilization_line, table_text}
use Rattle.report.proofs.Joins.{five}
use Rattle.report.proofs.table.table_text.Goals as goal

pub returns : goal.returns
returns g c =
    let all = c.overall-all.result in
    let o : List ℕ = c.new-text.result.items in
    let first : List ℕ = title (codes "table") c.args.name.now c.args.version ++ codes "\n" ++ jobs_line all ++ skips_line all.skips ++ wait_line all in
    let begins = five o (title (codes "table") c.args.name.now c.args.version) (codes "\n") (jobs_line all) (skips_line all.skips) (wait_line all) c.in_ok-push_title.ensures c.in_ok-push.ensures.items c.in_ok-push_jobs.ensures c.in_ok-push_skips.ensures c.in_ok-push_wait.ensures in
    let ends = five o first (length_line all) (slowdown_line all) (busy_line all) (utilization_line all) begins c.in_ok-push_length.ensures c.in_ok-push_slowdown.ensures c.in_ok-push_busy.ensures c.in_ok-push_utilization.ensures in
    ends ∙ ap (λ t. t ++ (first ++ length_line all ++ slowdown_line all ++ busy_line all ++ utilization_line all)) c.new-text.ensures.items
    ∙ ap (table_text c.args.name.now c.args.version) (c.overall-all.ensures ∙ ap (λ (t : TableRows). t.overall) c.tables.ensures.value)
