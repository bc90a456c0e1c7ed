-- The report on all jobs.
use Rattle.std.specs.Prelude.{ℕ, List, ◌++◌, codes}
use Rattle.std.specs.Fmt.{decimal}
use Rattle.metrics.specs.declared.rows.Overall.{Overall}
use Rattle.scenarios.specs.declared.skips.Skips.{Skips}
use Rattle.report.specs.Pieces.{thousandths, percent}
use Rattle.report.specs.Heading.{title}

-- a word, and the number that it names
abbrev pub word_and_number : List ℕ → ℕ → List ℕ
word_and_number word n = word ++ codes " " ++ decimal n

abbrev pub jobs_line : Overall → List ℕ
jobs_line all = word_and_number (codes "jobs") all.jobs ++ word_and_number (codes " killed") all.killed ++ codes "\n"

-- how many entries were skipped, by reason
abbrev pub skips_line : Skips → List ℕ
skips_line skips =
    word_and_number (codes "skipped size") skips.size ++ word_and_number (codes " run") skips.run ++ word_and_number (codes " large") skips.large
    ++ word_and_number (codes " long") skips.long ++ codes "\n"

abbrev pub wait_line : Overall → List ℕ
wait_line all = word_and_number (codes "wait mean") all.wait ++ word_and_number (codes " greatest") all.greatest_wait ++ codes "\n"

abbrev pub length_line : Overall → List ℕ
length_line all = word_and_number (codes "length mean") all.length ++ codes "\n"

abbrev pub slowdown_line : Overall → List ℕ
slowdown_line all = codes "slowdown mean " ++ thousandths 0 all.slowdown ++ codes "\n"

abbrev pub busy_line : Overall → List ℕ
busy_line all = word_and_number (codes "busy") all.busy ++ word_and_number (codes " span") all.span ++ codes "\n"

abbrev pub utilization_line : Overall → List ℕ
utilization_line all = codes "utilization " ++ percent 0 all.utilization ++ codes "\n"

-- the numbers over all jobs, a line for each notion
abbrev pub table_text : List ℕ → ℕ → Overall → List ℕ
table_text name version all =
    title (codes "table") name version ++ codes "\n" ++ jobs_line all ++ skips_line all.skips ++ wait_line all
    ++ length_line all ++ slowdown_line all ++ busy_line all ++ utilization_line all
