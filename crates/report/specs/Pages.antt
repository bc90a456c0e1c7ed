-- The pages in which a schedule is printed.
use Rattle.std.specs.Prelude.{◌≡◌, ℕ, ◌<◌, List, length, take, slice_index_or}
use Rattle.std.specs.List.{flat_map}
use Rattle.checkpoints.specs.declared.row.Row.{Row}
use Rattle.report.specs.declared.page.Page.{Page}
use Rattle.report.specs.Schedule.{row_line}

-- the rows of a page, and what was printed of it
abbrev pub rows_in : Page → List Row
rows_in page = take page.count page.rows

abbrev pub lines_in : Page → List ℕ
lines_in page = page.lines.items

-- those of some pages, one after another
abbrev pub all_rows : List Page → List Row
all_rows pages = flat_map rows_in pages

abbrev pub all_lines : List Page → List ℕ
all_lines pages = flat_map lines_in pages

-- a page that was printed: it has the same rows, and their lines
pub record IsPrint (old new : Page) : Type 0 where
  pub rows : rows_in new ≡ rows_in old
  pub lines : lines_in new ≡ flat_map row_line (rows_in old)

-- each page was printed at its place
pub record ArePrints (old new : List Page) : Type 0 where
  pub count : length new ≡ length old
  pub each : (place : ℕ) (d : Page) → place < length old → IsPrint (slice_index_or old place d) (slice_index_or new place d)
