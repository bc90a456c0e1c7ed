-- Which comments are read back as they were written.
use Rattle.std.specs.Prelude.{◌≡◌, ℕ, ◌≤◌, ◌-◌, List, length, false, slice_index_or}
use Rattle.std.specs.List.{list_any}
use Rattle.swf_text.specs.Limits.{line_limit}
use Rattle.swf_text.specs.Line.{is_return}
use Rattle.swf_text.specs.Text.{is_feed}

-- a comment begins with `;`, has no line feed, doesn't end with a carriage return, and fits a line
pub record IsComment (comment : List ℕ) : Type 0 where
  pub begins : slice_index_or comment 0 0 ≡ 59
  pub no_feed : list_any is_feed comment ≡ false
  pub no_return : is_return (slice_index_or comment (length comment - 1) 0) ≡ false
  pub fits : length comment ≤ line_limit
