-- The limits of a log.
use Rattle.std.specs.Prelude.{ℕ}

-- the most entries of a log
abbrev pub entry_limit : ℕ
entry_limit = 4194304

-- the most bytes of a line, its line feed not counted
abbrev pub line_limit : ℕ
line_limit = 65536

-- the greatest whole number that a value of a log is
abbrev pub whole_limit : ℕ
whole_limit = 1000000000000
