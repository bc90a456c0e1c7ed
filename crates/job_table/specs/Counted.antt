-- How many entries and pairs of the index an edit counts: those of each chunk that it copies, and those that it
-- moves to another chunk. Of each chunk these are 1 to 256.
use Rattle.std.specs.Prelude.{ℕ, ◌==◌, not, Bool, false, ℤ, List, length, Option, Some, None, if◌then◌else◌}
use Rattle.swf_text.specs.Entry.{LogEntry, submit_of}
use Rattle.job_table.specs.Edit.{LogEdit, Insert, Remove, Change, entry_of, with_field}

-- whether this value in a field gives the entry another submit second, so that the entry moves
abbrev pub moves : ℕ → ℤ → Option LogEntry → Bool
moves place value None = false
moves place value (Some entry) = not (submit_of (with_field place value entry) == submit_of entry)

-- the fewest that an accepted edit of a log counts: the new entry, one of the chunk of pairs and one of
-- the chunk of entries that it joins, where there are any; one of each chunk that a job leaves; the changed entry,
-- and where it moves, one of the chunk that it leaves, and one of the chunk that it joins, where there is another entry
abbrev pub fewest : LogEdit → List LogEntry → ℕ
fewest (Insert entry) log = if length log == 0 then 1 else 3
fewest (Remove number) log = 2
fewest (Change number place value) log = if moves place value (entry_of number log) then (if length log == 1 then 2 else 3) else 1

-- the most, where each chunk has its 256: the new entry, and a chunk of pairs and one of entries with the 129 that move
-- of each; the two chunks that a job leaves; the changed entry and its chunk, and where it moves, the chunk that it joins
-- with the 129 that move, and the chunk of its pair
abbrev pub most : LogEdit → List LogEntry → ℕ
most (Insert entry) log = 771
most (Remove number) log = 512
most (Change number place value) log = if moves place value (entry_of number log) then 898 else 257
