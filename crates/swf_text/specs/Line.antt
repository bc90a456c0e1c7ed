-- What one line of a log is, without its line feed (Standard Workload Format, version 2).
use Rattle.std.specs.Prelude.{◌≡◌, ◌≢◌, ℕ, ◌+◌, ◌-◌, ◌<◌, ◌≤◌, List, [], ◌∷◌, length, take, drop, Bool, true, false, ◌||◌, ◌==◌, nat_lt, nat_le, if◌then◌else◌, Option, Some, None, Result, Ok, Err, ℤ, slice_get, slice_index_or}
use Rattle.std.specs.List.{filter, list_all, list_any, slice_split, prefix_len, suffix_len}
use Rattle.swf_text.specs.Limits.{line_limit}
use Rattle.swf_text.specs.declared.line.LineFault.TheVariants.{LineTooLong, NotAscii, FieldCount, BadNumber}
use Rattle.swf_text.specs.declared.line.LineRead.{LineRead}
use Rattle.swf_text.specs.declared.line.LineRead.TheVariants as read
use Rattle.swf_text.specs.Number.{Spells, number_of}

-- a space or a tab
abbrev pub is_blank : ℕ → Bool
is_blank byte = byte == 32 || byte == 9

-- a carriage return
abbrev pub is_return : ℕ → Bool
is_return byte = byte == 13

-- a byte of 0x80 or above
abbrev pub is_high : ℕ → Bool
is_high byte = nat_le 128 byte

-- the line without the carriage returns at its end
abbrev pub without_returns : List ℕ → List ℕ
without_returns bytes = take (length bytes - suffix_len is_return bytes) bytes

-- the bytes from the first that is no blank
abbrev pub from_first : List ℕ → List ℕ
from_first bytes = drop (prefix_len is_blank bytes) bytes

-- a word has a byte or more
abbrev pub is_filled : List ℕ → Bool
is_filled word = nat_lt 0 (length word)

-- the words between blanks
abbrev pub fields : List ℕ → List (List ℕ)
fields bytes = filter is_filled (slice_split is_blank bytes)

-- ---- what a line is

-- each word spells the value at its place
abbrev pub AreSpelled : List (List ℕ) → List ℤ → Type 0
AreSpelled [] [] = Unit {0}
AreSpelled [] (v ∷ vs) = ⊥
AreSpelled (word ∷ words) [] = ⊥
AreSpelled (word ∷ words) (v ∷ vs) = Spells word v × AreSpelled words vs

-- the words before this place, counted from 1, spell values, and the word at it spells none
pub record IsFirstBad (words : List (List ℕ)) (place : ℕ) : Type 0 where
  pub values : List ℤ
  pub counted : 0 < place
  pub within : place ≤ length words
  pub before : AreSpelled (take (place - 1) words) values
  pub bad : (v : ℤ) → Spells (slice_index_or words (place - 1) []) v → ⊥

-- a line within the limit whose first byte that is no blank is there, and is no `;`
pub record IsForJob (line : List ℕ) : Type 0 where
  pub short : length line ≤ line_limit
  pub first : ℕ
  pub begins : slice_get (from_first (without_returns line)) 0 ≡ Some first
  pub other : first ≢ 59

-- the same, without a byte of 0x80 or above
pub record IsAsciiForJob (line : List ℕ) : Type 0 where
  pub for_job : IsForJob line
  pub ascii : list_any is_high (without_returns line) ≡ false

-- a job line: eighteen words between blanks, which spell these values
pub record IsJobLine (line : List ℕ) (values : List ℤ) : Type 0 where
  pub for_job : IsAsciiForJob line
  pub eighteen : length (fields (without_returns line)) ≡ 18
  pub spelled : AreSpelled (fields (without_returns line)) values

-- what a line is, and where it is nothing else its first fault
abbrev pub IsReadAs : List ℕ → LineRead → Type 0
IsReadAs line read.Blank = (length line ≤ line_limit) × (list_all is_blank (without_returns line) ≡ true)
IsReadAs line read.Comment = (length line ≤ line_limit) × (slice_get (from_first (without_returns line)) 0 ≡ Some 59)
IsReadAs line (read.Job job) = IsJobLine line job.0
IsReadAs line (read.Fault LineTooLong) = line_limit < length line
IsReadAs line (read.Fault NotAscii) = IsForJob line × (list_any is_high (without_returns line) ≡ true)
IsReadAs line (read.Fault FieldCount) = IsAsciiForJob line × (length (fields (without_returns line)) ≢ 18)
IsReadAs line (read.Fault (BadNumber place)) = IsAsciiForJob line × (length (fields (without_returns line)) ≡ 18) × IsFirstBad (fields (without_returns line)) place

-- ---- the same as one test after another

-- a value before others, or the place of a word without one
abbrev pub value_then : ℕ → Option ℤ → Result (List ℤ) ℕ → Result (List ℤ) ℕ
value_then place None others = Err place
value_then place (Some v) (Ok vs) = Ok (v ∷ vs)
value_then place (Some v) (Err other) = Err other

-- the value of each word, or the place of the first word that is no number, where the first word has this place
unfoldable pub values_from : ℕ → List (List ℕ) → Result (List ℤ) ℕ
values_from place [] = Ok []
values_from place (word ∷ words) = value_then place (number_of word) (values_from (place + 1) words)

-- the line of these values, or the fault at this place
abbrev pub job_of_values : Result (List ℤ) ℕ → LineRead
job_of_values (Ok vs) = read.Job (record { 0 = vs })
job_of_values (Err place) = read.Fault (BadNumber place)

-- a job line has eighteen numbers between blanks
abbrev pub job_line : List ℕ → LineRead
job_line line =
    if list_any is_high line then read.Fault NotAscii
    else (if length (fields line) == 18 then job_of_values (values_from 1 (fields line))
    else read.Fault FieldCount)

-- a line within the limit, by what follows the blanks that it begins with
abbrev pub line_by_front : List ℕ → List ℕ → LineRead
line_by_front line [] = read.Blank
line_by_front line (byte ∷ bytes) = if byte == 59 then read.Comment else job_line line

-- what a line is: the first fault in the order of checks, where there is one
abbrev pub line_of : List ℕ → LineRead
line_of bytes =
    if nat_lt line_limit (length bytes) then read.Fault LineTooLong
    else line_by_front (without_returns bytes) (from_first (without_returns bytes))
