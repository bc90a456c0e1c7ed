-- What the words of a command stand for.
use Rattle.std.specs.Prelude.{ℕ, ◌+◌, ◌*◌, List, [], ◌∷◌, Bool, ◌&&◌, ◌||◌, ◌==◌, not, nat_le, if◌then◌else◌, Option, Some, None, Result, Ok, ℤ, pos}
use Rattle.std.specs.Option.{option_map}
use Rattle.swf_text.specs.Number.{are_digits, digits_value, number_of, is_below_zero}
use Rattle.swf_text.specs.Entry.{is_partial}
use Rattle.swf_text.specs.Line.{value_then}
use Rattle.scenarios.specs.Limits.{procs_limit, factor_limit}
use Rattle.scenarios.specs.Name.{is_name}

-- the word, where it is a scenario's name
abbrev pub name_of : List ℕ → Option (List ℕ)
name_of word = if is_name word then Some word else None

-- the number that the digits of a word spell, where it is within these limits
abbrev pub number_between : ℕ → ℕ → List ℕ → Option ℕ
number_between least most word =
    if are_digits word && nat_le least (digits_value word) && nat_le (digits_value word) most then Some (digits_value word) else None

-- the greatest job number
abbrev pub job_limit : ℕ
job_limit = 1000000000000

-- a job number is at most a trillion
abbrev pub job_number : List ℕ → Option ℕ
job_number word = number_between 0 job_limit word

-- a field is at most 255; which fields can be changed is tested later
abbrev pub field_number : List ℕ → Option ℕ
field_number word = number_between 0 255 word

-- a machine has 1 to 16,777,216 processors
abbrev pub machine : List ℕ → Option ℕ
machine word = number_between 1 procs_limit word

-- a factor on estimates is 1 to 100,000 thousandths
abbrev pub factor : List ℕ → Option ℕ
factor word = number_between 1 factor_limit word

-- ---- the eighteen words of an entry

-- the value of a job number, in millionths
abbrev pub job_value : List ℕ → Option ℤ
job_value word = option_map (λ n. pos (1000000 * n)) (job_number word)

-- a submit time isn't negative, and a status isn't that of a partial execution
abbrev pub may_stand : ℕ → ℤ → Bool
may_stand place v = not ((place == 2 && is_below_zero v) || (place == 11 && is_partial v))

-- the value, where it may stand at this place
abbrev pub standing : ℕ → Option ℤ → Option ℤ
standing place None = None
standing place (Some v) = if may_stand place v then Some v else None

-- the value of the word at this place, if it may stand there: the first is a job number, in digits alone
abbrev pub entry_value : ℕ → List ℕ → Option ℤ
entry_value place word = if place == 1 then job_value word else standing place (number_of word)

-- the value of each word, or the place of the first that can't stand there, where the first word has this place
unfoldable pub entry_values : ℕ → List (List ℕ) → Result (List ℤ) ℕ
entry_values place [] = Ok []
entry_values place (word ∷ words) = value_then place (entry_value place word) (entry_values (place + 1) words)
