-- The pieces that the lines of a report are made of.
use Rattle.std.specs.Prelude.{ℕ, List, ◌++◌, ◌-◌, ◌/◌, ◌%◌, Bool, true, false, length, replicate, codes}
use Rattle.std.specs.Fmt.{decimal}

-- the text, at least this wide, after blanks
abbrev pub right : ℕ → List ℕ → List ℕ
right width text = replicate (width - length text) 32 ++ text

-- the name, at least this wide, before blanks
abbrev pub left : ℕ → List ℕ → List ℕ
left width name = name ++ replicate (width - length name) 32

-- the three digits of a number below a thousand, after the zeros that it lacks
abbrev pub three_digits : ℕ → List ℕ
three_digits n = replicate (3 - length (decimal n)) 48 ++ decimal n

-- a blank, and a number at least so wide
abbrev pub cell : ℕ → ℕ → List ℕ
cell width n = codes " " ++ right width (decimal n)

-- a number of thousandths: its whole part, at least so wide, a point and three digits
abbrev pub thousandths : ℕ → ℕ → List ℕ
thousandths width n = right width (decimal (n / 1000)) ++ codes "." ++ three_digits (n % 1000)

-- a part of the whole, given in 100,000ths, as percent
abbrev pub percent : ℕ → ℕ → List ℕ
percent width n = thousandths width n ++ codes "%"

-- whether a job was killed, and the end of its line
abbrev pub verdict : Bool → List ℕ
verdict true = codes " kill\n"
verdict false = codes " ok\n"
