-- The numbers that the comments of a log give under a label, as `; MaxProcs: 128`.
use Rattle.std.specs.Prelude.{◌≡◌, ℕ, ◌-◌, ◌<◌, ◌≤◌, List, [], ◌∷◌, ◌++◌, length, take, drop, true, ◌&&◌, ◌==◌, nat_eq, nat_lt, nat_le, if◌then◌else◌, Option, Some, None}
use Rattle.std.specs.List.{AllByRecursion, prefix_len, list_all, starts_with}
use Rattle.std.specs.Char.{is_ascii_digit}
use Rattle.swf_text.specs.Number.{digits_value}
use Rattle.swf_text.specs.Line.{is_blank, from_first}
use Rattle.swf_text.specs.Scan.{ends}

-- `;`, blanks or none, the label, `:`, blanks or none, one to eighteen digits, and then the end or a blank
pub record IsHeader (label comment : List ℕ) (n : ℕ) : Type 0 where
  pub before : List ℕ
  pub between : List ℕ
  pub digits : List ℕ
  pub rest : List ℕ
  pub is : comment ≡ 59 ∷ (before ++ (label ++ 58 ∷ (between ++ (digits ++ rest))))
  pub blanks : list_all is_blank before ≡ true
  pub more_blanks : list_all is_blank between ≡ true
  pub all : list_all is_ascii_digit digits ≡ true
  pub some : 0 < length digits
  pub few : length digits ≤ 18
  pub end : ends rest ≡ true
  pub value : n ≡ digits_value digits

-- the first comment of this form has this number
pub record IsFirstHeader (label : List ℕ) (comments : List (List ℕ)) (n : ℕ) : Type 0 where
  pub front : List (List ℕ)
  pub comment : List ℕ
  pub back : List (List ℕ)
  pub are : comments ≡ front ++ comment ∷ back
  pub others : AllByRecursion (λ (other : List ℕ). (m : ℕ) → IsHeader label other m → ⊥) front
  pub is : IsHeader label comment n

-- ---- the same from left to right

-- the number of the digits, where they are one to eighteen and the end or a blank follows
abbrev pub number_then : List ℕ → List ℕ → Option ℕ
number_then digits rest = if nat_lt 0 (length digits) && nat_le (length digits) 18 && ends rest then Some (digits_value digits) else None

-- how many digits the bytes begin with
abbrev pub digit_len : List ℕ → ℕ
digit_len bytes = prefix_len is_ascii_digit bytes

-- the number that the bytes begin with
abbrev pub header_value : List ℕ → Option ℕ
header_value bytes = number_then (take (digit_len bytes) bytes) (drop (digit_len bytes) bytes)

-- the number behind a colon and blanks
abbrev pub colon_then : List ℕ → Option ℕ
colon_then [] = None
colon_then (byte ∷ bytes) = if byte == 58 then header_value (from_first bytes) else None

-- the number behind the label and a colon
abbrev pub label_then : List ℕ → List ℕ → Option ℕ
label_then label bytes = if starts_with nat_eq bytes label then colon_then (drop (length label) bytes) else None

-- without the blanks that the label doesn't begin with itself
abbrev pub to_label : List ℕ → List ℕ → List ℕ
to_label label bytes = drop (prefix_len is_blank bytes - prefix_len is_blank label) bytes

-- the number that a comment gives under the label
abbrev pub header_of : List ℕ → List ℕ → Option ℕ
header_of label [] = None
header_of label (byte ∷ bytes) = if byte == 59 then label_then label (to_label label bytes) else None

-- this number, or where there is none a later one
abbrev pub or_later : Option ℕ → Option ℕ → Option ℕ
or_later None later = later
or_later (Some n) later = Some n

-- the number of the first comment of the form
abbrev pub header_number : List ℕ → List (List ℕ) → Option ℕ
header_number label [] = None
header_number label (comment ∷ comments) = or_later (header_of label comment) (header_number label comments)
