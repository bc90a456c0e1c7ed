-- Numbers of a log: which bytes spell which value, in millionths.
use Rattle.std.specs.Prelude.{◌≡◌, ℕ, ◌+◌, ◌-◌, ◌*◌, ◌/◌, ◌%◌, ◌≤◌, List, [], ◌∷◌, ◌++◌, length, take, drop, Bool, true, false, ◌&&◌, ◌==◌, nat_lt, nat_le, if◌then◌else◌, Option, Some, None, IfSome, IsTrue, ℤ, pos, negsuc, nat_abs, ◌+ℤ◌, neg_ℤ, slice_index_or}
use Rattle.std.specs.List.{fold, list_all, list_any, before_first, after_first, suffix_len}
use Rattle.std.specs.Int.{int_div_euclid}
use Rattle.std.specs.Fmt.{decimal as decimal_text}
use Rattle.std.specs.Char.{is_ascii_digit}

-- the number that digits spell
abbrev pub digits_value : List ℕ → ℕ
digits_value digits = fold (λ n digit. 10 * n + (digit - 48)) 0 digits

-- one digit or more
abbrev pub are_digits : List ℕ → Bool
are_digits bytes = nat_lt 0 (length bytes) && list_all is_ascii_digit bytes

-- the digit at a place behind the point, 0 past the last
abbrev pub decimal_at : List ℕ → ℕ → ℕ
decimal_at digits place = slice_index_or digits place 48 - 48

-- the first six digits behind the point, as millionths; what follows is cut
abbrev pub millionths_of : List ℕ → ℕ
millionths_of digits =
    100000 * decimal_at digits 0 + 10000 * decimal_at digits 1 + 1000 * decimal_at digits 2
    + 100 * decimal_at digits 3 + 10 * decimal_at digits 4 + decimal_at digits 5

-- the parts of a number's text
pub record Parts : Type 0 where
  pub is_negative : Bool
  pub whole : List ℕ
  pub fraction : Option (List ℕ)

-- the sign of a number
abbrev pub sign_text : Bool → List ℕ
sign_text true = 45 ∷ []
sign_text false = []

-- the point and the digits behind it, where there is one
abbrev pub fraction_text : Option (List ℕ) → List ℕ
fraction_text None = []
fraction_text (Some digits) = 46 ∷ digits

-- `-` or nothing, the whole part, and a point with the digits behind it or nothing
abbrev pub text : Parts → List ℕ
text parts = sign_text parts.is_negative ++ (parts.whole ++ fraction_text parts.fraction)

-- the millionths behind the point
abbrev pub fraction_value : Option (List ℕ) → ℕ
fraction_value None = 0
fraction_value (Some digits) = millionths_of digits

-- the size in millionths, without the sign
abbrev pub magnitude : Parts → ℕ
magnitude parts = 1000000 * digits_value parts.whole + fraction_value parts.fraction

-- a size with a sign
abbrev pub signed : Bool → ℕ → ℤ
signed true n = neg_ℤ (pos n)
signed false n = pos n

-- a value below 0, which is written with a `-`
abbrev pub is_below_zero : ℤ → Bool
is_below_zero (pos n) = false
is_below_zero (negsuc n) = true

-- a trillion, in millionths
abbrev pub greatest : ℕ
greatest = 1000000000000000000

-- the bytes spell the value v, in millionths
pub record Spells (bytes : List ℕ) (v : ℤ) : Type 0 where
  pub parts : Parts
  pub is_text : bytes ≡ text parts
  pub whole : IsTrue (are_digits parts.whole)
  pub fraction : IfSome parts.fraction (λ digits. IsTrue (are_digits digits))
  pub fits : magnitude parts ≤ greatest
  pub value : v ≡ signed parts.is_negative (magnitude parts)

-- ---- the same from left to right

-- a point
abbrev pub is_point : ℕ → Bool
is_point byte = byte == 46

-- the first byte is a `-`
abbrev pub begins_negative : List ℕ → Bool
begins_negative bytes = slice_index_or bytes 0 0 == 45

-- the bytes behind the sign
abbrev pub unsigned_text : List ℕ → List ℕ
unsigned_text bytes = if begins_negative bytes then drop 1 bytes else bytes

-- cut at the sign and at the first point
abbrev pub parts_of : List ℕ → Parts
parts_of bytes = record {
  is_negative = begins_negative bytes;
  whole = before_first is_point (unsigned_text bytes);
  fraction = if list_any is_point (unsigned_text bytes) then Some (after_first is_point (unsigned_text bytes)) else None;
}

-- nothing, or digits
abbrev pub is_fraction : Option (List ℕ) → Bool
is_fraction None = true
is_fraction (Some digits) = are_digits digits

-- the value of the parts, where they are digits and within the limit
abbrev pub value_of_parts : Parts → Option ℤ
value_of_parts parts =
    if are_digits parts.whole && is_fraction parts.fraction && nat_le (magnitude parts) greatest
    then Some (signed parts.is_negative (magnitude parts)) else None

-- the value that the bytes spell, if any
abbrev pub number_of : List ℕ → Option ℤ
number_of bytes = value_of_parts (parts_of bytes)

-- the nearest whole number to a number of millionths, halves up
abbrev pub whole_of : ℤ → ℤ
whole_of m = int_div_euclid (m +ℤ pos 500000) (pos 1000000)

-- ---- the canonical spelling

-- the six decimals of fewer than a million millionths
abbrev pub six_digits : ℕ → List ℕ
six_digits n =
    (48 + n / 10 / 10 / 10 / 10 / 10) ∷ (48 + n / 10 / 10 / 10 / 10 % 10) ∷ (48 + n / 10 / 10 / 10 % 10)
    ∷ (48 + n / 10 / 10 % 10) ∷ (48 + n / 10 % 10) ∷ (48 + n % 10) ∷ []

-- the digit 0
abbrev pub is_zero : ℕ → Bool
is_zero digit = digit == 48

-- without the zeros at the end
abbrev pub without_zeros : List ℕ → List ℕ
without_zeros digits = take (length digits - suffix_len is_zero digits) digits

-- the whole part without leading zeros, and the decimals without trailing zeros where they aren't all zero
abbrev pub canonical_parts : ℤ → Parts
canonical_parts v = record {
  is_negative = is_below_zero v;
  whole = decimal_text (nat_abs v / 1000000);
  fraction = if nat_abs v % 1000000 == 0 then None else Some (without_zeros (six_digits (nat_abs v % 1000000)));
}

-- the one spelling in which a value is written
abbrev pub canonical : ℤ → List ℕ
canonical v = text (canonical_parts v)
