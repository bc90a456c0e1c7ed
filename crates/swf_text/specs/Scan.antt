-- How a line is walked through, word after word.
use Rattle.std.specs.Prelude.{◌≡◌, ℕ, List, [], ◌∷◌, ◌++◌, drop, Bool, true, ℤ}
use Rattle.std.specs.List.{position_or_len, before_first}
use Rattle.swf_text.specs.Number.{Spells}
use Rattle.swf_text.specs.Line.{is_blank, from_first}

-- a word ends where nothing or a blank follows
abbrev pub ends : List ℕ → Bool
ends [] = true
ends (b ∷ bs) = is_blank b

-- the bytes begin with a word that spells this value
pub record Word (bytes : List ℕ) (v : ℤ) (rest : List ℕ) : Type 0 where
  pub word : List ℕ
  pub is : bytes ≡ word ++ rest
  pub spells : Spells word v
  pub end : ends rest ≡ true

-- the bytes begin with a word that spells this value, and behind it and blanks the rest goes on
pub record NextWord (bytes : List ℕ) (v : ℤ) (rest : List ℕ) : Type 0 where
  pub after : List ℕ
  pub word : Word bytes v after
  pub goes_on : from_first after ≡ from_first rest

-- the bytes begin with a word that spells this value; this byte ends it, and then the rest follows
pub record EndedWord (bytes : List ℕ) (v : ℤ) (end : ℕ) (rest : List ℕ) : Type 0 where
  pub word : List ℕ
  pub is : bytes ≡ word ++ end ∷ rest
  pub spells : Spells word v

-- ---- the words one after another

-- the first word of the bytes
abbrev pub first_word : List ℕ → List ℕ
first_word bytes = before_first is_blank (from_first bytes)

-- what follows the first word
abbrev pub after_word : List ℕ → List ℕ
after_word bytes = drop (position_or_len is_blank (from_first bytes)) (from_first bytes)
