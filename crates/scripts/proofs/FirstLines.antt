-- The two lines that settle and ask for a schedule: a name's bytes make a word, and the lines are the two commands.
use Rattle.std.proofs.Common.{◌≡◌, ℕ, ◌-◌, ◌<◌, ◌≤◌, ◌&&◌, zero, suc, leb, List, [], ◌∷◌, ◌++◌, length, get_or, cond, Bool, true, false, not, Some, Ok, Err, refl, sym, ◌∙◌, ap, append-nil, arith}
use Rattle.std.specs.Prelude.{codes, nat_lt}
use Rattle.std.specs.List.{list_all, suffix_len}
use Rattle.std.proofs.lemmas.Bool.Decides.{nat_tests}
use Rattle.std.proofs.lemmas.Grind.{common_steps}
use Rattle.std.proofs.lemmas.List.{length-append, take_all}
use Rattle.std.proofs.lemmas.List.Sums.{suffix_len_is}
use Rattle.swf_text.specs.Limits.{line_limit}
use Rattle.swf_text.specs.Line.{fields, is_blank, is_return, without_returns}
use Rattle.swf_text.proofs.Lemmas.{and_first, and_second, fields-blank, solid_fields}
use Rattle.scenarios.specs.Name.{is_name, is_name_byte}
use Rattle.commands.specs.declared.command.Command.TheVariants as asks
use Rattle.commands.specs.declared.fault.CommandFault.TheVariants.{TooLong}
use Rattle.commands.specs.Commands.{command_of_line, command_of_words}

name_solid : (b : ℕ) → is_name_byte b ≡ true → is_blank b ≡ false
name_solid b h = grind (arith, common_steps)

name_no_return : (b : ℕ) → is_name_byte b ≡ true → is_return b ≡ false
name_no_return b h = grind (arith, common_steps)

le_leb : (a b : ℕ) → leb a b ≡ true → a ≤ b
le_leb a b e = grind (arith, common_steps)

module _ (name : List ℕ) (called : is_name name ≡ true) where
  all_bytes : list_all is_name_byte name ≡ true
  all_bytes = and_second (leb 1 (length name) && leb (length name) 16) (list_all is_name_byte name) called

  sizes : leb 1 (length name) && leb (length name) 16 ≡ true
  sizes = and_first (leb 1 (length name) && leb (length name) 16) (list_all is_name_byte name) called

  some_byte : 1 ≤ length name
  some_byte = le_leb 1 (length name) (and_first (leb 1 (length name)) (leb (length name) 16) sizes)

  few_bytes : length name ≤ 16
  few_bytes = le_leb (length name) 16 (and_second (leb 1 (length name)) (leb (length name) 16) sizes)

no_returns : (bytes : List ℕ) → list_all is_name_byte bytes ≡ true → list_all (λ b. not (is_return b)) bytes ≡ true
no_returns [] all = refl
no_returns (b ∷ bytes) all =
    let first = name_no_return b (and_first (is_name_byte b) (list_all is_name_byte bytes) all) in
    rw first (no_returns bytes (and_second (is_name_byte b) (list_all is_name_byte bytes) all))

not_return : (b : ℕ) → not (is_return b) ≡ true → is_return b ≡ false
not_return b h = go (is_return b) h
  where
    go : (v : Bool) → not v ≡ true → v ≡ false
    go true e = cc
    go false e = refl

none_at : (bytes : List ℕ) → list_all (λ b. not (is_return b)) bytes ≡ true → (k : ℕ) → k < length bytes → is_return (get_or bytes k 0) ≡ false
none_at [] all k lt = absurd (omega (arith, lt))
none_at (b ∷ bytes) all zero lt = not_return b (and_first (not (is_return b)) (list_all (λ b. not (is_return b)) bytes) all)
none_at (b ∷ bytes) all (suc k) lt = none_at bytes (and_second (not (is_return b)) (list_all (λ b. not (is_return b)) bytes) all) k (omega (arith, lt))

kept_whole : (bytes : List ℕ) → list_all (λ b. not (is_return b)) bytes ≡ true → without_returns bytes ≡ bytes
kept_whole bytes all =
    let none : suffix_len is_return bytes ≡ length bytes - length bytes =
    suffix_len_is is_return bytes (length bytes) 0 (omega arith) (λ k le lt. absurd (omega (arith, le, lt))) (λ some. none_at bytes all (length bytes - 1) (omega (arith, some))) in
    take_all (length bytes - suffix_len is_return bytes) bytes (omega (arith, none))

-- the line `settle` is the command that settles
pub settle_is : {A : Type 0} → command_of_line {A = A} (codes "settle") ≡ Ok (Some asks.Settle)
settle_is = refl

module _ (name : List ℕ) (called : is_name name ≡ true) where
  short_line : nat_lt line_limit (length (codes "schedule " ++ name)) ≡ false
  short_line =
      let few : length (codes "schedule " ++ name) ≤ 65536 = omega (arith, length-append (codes "schedule ") name, few_bytes name called) in
      grind (arith, nat_tests)

  words_are : fields (codes "schedule " ++ name) ≡ codes "schedule" ∷ name ∷ []
  words_are =
      let last : fields name ≡ name ∷ [] = ap fields (sym (append-nil name)) ∙ solid_fields is_name_byte name_solid name [] (all_bytes name called) (some_byte name called) refl in
      solid_fields is_name_byte name_solid (codes "schedule") (32 ∷ name) refl (omega arith) refl
      ∙ ap (λ (l : List (List ℕ)). codes "schedule" ∷ l) (fields-blank 32 name refl ∙ last)

  -- the line `schedule NAME` asks for the schedule of the scenario with this name
  pub schedule_is : {A : Type 0} → command_of_line {A = A} (codes "schedule " ++ name) ≡ Ok (Some (asks.Schedule name))
  schedule_is {A} =
      ap (λ (b : Bool). cond b (Err TooLong) (command_of_words {A = A} (fields (without_returns (codes "schedule " ++ name))))) short_line
      ∙ ap (λ (line : List ℕ). command_of_words {A = A} (fields line)) (kept_whole (codes "schedule " ++ name) (no_returns name (all_bytes name called)))
      ∙ ap (command_of_words {A = A}) words_are
      ∙ rw called refl
