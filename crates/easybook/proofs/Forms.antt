-- What the words choose, in each form in which they may name a machine, a spacing, workers, scripts and a conversation. A number that is a word
-- of its own is told by its first digit.
use Rattle.std.proofs.Common.{◌≡◌, ℕ, zero, suc, ◌+◌, ◌-◌, ◌<◌, ◌≤◌, true, Option, Some, None, List, [], ◌∷◌, length, codes, nat_lt, refl, subst, arith, false}
use Rattle.std.specs.List.{list_all}
use Rattle.std.specs.Option.{option_map}
use Rattle.std.specs.Char.{is_ascii_digit}
use Rattle.std.proofs.lemmas.Grind.{common_steps}
use Rattle.clap.proofs.OnLiterals.{clap_on_literals}
use Rattle.swf_text.specs.Number.{are_digits}
use Rattle.swf_text.proofs.Lemmas.{and_first, and_second}
use Rattle.commands.specs.Words.{machine, number_between}
use Rattle.easybook.specs.Forms.{JoinedSpacingChooses, JoinedWordChooses, JoinedWorkersChoose, LiveIsChosen, LogIsChosen, NextSpacingChooses, NextWordChooses, NoWordChooses, ScriptsAreChosen, TwiceIsBad, on_machine, with_spacing, with_workers}
use Rattle.easybook.specs.Words.{Choice, choice, chosen}

-- the program's name alone chooses no log, no machine, and 256 event seconds
pub no_word : NoWordChooses
unfolding clap_on_literals
no_word name = refl

no-choice : (wanted : Option ℕ) → choice None (option_map Some wanted) (Some 256) (Some 2) (Some []) false ≡ option_map on_machine wanted
no-choice None = refl
no-choice (Some n) = refl

no-spacing : (wanted : Option ℕ) → choice None (Some None) wanted (Some 2) (Some []) false ≡ option_map with_spacing wanted
no-spacing None = refl
no-spacing (Some n) = refl

no-workers : (wanted : Option ℕ) → choice None (Some None) (Some 256) wanted (Some []) false ≡ option_map with_workers wanted
no-workers None = refl
no-workers (Some n) = refl

-- `--workers=N` chooses what N spells, and is bad where that is not 1 to 64
pub joined_workers : JoinedWorkersChoose
unfolding clap_on_literals
joined_workers name number = no-workers (number_between 1 64 number)

-- `--script=FILE` twice chooses two scripts, in their order
pub two_scripts : ScriptsAreChosen
unfolding clap_on_literals
two_scripts name one other = refl

-- `LOG --live` chooses a conversation on the log; without a log, and with a script beside it, it is bad
pub live_chosen : LiveIsChosen
unfolding clap_on_literals
live_chosen name file one = (refl, refl, refl)

-- a word that begins with `/` or `./` is the file that holds the log, and so is a name such as `month.swf`; two of them are bad
pub log_chosen : LogIsChosen
unfolding clap_on_literals
log_chosen name file other = (refl, refl, refl, refl)

-- an option that is given twice is bad, but a script
pub twice_bad : TwiceIsBad
unfolding clap_on_literals
twice_bad name one other = (refl, refl, refl)

-- `--procs=N` chooses what N spells, and is bad where N spells no machine
pub joined_word : JoinedWordChooses
unfolding clap_on_literals
joined_word name number = no-choice (machine number)

-- `--spacing=N` chooses what N spells, and is bad where that is not 1 to 65,536
pub joined_spacing : JoinedSpacingChooses
unfolding clap_on_literals
joined_spacing name number = no-spacing (number_between 1 65536 number)

abbrev IsNext : List ℕ → Option Choice → List ℕ → List ℕ → Type 0
IsNext option choice name number = chosen (name ∷ option ∷ number ∷ []) ≡ choice

next_from : (name ds : List ℕ) (k : ℕ) → k < 10 → IsNext (codes "--procs") (option_map on_machine (machine ((48 + k) ∷ ds))) name ((48 + k) ∷ ds)
unfolding clap_on_literals
next_from name ds zero h = no-choice (machine (48 ∷ ds))
next_from name ds (suc zero) h = no-choice (machine (49 ∷ ds))
next_from name ds (suc (suc zero)) h = no-choice (machine (50 ∷ ds))
next_from name ds (suc (suc (suc zero))) h = no-choice (machine (51 ∷ ds))
next_from name ds (suc (suc (suc (suc zero)))) h = no-choice (machine (52 ∷ ds))
next_from name ds (suc (suc (suc (suc (suc zero))))) h = no-choice (machine (53 ∷ ds))
next_from name ds (suc (suc (suc (suc (suc (suc zero)))))) h = no-choice (machine (54 ∷ ds))
next_from name ds (suc (suc (suc (suc (suc (suc (suc zero))))))) h = no-choice (machine (55 ∷ ds))
next_from name ds (suc (suc (suc (suc (suc (suc (suc (suc zero)))))))) h = no-choice (machine (56 ∷ ds))
next_from name ds (suc (suc (suc (suc (suc (suc (suc (suc (suc zero))))))))) h = no-choice (machine (57 ∷ ds))
next_from name ds (suc (suc (suc (suc (suc (suc (suc (suc (suc (suc k)))))))))) h = absurd (omega arith)

spacing_from : (name ds : List ℕ) (k : ℕ) → k < 10 → IsNext (codes "--spacing") (option_map with_spacing (number_between 1 65536 ((48 + k) ∷ ds))) name ((48 + k) ∷ ds)
unfolding clap_on_literals
spacing_from name ds zero h = no-spacing (number_between 1 65536 (48 ∷ ds))
spacing_from name ds (suc zero) h = no-spacing (number_between 1 65536 (49 ∷ ds))
spacing_from name ds (suc (suc zero)) h = no-spacing (number_between 1 65536 (50 ∷ ds))
spacing_from name ds (suc (suc (suc zero))) h = no-spacing (number_between 1 65536 (51 ∷ ds))
spacing_from name ds (suc (suc (suc (suc zero)))) h = no-spacing (number_between 1 65536 (52 ∷ ds))
spacing_from name ds (suc (suc (suc (suc (suc zero))))) h = no-spacing (number_between 1 65536 (53 ∷ ds))
spacing_from name ds (suc (suc (suc (suc (suc (suc zero)))))) h = no-spacing (number_between 1 65536 (54 ∷ ds))
spacing_from name ds (suc (suc (suc (suc (suc (suc (suc zero))))))) h = no-spacing (number_between 1 65536 (55 ∷ ds))
spacing_from name ds (suc (suc (suc (suc (suc (suc (suc (suc zero)))))))) h = no-spacing (number_between 1 65536 (56 ∷ ds))
spacing_from name ds (suc (suc (suc (suc (suc (suc (suc (suc (suc zero))))))))) h = no-spacing (number_between 1 65536 (57 ∷ ds))
spacing_from name ds (suc (suc (suc (suc (suc (suc (suc (suc (suc (suc k)))))))))) h = absurd (omega arith)

digit_limits : (d : ℕ) → is_ascii_digit d ≡ true → (48 ≤ d) × (d ≤ 57)
digit_limits d h = (grind (arith, common_steps), grind (arith, common_steps))

first_digit : (d : ℕ) (ds : List ℕ) → are_digits (d ∷ ds) ≡ true → is_ascii_digit d ≡ true
first_digit d ds h = and_first (is_ascii_digit d) (list_all is_ascii_digit ds) (and_second (nat_lt 0 (length (d ∷ ds))) (list_all is_ascii_digit (d ∷ ds)) h)

of_digits : (P : List ℕ → Type 0) → ((ds : List ℕ) (k : ℕ) → k < 10 → P ((48 + k) ∷ ds)) → (number : List ℕ) → are_digits number ≡ true → P number
of_digits P from [] h = absurd (cc)
of_digits P from (d ∷ ds) h =
    let limits = digit_limits d (first_digit d ds h) in
    let least = limits.0 in
    let most = limits.1 in
    let is : 48 + (d - 48) ≡ d = omega arith in
    subst (λ (byte : ℕ). P (byte ∷ ds)) is (from ds (d - 48) (omega arith))

-- `--procs N`, where N is digits, chooses what N spells, and is bad where N spells no machine
pub next_word : NextWordChooses
next_word name number h = of_digits (λ ds. IsNext (codes "--procs") (option_map on_machine (machine ds)) name ds) (next_from name) number h

-- `--spacing N`, where N is digits, chooses what N spells, and is bad where that is not 1 to 65,536
pub next_spacing : NextSpacingChooses
next_spacing name number h = of_digits (λ ds. IsNext (codes "--spacing") (option_map with_spacing (number_between 1 65536 ds)) name ds) (spacing_from name) number h
