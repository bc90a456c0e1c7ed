-- Each entry is a job or is skipped.
use Rattle.std.proofs.Common.{◌≡◌, ℕ, ◌+◌, List, [], ◌∷◌, length, Ok, Err, refl, ap, arith}
use Rattle.std.specs.Prelude.{Result, nat_eq, cond}
use Rattle.std.specs.List.{cons_option}
use Rattle.std.specs.Result.{result_ok, result_err}
use Rattle.std.proofs.lemmas.List.Sums.{sum_by-cons}
use Rattle.swf_text.specs.Entry.{LogEntry}
use Rattle.scenarios.specs.declared.skip.Skip.{Skip}
use Rattle.scenarios.specs.declared.skip.Skip.TheVariants.{NoSize, NoRun, TooLarge, TooLong}
use Rattle.scenarios.specs.declared.skips.Skips.{Skips}
use Rattle.scenarios.specs.Scenario.{ScenarioView}
use Rattle.scenarios.specs.Job.{EffectiveJob}
use Rattle.scenarios.specs.Effective.{effective}
use Rattle.scenarios.specs.Plan.{jobs_of}
use Rattle.scenarios.specs.Skips.{count_of, place_of, reasons_of, skips_among, skips_of}

abbrev pub all_skips : Skips → ℕ
all_skips skips = skips.size + skips.run + skips.large + skips.long

count-more : (reason r : Skip) (rs : List Skip) → count_of reason (r ∷ rs) ≡ cond (nat_eq (place_of r) (place_of reason)) 1 0 + count_of reason rs
count-more reason r rs = sum_by-cons (λ s. cond (nat_eq (place_of s) (place_of reason)) 1 0) r rs

reasons-counted : (rs : List Skip) → all_skips (skips_among rs) ≡ length rs
reasons-counted [] = refl
reasons-counted (r ∷ rs) =
    let i = reasons-counted rs in
    let a = count-more NoSize r rs in
    let b = count-more NoRun r rs in
    let c = count-more TooLarge r rs in
    let d = count-more TooLong r rs in
    go r i a b c d
  where
    go : (s : Skip) → all_skips (skips_among rs) ≡ length rs → count_of NoSize (r ∷ rs) ≡ cond (nat_eq (place_of s) 1) 1 0 + count_of NoSize rs → count_of NoRun (r ∷ rs) ≡ cond (nat_eq (place_of s) 2) 1 0 + count_of NoRun rs
        → count_of TooLarge (r ∷ rs) ≡ cond (nat_eq (place_of s) 3) 1 0 + count_of TooLarge rs → count_of TooLong (r ∷ rs) ≡ cond (nat_eq (place_of s) 4) 1 0 + count_of TooLong rs → all_skips (skips_among (r ∷ rs)) ≡ length (r ∷ rs)
    go NoSize i a b c d = omega (arith, i, a, b, c, d)
    go NoRun i a b c d = omega (arith, i, a, b, c, d)
    go TooLarge i a b c d = omega (arith, i, a, b, c, d)
    go TooLong i a b c d = omega (arith, i, a, b, c, d)

-- the entries that are skipped and the jobs of a log are together as many as its entries
pub jobs-or-skips : (s : ScenarioView) (es : List LogEntry) → length (reasons_of es s) + length (jobs_of es s) ≡ length es
jobs-or-skips s [] = refl
jobs-or-skips s (e ∷ es) = go (effective e s) (jobs-or-skips s es)
  where
    go : (o : Result EffectiveJob Skip) → length (reasons_of es s) + length (jobs_of es s) ≡ length es → length (cons_option (result_err o) (reasons_of es s)) + length (cons_option (result_ok o) (jobs_of es s)) ≡ length (e ∷ es)
    go (Ok job) i = omega (arith, i)
    go (Err skip) i = omega (arith, i)

pub jobs-counted : (s : ScenarioView) (es : List LogEntry) → all_skips (skips_of es s) + length (jobs_of es s) ≡ length es
jobs-counted s es = omega (arith, jobs-or-skips s es, reasons-counted (reasons_of es s))

-- the entries that are skipped, summed over all reasons, and the jobs of a log are together as many as its entries
pub kept-counted : (log : List LogEntry) (s : ScenarioView) (skips : Skips) (count : ℕ) → skips ≡ skips_of log s → count ≡ length log → all_skips skips + length (jobs_of log s) ≡ count
kept-counted log s skips count e f = omega (arith, ap all_skips e, f, jobs-counted s log)
