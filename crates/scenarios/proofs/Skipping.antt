-- Skipped entries, counted: the counts so far and those to come make up the counts of the log, and are no more than its entries.
use Rattle.std.proofs.Common.{◌≡◌, ℕ, ◌+◌, ◌^◌, ◌≤◌, ◌<◌, cond, nat_eq, List, [], ◌∷◌, length, Option, Some, None, Err, refl, sym, ◌∙◌, ap, arith}
use Rattle.std.specs.List.{cons_option}
use Rattle.std.specs.Result.{result_err}
use Rattle.std.proofs.lemmas.List.Sums.{sum_by-cons, count_by-le-length}
use Rattle.swf_text.specs.Entry.{LogEntry}
use Rattle.scenarios.specs.declared.skip.Skip.{Skip}
use Rattle.scenarios.specs.declared.skip.Skip.TheVariants as skips
use Rattle.scenarios.specs.Scenario.{ScenarioView}
use Rattle.scenarios.specs.Effective.{effective}
use Rattle.scenarios.specs.declared.skips.Skips.{Skips}
use Rattle.scenarios.specs.Skips.{reasons_of, place_of, count_of, skips_of}

reasons-fewer : (log : List LogEntry) (s : ScenarioView) → length (reasons_of log s) ≤ length log
reasons-fewer [] s = omega arith
reasons-fewer (e ∷ es) s = go (result_err (effective e s)) (reasons-fewer es s)
  where
    go : (o : Option Skip) → length (reasons_of es s) ≤ length es → length (cons_option o (reasons_of es s)) ≤ length (e ∷ es)
    go None i = omega (arith, i)
    go (Some k) i = omega (arith, i)

count-fewer : (k : Skip) (log : List LogEntry) (s : ScenarioView) → count_of k (reasons_of log s) ≤ length log
count-fewer k log s =
    let a = count_by-le-length (λ (r : Skip). nat_eq (place_of r) (place_of k)) (reasons_of log s) in
    let b = reasons-fewer log s in
    omega (arith, a, b)

-- the counts so far, and those to come
pub record Counted (so_far : Skips) (coming log : List LogEntry) (s : ScenarioView) : Type 0 where
  pub size : so_far.size + count_of skips.NoSize (reasons_of coming s) ≡ count_of skips.NoSize (reasons_of log s)
  pub run : so_far.run + count_of skips.NoRun (reasons_of coming s) ≡ count_of skips.NoRun (reasons_of log s)
  pub large : so_far.large + count_of skips.TooLarge (reasons_of coming s) ≡ count_of skips.TooLarge (reasons_of log s)
  pub long : so_far.long + count_of skips.TooLong (reasons_of coming s) ≡ count_of skips.TooLong (reasons_of log s)

reasons-more : (coming rest : List LogEntry) (e : LogEntry) (k : Skip) (s : ScenarioView) → coming ≡ e ∷ rest → Err k ≡ effective e s → reasons_of coming s ≡ k ∷ reasons_of rest s
reasons-more coming rest e k s is err = ap (λ es. reasons_of es s) is ∙ rw (sym err) refl

count-more : (k : Skip) (coming rest : List LogEntry) (e : LogEntry) (r : Skip) (s : ScenarioView) → coming ≡ e ∷ rest → Err r ≡ effective e s
    → count_of k (reasons_of coming s) ≡ count_of k (r ∷ []) + count_of k (reasons_of rest s)
count-more k coming rest e r s is err =
    let test : Skip → ℕ = λ x. cond {A = ℕ} (nat_eq (place_of x) (place_of k)) 1 0 in
    let a = ap (count_of k) (reasons-more coming rest e r s is err) in
    let b = sum_by-cons test r (reasons_of rest s) in
    let c = sum_by-cons test r [] in
    omega (arith, a, b, c)

-- where an entry is skipped and its reason counted, the counts so far and those to come still are those of the log
pub counted-more : (old new : Skips) (coming rest log : List LogEntry) (e : LogEntry) (r : Skip) (s : ScenarioView) → Counted old coming log s → coming ≡ e ∷ rest → Err r ≡ effective e s
    → new.size ≡ old.size + count_of skips.NoSize (r ∷ []) → new.run ≡ old.run + count_of skips.NoRun (r ∷ []) → new.large ≡ old.large + count_of skips.TooLarge (r ∷ []) → new.long ≡ old.long + count_of skips.TooLong (r ∷ [])
    → Counted new rest log s
counted-more old new coming rest log e r s h is err a b c d = record {
  size = let m = count-more skips.NoSize coming rest e r s is err in let k = h.size in omega (arith, m, k, a);
  run = let m = count-more skips.NoRun coming rest e r s is err in let k = h.run in omega (arith, m, k, b);
  large = let m = count-more skips.TooLarge coming rest e r s is err in let k = h.large in omega (arith, m, k, c);
  long = let m = count-more skips.TooLong coming rest e r s is err in let k = h.long in omega (arith, m, k, d);
}

skips-made : ℕ → ℕ → ℕ → ℕ → Skips
skips-made a b c d = record { size = a; run = b; large = c; long = d }

skips-alike : (p : Skips) (a b c d : ℕ) → p.size ≡ a → p.run ≡ b → p.large ≡ c → p.long ≡ d → p ≡ skips-made a b c d
unfolding skips-made
skips-alike p a b c d e f g h = ap (λ n. skips-made n p.run p.large p.long) e ∙ ap (λ n. skips-made a n p.large p.long) f ∙ ap (λ n. skips-made a b n p.long) g ∙ ap (skips-made a b c) h

-- where no entry is to come, the counts so far are those of the log
pub counted-all : (so_far : Skips) (coming log : List LogEntry) (s : ScenarioView) → Counted so_far coming log s → coming ≡ [] → so_far ≡ skips_of log s
unfolding skips-made
counted-all so_far coming log s h none =
    let left : (k : Skip) → count_of k (reasons_of coming s) ≡ 0 = λ k. ap (λ es. count_of k (reasons_of es s)) none in
    let a : so_far.size ≡ count_of skips.NoSize (reasons_of log s) = let z = left skips.NoSize in let k = h.size in omega (arith, z, k) in
    let b : so_far.run ≡ count_of skips.NoRun (reasons_of log s) = let z = left skips.NoRun in let k = h.run in omega (arith, z, k) in
    let c : so_far.large ≡ count_of skips.TooLarge (reasons_of log s) = let z = left skips.TooLarge in let k = h.large in omega (arith, z, k) in
    let d : so_far.long ≡ count_of skips.TooLong (reasons_of log s) = let z = left skips.TooLong in let k = h.long in omega (arith, z, k) in
    skips-alike so_far (count_of skips.NoSize (reasons_of log s)) (count_of skips.NoRun (reasons_of log s)) (count_of skips.TooLarge (reasons_of log s)) (count_of skips.TooLong (reasons_of log s)) a b c d

-- counts of zero, and those to come of the whole log, are those of the log
pub counted-first : (log : List LogEntry) (s : ScenarioView) → Counted (record { size = 0; run = 0; large = 0; long = 0 }) log log s
counted-first log s = record { size = omega arith; run = omega arith; large = omega arith; long = omega arith }

-- each count stays below 2 to the power of 32
pub counted-small : (so_far : Skips) (coming log : List LogEntry) (s : ScenarioView) → Counted so_far coming log s → length log ≤ 4194304 → (so_far.size < 2 ^ 32) × (so_far.run < 2 ^ 32) × (so_far.large < 2 ^ 32) × (so_far.long < 2 ^ 32)
counted-small so_far coming log s h few = (
  (let k = h.size in let l = count-fewer skips.NoSize log s in omega (arith, k, l, few)),
  (let k = h.run in let l = count-fewer skips.NoRun log s in omega (arith, k, l, few)),
  (let k = h.large in let l = count-fewer skips.TooLarge log s in omega (arith, k, l, few)),
  (let k = h.long in let l = count-fewer skips.TooLong log s in omega (arith, k, l, few)),
)
