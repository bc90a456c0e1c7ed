-- How large a number of at most twelve digits is.
use Rattle.std.proofs.Common.{◌≡◌, ℕ, zero, suc, ◌+◌, ◌-◌, ◌^◌, ◌<◌, ◌≤◌, min, List, length, take, subst, sym, arith}
use Rattle.std.proofs.Math.Nat.{pow-succ'}
use Rattle.std.proofs.lemmas.List.{length-take-le}
use Rattle.swf_text.specs.Limits.{whole_limit}

ten_rises : (p k : ℕ) → 10 ^ p ≤ 10 ^ (k + p)
ten_rises p zero = let same : 0 + p ≡ p = omega arith in subst (λ (n : ℕ). 10 ^ p ≤ 10 ^ n) (sym same) (omega arith)
ten_rises p (suc k) = let next : suc k + p ≡ suc (k + p) = omega arith in subst (λ (n : ℕ). 10 ^ p ≤ 10 ^ n) (sym next) (omega (arith, pow-succ' 10 (k + p), ten_rises p k))

ten_twelve : (p : ℕ) → p ≤ 12 → 10 ^ p ≤ whole_limit
ten_twelve p le = let whole : 12 - p + p ≡ 12 = omega arith in subst (λ (n : ℕ). 10 ^ p ≤ 10 ^ n) whole (ten_rises p (12 - p))

-- a number below ten to the power of p is below whole_limit, where p is at most twelve and at most the number of the bytes
pub below : (v p m : ℕ) (bytes : List ℕ) → m ≡ min (length bytes) 12 → p ≤ length (take m bytes) → v < 10 ^ p → v < whole_limit
below v p m bytes is le small = omega (arith, length-take-le m bytes (omega arith), ten_twelve p (omega (arith, length-take-le m bytes (omega arith))))
