-- The sums over few jobs fit their types.
use Rattle.std.proofs.Common.{ℕ, ℤ, ◌+◌, ◌*◌, ◌^◌, ◌≤◌, List, All, filter, length, sum_by, max, arith}
use Rattle.std.proofs.Math.Nat.{mul-le-mul, div-le_self}
use Rattle.std.proofs.lemmas.List.Sums.{sum_by-le, length-filter, count_by-le-length}
use Rattle.std.proofs.lemmas.List.Elements.{All-filter}
use Rattle.scenarios.specs.declared.placed.Placed.{Placed}
use Rattle.metrics.specs.Measures.{wait, slowdown, busy}
use Rattle.metrics.specs.Placed.{IsPlaced}
use Rattle.metrics.specs.Totals.{totals, FitsJoined}
use Rattle.metrics.specs.Users.{sums_of, is_of, CanAdd}

wait_small : (p : Placed) → IsPlaced p → wait p ≤ 2 ^ 60
wait_small p h = omega arith

length_small : (p : Placed) → IsPlaced p → p.job.length ≤ 2 ^ 60
length_small p h = omega arith

slowdown_small : (p : Placed) → IsPlaced p → slowdown p ≤ 2 ^ 60
slowdown_small p h = let d = div-le_self ((wait p + p.job.length) * 1000) (max p.job.length 10) in omega (arith, d)

-- a job within the limits takes at most 2^60 processor-seconds
pub busy_small : (p : Placed) → IsPlaced p → busy p ≤ 2 ^ 60
busy_small p h = let d : busy p ≤ 16777216 * 100000000 = mul-le-mul h.fits_some h.within_limit in omega (arith, d)

-- a measure that is at most 2^60 for each job within the limits adds up to at most 2^60 times their number
pub small_sum : (f : Placed → ℕ) (ps : List Placed) → ((p : Placed) → IsPlaced p → f p ≤ 2 ^ 60) → All IsPlaced ps → sum_by f ps ≤ length ps * 2 ^ 60
small_sum f ps s h = sum_by-le f (2 ^ 60) ps (λ k d l. s _ (h k d l))

-- the sums over two lists of jobs, no more together than a log may have, fit their types when they are joined
pub totals_fit : (xs ys : List Placed) → All IsPlaced xs → All IsPlaced ys → length xs + length ys ≤ 4194304 → FitsJoined (totals xs) (totals ys)
totals_fit xs ys h k l = record {
  count = omega arith;
  killed = let a = count_by-le-length (λ p. p.job.killed) xs in let b = count_by-le-length (λ p. p.job.killed) ys in omega (arith, a, b);
  wait = let a = small_sum wait xs wait_small h in let b = small_sum wait ys wait_small k in omega (arith, a, b);
  length = let a = small_sum (λ p. p.job.length) xs length_small h in let b = small_sum (λ p. p.job.length) ys length_small k in omega (arith, a, b);
  slowdown = let a = small_sum slowdown xs slowdown_small h in let b = small_sum slowdown ys slowdown_small k in omega (arith, a, b);
  busy = let a = small_sum busy xs busy_small h in let b = small_sum busy ys busy_small k in omega (arith, a, b);
}

own_few : (u : ℤ) (ps : List Placed) → length (filter (is_of u) ps) ≤ length ps
own_few u ps = let a = length-filter (is_of u) ps in let b = count_by-le-length (is_of u) ps in omega (arith, a, b)

-- a user's sums over two lists of jobs, no more together than a log may have, fit their types when they are added
pub sums_fit : (u : ℤ) (xs ys : List Placed) → All IsPlaced xs → All IsPlaced ys → length xs + length ys ≤ 4194304 → CanAdd (sums_of u xs) (sums_of u ys)
sums_fit u xs ys h k l =
    let m = own_few u xs in let n = own_few u ys in
    let i = All-filter (is_of u) IsPlaced xs h in let j = All-filter (is_of u) IsPlaced ys k in
    record {
      count = omega (arith, m, n);
      wait = let a = small_sum wait _ wait_small i in let b = small_sum wait _ wait_small j in omega (arith, a, b, m, n);
      slowdown = let a = small_sum slowdown _ slowdown_small i in let b = small_sum slowdown _ slowdown_small j in omega (arith, a, b, m, n);
      busy = let a = small_sum busy _ busy_small i in let b = small_sum busy _ busy_small j in omega (arith, a, b, m, n);
    }
