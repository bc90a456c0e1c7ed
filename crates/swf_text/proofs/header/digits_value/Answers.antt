use Rattle.std.proofs.Common.{◌≤◌, ◌<◌, ◌^◌, arith}
use Rattle.std.proofs.Math.Nat.{pow-le-pow_right}
use Rattle.swf_text.proofs.header.digits_value.Goals as goal

pub overflow_mul-value : goal.overflow_mul-value
overflow_mul-value c =
    let few : c.loop-byte.byte-index ≤ 17 = omega arith in
    let some : 0 < 10 = omega arith in
    let top : 10 ^ c.loop-byte.byte-index ≤ 10 ^ 17 = pow-le-pow_right {n = 10} some few in
    omega (arith, top, c.loop-byte.invariant.small)

pub overflow_add-value : goal.overflow_add-value
overflow_add-value c =
    let few : c.loop-byte.byte-index ≤ 17 = omega arith in
    let some : 0 < 10 = omega arith in
    let top : 10 ^ c.loop-byte.byte-index ≤ 10 ^ 17 = pow-le-pow_right {n = 10} some few in
    omega (arith, top, c.loop-byte.invariant.small)
