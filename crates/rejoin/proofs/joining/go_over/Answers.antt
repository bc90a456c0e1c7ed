use Rattle.std.proofs.Common.{◌≡◌, length, arith}
use Rattle.rejoin.proofs.joining.go_over.Goals as goal

pub finish-requires-clause-last : goal.finish-requires-clause-last
finish-requires-clause-last g c =
    let count = c.len-at-end.ensures.count in
    let within = c.loop-at.auto.at-end in
    let past = c.loop-at-test.false in
    let last : c.loop-at.at ≡ length c.args.change.now.old = omega (arith, count, within, past) in
    rw last at c.loop-at.invariant
