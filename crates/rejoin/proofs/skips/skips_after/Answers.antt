use Rattle.std.proofs.Common.{ℕ, List, map, arith}
use Rattle.job_table.specs.Edit.{edit_of}
use Rattle.rejoin.proofs.SkipCounts.{counts-after, counts-alike, counts-known, counted-few, skipped-within, still-table}
use Rattle.rejoin.proofs.skips.skips_after.Goals as goal

pub with_all-more-requires : goal.with_all-more-requires
with_all-more-requires g c = λ k.
    let ns : List ℕ = c.in_ok-numbers.numbers.keys in
    let now = still-table c.args.old.now (map edit_of c.args.edits.now) c.args.new.now c.len.ensures.sound c.requires.accepted c.requires.edited in
    let was = counts-known c.args.skips c.args.old.now c.args.scenario.now c.requires.counts k in
    let few = counted-few k c.args.scenario.now c.args.old.now c.len.ensures.sound in
    let within = skipped-within k c.args.scenario.now c.args.new.now ns now c.in_ok-numbers.ensures.rising in
    let fewer = counted-few k c.args.scenario.now c.args.new.now now in
    omega (arith, was, few, within, fewer)

pub without_all-requires : goal.without_all-requires
without_all-requires g c = λ k.
    let ns : List ℕ = c.in_ok-numbers.numbers.keys in
    let was = counts-known c.args.skips c.args.old.now c.args.scenario.now c.requires.counts k in
    let within = skipped-within k c.args.scenario.now c.args.old.now ns c.len.ensures.sound c.in_ok-numbers.ensures.rising in
    omega (arith, was, within, c.with_all-more.ensures k)

pub returns : goal.returns
returns g c = counts-alike c.without_all.result c.args.new.now c.args.scenario.now (λ k.
    let ns : List ℕ = c.in_ok-numbers.numbers.keys in
    let was = counts-known c.args.skips c.args.old.now c.args.scenario.now c.requires.counts k in
    let after = counts-after k c.args.scenario.now c.args.old.now (map edit_of c.args.edits.now) c.args.new.now ns c.len.ensures.sound c.requires.accepted c.requires.edited c.in_ok-numbers.ensures in
    omega (arith, was, after, c.with_all-more.ensures k, c.without_all.ensures k))
