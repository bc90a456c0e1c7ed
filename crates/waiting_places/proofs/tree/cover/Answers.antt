use Rattle.std.proofs.Common.{◌≡◌, ◌+◌, ◌-◌, ◌*◌, ◌/◌, ◌≤◌, length, arith}
use Rattle.waiting_places.proofs.Grown.{now_covered}
use Rattle.waiting_places.proofs.tree.cover.Goals as goal

pub returns-clause-tree : goal.returns-clause-tree
returns-clause-tree g c some =
    let places = c.args.places.now in
    let nodes = c.args.nodes.now in
    let there : 1 ≤ length nodes = omega (arith, some, c.lower.ensures.len) in
    let whole : length places ≡ 64 * (length places / 64) = omega (arith, c.if-places-ne0.false) in
    let e : length places - 64 + 64 ≡ length places = omega (arith, whole, c.requires.some) in
    now_covered g.T.Waits.size g.T.Waits.estimate nodes places c.requires.some (c.requires.capacity there) (c.requires.tree there) (length places - 64) c.set.new.self c.lower.new.nodes whole e c.set.ensures c.lower.ensures.len c.lower.ensures.kept c.lower.ensures.met
