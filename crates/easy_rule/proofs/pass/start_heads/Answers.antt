use Rattle.easy_rule.proofs.Begun.{begun-more, head-next, next-shorter, capacity-then}
use Rattle.easy_rule.proofs.pass.start_heads.Goals as goal

pub heads-smaller : goal.heads-smaller
heads-smaller g c =
    let s = c.heads.cluster.state in
    let e = head-next s c.args.now c.in-Some.head c.in-Some.ensures.head c.in-Some.ensures.fits in
    next-shorter s c.start_head.new.self.state c.args.now c.in-Some.head c.heads-test.ensures.sound e c.in-Some.ensures.state

pub heads-preserved : goal.heads-preserved
heads-preserved g c =
    let v = c.heads.cluster in
    let d = c.start_head.new.self in
    let now = c.args.now in
    let head = c.in-Some.head in
    let h = c.heads-test.ensures.sound in
    let e = head-next v.state now head c.in-Some.ensures.head c.in-Some.ensures.fits in
    let is = c.in-Some.ensures.state in
    record {
      begun = begun-more c.args.cluster.now v d now c.heads.chosen.items c.push.new.self.items head h e is c.start_head.ensures.spare c.in-Ok.ensures.items c.heads.invariant.begun;
      capacity = capacity-then v d now _ _ _ _ head h e c.heads.invariant.capacity is c.start_head.ensures.spare c.in-Ok.ensures.len c.push.ensures.capacity;
    }
