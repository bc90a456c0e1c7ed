use Rattle.std.proofs.Common.{◌⊎◌, inl, inr, ◌≤◌, arith, length, sym}
use Rattle.metrics.proofs.Merges.{merged_left, merged_right, merged_both, merged_all}
use Rattle.metrics.proofs.entries.merge.Goals.{then-both-test+else-j-right, else-both-test}
use Rattle.metrics.proofs.entries.merge.Goals as goal

pub both-preserved-in-Less : goal.both-preserved-in-Less
both-preserved-in-Less g c = record {
  left = omega (arith, c.both-test.true);
  right = c.both.invariant.right;
  merged = merged_left c.args.left.now c.args.right.now c.both.entries.items c.push.new.self.items c.both.i c.both.j c.index-left-i.result c.index-right-j.result c.both-test.true c.if-j-right.true c.index-left-i.is c.index-right-j.is c.both.invariant.merged (sym c.in-Less.ensures) c.in_ok-push-in-Less.ensures.items;
}

pub both-preserved-in-Greater : goal.both-preserved-in-Greater
both-preserved-in-Greater g c = record {
  left = c.both.invariant.left;
  right = omega (arith, c.if-j-right.true);
  merged = merged_right c.args.left.now c.args.right.now c.both.entries.items c.push-in-Greater.new.self.items c.both.i c.both.j c.index-left-i.result c.index-right-j.result c.both-test.true c.if-j-right.true c.index-left-i.is c.index-right-j.is c.both.invariant.merged (sym c.in-Greater.ensures) c.in_ok-push-in-Greater.ensures.items;
}

pub both-preserved : goal.both-preserved
both-preserved g c = record {
  left = omega (arith, c.both-test.true);
  right = omega (arith, c.if-j-right.true);
  merged = merged_both c.args.left.now c.args.right.now c.both.entries.items c.push-in-Equal.new.self.items c.both.i c.both.j c.index-left-i.result c.index-right-j.result c.both-test.true c.if-j-right.true c.index-left-i.is c.index-right-j.is c.both.invariant.merged c.in-Some.sum (sym c.in-Equal.ensures) c.in-Some.ensures c.in_ok-push-in-Equal.ensures.items;
}

pub returns-clause-some : goal.returns-clause-some
returns-clause-some g c =
    let end : (length c.args.left.now ≤ c.both.i) ⊎ (length c.args.right.now ≤ c.both.j) = elim c.both-test.branch [
      | then-both-test+else-j-right w ↦ inr (omega (arith, w.if-j-right.false))
      | else-both-test w ↦ inl (omega (arith, w.both-test.false))
    ] in
    merged_all c.args.left.now c.args.right.now c.both.entries.items c.extend_from_slice-2.new.self.items c.both.i c.both.j c.extend_from_slice.new.self.items end c.in_ok-extend_from_slice.ensures.items c.in_ok-extend_from_slice-2.ensures.items c.both.invariant.merged
