use Rattle.std.proofs.Common.{rules, ◌+◌, ◌≤◌, arith, subst, sym}
use Rattle.waiting_places.specs.Bounds.{FrontierView, AreAsLong, IsPlace, Keeps}
use Rattle.waiting_places.proofs.Corners.{after, put_kept, put_met}
use Rattle.waiting_places.proofs.frontier.Frontier.insert_at.Goals as goal

pub returns-clause-kept : goal.returns-clause-kept
returns-clause-kept c =
    let f : FrontierView = record { stale = c.self.inside.stale; len = c.self.inside.len; corners = c.self.inside.corners } in
    let place = subst (λ (v : FrontierView). IsPlace v c.args.corner.now.size c.args.at) (sym c.self.view_is) c.requires.place in
    let longer = subst (λ (v : FrontierView). AreAsLong v c.args.corner.now.estimate c.args.at c.args.end) (sym c.self.view_is) c.requires.longer in
    let few : f.len + 1 + c.args.at ≤ c.args.end + 64 = omega (arith, c.if-len-gt-CORNERS.false) in
    let by = c.copy_within.ensures.by_index in
    subst (λ (v : FrontierView). Keeps v (after f c.args.corner.now c.args.at c.args.end c.copy_within.new.self)) c.self.view_is (put_kept f c.args.corner.now c.args.at c.args.end place longer (search rules) few c.copy_within.new.self by.1 by.0 c.copy_within.ensures.len)

pub returns-clause-met : goal.returns-clause-met
returns-clause-met c =
    let f : FrontierView = record { stale = c.self.inside.stale; len = c.self.inside.len; corners = c.self.inside.corners } in
    let place = subst (λ (v : FrontierView). IsPlace v c.args.corner.now.size c.args.at) (sym c.self.view_is) c.requires.place in
    let longer = subst (λ (v : FrontierView). AreAsLong v c.args.corner.now.estimate c.args.at c.args.end) (sym c.self.view_is) c.requires.longer in
    let few : f.len + 1 + c.args.at ≤ c.args.end + 64 = omega (arith, c.if-len-gt-CORNERS.false) in
    let by = c.copy_within.ensures.by_index in
    put_met f c.args.corner.now c.args.at c.args.end place longer (search rules) few c.copy_within.new.self by.1 by.0 c.copy_within.ensures.len
