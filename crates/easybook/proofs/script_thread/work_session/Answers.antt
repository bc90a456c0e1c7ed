use Rattle.std.proofs.Common.{rules, ◌≡◌, Some, map, sym}
use Rattle.std.specs.Prelude.{slice_get}
use Rattle.easybook.proofs.Histories.{worked_new}
use Rattle.easybook.proofs.script_thread.work_session.Goals as goal

pub invariant_of-result : goal.invariant_of-result
invariant_of-result g c =
    let is : slice_get g.J.Works.scripts c.args.session.number ≡ Some c.in_ok-script.script.now = search rules in
    worked_new g.row.A.Denot g.J.Naming.opening g.J.Works.comments g.J.Works.scripts (map (λ k. k.items) c.comments-comments.result.now) c.args.session c.work_script.new.analyst c.analyst.inside.session c.in_ok-script.script.now c.new-text.result.items c.work_script.new.text.items c.requires is c.comments-comments.ensures c.new-text.ensures.items (sym c.analyst.view_is) c.in-Ok.ensures
