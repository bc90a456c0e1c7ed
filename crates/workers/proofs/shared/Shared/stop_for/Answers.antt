use Rattle.std.proofs.Common.{◌≡◌, true, ap, subst, sym, ◌∙◌}
use mathlib.Core.List.{IsPrefix}
use Rattle.chronicle.specs.Fronts.{Seen}
use Rattle.workers.specs.Settling.{has_stopped}
use Rattle.workers.specs.Tied.{SharedView}
use Rattle.workers.proofs.shared.Shared.stop_for.Goals as goal

pub returns : goal.returns
returns g c = λ kept.
    let follows = c.follow.ensures.0 kept in
    let begins = follows.0 in
    let same = ap (λ (v : SharedView). v.history) c.self.view_is in
    let one = c.is_kept-is_kept.ensures.tied (subst (λ (h : Seen). h.kept ≡ true) same begins.1) in
    let stopped = ap (λ (v : SharedView). v.stopped) c.stop.ensures in
    (begins.0, subst (IsPrefix c.args.front.now.events) (sym follows.1) begins.2, ap has_stopped (follows.1 ∙ ap (λ (h : Seen). h.events) same) ∙ sym one.stopped ∙ stopped)
