use Rattle.std.proofs.Common.{◌∷◌, [], ◌++◌, ◌∙◌, List, ap}
use Rattle.scenarios.specs.Job.{EffectiveJob}
use Rattle.cluster_state.specs.Capacities.{QueueView}
use Rattle.cluster_state.proofs.PlaceLemmas.{waiting-push}
use Rattle.cluster_state.proofs.queue.Queue.push.Goals as goal

pub returns-in_ok-reserve-in-Arrival-clause-ok : goal.returns-in_ok-reserve-in-Arrival-clause-ok
returns-in_ok-reserve-in-Arrival-clause-ok g c =
    waiting-push c.reserve.new.self.places c.push.new.self.places c.args.job c.push.ensures.places ∙ ap (λ (l : List EffectiveJob). l ++ c.args.job ∷ []) c.reserve.ensures.waiting
    ∙ ap (λ (v : QueueView). v.jobs ++ c.args.job ∷ []) c.self.view_is
