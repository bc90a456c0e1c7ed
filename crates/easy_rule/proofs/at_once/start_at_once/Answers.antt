use Rattle.std.proofs.Common.{◌≡◌, ◌+◌, ◌≤◌, ◌∙◌, [], ◌∷◌, ap, arith, rules}
use Rattle.cluster_state.specs.State.{State, arrived, started}
use Rattle.easy_rule.proofs.AtOnceLemmas.{nobody-has, only-one, only-decides, only-leaves}
use Rattle.easy_rule.proofs.at_once.start_at_once.Goals as goal

pub start_arriving-requires-clause-absent : goal.start_arriving-requires-clause-absent
start_arriving-requires-clause-absent g c = rw c.reserve_starts.ensures.state (nobody-has c.args.cluster.now.state c.args.job c.requires.sound)

pub start_arriving-requires-clause-fits : goal.start_arriving-requires-clause-fits
start_arriving-requires-clause-fits g c =
    let only = only-one c.args.cluster.now.state c.args.now c.args.last_shadow c.args.job c.requires.sound c.requires.starts c.requires.settled in
    rw c.reserve_starts.ensures.state only.fits

pub returns-clause-ok : goal.returns-clause-ok
returns-clause-ok g c =
    let old = c.args.cluster.now in
    let new = c.start_arriving.new.self in
    let job = c.args.job in
    let now = c.args.now in
    let only = only-one old.state now c.args.last_shadow job c.requires.sound c.requires.starts c.requires.settled in
    let spare : old.spare ≤ new.spare + 1 = let k = c.reserve_starts.ensures.kept in let s = c.start_arriving.ensures.spare in omega (arith, k, s) in
    let items : c.push.new.self.items ≡ job ∷ [] = search rules in
    only-decides old new now _ job c.push.new.self.items c.requires.sound only (c.start_arriving.ensures.state ∙ ap (λ (z : State). started (arrived z job) job now) c.reserve_starts.ensures.state) spare items

pub returns-clause-shadow : goal.returns-clause-shadow
returns-clause-shadow g c =
    let old = c.args.cluster.now in
    let job = c.args.job in
    let now = c.args.now in
    let only = only-one old.state now c.args.last_shadow job c.requires.sound c.requires.starts c.requires.settled in
    only-leaves old.state c.start_arriving.new.self.state now c.args.last_shadow c.left_at_once.result job only (c.start_arriving.ensures.state ∙ ap (λ (z : State). started (arrived z job) job now) c.reserve_starts.ensures.state) c.left_at_once.ensures
