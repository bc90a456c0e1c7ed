use Rattle.std.proofs.Common.{subst}
use Rattle.chunks.specs.Chunks.{AreSized}
use Rattle.chunks.proofs.Places.{joining_some}
use Rattle.chunks.proofs.Lists.{parted_for, joining_for}
use Rattle.chunks.proofs.list.Chunks.with.Goals as goal

pub place_of-requires-clause-parted : goal.place_of-requires-clause-parted
place_of-requires-clause-parted g c =
    parted_for g.T.Keyed.major g.T.Keyed.minor c.major.result c.minor.result _ _ c.as_slice-old.result.now c.self.inside.groups.items c.args.self.now c.as_slice-old.ensures.value c.self.view_is c.major.ensures c.minor.ensures c.requires.parted

pub returns-clause-count : goal.returns-clause-count
returns-clause-count g c =
    let place = c.open_place-place.result in
    joining_for g.T.Keyed.major g.T.Keyed.minor c.major.result c.minor.result _ _ c.as_slice-old.result.now c.self.inside.groups.items c.args.self.now c.as_slice-old.ensures.value c.self.view_is c.major.ensures c.minor.ensures
    _ _ _ _ c.place_of.ensures.place c.open_place-place.ensures.touched c.in_ok-groups.ensures.count

pub returns-clause-least : goal.returns-clause-least
returns-clause-least g c = λ some. joining_some _ _ _ c.args.self.now (subst AreSized c.self.view_is c.self.invariant.chunks) some (returns-clause-count g c)
