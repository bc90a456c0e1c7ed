use Rattle.std.proofs.Common.{refl}
use Rattle.chunks.proofs.Lists.{parted_for}
use Rattle.chunks.proofs.list.Chunks.rest.Goals as goal

pub place_of-requires-clause-parted : goal.place_of-requires-clause-parted
place_of-requires-clause-parted g c =
    parted_for g.T.Keyed.major g.T.Keyed.minor c.args.major c.args.minor c.args.major c.args.minor c.as_slice-groups.result.now c.self.inside.groups.items c.args.self.now c.as_slice-groups.ensures.value c.self.view_is refl refl c.requires
