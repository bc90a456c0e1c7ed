use Rattle.std.proofs.Common.{refl}
use Rattle.chunks.specs.Groups.{chunk_number, chunks_in}
use Rattle.chunks.proofs.Places.{touched_at}
use Rattle.chunks.proofs.Lists.{parted_for, inside_for, count_for}
use Rattle.chunks.proofs.list.Chunks.without.Goals as goal

pub place_of-place-requires-clause-parted : goal.place_of-place-requires-clause-parted
place_of-place-requires-clause-parted g c =
    parted_for g.T.Keyed.major g.T.Keyed.minor c.args.major c.args.minor c.args.major c.args.minor c.as_slice-old.result.now c.self.inside.groups.items c.args.self.now c.as_slice-old.ensures.value c.self.view_is refl refl c.requires.parted

pub removed-requires-clause-element : goal.removed-requires-clause-element
removed-requires-clause-element g c = record {
  spot = c.place_of-place.ensures.spot;
  inside = c.place_of-place.ensures.inside
      (inside_for g.T.Keyed.major g.T.Keyed.minor c.args.major c.args.minor c.args.major c.args.minor c.as_slice-old.result.now c.self.inside.groups.items c.args.self.now c.as_slice-old.ensures.value c.self.view_is refl refl _ c.place_of-place.ensures.place c.requires.there);
}

pub returns-clause-count : goal.returns-clause-count
returns-clause-count g c =
    let place = c.place_of-place.result in
    let rows = c.as_slice-old.result.now in
    let inside = c.place_of-place.ensures.inside
    (inside_for g.T.Keyed.major g.T.Keyed.minor c.args.major c.args.minor c.args.major c.args.minor rows c.self.inside.groups.items c.args.self.now c.as_slice-old.ensures.value c.self.view_is refl refl _ c.place_of-place.ensures.place c.requires.there) in
    count_for g.T.Keyed.major g.T.Keyed.minor c.args.major c.args.minor c.args.major c.args.minor rows c.self.inside.groups.items c.args.self.now c.as_slice-old.ensures.value c.self.view_is refl refl
    _ _ _ _ c.place_of-place.ensures.place (touched_at (chunk_number place.group place.chunk rows) place.at (chunks_in rows) inside) c.in_ok-groups.ensures.count
