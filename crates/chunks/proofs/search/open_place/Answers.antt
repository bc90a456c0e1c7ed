use Rattle.std.proofs.Common.{◌≡◌, arith, length, sym, ◌∙◌}
use Rattle.std.proofs.lemmas.Bool.Decides.{nat_tests}
use Rattle.chunks.specs.Groups.{chunk_number, chunks_in, place_at}
use Rattle.chunks.proofs.Places.{touched_at, touched_last, touched_none}
use Rattle.chunks.proofs.Grouped.{behind_is, none_in}
use Rattle.chunks.proofs.search.open_place.Goals.{then-place-groups-via-then-place-groups, then-place-groups-via-else-place-groups+then-is_empty}
use Rattle.chunks.proofs.search.open_place.Goals as goal

pub returns-then-place-groups-clause-touched : goal.returns-then-place-groups-clause-touched
returns-then-place-groups-clause-touched g c =
    let place = c.args.place in
    let groups = c.args.groups.now in
    let chunk = chunk_number place.group place.chunk groups in
    elim c.then-place-groups.branch [
      | then-place-groups-via-then-place-groups w ↦ touched_at chunk place.at (chunks_in groups) (c.requires.there w.if-place-groups.true)
      | then-place-groups-via-else-place-groups+then-is_empty w ↦ touched_none chunk (place_at place.group place.chunk place.at groups) (chunks_in groups) (none_in groups (grind (arith, nat_tests, w.if-is_empty.ensures)))
    ]

pub returns-clause-touched : goal.returns-clause-touched
returns-clause-touched g c =
    let place = c.args.place in
    let last = c.last_place.result in
    let groups = c.args.groups.now in
    let whole : chunk_number place.group place.chunk groups ≡ length (chunks_in groups) = behind_is groups place.group place.chunk (omega (arith, c.if-place-groups.false)) c.requires.spot.chunk in
    touched_last (chunk_number place.group place.chunk groups) place.at (chunk_number last.group last.chunk groups) (chunks_in groups) whole (c.last_place.ensures.last ∙ sym whole) c.requires.within
