use Rattle.std.proofs.Common.{List, length, subst, sym}
use Rattle.std.specs.Result.{OnOk}
use Rattle.std.proofs.lemmas.Result.{on_ok_weaker}
use Rattle.chunks.specs.Chunks.{CountsNoneOr}
use Rattle.chunks.specs.Groups.{IsElement, chunk_at, chunk_number, chunks_in}
use Rattle.chunks.proofs.Places.{touched_at}
use Rattle.chunks.proofs.Lists.{parted_for, inside_for, count_for, none_or, none_or_more}
use Rattle.chunks.proofs.list.Chunks.exchange.Goals as goal

pub place_of-place-requires-clause-parted : goal.place_of-place-requires-clause-parted
place_of-place-requires-clause-parted g c =
    parted_for g.T.Keyed.major g.T.Keyed.minor c.major.result c.minor.result _ _ c.as_slice.result.now c.self.inside.groups.items c.args.self.now c.as_slice.ensures.value c.self.view_is c.major.ensures c.minor.ensures c.requires.parted

pub exchange-requires-clause-element : goal.exchange-requires-clause-element
exchange-requires-clause-element g c =
    let place = c.place_of-place.result in
    let rows = c.as_slice.result.now in
    let inside = c.place_of-place.ensures.inside
    (inside_for g.T.Keyed.major g.T.Keyed.minor c.major.result c.minor.result _ _ rows c.self.inside.groups.items c.args.self.now c.as_slice.ensures.value c.self.view_is c.major.ensures c.minor.ensures _ c.place_of-place.ensures.place c.requires.there) in
    subst (λ (gs : List (List (List g.row.T.Denot))). IsElement place.group place.chunk place.at gs) c.as_slice.ensures.value (record { spot = c.place_of-place.ensures.spot; inside = inside })

pub returns-clause-least : goal.returns-clause-least
returns-clause-least g c = on_ok_weaker c.exchange.result (none_or_more _ c.args.count.now c.exchange.new.count) c.exchange.ensures.count

pub returns-clause-count : goal.returns-clause-count
returns-clause-count g c =
    let place = c.place_of-place.result in
    let rows = c.as_slice.result.now in
    let inside = c.place_of-place.ensures.inside
    (inside_for g.T.Keyed.major g.T.Keyed.minor c.major.result c.minor.result _ _ rows c.self.inside.groups.items c.args.self.now c.as_slice.ensures.value c.self.view_is c.major.ensures c.minor.ensures _ c.place_of-place.ensures.place c.requires.there) in
    let counted = subst (λ (gs : List (List (List g.row.T.Denot))). OnOk c.exchange.result (CountsNoneOr (length (chunk_at place.group place.chunk gs)) c.args.count.now c.exchange.new.count)) (sym c.as_slice.ensures.value) c.exchange.ensures.count in
    on_ok_weaker c.exchange.result
    (none_or _ _ c.args.count.now c.exchange.new.count
    (count_for g.T.Keyed.major g.T.Keyed.minor c.major.result c.minor.result _ _ rows c.self.inside.groups.items c.args.self.now c.as_slice.ensures.value c.self.view_is c.major.ensures c.minor.ensures
    _ _ _ _ c.place_of-place.ensures.place (touched_at (chunk_number place.group place.chunk rows) place.at (chunks_in rows) inside)))
    counted
