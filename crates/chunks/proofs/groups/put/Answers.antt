use Rattle.std.proofs.lemmas.Result.{on_ok_weaker}
use Rattle.chunks.proofs.Exchanged.{all_put, place_here, sized_put}
use Rattle.chunks.proofs.groups.put.Goals as goal

pub put_in-requires-clause-at : goal.put_in-requires-clause-at
put_in-requires-clause-at g c = place_here c.args.groups.now c.args.place.group c.args.place.chunk c.args.place.at c.requires.element.spot c.requires.element.inside c.index-groups-place.result

pub returns-clause-put : goal.returns-clause-put
returns-clause-put g c =
    on_ok_weaker c.put_in.result
    (all_put c.args.groups.now c.args.place.group c.args.place.chunk c.args.place.at c.requires.element.spot c.requires.element.inside c.index-groups-place.result c.put_in.new.self c.args.item)
    c.put_in.ensures.put

pub returns-clause-sized : goal.returns-clause-sized
returns-clause-sized g c =
    on_ok_weaker c.put_in.result
    (λ put. sized_put c.args.groups.now c.args.place.group c.args.place.chunk c.args.place.at c.requires.element.spot c.requires.element.inside c.index-groups-place.result c.put_in.new.self c.args.item put c.requires.sized)
    c.put_in.ensures.put
