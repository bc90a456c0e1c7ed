use Rattle.std.proofs.Common.{◌+◌}
use Rattle.easybook.proofs.Beguns.{limited, under}
use Rattle.easybook.proofs.input.begin_front.Goals as goal

pub returns-clause-front : goal.returns-clause-front
returns-clause-front g c =
    let p = c.in_ok-begun.begun.front in
    let rest = c.read_rest.new.rest in
    let behind = limited g.R.Read.remaining c.take-reader.result.inner c.args.reader c.take-reader.result.limit (c.args.limit + 1) _ p c.in_ok-begun.begun.rest.items c.take-reader.ensures.inner c.take-reader.ensures.limit c.in_ok-begun.ensures.read in
    under (g.R.Read.remaining c.args.reader) _ (c.args.limit + 1) p c.in_ok-begun.begun.rest.items rest.items behind c.in_ok-read_rest.ensures.whole
