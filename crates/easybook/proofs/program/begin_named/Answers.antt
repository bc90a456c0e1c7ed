use Rattle.std.proofs.Common.{◌+◌}
use Rattle.easybook.specs.Plain.{log_limit}
use Rattle.easybook.proofs.Beguns.{begun-source, ok-map}
use Rattle.easybook.proofs.program.begin_named.Goals as goal

pub returns-clause-front : goal.returns-clause-front
returns-clause-front g c =
    ok-map _ _ c.begin_front.result (λ b begun. begun-source _ (g.S.Sources.known c.args.sources.now c.args.name.now) (log_limit + 1) b.front b.rest.items c.in_ok-source.ensures begun) c.begin_front.ensures.front
