use Rattle.easybook.proofs.Alongs.{outcome_by}
use Rattle.easybook.proofs.desk_session.DeskSessionAnalyst.settle.Goals as goal

pub returns : goal.returns
returns g c = outcome_by g.J.Naming.opening c.self.inside.session c.args.self.now c.settle.new.self c.settle.result c.state_of.result c.self.view_is c.state_of.ensures c.settle.ensures.history c.settle.ensures.same
