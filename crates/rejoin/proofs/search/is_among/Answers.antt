use Rattle.std.proofs.Common.{subst}
use Rattle.std.proofs.lemmas.Bool.{eqb-true, eq-eqb}
use Rattle.rejoin.specs.Search.{IsLeastFrom}
use Rattle.rejoin.proofs.Finding.{among-none, among-some}
use Rattle.rejoin.proofs.search.is_among.Goals as goal

pub returns-in-None : goal.returns-in-None
returns-in-None c = among-none c.args.numbers.now c.args.number (subst (IsLeastFrom c.args.numbers.now c.args.number) c.in-None.is c.least_from.ensures)

pub returns-in-Some : goal.returns-in-Some
returns-in-Some c =
    among-some c.args.numbers.now c.args.number c.in-Some.least _ (subst (IsLeastFrom c.args.numbers.now c.args.number) c.in-Some.is c.least_from.ensures) (eqb-true c.in-Some.least c.args.number, eq-eqb c.in-Some.least c.args.number)
