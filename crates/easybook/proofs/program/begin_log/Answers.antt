use Rattle.std.proofs.Common.{Bor, List, ℕ, Option, IfErr, IfOk, arith, subst, sym}
use Rattle.std.proofs.lemmas.Result.{IfErr-weaker}
use Rattle.std.specs.Option.{option_map}
use Rattle.easybook.specs.Input.{IsInputFault, IsReadFault}
use Rattle.easybook.specs.Plain.{log_limit}
use Rattle.easybook.specs.Program.{IsBegunLog, input_limit, log_known}
use Rattle.easybook.proofs.Besides.{begun-file, begun-whole}
use Rattle.easybook.proofs.Beguns.{ok-map}
use Rattle.easybook.proofs.Inputs.{lower_limit, unread_input}
use Rattle.easybook.proofs.program.begin_log.Goals as goal

pub returns-in-Some-clause-front : goal.returns-in-Some-clause-front
returns-in-Some-clause-front g c =
    subst (λ (o : Option (Bor (List ℕ))). IfOk c.begin_named.result (λ b. IsBegunLog (log_known (g.S.Sources.known c.args.sources.now) (option_map (λ n. n.now) o) (g.R.Read.remaining c.args.reader)) b.front b.rest.items)) (sym c.in-Some.is)
    (ok-map _ _ c.begin_named.result (λ b begun. begun-file (g.S.Sources.known c.args.sources.now c.in-Some.name.now) b.front b.rest.items begun) c.begin_named.ensures.front)

pub returns-in-None-clause-front : goal.returns-in-None-clause-front
returns-in-None-clause-front g c =
    subst (λ (o : Option (Bor (List ℕ))). IfOk c.begin_input.result (λ b. IsBegunLog (log_known (g.S.Sources.known c.args.sources.now) (option_map (λ n. n.now) o) (g.R.Read.remaining c.args.reader)) b.front b.rest.items)) (sym c.in-None.is)
    (ok-map _ _ c.begin_input.result (λ b begun. begun-whole _ (g.R.Read.remaining c.args.reader) b.front b.rest.items begun) c.begin_input.ensures.whole)

pub returns-in-Some-clause-fault : goal.returns-in-Some-clause-fault
returns-in-Some-clause-fault g c =
    let known = log_known (g.S.Sources.known c.args.sources.now) (option_map (λ n. n.now) c.args.name) (g.R.Read.remaining c.args.reader) in
    IfErr-weaker c.begin_named.result IsReadFault (IsInputFault known log_limit) (unread_input known log_limit) c.begin_named.ensures.fault

pub returns-in-None-clause-fault : goal.returns-in-None-clause-fault
returns-in-None-clause-fault g c =
    let known = g.R.Read.remaining c.args.reader in
    subst (λ (o : Option (Bor (List ℕ))). IfErr c.begin_input.result (IsInputFault (log_known (g.S.Sources.known c.args.sources.now) (option_map (λ n. n.now) o) known) log_limit)) (sym c.in-None.is)
    (IfErr-weaker c.begin_input.result (IsInputFault known input_limit) (IsInputFault known log_limit) (λ fault h. lower_limit known log_limit input_limit fault (omega arith) h) c.begin_input.ensures.fault)
