use Rattle.std.proofs.Common.{rules, ◌≡◌, ◌++◌, ◌∷◌, []}
use Rattle.std.specs.Prelude.{Err}
use Rattle.std.specs.Option.{option_map}
use Rattle.book_machine.specs.declared.caller.Caller.TheVariants as caller
use Rattle.book_machine.specs.Call.{Claim}
use Rattle.book_machine.specs.declared.reply.Reply.TheVariants as reply
use Rattle.workers.specs.Lists.{listed_view}
use Rattle.workers.proofs.Ending.{works_round}
use Rattle.workers.proofs.Works.{goes_on, on_stays, through_stays}
use Rattle.workers.proofs.worker.Worker.round.Goals as goal

pub returns-clause-on : goal.returns-clause-on
returns-clause-on g c =
    let t = c.in_ok-task.task in
    let is : c.claim.new.self.list ≡ c.args.self.now.list ++ listed_view Claim (reply.Claimed t.ticket t.id t.version (option_map (λ b. b.version) t.base)) ∷ [] = search rules in
    (goes_on _ _ _ t.ticket t.id t.version _ _ is c.work.ensures.list).0

pub returns-clause-through : goal.returns-clause-through
returns-clause-through g c =
    let t = c.in_ok-task.task in
    let is : c.claim.new.self.list ≡ c.args.self.now.list ++ listed_view Claim (reply.Claimed t.ticket t.id t.version (option_map (λ b. b.version) t.base)) ∷ [] = search rules in
    (goes_on _ _ _ t.ticket t.id t.version _ _ is c.work.ensures.list).1

pub returns-clause-stopped : goal.returns-clause-stopped
returns-clause-stopped g c =
    let t = c.in_ok-task.task in
    let is : c.claim.new.self.list ≡ c.args.self.now.list ++ listed_view Claim (reply.Claimed t.ticket t.id t.version (option_map (λ b. b.version) t.base)) ∷ [] = search rules in
    (goes_on _ _ _ t.ticket t.id t.version _ _ is c.work.ensures.list).2

pub returns-in_err-task-clause-on : goal.returns-in_err-task-clause-on
returns-in_err-task-clause-on g c = on_stays _ _ (search rules)

pub returns-in_err-task-clause-stopped : goal.returns-in_err-task-clause-stopped
returns-in_err-task-clause-stopped g c = λ e. through_stays _ _ (search rules)

pub returns-clause-history : goal.returns-clause-history
returns-clause-history g c =
    works_round g.J.Naming.opening c.args.self.now.front c.claim.new.self.front c.work.new.self.front (caller.Worker c.args.self.now.number) c.in_ok-task.task c.work.result c.in_ok-task.ensures.history c.work.ensures.history

pub returns-in_err-task-clause-history : goal.returns-in_err-task-clause-history
returns-in_err-task-clause-history g c =
    let e : c.from_residual.result ≡ Err c.in_err-task.field-0.0 = search rules in
    rw e c.in_err-task.ensures.history
