use Rattle.std.proofs.Common.{refl}
use Rattle.std.specs.Prelude.{None, Some}
use Rattle.workers.proofs.Closed.{against, outcome_in, stand_in}
use Rattle.workers.proofs.closing.closed.Goals as goal

pub returns-in-None-clause-all : goal.returns-in-None-clause-all
returns-in-None-clause-all g c =
    let both = against c.args.shared.history c.deref.result.now c.args.sessions.items c.deref-2.result.now c.args.workers.items c.fault_of.result None c.deref.ensures.value c.deref-2.ensures.value c.in-None.is c.fault_of.ensures in
    both.0

pub returns-in-None-clause-outcome : goal.returns-in-None-clause-outcome
returns-in-None-clause-outcome g c =
    let both = against c.args.shared.history c.deref.result.now c.args.sessions.items c.deref-2.result.now c.args.workers.items c.fault_of.result None c.deref.ensures.value c.deref-2.ensures.value c.in-None.is c.fault_of.ensures in
    rw c.into_book.ensures.value (outcome_in g.J.Naming.opening c.args.opening c.args.shared.book c.args.shared.history c.args.shared.sessions c.args.shared.workers c.args.shared.stopped c.args.sessions.items c.args.workers.items c.requires c.is_kept-is_kept.ensures.tied both.1)

pub returns-in-None-clause-history : goal.returns-in-None-clause-history
returns-in-None-clause-history g c =
    let both = against c.args.shared.history c.deref.result.now c.args.sessions.items c.deref-2.result.now c.args.workers.items c.fault_of.result None c.deref.ensures.value c.deref-2.ensures.value c.in-None.is c.fault_of.ensures in
    rw c.into_book.ensures.value (stand_in g.J.Naming.opening c.args.opening c.args.shared.book c.args.shared.history c.args.shared.sessions c.args.shared.workers c.args.shared.stopped c.args.sessions.items c.args.workers.items c.requires c.is_kept-is_kept.ensures.tied c.is_kept-is_kept.ensures.legal both.0 both.1)

pub returns-in-Some-clause-fault : goal.returns-in-Some-clause-fault
returns-in-Some-clause-fault g c = (c.args.shared.history, refl, against c.args.shared.history c.deref.result.now c.args.sessions.items c.deref-2.result.now c.args.workers.items c.fault_of.result (Some c.in-Some.fault) c.deref.ensures.value c.deref-2.ensures.value c.in-Some.is c.fault_of.ensures)
