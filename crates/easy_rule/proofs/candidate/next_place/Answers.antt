use Rattle.easy_rule.proofs.CandidateLemmas.{offer-first}
use Rattle.easy_rule.proofs.candidate.next_place.Goals as goal

pub returns-clause-first : goal.returns-clause-first
returns-clause-first g c =
    offer-first c.args.cluster.now c.args.now c.free.result c.args.shadow c.offer-offer.result c.args.from c.next_fit.result c.free.ensures.sound c.next_fit.ensures.candidates c.free.ensures.free c.offer-offer.ensures c.next_fit.ensures.first
