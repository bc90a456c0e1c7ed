use Rattle.std.proofs.Common.{ap, subst, sym}
use Rattle.metrics.specs.Part.{PartSums, IsPartOf}
use Rattle.metrics.proofs.Tallies.{both_few, join_totals_fit, join_users_fit, joins, is_joined_part}
use Rattle.metrics.proofs.Forms.{any_jobs, part_from}
use Rattle.metrics.proofs.part.Part.merge.Goals as goal

pub plus-totals-requires : goal.plus-totals-requires
plus-totals-requires g c = join_totals_fit _ _ c.self.invariant c.other.invariant (both_few c.self.inside.totals c.other.inside.totals c.args.self.now c.args.other.now (ap (λ (v : PartSums). v.totals) c.self.view_is) (ap (λ (v : PartSums). v.totals) c.other.view_is) c.requires)

pub merge-requires-clause-fits : goal.merge-requires-clause-fits
merge-requires-clause-fits g c = λ q. join_users_fit _ _ c.self.invariant c.other.invariant (both_few c.self.inside.totals c.other.inside.totals c.args.self.now c.args.other.now (ap (λ (v : PartSums). v.totals) c.self.view_is) (ap (λ (v : PartSums). v.totals) c.other.view_is) c.requires) q

pub merge-requires-clause-left : goal.merge-requires-clause-left
merge-requires-clause-left g c = c.self.invariant.same.user_list

pub merge-requires-clause-right : goal.merge-requires-clause-right
merge-requires-clause-right g c = c.other.invariant.same.user_list

pub merge-requires-2 : goal.merge-requires-2
merge-requires-2 g c = (c.self.invariant.jobs, c.other.invariant.jobs, (is_joined_part _ _ c.self.invariant c.other.invariant (both_few c.self.inside.totals c.other.inside.totals c.args.self.now c.args.other.now (ap (λ (v : PartSums). v.totals) c.self.view_is) (ap (λ (v : PartSums). v.totals) c.other.view_is) c.requires)), c.self.invariant.same.days, c.other.invariant.same.days)

pub invariant_of-result : goal.invariant_of-result
invariant_of-result g c =
    let a = c.self.invariant in let b = c.other.invariant in record {
      jobs = _;
      limited = is_joined_part _ _ a b (both_few c.self.inside.totals c.other.inside.totals c.args.self.now c.args.other.now (ap (λ (v : PartSums). v.totals) c.self.view_is) (ap (λ (v : PartSums). v.totals) c.other.view_is) c.requires);
      same = joins a.jobs b.jobs _ _ _ a.same b.same c.plus-totals.ensures c.in_ok-users.ensures.list c.in_ok-users.ensures.sums (c.in_ok-days.ensures a.jobs b.jobs a.same.days b.same.days);
    }

pub returns : goal.returns
returns g c = λ xs ys h k.
    let P : PartSums → Type 0 = IsPartOf xs in let Q : PartSums → Type 0 = IsPartOf ys in
    let a = c.self.invariant in let b = c.other.invariant in
    any_jobs a.jobs b.jobs xs ys _ _ _ (part_from a.jobs _ a.same) (part_from b.jobs _ b.same) (subst P (sym c.self.view_is) h) (subst Q (sym c.other.view_is) k)
    (part_from _ _ (joins a.jobs b.jobs _ _ _ a.same b.same c.plus-totals.ensures c.in_ok-users.ensures.list c.in_ok-users.ensures.sums (c.in_ok-days.ensures a.jobs b.jobs a.same.days b.same.days)))
