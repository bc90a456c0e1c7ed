use Rattle.std.proofs.Common.{ap, sym, subst, ◌∙◌}
use Rattle.metrics.specs.Users.{IsUserList, user_total}
use Rattle.metrics.proofs.Forms.{part_from}
use Rattle.metrics.proofs.part.Part.of.Goals as goal

pub invariant_of-result : goal.invariant_of-result
invariant_of-result g c =
    let stored = c.in_ok-users.ensures ∙ c.as_slice.ensures.value in
    record {
      jobs = c.args.placed.now;
      limited = c.of_jobs-totals.ensures.limits;
      same = record { totals = c.of_jobs-totals.ensures.value; user_list = subst IsUserList (sym stored) c.in_ok-sums.ensures.list; users = λ q. ap (user_total q) stored ∙ c.in_ok-sums.ensures.sums q; days = c.in_ok-days.ensures };
    }

pub returns : goal.returns
returns g c =
    let stored = c.in_ok-users.ensures ∙ c.as_slice.ensures.value in
    part_from _ _ (record { totals = c.of_jobs-totals.ensures.value; user_list = subst IsUserList (sym stored) c.in_ok-sums.ensures.list; users = λ q. ap (user_total q) stored ∙ c.in_ok-sums.ensures.sums q; days = c.in_ok-days.ensures })
