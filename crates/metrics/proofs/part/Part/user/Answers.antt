use Rattle.std.proofs.Common.{rules, w64, ap, ◌∙◌}
use mir.Val.{SFits}
use Rattle.std.specs.Ordering.{int_cmp}
use Rattle.std.specs.BTreeMap.{is_at}
use Rattle.std.specs.Map.{lookup}
use Rattle.std.proofs.lemmas.Int.{to_z-of_z}
use Rattle.metrics.specs.Part.{PartSums}
use Rattle.metrics.proofs.part.Part.user.Goals as goal

pub returns-clause-value : goal.returns-clause-value
returns-clause-value g c =
    let f : SFits w64 c.args.user = search rules in
    c.at.ensures ∙ rw (to_z-of_z w64 c.args.user f) (ap (λ es. lookup (is_at (int_cmp c.args.user)) es) (ap (λ (v : PartSums). v.users) c.self.view_is))
