use Rattle.std.proofs.Common.{ℤ, List, rules, w64, ap, sym, subst, ◌∙◌}
use mir.Val.{SFits}
use Rattle.std.specs.Ordering.{int_cmp}
use Rattle.std.specs.BTreeMap.{is_at}
use Rattle.std.specs.Map.{keys_of, lookup}
use Rattle.std.specs.List.Sorted.{IsStrictlySortedBy}
use Rattle.std.proofs.lemmas.Int.{to_z-of_z}
use Rattle.metrics.specs.declared.users.UserSums.{UserSums}
use Rattle.metrics.specs.declared.stored.ShortSums.{ShortSums}
use Rattle.metrics.proofs.Storing.{rises_short, rises_others, at_short, at_other}
use Rattle.metrics.proofs.stored.Stored.at.Goals as goal

pub short_at-requires : goal.short_at-requires
short_at-requires g c = subst (λ (es : List (ℤ × ShortSums)). IsStrictlySortedBy int_cmp (keys_of es)) (sym c.as_slice.ensures.value) (rises_short c.self.inside.short.items c.self.inside.others.items (subst (λ (es : List (ℤ × UserSums)). IsStrictlySortedBy int_cmp (keys_of es)) (sym c.self.view_is) c.requires))

pub sums_at-requires : goal.sums_at-requires
sums_at-requires g c = subst (λ (es : List (ℤ × UserSums)). IsStrictlySortedBy int_cmp (keys_of es)) (sym c.as_slice-in-None.ensures.value) (rises_others c.self.inside.short.items c.self.inside.others.items (subst (λ (es : List (ℤ × UserSums)). IsStrictlySortedBy int_cmp (keys_of es)) (sym c.self.view_is) c.requires))

pub returns-in-Some : goal.returns-in-Some
returns-in-Some g c =
    let f : SFits w64 c.args.user = search rules in
    let at = rw (to_z-of_z w64 c.args.user f) at c.in-Some.ensures in
    at_short (is_at (int_cmp c.args.user)) c.self.inside.short.items c.self.inside.others.items _ c.in-Some.sums _ c.self.view_is (at ∙ ap (λ (es : List (ℤ × ShortSums)). lookup (is_at (int_cmp c.args.user)) es) c.as_slice.ensures.value) c.long.ensures

pub returns-in-None : goal.returns-in-None
returns-in-None g c =
    let f : SFits w64 c.args.user = search rules in
    let none = rw (to_z-of_z w64 c.args.user f) at c.in-None.ensures in
    let same = rw (to_z-of_z w64 c.args.user f) at c.sums_at.ensures in
    at_other (is_at (int_cmp c.args.user)) c.self.inside.short.items c.self.inside.others.items _ _ c.self.view_is (none ∙ ap (λ (es : List (ℤ × ShortSums)). lookup (is_at (int_cmp c.args.user)) es) c.as_slice.ensures.value) (same ∙ ap (λ (es : List (ℤ × UserSums)). lookup (is_at (int_cmp c.args.user)) es) c.as_slice-in-None.ensures.value)
