use Rattle.std.proofs.Common.{◌≡◌, ℤ, List, ap, length, map, sym, subst, ◌∙◌, rules}
use Rattle.std.proofs.lemmas.Result.{IfOk-weaker}
use Rattle.metrics.specs.declared.users.UserSums.{UserSums}
use Rattle.metrics.specs.Stored.{long_of}
use Rattle.metrics.specs.Users.{CanAdd, IsUserList, plus, user_total}
use Rattle.metrics.proofs.ShortLists.{are_short}
use Rattle.metrics.proofs.stored.merge.Goals as goal

pub merge_short-requires-clause-left : goal.merge_short-requires-clause-left
merge_short-requires-clause-left g c =
    let n : length c.left.inside.others.items ≡ 0 = search rules in
    subst IsUserList (sym (are_short c.as_slice.result.now c.left.inside.short.items c.left.inside.others.items c.args.left.now c.as_slice.ensures.value n c.left.view_is)) c.requires.left

pub merge_short-requires-clause-right : goal.merge_short-requires-clause-right
merge_short-requires-clause-right g c =
    let n : length c.right.inside.others.items ≡ 0 = search rules in
    subst IsUserList (sym (are_short c.as_slice-then-is_empty-2.result.now c.right.inside.short.items c.right.inside.others.items c.args.right.now c.as_slice-then-is_empty-2.ensures.value n c.right.view_is)) c.requires.right

pub returns-in-Some-clause-sums : goal.returns-in-Some-clause-sums
returns-in-Some-clause-sums g c =
    let n : length c.left.inside.others.items ≡ 0 = search rules in
    let m : length c.right.inside.others.items ≡ 0 = search rules in
    let l = are_short c.as_slice.result.now c.left.inside.short.items c.left.inside.others.items c.args.left.now c.as_slice.ensures.value n c.left.view_is in
    let r = are_short c.as_slice-then-is_empty-2.result.now c.right.inside.short.items c.right.inside.others.items c.args.right.now c.as_slice-then-is_empty-2.ensures.value m c.right.view_is in
    let sums = rw c.in-Some.is at c.in_ok-users.ensures.sums in
    IfOk-weaker c.of_short.result _ _ (λ stored same q.
    ap (user_total q) (same ∙ ap (map long_of) c.as_slice-in-Some.ensures.value) ∙ sums q ∙ ap (λ (es : List (ℤ × UserSums)). plus (user_total q es) (user_total q (map long_of c.as_slice-then-is_empty-2.result.now))) l ∙ ap (λ (es : List (ℤ × UserSums)). plus (user_total q c.args.left.now) (user_total q es)) r) c.of_short.ensures

pub merge-requires-clause-fits : goal.merge-requires-clause-fits
merge-requires-clause-fits g c = λ q.
    subst (λ (es : List (ℤ × UserSums)). CanAdd (user_total q es) (user_total q c.as_slice-3.result.now)) (sym (c.as_slice-2.ensures.value ∙ c.in_ok-left.ensures))
    (subst (λ (es : List (ℤ × UserSums)). CanAdd (user_total q c.args.left.now) (user_total q es)) (sym (c.as_slice-3.ensures.value ∙ c.in_ok-right.ensures)) (c.requires.fits q))

pub returns-clause-sums : goal.returns-clause-sums
returns-clause-sums g c =
    IfOk-weaker c.of.result _ _ (λ stored same q.
    ap (user_total q) (same ∙ c.as_slice-4.ensures.value) ∙ c.in_ok-users-2.ensures.sums q ∙ ap (λ (es : List (ℤ × UserSums)). plus (user_total q es) (user_total q c.as_slice-3.result.now)) (c.as_slice-2.ensures.value ∙ c.in_ok-left.ensures) ∙ ap (λ (es : List (ℤ × UserSums)). plus (user_total q c.args.left.now) (user_total q es)) (c.as_slice-3.ensures.value ∙ c.in_ok-right.ensures)) c.of.ensures
