-- Short entries and the long ones that they stand for.
use Rattle.std.proofs.Common.{◌≡◌, ℤ, List, [], ◌∷◌, ◌++◌, length, map, ap, sym, ◌∙◌, arith}
use Rattle.std.specs.Ordering.{int_cmp}
use Rattle.std.proofs.lemmas.List.{append-nil}
use Rattle.metrics.specs.declared.stored.ShortSums.{ShortSums}
use Rattle.metrics.specs.declared.users.UserSums.{UserSums}
use Rattle.metrics.specs.Entries.{IsMerge, no_left, no_right, from_left, from_right, from_both}
use Rattle.metrics.specs.Stored.{long, long_of}
use Rattle.metrics.specs.Users.{plus}
use Rattle.metrics.proofs.UserLists.{Adds}

abbrev AddsShort : ShortSums → ShortSums → ShortSums → Type 0
AddsShort a b c = long c ≡ plus (long a) (long b)

-- what short entries stand for, once they are merged, is a merge of what both lists stand for
pub long_merge : {l r es : List (ℤ × ShortSums)} → IsMerge int_cmp AddsShort l r es → IsMerge int_cmp Adds (map long_of l) (map long_of r) (map long_of es)
long_merge (no_left r) = no_left (map long_of r)
long_merge (no_right l) = no_right (map long_of l)
long_merge (from_left x y l r es low m) = from_left (long_of x) (long_of y) (map long_of l) (map long_of r) (map long_of es) low (long_merge m)
long_merge (from_right x y l r es high m) = from_right (long_of x) (long_of y) (map long_of l) (map long_of r) (map long_of es) high (long_merge m)
long_merge (from_both x y s l r es same add m) = from_both (long_of x) (long_of y) (long s) (map long_of l) (map long_of r) (map long_of es) same add (long_merge m)

-- where no entries stand behind the short ones, these are all
pub are_short : (ds ss : List (ℤ × ShortSums)) (es all : List (ℤ × UserSums)) → ds ≡ ss → length es ≡ 0 → map long_of ss ++ es ≡ all → map long_of ds ≡ all
are_short ds ss [] all e n is = ap (map long_of) e ∙ sym (append-nil (map long_of ss)) ∙ is
are_short ds ss (x ∷ es) all e n is = absurd (omega (arith, n))
