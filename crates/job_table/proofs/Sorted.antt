-- The log of a collection, and a sort of it.
use Rattle.std.proofs.Common.{◌≡◌, ℕ, ◌+◌, List, [], ◌∷◌, Bool, true, false, cond, nat_lt, ◌==◌, ◌||◌, ◌&&◌, get_or, refl, sym, subst, ◌∙◌, arith}
use Rattle.std.specs.Ordering.{nat_cmp, ordering_then, is_lt}
use Rattle.std.specs.declared.cmp.Ordering.TheVariants.{Less, Equal, Greater}
use Rattle.std.specs.List.{AllByRecursion}
use Rattle.std.specs.List.Sorted.{IsPermutation, IsSortedByKey}
use Rattle.std.proofs.lemmas.List.Sorted.{length_permutation}
use Rattle.swf_text.specs.Entry.{LogEntry, IsEntry, submit_of, number_of_entry}
use Rattle.swf_text.specs.Log.{IsLog, log_of}
use Rattle.job_table.specs.Table.{IsTable}
use Rattle.job_table.proofs.Arrangement.{comes, Climbs, Climbs-adjacent, Rises-Climbs, numbered-permutation, arrangement-unique}
use Rattle.job_table.proofs.LogOrder.{log_of-permutes, log_of-rises}
use Rattle.job_table.proofs.Keyed.{arranged}
use Rattle.job_table.proofs.Tables.{log-counted, table-from, Apart-counted, all-placed, arranged-is}

-- the submit second and the job number of an entry
abbrev pub key : LogEntry → ℕ × ℕ
key e = (submit_of e, number_of_entry e)

all-arranged : (P : LogEntry → Type 0) (es : List LogEntry) → AllByRecursion P es → AllByRecursion P (arranged submit_of number_of_entry es)
all-arranged P [] a = tt
all-arranged P (e ∷ es) a = all-placed submit_of number_of_entry P e (arranged submit_of number_of_entry es) a.0 (all-arranged P es a.1)

-- the log of entries that may stand together is a table
pub log-table : (es : List LogEntry) → IsLog es → IsTable (log_of es)
log-table es l =
    table-from (log_of es) (subst (AllByRecursion IsEntry) (arranged-is es) (all-arranged IsEntry es l.sound))
    (Apart-counted submit_of number_of_entry (log_of es) (λ n. omega (arith, log-counted es l n, numbered-permutation number_of_entry es (log_of es) (log_of-permutes es) n)))
    (let same = length_permutation es (log_of es) (log_of-permutes es) in omega (arith, same, l.capacity))
    (log_of-rises es (log-counted es l))

-- the order that the code sorts by
pub lt-comes : (a b c d : ℕ) → is_lt (ordering_then (nat_cmp a c) (nat_cmp b d)) ≡ comes a b c d
lt-comes a b c d = go (nat_lt a c) (a == c)
  where
    last : (x y : Bool) → is_lt (cond x Less (cond y Equal Greater)) ≡ x
    last true y = refl
    last false true = refl
    last false false = refl

    go : (x y : Bool) → is_lt (ordering_then (cond x Less (cond y Equal Greater)) (nat_cmp b d)) ≡ (x || (y && nat_lt b d))
    go true y = refl
    go false true = last (nat_lt b d) (b == d)
    go false false = refl

Climbs-sorted : (es : List LogEntry) → IsSortedByKey key (λ x y. ordering_then (nat_cmp x.0 y.0) (nat_cmp x.1 y.1)) es → Climbs submit_of number_of_entry es
Climbs-sorted es h = Climbs-adjacent submit_of number_of_entry es (λ k d l. sym (lt-comes (submit_of (get_or es (k + 1) d)) (number_of_entry (get_or es (k + 1) d)) (submit_of (get_or es k d)) (number_of_entry (get_or es k d))) ∙ h k d (omega arith) l)

-- sorted, a collection with distinct numbers is its log
pub sorted-is : (es sorted : List LogEntry) → IsLog es → IsPermutation es sorted → IsSortedByKey key (λ x y. ordering_then (nat_cmp x.0 y.0) (nat_cmp x.1 y.1)) sorted → sorted ≡ log_of es
sorted-is es sorted l p up =
    arrangement-unique submit_of number_of_entry es sorted (log_of es) p (log_of-permutes es)
    (Rises-Climbs submit_of number_of_entry sorted (λ n. omega (arith, log-counted es l n, numbered-permutation number_of_entry es sorted p n)) (Climbs-sorted sorted up))
    (log_of-rises es (log-counted es l))
