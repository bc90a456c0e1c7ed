-- Counts of skipped entries, before edits and after them: an edit changes a sum over all entries by what stands at its own number.
use Rattle.std.proofs.Common.{◌≡◌, ◌≢◌, ℕ, ◌+◌, ◌≤◌, ◌<◌, Bool, true, false, ◌==◌, nat_eq, not, cond, List, [], ◌∷◌, Option, None, Some, is_some, All, map, count_by, sum_by, length, take, get_or, ℤ, inl, inr, refl, sym, ◌∙◌, ap, subst, arith, if◌then◌else◌}
use Rattle.std.specs.Prelude.{nat_le}
use Rattle.std.specs.Option.{option_and_then, option_map}
use Rattle.std.specs.List.{cons_option, AllByRecursion}
use Rattle.std.specs.Result.{result_err}
use Rattle.std.specs.List.Sorted.{IsStrictlySortedBy}
use Rattle.std.specs.Ordering.{nat_cmp, match_ordering}
use Rattle.std.specs.declared.cmp.Ordering.{Ordering}
use Rattle.std.specs.declared.cmp.Ordering.TheVariants.{Less, Equal, Greater}
use Rattle.std.specs.BTreeSet.{insert_key}
use Rattle.std.proofs.lemmas.Cmp.{ranked}
use Rattle.std.proofs.lemmas.List.{take_all}
use Rattle.std.specs.Cmp.{nat_cmp_is}
use Rattle.std.proofs.lemmas.Bool.{ne_eqb, eq-eqb, cond-true, cond-false}
use Rattle.std.proofs.lemmas.List.Elements.{All-head, All-tail, All-nil, All-push, All-weaker}
use Rattle.std.proofs.lemmas.List.Filters.{sum_by-filter_both}
use Rattle.std.proofs.lemmas.List.Sums.{sum_by-cons, count_by-le-length}
use Rattle.swf_text.specs.Entry.{LogEntry, number_of_entry, submit_of}
use Rattle.swf_text.specs.Log.{comes_before, with_entry, log_of}
use Rattle.job_table.specs.declared.fault.EditFault.TheVariants as faults
use Rattle.job_table.specs.Edit.{LogEdit, Insert, Remove, Change, entry_of, applied, fault_of, change_fault, log_after, with_field, without, changed}
use Rattle.job_table.specs.Table.{IsTable}
use Rattle.job_table.specs.Accepted.{AreAccepted}
use Rattle.job_table.proofs.Lemmas.{Lacks, Lacks-from_none, Lacks-itself, found-placed, found-without, log-more, log-less, log-changed, number-stays, change-places, accepted-sound}
use Rattle.scenarios.specs.declared.skip.Skip.{Skip}
use Rattle.scenarios.specs.Scenario.{ScenarioView}
use Rattle.scenarios.specs.Effective.{effective}
use Rattle.scenarios.specs.Skips.{reasons_of, place_of, count_of, skips_of}
use Rattle.scenarios.proofs.Lemmas.{once-numbered}
use Rattle.rejoin.specs.Named.{named}
use Rattle.scenarios.specs.declared.skip.Skip.TheVariants as reasons
use Rattle.scenarios.specs.declared.skips.Skips.{Skips}
use Rattle.rejoin.specs.Skips.{skip_at, times, skipped_at, count_in, IsAmong, AreNumbersOf}
use Rattle.rejoin.proofs.Named.{entry-kept}
use Rattle.rejoin.proofs.Collecting.{front-more}

abbrev at : (LogEntry → ℕ) → Option LogEntry → ℕ
at f None = 0
at f (Some e) = f e

abbrev has : ℕ → LogEntry → Bool
has n e = number_of_entry e == n

with-sum : (f : LogEntry → ℕ) (e : LogEntry) (es : List LogEntry) → sum_by f (with_entry e es) ≡ f e + sum_by f es
with-sum f e [] = sum_by-cons f e []
with-sum f e (x ∷ es) = go (comes_before x e) (with-sum f e es)
  where
    go : (b : Bool) → sum_by f (with_entry e es) ≡ f e + sum_by f es → sum_by f (if b then x ∷ with_entry e es else e ∷ x ∷ es) ≡ f e + sum_by f (x ∷ es)
    go true i = omega (arith, i, sum_by-cons f x (with_entry e es), sum_by-cons f x es)
    go false i = sum_by-cons f e (x ∷ es)

log-sum : (f : LogEntry → ℕ) (es : List LogEntry) → sum_by f (log_of es) ≡ sum_by f es
log-sum f [] = refl
log-sum f (e ∷ es) = omega (arith, with-sum f e (log_of es), log-sum f es, sum_by-cons f e es)

has-more : (n : ℕ) (e : LogEntry) (es : List LogEntry) → count_by (has n) (e ∷ es) ≡ cond {A = ℕ} (has n e) 1 0 + count_by (has n) es
has-more n e es = sum_by-cons (λ (x : LogEntry). cond {A = ℕ} (has n x) 1 0) e es

none-found : (n : ℕ) (es : List LogEntry) → count_by (has n) es ≡ 0 → entry_of n es ≡ None
none-found n [] h = refl
none-found n (e ∷ es) h = go (has n e) refl (none-found n es)
  where
    go : (b : Bool) → has n e ≡ b → (count_by (has n) es ≡ 0 → entry_of n es ≡ None) → (if b then Some e else entry_of n es) ≡ None
    go true p i = let one = cond-true {A = ℕ} (has n e) 1 0 p in absurd (omega (arith, h, has-more n e es, one))
    go false p i = i (omega (arith, h, has-more n e es))

without-sum : (f : LogEntry → ℕ) (n : ℕ) (es : List LogEntry) → count_by (has n) es ≤ 1 → sum_by f (without n es) + at f (entry_of n es) ≡ sum_by f es
without-sum f n [] h = refl
without-sum f n (e ∷ es) h = go (has n e) refl (without-sum f n es (omega (arith, h, has-more n e es)))
  where
    go : (b : Bool) → has n e ≡ b → sum_by f (without n es) + at f (entry_of n es) ≡ sum_by f es
        → sum_by f (if not b then e ∷ without n es else without n es) + at f (if b then Some e else entry_of n es) ≡ sum_by f (e ∷ es)
    go true p i =
        let one = cond-true {A = ℕ} (has n e) 1 0 p in
        let none = ap (at f) (none-found n es (omega (arith, h, has-more n e es, one))) in
        omega (arith, i, none, sum_by-cons f e es)
    go false p i = omega (arith, i, sum_by-cons f e (without n es), sum_by-cons f e es)

changed-sum : (f : LogEntry → ℕ) (n place : ℕ) (value : ℤ) (es : List LogEntry) → count_by (has n) es ≤ 1
    → sum_by f (changed n place value es) + at f (entry_of n es) ≡ sum_by f es + at f (option_map (with_field place value) (entry_of n es))
changed-sum f n place value [] h = refl
changed-sum f n place value (e ∷ es) h = go (has n e) refl (changed-sum f n place value es (omega (arith, h, has-more n e es)))
  where
    go : (b : Bool) → has n e ≡ b → sum_by f (changed n place value es) + at f (entry_of n es) ≡ sum_by f es + at f (option_map (with_field place value) (entry_of n es))
        → sum_by f ((if b then with_field place value e else e) ∷ changed n place value es) + at f (if b then Some e else entry_of n es) ≡ sum_by f (e ∷ es) + at f (option_map (with_field place value) (if b then Some e else entry_of n es))
    go true p i =
        let one = cond-true {A = ℕ} (has n e) 1 0 p in
        let is = none-found n es (omega (arith, h, has-more n e es, one)) in
        let none = ap (at f) is in
        let none' = ap (λ o. at f (option_map (with_field place value) o)) is in
        omega (arith, i, none, none', sum_by-cons f e es, sum_by-cons f (with_field place value e) (changed n place value es))
    go false p i = omega (arith, i, sum_by-cons f e (changed n place value es), sum_by-cons f e es)

distinct : (log : List LogEntry) → IsTable log → (n : ℕ) → count_by (has n) log ≤ 1
distinct log t n = omega (arith, once-numbered n log t.log.sound, t.log.distinct n)

abbrev Moves : (LogEntry → ℕ) → LogEdit → List LogEntry → Type 0
Moves f edit log = sum_by f (applied edit log) + at f (entry_of (named edit) log) ≡ sum_by f log + at f (entry_of (named edit) (applied edit log))

inserted : (f : LogEntry → ℕ) (e : LogEntry) (log : List LogEntry) → IsTable log → fault_of (Insert e) log ≡ None → Moves f (Insert e) log
inserted f e log t k = go (entry_of (number_of_entry e) log) refl (nat_le 4194304 (length log)) k
  where
    go : (o : Option LogEntry) → entry_of (number_of_entry e) log ≡ o → (b : Bool) → (if is_some o then Some faults.DuplicateJob else (if b then Some faults.TableFull else None)) ≡ None → Moves f (Insert e) log
    go (Some x) p b k = cc
    go None p true k = cc
    go None p false k =
        let there : entry_of (number_of_entry e) (applied (Insert e) log) ≡ Some e =
        ap (entry_of (number_of_entry e)) (sym (log-more e log t))
        ∙ found-placed submit_of number_of_entry (number_of_entry e) e log (Lacks-from_none submit_of number_of_entry (number_of_entry e) log p)
        ∙ cond-true (number_of_entry e == number_of_entry e) (Some e) (entry_of (number_of_entry e) log) (eq-eqb (number_of_entry e) (number_of_entry e) refl) in
        let a = ap (at f) there in
        let b = ap (at f) p in
        omega (arith, a, b, log-sum f (e ∷ log), sum_by-cons f e log)

removed : (f : LogEntry → ℕ) (m : ℕ) (log : List LogEntry) → IsTable log → Moves f (Remove m) log
removed f m log t =
    let gone : entry_of m (applied (Remove m) log) ≡ None =
    ap (entry_of m) (sym (log-less m log t)) ∙ found-without submit_of number_of_entry m m log ∙ cond-true (m == m) None (entry_of m log) (eq-eqb m m refl) in
    let a = ap (at f) gone in
    omega (arith, a, log-sum f (without m log), without-sum f m log (distinct log t m))

turned : (f : LogEntry → ℕ) (m place : ℕ) (value : ℤ) (log : List LogEntry) → IsTable log → fault_of (Change m place value) log ≡ None → Moves f (Change m place value) log
turned f m place value log t k = go (entry_of m log) refl k
  where
    go : (o : Option LogEntry) → entry_of m log ≡ o → (if is_some o then change_fault place value else Some faults.NoSuchJob) ≡ None → Moves f (Change m place value) log
    go None p k = cc
    go (Some was) p k =
        let now : LogEntry = with_field place value was in
        let low = change-places place value k in
        let stays : number_of_entry now ≡ m = number-stays m place value log was now low p refl in
        let there : entry_of m (applied (Change m place value) log) ≡ Some now =
        ap (entry_of m) (sym (log-changed m place value log was now low t p refl))
        ∙ found-placed submit_of number_of_entry m now (without m log) (subst (λ x. Lacks submit_of number_of_entry x (without m log)) (sym stays) (Lacks-itself submit_of number_of_entry m log))
        ∙ cond-true (number_of_entry now == m) (Some now) (entry_of m (without m log)) (eq-eqb (number_of_entry now) m stays) in
        let a = ap (at f) there in
        let b = ap (λ o. at f (option_map (with_field place value) o)) p in
        omega (arith, a, b, log-sum f (changed m place value log), changed-sum f m place value log (distinct log t m))

moves : (f : LogEntry → ℕ) (edit : LogEdit) (log : List LogEntry) → IsTable log → fault_of edit log ≡ None → Moves f edit log
moves f (Insert e) log t k = inserted f e log t k
moves f (Remove m) log t k = removed f m log t
moves f (Change m place value) log t k = turned f m place value log t k

abbrev Apart : ℕ → List ℕ → Type 0
Apart n [] = Unit {0}
Apart n (m ∷ ms) = (n ≢ m) × Apart n ms

abbrev Once : List ℕ → Type 0
Once [] = Unit {0}
Once (n ∷ ns) = Apart n ns × Once ns

less-apart : (n m : ℕ) → nat_cmp n m ≡ Less → n ≢ m
less-apart n m h e = let same : Equal ≡ nat_cmp n m = nat_cmp_is n m Equal e in cc

apart-less : (n : ℕ) (ms : List ℕ) → AllByRecursion (λ m. nat_cmp n m ≡ Less) ms → Apart n ms
apart-less n [] h = tt
apart-less n (m ∷ ms) h = (less-apart n m h.0, apart-less n ms h.1)

pub once-sorted : (ns : List ℕ) → IsStrictlySortedBy nat_cmp ns → Once ns
unfolding IsStrictlySortedBy
once-sorted [] h = tt
once-sorted (n ∷ ns) h = (apart-less n ns h.0, once-sorted ns h.1)

apart-among : (n m : ℕ) (ns : List ℕ) → Apart n ns → IsAmong m ns → n ≢ m
apart-among n m [] a i e = i
apart-among n m (k ∷ ks) a (inl h) e = a.0 (e ∙ sym h)
apart-among n m (k ∷ ks) a (inr i) e = apart-among n m ks a.1 i e

sum-off : (g h : ℕ → ℕ) (m : ℕ) (ns : List ℕ) → Apart m ns → ((n : ℕ) → m ≢ n → g n ≡ h n) → sum_by g ns ≡ sum_by h ns
sum-off g h m [] a s = refl
sum-off g h m (n ∷ ns) a s = omega (arith, sum-off g h m ns a.1 s, s n a.0, sum_by-cons g n ns, sum_by-cons h n ns)

sum-shift : (g h : ℕ → ℕ) (m : ℕ) (ns : List ℕ) → Once ns → IsAmong m ns → ((n : ℕ) → m ≢ n → g n ≡ h n) → sum_by g ns + h m ≡ sum_by h ns + g m
sum-shift g h m [] o i s = absurd i
sum-shift g h m (n ∷ ns) o (inl e) s =
    let rest = sum-off g h m ns (subst (λ x. Apart x ns) e o.0) s in
    let a = ap g e in
    let b = ap h e in
    omega (arith, rest, a, b, sum_by-cons g n ns, sum_by-cons h n ns)
sum-shift g h m (n ∷ ns) o (inr i) s =
    let d = s n (λ e. apart-among n m ns o.0 i (sym e)) in
    omega (arith, sum-shift g h m ns o.1 i s, d, sum_by-cons g n ns, sum_by-cons h n ns)

sum-alike : (g h : ℕ → ℕ) (ns : List ℕ) → ((n : ℕ) → g n ≡ h n) → sum_by g ns ≡ sum_by h ns
sum-alike g h [] s = refl
sum-alike g h (n ∷ ns) s = omega (arith, sum-alike g h ns s, s n, sum_by-cons g n ns, sum_by-cons h n ns)

all-moves : (f : LogEntry → ℕ) (log : List LogEntry) (edits : List LogEdit) (ns : List ℕ) → IsTable log → AreAccepted log edits → Once ns → All (λ edit. IsAmong (named edit) ns) edits
    → sum_by f (log_after log edits) + sum_by (λ n. at f (entry_of n log)) ns ≡ sum_by f log + sum_by (λ n. at f (entry_of n (log_after log edits))) ns
all-moves f log [] ns t a o w = refl
all-moves f log (edit ∷ edits) ns t a o w =
    let next = accepted-sound log edit t a.0 a.1 in
    let rest = all-moves f (applied edit log) edits ns next a.2 o (All-tail (λ (x : LogEdit). IsAmong (named x) ns) edit edits w) in
    let one = moves f edit log t a.1 in
    let many = sum-shift (λ n. at f (entry_of n log)) (λ n. at f (entry_of n (applied edit log))) (named edit) ns o (All-head (λ (x : LogEdit). IsAmong (named x) ns) edit edits w) (λ n ne. ap (at f) (sym (entry-kept n log edit t a.1 ne))) in
    omega (arith, rest, one, many)

has-less : (n m : ℕ) (es : List LogEntry) → count_by (has m) (without n es) ≤ count_by (has m) es
has-less n m es =
    let both = sum_by-filter_both (λ e. not (has n e)) (λ e. not (not (has n e))) (λ e. refl) (λ (e : LogEntry). cond {A = ℕ} (has m e) 1 0) es in
    omega (arith, both)

sum-within : (f : LogEntry → ℕ) (ns : List ℕ) (es : List LogEntry) → Once ns → ((n : ℕ) → count_by (has n) es ≤ 1) → sum_by (λ n. at f (entry_of n es)) ns ≤ sum_by f es
sum-within f [] es o d = omega arith
sum-within f (n ∷ ns) es o d =
    let rest = sum-within f ns (without n es) o.1 (λ m. let l = has-less n m es in let k = d m in omega (arith, l, k)) in
    let same = sum-off (λ m. at f (entry_of m es)) (λ m. at f (entry_of m (without n es))) n ns o.0
    (λ m ne. ap (at f) (sym (found-without submit_of number_of_entry m n es ∙ cond-false (n == m) None (entry_of m es) (ne_eqb n m ne)))) in
    omega (arith, rest, same, without-sum f n es (d n), sum_by-cons (λ m. at f (entry_of m es)) n ns)

abbrev skips : Skip → ScenarioView → LogEntry → ℕ
skips k s e = times k (result_err (effective e s))

count-more : (k r : Skip) (rs : List Skip) → count_of k (r ∷ rs) ≡ count_of k (r ∷ []) + count_of k rs
count-more k r rs =
    let test : Skip → ℕ = λ x. cond {A = ℕ} (nat_eq (place_of x) (place_of k)) 1 0 in
    omega (arith, sum_by-cons test r rs, sum_by-cons test r [])

count-sum : (k : Skip) (log : List LogEntry) (s : ScenarioView) → count_of k (reasons_of log s) ≡ sum_by (skips k s) log
count-sum k [] s = refl
count-sum k (e ∷ es) s = go (result_err (effective e s)) (count-sum k es s) ∙ sym (sum_by-cons (skips k s) e es)
  where
    go : (o : Option Skip) → count_of k (reasons_of es s) ≡ sum_by (skips k s) es → count_of k (cons_option o (reasons_of es s)) ≡ times k o + sum_by (skips k s) es
    go None i = omega (arith, i)
    go (Some r) i = omega (arith, i, count-more k r (reasons_of es s))

at-skip : (k : Skip) (s : ScenarioView) (o : Option LogEntry) → at (skips k s) o ≡ times k (option_and_then (λ e. result_err (effective e s)) o)
at-skip k s None = refl
at-skip k s (Some e) = refl

sum-skips : (k : Skip) (s : ScenarioView) (log : List LogEntry) (ns : List ℕ) → sum_by (λ n. at (skips k s) (entry_of n log)) ns ≡ skipped_at k log s ns
sum-skips k s log ns = sum-alike (λ n. at (skips k s) (entry_of n log)) (λ n. times k (skip_at log s n)) ns (λ n. at-skip k s (entry_of n log))

-- of a reason, the count after edits and that of their numbers before are together the count before and that of the numbers after
pub counts-after : (k : Skip) (s : ScenarioView) (log : List LogEntry) (edits : List LogEdit) (now : List LogEntry) (ns : List ℕ) → IsTable log → AreAccepted log edits → now ≡ log_after log edits → AreNumbersOf edits ns
    → count_of k (reasons_of now s) + skipped_at k log s ns ≡ count_of k (reasons_of log s) + skipped_at k now s ns
counts-after k s log edits now ns t a is o =
    let moved = all-moves (skips k s) log edits ns t a (once-sorted ns o.rising) o.each in
    let here = subst (λ now. sum_by (skips k s) now + sum_by (λ n. at (skips k s) (entry_of n log)) ns ≡ sum_by (skips k s) log + sum_by (λ n. at (skips k s) (entry_of n now)) ns) (sym is) moved in
    omega (arith, here, count-sum k log s, count-sum k now s, sum-skips k s log ns, sum-skips k s now ns)

all-sound : (log : List LogEntry) (edits : List LogEdit) → IsTable log → AreAccepted log edits → IsTable (log_after log edits)
all-sound log [] t a = t
all-sound log (edit ∷ edits) t a = all-sound (applied edit log) edits (accepted-sound log edit t a.0 a.1) a.2

-- a table is still one after edits that are accepted
pub still-table : (log : List LogEntry) (edits : List LogEdit) (now : List LogEntry) → IsTable log → AreAccepted log edits → now ≡ log_after log edits → IsTable now
still-table log edits now t a is = subst IsTable (sym is) (all-sound log edits t a)

once-times : (k : Skip) (o : Option Skip) → times k o ≤ 1
once-times k None = omega arith
once-times k (Some r) = count_by-le-length (λ (x : Skip). nat_eq (place_of x) (place_of k)) (r ∷ [])

sum-small : (k : Skip) (s : ScenarioView) (log : List LogEntry) → sum_by (skips k s) log ≤ length log
sum-small k s [] = omega arith
sum-small k s (e ∷ es) = omega (arith, sum-small k s es, once-times k (result_err (effective e s)), sum_by-cons (skips k s) e es)

-- no more of some numbers, each once, have an entry that is skipped for a reason than entries of the table are
pub skipped-within : (k : Skip) (s : ScenarioView) (log : List LogEntry) (ns : List ℕ) → IsTable log → IsStrictlySortedBy nat_cmp ns → skipped_at k log s ns ≤ count_of k (reasons_of log s)
skipped-within k s log ns t o =
    omega (arith, sum-within (skips k s) ns log (once-sorted ns o) (distinct log t), count-sum k log s, sum-skips k s log ns)

-- at most 4194304 entries of a table are skipped for a reason
pub counted-few : (k : Skip) (s : ScenarioView) (log : List LogEntry) → IsTable log → count_of k (reasons_of log s) ≤ 4194304
counted-few k s log t = omega (arith, sum-small k s log, count-sum k log s, t.log.capacity)

-- where each count has grown by how often its reason stands there, so has the count of whatever reason
pub with-times : (old new : Skips) (o : Option Skip) → new.size ≡ old.size + times reasons.NoSize o → new.run ≡ old.run + times reasons.NoRun o → new.large ≡ old.large + times reasons.TooLarge o → new.long ≡ old.long + times reasons.TooLong o
    → (k : Skip) → count_in new k ≡ count_in old k + times k o
with-times old new o a b c d reasons.NoSize = a
with-times old new o a b c d reasons.NoRun = b
with-times old new o a b c d reasons.TooLarge = c
with-times old new o a b c d reasons.TooLong = d

-- where each count has fallen by how often its reason stands there, so has the count of whatever reason
pub without-times : (old new : Skips) (o : Option Skip) → new.size + times reasons.NoSize o ≡ old.size → new.run + times reasons.NoRun o ≡ old.run → new.large + times reasons.TooLarge o ≡ old.large → new.long + times reasons.TooLong o ≡ old.long
    → (k : Skip) → count_in new k + times k o ≡ count_in old k
without-times old new o a b c d reasons.NoSize = a
without-times old new o a b c d reasons.NoRun = b
without-times old new o a b c d reasons.TooLarge = c
without-times old new o a b c d reasons.TooLong = d

-- of some numbers as many have an entry that is skipped for a reason as the first of them, once or not, and the others do
pub first-times : (k : Skip) (log : List LogEntry) (s : ScenarioView) (n : ℕ) (coming rest : List ℕ) → coming ≡ n ∷ rest → skipped_at k log s coming ≡ times k (skip_at log s n) + skipped_at k log s rest
first-times k log s n coming rest is = ap (skipped_at k log s) is ∙ sum_by-cons (λ m. times k (skip_at log s m)) n rest

among-itself : (k : ℕ) (ns : List ℕ) → IsAmong k (insert_key nat_cmp ns k)
among-itself k [] = inl refl
among-itself k (n ∷ ns) = go (nat_cmp k n) refl (among-itself k ns)
  where
    go : (o : Ordering) → o ≡ nat_cmp k n → IsAmong k (insert_key nat_cmp ns k) → IsAmong k (match_ordering o (k ∷ n ∷ ns) (n ∷ ns) (n ∷ insert_key nat_cmp ns k))
    go Less p i = inl refl
    go Equal p i = inl (sym (ranked k n Equal p))
    go Greater p i = inr i

among-more : (m k : ℕ) (ns : List ℕ) → IsAmong m ns → IsAmong m (insert_key nat_cmp ns k)
among-more m k [] i = absurd i
among-more m k (n ∷ ns) i = go (nat_cmp k n) i (among-more m k ns)
  where
    deeper : IsAmong m (n ∷ ns) → (IsAmong m ns → IsAmong m (insert_key nat_cmp ns k)) → IsAmong m (n ∷ insert_key nat_cmp ns k)
    deeper (inl e) r = inl e
    deeper (inr j) r = inr (r j)

    go : (o : Ordering) → IsAmong m (n ∷ ns) → (IsAmong m ns → IsAmong m (insert_key nat_cmp ns k)) → IsAmong m (match_ordering o (k ∷ n ∷ ns) (n ∷ ns) (n ∷ insert_key nat_cmp ns k))
    go Less i r = inr i
    go Equal i r = i
    go Greater i r = deeper i r

-- numbers that have those of the first i edits, with the next edit's put in, have those of the first i + 1
pub named-more : {X : Type 0} (f : X → LogEdit) (xs : List X) (i : ℕ) (d : X) (m : ℕ) (ns ms : List ℕ) → i < length xs → m ≡ named (f (get_or xs i d)) → ms ≡ insert_key nat_cmp ns m → IsStrictlySortedBy nat_cmp ms
    → AreNumbersOf (map f (take i xs)) ns → AreNumbersOf (map f (take (i + 1) xs)) ms
named-more f xs i d m ns ms l is put rise all = record {
  rising = rise;
  each =
      let P : LogEdit → Type 0 = λ edit. IsAmong (named edit) (insert_key nat_cmp ns m) in
      let these = All-weaker (λ (edit : LogEdit). IsAmong (named edit) ns) P (λ edit a. among-more (named edit) m ns a) (map f (take i xs)) all.each in
      let this : P (f (get_or xs i d)) = subst (λ n. IsAmong n (insert_key nat_cmp ns m)) is (among-itself m ns) in
      subst (λ ks. All (λ edit. IsAmong (named edit) ks) (map f (take (i + 1) xs))) (sym put)
      (subst (All P) (sym (front-more f xs i d l)) (All-push P (map f (take i xs)) (f (get_or xs i d)) these this));
}

-- numbers that have those of edits up to the end have those of all
pub named-all : {X : Type 0} (f : X → LogEdit) (xs : List X) (i : ℕ) (ns : List ℕ) → length xs ≤ i → AreNumbersOf (map f (take i xs)) ns → AreNumbersOf (map f xs) ns
named-all f xs i ns l all = subst (λ ys. AreNumbersOf (map f ys) ns) (take_all i xs l) all

-- no numbers have those of no edits
pub named-none : (ns : List ℕ) → ns ≡ [] → IsStrictlySortedBy nat_cmp ns → AreNumbersOf [] ns
named-none ns is rise = record { rising = rise; each = All-nil (λ (edit : LogEdit). IsAmong (named edit) ns) }

made : ℕ → ℕ → ℕ → ℕ → Skips
made a b c d = record { size = a; run = b; large = c; long = d }

-- counts that are, reason by reason, those of a log's skipped entries are the counts of the log
pub counts-alike : (p : Skips) (log : List LogEntry) (s : ScenarioView) → ((k : Skip) → count_in p k ≡ count_of k (reasons_of log s)) → p ≡ skips_of log s
unfolding made
counts-alike p log s h =
    let a : ℕ = count_of reasons.NoSize (reasons_of log s) in
    let b : ℕ = count_of reasons.NoRun (reasons_of log s) in
    let c : ℕ = count_of reasons.TooLarge (reasons_of log s) in
    ap (λ n. made n p.run p.large p.long) (h reasons.NoSize) ∙ ap (λ n. made a n p.large p.long) (h reasons.NoRun) ∙ ap (λ n. made a b n p.long) (h reasons.TooLarge) ∙ ap (made a b c) (h reasons.TooLong)

-- the counts of a log are, reason by reason, those of its skipped entries
pub counts-known : (p : Skips) (log : List LogEntry) (s : ScenarioView) → p ≡ skips_of log s → (k : Skip) → count_in p k ≡ count_of k (reasons_of log s)
counts-known p log s is reasons.NoSize = ap (λ (q : Skips). q.size) is
counts-known p log s is reasons.NoRun = ap (λ (q : Skips). q.run) is
counts-known p log s is reasons.TooLarge = ap (λ (q : Skips). q.large) is
counts-known p log s is reasons.TooLong = ap (λ (q : Skips). q.long) is
