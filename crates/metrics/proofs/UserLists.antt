-- What entries by user add up to, also as one is changed or added, and as two lists are joined.
use Rattle.std.proofs.Common.{◌≡◌, ℕ, ℤ, ◌+◌, ◌<◌, ◌≤◌, Bool, true, false, cond, List, [], ◌∷◌, length, set, get_or, map, refl, ap, sym, ◌∙◌, arith, unwrap_or, Option, Some, None, All, subst, Ok, Err, Equal}
use Rattle.std.specs.Ordering.{int_cmp, int_eq}
use Rattle.std.specs.BTreeMap.{is_at}
use Rattle.std.specs.Map.{lookup, keys_of}
use Rattle.std.specs.Option.{option_map, IfSome}
use Rattle.std.specs.List.{insert, sum_by, filter}
use Rattle.std.specs.List.Sorted.{IsStrictlySortedBy, IsPermutation}
use Rattle.std.proofs.lemmas.Bool.Decides.{Decides-int_eq}
use Rattle.std.proofs.lemmas.Cmp.{int_cmp_total}
use Rattle.std.proofs.lemmas.List.Elements.{All-set, All-nil}
use Rattle.std.proofs.lemmas.List.Sums.{sum_by-cons, get_or-le-sum_by, length-filter}
use Rattle.std.proofs.lemmas.List.Sorted.{sum_by-IsPermutation, All-permutation, length_permutation}
use Rattle.std.proofs.lemmas.Map.Entries.{All-lookup}
use Rattle.std.proofs.lemmas.Map.Lookups.{exact_signed}
use Rattle.std.proofs.lemmas.List.{get_or-map, length-map, get_or_default}
use denote.Ref.{Bor}
use Rattle.scenarios.specs.declared.placed.Placed.{Placed}
use Rattle.metrics.specs.declared.users.UserSums.{UserSums}
use Rattle.metrics.specs.Measures.{wait, slowdown, busy}
use Rattle.metrics.specs.Users.{plus, no_sums, sums_of, is_of, user_total, CanAdd, IsUserList}
use Rattle.metrics.specs.Placed.{IsPlaced}
use Rattle.metrics.specs.Part.{AreJobs}
use Rattle.metrics.specs.Entries.{IsFound, IsMerge, total_at}
use Rattle.metrics.proofs.Merges.{merge_rises, merge_each, merge_sums}
use Rattle.metrics.proofs.RisingLists.{total_is, total-set, rises-set, rises-insert, All-insert}

same_sums : (a b : UserSums) → a.count ≡ b.count → a.wait ≡ b.wait → a.slowdown ≡ b.slowdown → a.busy ≡ b.busy → a ≡ b
same_sums a b c w s u = λ i. record { count = c i; wait = w i; slowdown = s i; busy = u i }

added_if : (b : Bool) (a t s : UserSums) → t.count ≡ a.count + cond b s.count 0 → t.wait ≡ a.wait + cond b s.wait 0 → t.slowdown ≡ a.slowdown + cond b s.slowdown 0 → t.busy ≡ a.busy + cond b s.busy 0 → t ≡ plus a (cond b s no_sums)
added_if true a t s c w d u = same_sums t (plus a s) c w d u
added_if false a t s c w d u = same_sums t (plus a no_sums) c w d u

pub user-set : (q : ℤ) (es : List (ℤ × UserSums)) (i : ℕ) (d w : ℤ × UserSums) (s : UserSums) → i < length es → w.0 ≡ (get_or es i d).0 → w.1 ≡ plus (get_or es i d).1 s → user_total q (set es i w) ≡ plus (user_total q es) (cond (int_eq q w.0) s no_sums)
user-set q es i d w s l same more = added_if (int_eq q w.0) (user_total q es) (user_total q (set es i w)) s
    (total-set int_cmp_total (λ x. x.count) q es i d w s.count l same (ap (λ (x : UserSums). x.count) more))
    (total-set int_cmp_total (λ x. x.wait) q es i d w s.wait l same (ap (λ (x : UserSums). x.wait) more))
    (total-set int_cmp_total (λ x. x.slowdown) q es i d w s.slowdown l same (ap (λ (x : UserSums). x.slowdown) more))
    (total-set int_cmp_total (λ x. x.busy) q es i d w s.busy l same (ap (λ (x : UserSums). x.busy) more))

own : (u k : ℤ) → k ≡ u → int_eq u k ≡ true
own u k e = (Decides-int_eq u k).1 (sym e)

-- where what two lists add up to for a user fits, so do the sums of an entry of each, where both are of one user
pub pair_fits : (es fs : List (ℤ × UserSums)) (i j : ℕ) (d e : ℤ × UserSums) → i < length es → j < length fs → int_cmp (get_or es i d).0 (get_or fs j e).0 ≡ Equal → ((q : ℤ) → CanAdd (user_total q es) (user_total q fs)) → CanAdd (get_or es i d).1 (get_or fs j e).1
pair_fits es fs i j d e l m same h =
    let u = (get_or es i d).0 in let f = h u in let k = sym (exact_signed u (get_or fs j e).0 same) in record {
      count = let a = less (λ x. x.count) u es i d l refl in let b = less (λ x. x.count) u fs j e m k in omega (arith, a, b, f.count);
      wait = let a = less (λ x. x.wait) u es i d l refl in let b = less (λ x. x.wait) u fs j e m k in omega (arith, a, b, f.wait);
      slowdown = let a = less (λ x. x.slowdown) u es i d l refl in let b = less (λ x. x.slowdown) u fs j e m k in omega (arith, a, b, f.slowdown);
      busy = let a = less (λ x. x.busy) u es i d l refl in let b = less (λ x. x.busy) u fs j e m k in omega (arith, a, b, f.busy);
    }
  where
    less : (n : UserSums → ℕ) (u : ℤ) (xs : List (ℤ × UserSums)) (k : ℕ) (d : ℤ × UserSums) → k < length xs → (get_or xs k d).0 ≡ u → n (get_or xs k d).1 ≤ total_at (int_eq u) n xs
    less n u xs k d w e =
        let a = get_or-le-sum_by (λ (x : ℤ × UserSums). cond (int_eq u x.0) (n x.1) 0) xs k d w in
        let b = ap (λ t. cond t (n (get_or xs k d).1) 0) (own u (get_or xs k d).0 e) in omega (arith, a, b)

-- two sums and what they are together
abbrev pub Adds : UserSums → UserSums → UserSums → Type 0
Adds a b c = c ≡ plus a b

-- lists by user that are merged are a list by user
pub users_merged : (l r es : List (ℤ × UserSums)) → IsUserList l → IsUserList r → IsMerge int_cmp Adds l r es → IsUserList es
users_merged l r es h k m = record {
  rise = merge_rises int_cmp_total exact_signed m h.rise k.rise;
  some = merge_each (λ (e : ℤ × UserSums). 0 < e.1.count) (λ u a b s n is. let e = ap (λ (x : UserSums). x.count) is in omega (arith, e, n)) m h.some k.some;
}

-- lists by user that are merged add up, for each user, to what both do
pub users_sum : (l r es : List (ℤ × UserSums)) → IsMerge int_cmp Adds l r es → (q : ℤ) → user_total q es ≡ plus (user_total q l) (user_total q r)
users_sum l r es m q = same_sums (user_total q es) (plus (user_total q l) (user_total q r))
    (one (λ x. x.count) (λ a b. refl)) (one (λ x. x.wait) (λ a b. refl)) (one (λ x. x.slowdown) (λ a b. refl)) (one (λ x. x.busy) (λ a b. refl))
  where
    one : (n : UserSums → ℕ) → ((a b : UserSums) → n (plus a b) ≡ n a + n b) → total_at (int_eq q) n es ≡ total_at (int_eq q) n l + total_at (int_eq q) n r
    one n add = merge_sums exact_signed n (λ a b c e. ap n e ∙ add a b) (int_eq q) m

abbrev parts : Option UserSums → UserSums
parts o = record { count = unwrap_or (option_map (λ (x : UserSums). x.count) o) 0; wait = unwrap_or (option_map (λ (x : UserSums). x.wait) o) 0; slowdown = unwrap_or (option_map (λ (x : UserSums). x.slowdown) o) 0; busy = unwrap_or (option_map (λ (x : UserSums). x.busy) o) 0 }

-- a list whose users rise adds up to what it has of each
pub user_total_is : (q : ℤ) (es : List (ℤ × UserSums)) → IsStrictlySortedBy int_cmp (keys_of es) → user_total q es ≡ unwrap_or (lookup (is_at (int_cmp q)) es) no_sums
user_total_is q es s =
    same_sums (user_total q es) (parts (lookup (is_at (int_cmp q)) es)) (total_is int_cmp_total (λ x. x.count) q es s) (total_is int_cmp_total (λ x. x.wait) q es s) (total_is int_cmp_total (λ x. x.slowdown) q es s) (total_is int_cmp_total (λ x. x.busy) q es s)
    ∙ whole (lookup (is_at (int_cmp q)) es)
  where
    whole : (o : Option UserSums) → parts o ≡ unwrap_or o no_sums
    whole None = refl
    whole (Some x) = refl

-- who has no job has no entry
pub user_filled : (q : ℤ) (es : List (ℤ × UserSums)) → All (λ e. 0 < e.1.count) es → (unwrap_or (lookup (is_at (int_cmp q)) es) no_sums).count ≡ 0 → lookup (is_at (int_cmp q)) es ≡ None
user_filled q es h = go (lookup (is_at (int_cmp q)) es) (All-lookup (λ (x : UserSums). 0 < x.count) (is_at (int_cmp q)) es h)
  where
    go : (o : Option UserSums) → IfSome o (λ (x : UserSums). 0 < x.count) → (unwrap_or o no_sums).count ≡ 0 → o ≡ None
    go None k z = refl
    go (Some x) k z = absurd (omega (arith, k, z))

sum_kept : (f : Placed → ℕ) (q : ℤ) (ps : List Placed) → sum_by f (filter (is_of q) ps) ≡ sum_by (λ p. cond (is_of q p) (f p) 0) ps
sum_kept f q [] = refl
sum_kept f q (p ∷ ps) = go (is_of q p) (sum_kept f q ps) ∙ sym (sum_by-cons (λ p. cond (is_of q p) (f p) 0) p ps)
  where
    go : (b : Bool) → sum_by f (filter (is_of q) ps) ≡ sum_by (λ p. cond (is_of q p) (f p) 0) ps → sum_by f (cond b (p ∷ filter (is_of q) ps) (filter (is_of q) ps)) ≡ cond b (f p) 0 + sum_by (λ p. cond (is_of q p) (f p) 0) ps
    go true h = sum_by-cons f p (filter (is_of q) ps) ∙ ap (λ n. f p + n) h
    go false h = omega (arith, h)

-- a user has the same sums over jobs in another order
pub sums_of-moved : (q : ℤ) (ps qs : List Placed) → IsPermutation ps qs → sums_of q qs ≡ sums_of q ps
sums_of-moved q ps qs h = same_sums (sums_of q qs) (sums_of q ps)
    (length-filter (is_of q) qs ∙ sum_by-IsPermutation (λ p. cond (is_of q p) 1 0) ps qs h ∙ sym (length-filter (is_of q) ps))
    (moved wait) (moved slowdown) (moved busy)
  where
    moved : (f : Placed → ℕ) → sum_by f (filter (is_of q) qs) ≡ sum_by f (filter (is_of q) ps)
    moved f = sum_kept f q qs ∙ sum_by-IsPermutation (λ p. cond (is_of q p) (f p) 0) ps qs h ∙ sym (sum_kept f q ps)

-- no entries are a list by user
pub no_users : (es : List (ℤ × UserSums)) → es ≡ [] → IsUserList es
unfolding IsStrictlySortedBy
no_users es e = let P : List (ℤ × UserSums) → Type 0 = IsUserList in subst P (sym e) (record { rise = tt; some = All-nil (λ (x : ℤ × UserSums). 0 < x.1.count) })

-- a list by user stays one as sums over some job are added at an entry
pub list-set : (es : List (ℤ × UserSums)) (i : ℕ) (e f : ℤ × UserSums) (s t : UserSums) → e ≡ get_or es i e → t ≡ plus f.1 s → 0 < s.count → IsUserList es → IsUserList (set es i (e.0, t))
list-set es i e f s t at is h l = record {
  rise = rises-set int_cmp_total es i e (e.0, t) (ap (λ (x : ℤ × UserSums). x.0) at) l.rise;
  some = All-set (λ (x : ℤ × UserSums). 0 < x.1.count) es i (e.0, t) (let c = ap (λ (x : UserSums). x.count) is in omega (arith, c, h)) l.some;
}

-- a list with sums added at a user's entry adds up to these more for this user, and to what it did for others
pub sums-set : (q u : ℤ) (es : List (ℤ × UserSums)) (i : ℕ) (e f : ℤ × UserSums) (s t : UserSums) → IsFound int_cmp u es (Ok i) → e ≡ get_or es i e → f ≡ get_or es i f → t ≡ plus f.1 s → user_total q (set es i (e.0, t)) ≡ plus (user_total q es) (cond (int_eq q u) s no_sums)
sums-set q u es i e f s t (l, k) at there is =
    let own : e.0 ≡ u = ap (λ (x : ℤ × UserSums). x.0) at ∙ exact_signed (get_or es i e).0 u (k e) in
    user-set q es i e (e.0, t) s l (ap (λ (x : ℤ × UserSums). x.0) at) (is ∙ ap (λ (x : ℤ × UserSums). plus x.1 s) (there ∙ get_or_default es i f e l))
    ∙ ap (λ x. plus (user_total q es) (cond (int_eq q x) s no_sums)) own

-- a list by user stays one with an entry more, over some job, at the place that was found for it
pub list-insert : (u : ℤ) (es fs : List (ℤ × UserSums)) (i : ℕ) (s : UserSums) → IsFound int_cmp u es (Err i) → fs ≡ insert es i (u, s) → 0 < s.count → IsUserList es → IsUserList fs
list-insert u es fs i s (l, (low, high)) e h k =
    let P : List (ℤ × UserSums) → Type 0 = IsUserList in
    subst P (sym e) (record { rise = rises-insert int_cmp_total es i (u, s) l low high k.rise; some = All-insert (λ (x : ℤ × UserSums). 0 < x.1.count) es i (u, s) k.some h })

-- jobs within the limits are so in another order
pub jobs-moved : (ps qs : List Placed) → IsPermutation ps qs → AreJobs ps → AreJobs qs
jobs-moved ps qs h k = record { each = All-permutation IsPlaced ps qs h k.each; few = let n = length_permutation ps qs h in omega (arith, n, k.few) }

-- the job lent at a place is the one that stands at this place of the jobs that are lent
pub lent_is : (js : List (Bor Placed)) (i : ℕ) (p : Bor Placed) → i < length js → p ≡ get_or js i p → p.now ≡ get_or (map (λ (j : Bor Placed). j.now) js) i p.now
lent_is js i p l e = ap (λ (j : Bor Placed). j.now) e ∙ sym (get_or-map (λ (j : Bor Placed). j.now) js i p p.now l)

-- a job lent at a place is within the limits, where the jobs that are lent are
pub lent_placed : (js : List (Bor Placed)) (i : ℕ) (p : Bor Placed) → i < length js → p ≡ get_or js i p → AreJobs (map (λ (j : Bor Placed). j.now) js) → IsPlaced p.now
lent_placed js i p l e a = subst IsPlaced (sym (lent_is js i p l e)) (a.each i p.now (let n = length-map js (λ (j : Bor Placed). j.now) in omega (arith, n, l)))
