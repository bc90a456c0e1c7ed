-- What one job more, or another part, adds to sums.
use Rattle.std.proofs.Common.{◌≡◌, ℕ, ℤ, ◌+◌, ◌<◌, ◌≤◌, ◌^◌, true, cond, List, [], ◌∷◌, ◌++◌, All, length, refl, ap, sym, ◌∙◌, arith, subst, get_or, take, length-append}
use Rattle.std.specs.Ordering.{int_eq}
use Rattle.std.proofs.lemmas.Bool.Decides.{Decides-int_eq}
use Rattle.std.proofs.lemmas.List.Elements.{All-cons, All-append, All-take}
use Rattle.std.proofs.lemmas.List.{length-take-le, take_more}
use Rattle.scenarios.specs.declared.placed.Placed.{Placed}
use Rattle.metrics.specs.declared.users.UserSums.{UserSums}
use Rattle.metrics.specs.declared.totals.Totals.{Totals}
use Rattle.metrics.specs.Measures.{busy}
use Rattle.metrics.specs.Placed.{IsPlaced}
use Rattle.metrics.specs.Totals.{totals, totals_alone, joined, FitsJoined}
use Rattle.metrics.specs.Users.{plus, no_sums, alone, sums_of, CanAdd, user_total, IsUserList}
use Rattle.metrics.specs.Days.{AreFallsOf}
use Rattle.metrics.specs.Part.{PartSums, AreJobs}
use Rattle.metrics.specs.Sums.{Tally, IsTallyOf, IsTally}
use Rattle.metrics.proofs.Bounds.{totals_fit, sums_fit, small_sum, busy_small}
use Rattle.metrics.proofs.Joins.{totals-append, sums_of-append, totals-one, sums_of-one}

only : (p : Placed) → IsPlaced p → All IsPlaced (p ∷ [])
only p h = All-cons IsPlaced p [] h (λ k d l. absurd (omega arith))

next_too : (ps : List Placed) (i : ℕ) (p : Placed) → i < length ps → p ≡ get_or ps i p → take (i + 1) ps ≡ take i ps ++ p ∷ []
next_too ps i p l e = take_more ps i p l ∙ ap (λ q. take i ps ++ q ∷ []) (sym e)

first_few : (ps : List Placed) (i : ℕ) → length ps ≤ 4194304 → i < length ps → length (take i ps) + 1 ≤ 4194304
first_few ps i f l = let n = length-take-le i ps (omega (arith, l)) in omega (arith, n, f, l)

-- where the first jobs and the next are within the limits, so are the first jobs, one more
pub placed_more : (ps : List Placed) (i : ℕ) (p : Placed) → i < length ps → p ≡ get_or ps i p → All IsPlaced (take i ps) → IsPlaced p → All IsPlaced (take (i + 1) ps)
placed_more ps i p l e a h = subst (λ xs. All IsPlaced xs) (sym (next_too ps i p l e)) (All-append IsPlaced (take i ps) (p ∷ []) a (only p h))

-- the sums over the first jobs, one more, are those over the first ones joined with the next one's own
pub totals_more : (ps : List Placed) (i : ℕ) (p : Placed) → i < length ps → p ≡ get_or ps i p → totals (take (i + 1) ps) ≡ joined (totals (take i ps)) (totals_alone p)
totals_more ps i p l e = ap totals (next_too ps i p l e) ∙ totals-append (take i ps) (p ∷ []) ∙ ap (joined (totals (take i ps))) (totals-one p)

-- the sums over the first of no more jobs than a log may have fit their types when they are joined with the next one's own
pub totals_more_fit : (ps : List Placed) (i : ℕ) (p : Placed) → length ps ≤ 4194304 → i < length ps → All IsPlaced (take i ps) → IsPlaced p → FitsJoined (totals (take i ps)) (totals_alone p)
totals_more_fit ps i p f l a h = subst (FitsJoined (totals (take i ps))) (totals-one p) (totals_fit (take i ps) (p ∷ []) a (only p h) (first_few ps i f l))

its_own : (p : Placed) → sums_of p.job.user (p ∷ []) ≡ alone p
its_own p = let t : int_eq p.job.user p.job.user ≡ true = (Decides-int_eq p.job.user p.job.user).1 refl in sums_of-one p.job.user p ∙ ap (λ b. cond b (alone p) no_sums) t

-- a user's sums over the first jobs, one more, are those over the first ones, and the next one's own where it is the user's
pub sums_more : (q : ℤ) (ps : List Placed) (i : ℕ) (p : Placed) → i < length ps → p ≡ get_or ps i p → sums_of q (take (i + 1) ps) ≡ plus (sums_of q (take i ps)) (cond (int_eq q p.job.user) (alone p) no_sums)
sums_more q ps i p l e = ap (sums_of q) (next_too ps i p l e) ∙ sums_of-append q (take i ps) (p ∷ []) ∙ ap (plus (sums_of q (take i ps))) (sums_of-one q p)

-- the sums of the next job's user over the first jobs fit their types when its own are added
pub sums_more_fit : (ps : List Placed) (i : ℕ) (p : Placed) → AreJobs ps → i < length ps → IsPlaced p → CanAdd (sums_of p.job.user (take i ps)) (alone p)
sums_more_fit ps i p a l h = subst (CanAdd (sums_of p.job.user (take i ps))) (its_own p) (sums_fit p.job.user (take i ps) (p ∷ []) (All-take IsPlaced i ps a.each) (only p h) (first_few ps i a.few l))

-- a job at a place of jobs within the limits is within them
pub placed_at : (ps : List Placed) (i : ℕ) (p : Placed) → AreJobs ps → i < length ps → p ≡ get_or ps i p → IsPlaced p
placed_at ps i p a l e = subst IsPlaced (sym e) (a.each i p l)

few : (v : Tally) (h : IsTally v) → length h.jobs ≡ v.totals.count
few v h = sym (ap (λ (t : Totals). t.count) h.same.totals)

-- where two sums count no more jobs together than a log may have, those over all jobs fit their types when they are joined
pub join_totals_fit : (v w : Tally) → IsTally v → IsTally w → v.totals.count + w.totals.count ≤ 4194304 → FitsJoined v.totals w.totals
join_totals_fit v w h k l =
    let P : Totals → Type 0 = λ t. FitsJoined t w.totals in
    let Q : Totals → Type 0 = λ t. FitsJoined (totals h.jobs) t in
    subst P (sym h.same.totals) (subst Q (sym k.same.totals) (totals_fit h.jobs k.jobs h.limited.each k.limited.each (omega (arith, few v h, few w k))))

-- where two sums count no more jobs together than a log may have, a user's fit their types when they are added
pub join_users_fit : (v w : Tally) → IsTally v → IsTally w → v.totals.count + w.totals.count ≤ 4194304 → (q : ℤ) → CanAdd (user_total q v.users) (user_total q w.users)
join_users_fit v w h k l q =
    let P : UserSums → Type 0 = λ t. CanAdd t (user_total q w.users) in
    let Q : UserSums → Type 0 = λ t. CanAdd (sums_of q h.jobs) t in
    subst P (sym (h.same.users q)) (subst Q (sym (k.same.users q)) (sums_fit q h.jobs k.jobs h.limited.each k.limited.each (omega (arith, few v h, few w k))))

-- sums that add up, at each user, to the sums of two lists of jobs, with the falls of both, are those of the jobs of both
pub joins : (xs ys : List Placed) (a b v : Tally) → IsTallyOf xs a → IsTallyOf ys b → v.totals ≡ joined a.totals b.totals → IsUserList v.users → ((u : ℤ) → user_total u v.users ≡ plus (user_total u a.users) (user_total u b.users)) → AreFallsOf (xs ++ ys) v.starts v.ends → IsTallyOf (xs ++ ys) v
joins xs ys a b v h k t m u d = record {
  totals = t ∙ (λ i. joined (h.totals i) (k.totals i)) ∙ sym (totals-append xs ys);
  user_list = m;
  users = λ q. u q ∙ (λ i. plus (h.users q i) (k.users q i)) ∙ sym (sums_of-append q xs ys);
  days = d;
}

-- the jobs of two sums, which count no more together than a log may have, are within the limits
pub is_joined_part : (v w : Tally) (h : IsTally v) (k : IsTally w) → v.totals.count + w.totals.count ≤ 4194304 → AreJobs (h.jobs ++ k.jobs)
is_joined_part v w h k l = record { each = All-append IsPlaced h.jobs k.jobs h.limited.each k.limited.each; few = let e = length-append h.jobs k.jobs in omega (arith, e, few v h, few w k) }

-- where two parts count no more jobs together than a log may have, so do the sums that they keep
pub both_few : (a b : Totals) (v w : PartSums) → a ≡ v.totals → b ≡ w.totals → v.totals.count + w.totals.count ≤ 4194304 → a.count + b.count ≤ 4194304
both_few a b v w e f l = let m = ap (λ (x : Totals). x.count) e in let n = ap (λ (x : Totals). x.count) f in omega (arith, m, n, l)

-- sums of jobs within the limits have less than 2^100 processor-seconds
pub busy_below : (v : Tally) → IsTally v → v.totals.busy < 2 ^ 100
busy_below v h = let a = small_sum busy h.jobs busy_small h.limited.each in let b = ap (λ (t : Totals). t.busy) h.same.totals in omega (arith, a, b, h.limited.few)
