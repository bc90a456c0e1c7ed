-- Sums as a part keeps them, and a part's entries: what adds up to nothing has no entry.
use Rattle.std.proofs.Common.{◌≡◌, ℕ, ℤ, ◌<◌, ◌+◌, ◌==◌, Bool, true, false, cond, List, [], ◌∷◌, ◌++◌, filter, length, refl, ap, sym, ◌∙◌, arith, subst, Option, Some, None, unwrap_or}
use Rattle.std.specs.Ordering.{int_cmp}
use Rattle.std.specs.BTreeMap.{is_at}
use Rattle.std.specs.Map.{lookup}
use Rattle.std.specs.List.Sorted.{IsStrictlySortedBy}
use Rattle.std.proofs.lemmas.List.Elements.{All-nil}
use Rattle.std.proofs.lemmas.Grind.{common_steps}
use Rattle.scenarios.specs.declared.placed.Placed.{Placed}
use Rattle.metrics.specs.declared.users.UserSums.{UserSums}
use Rattle.metrics.specs.Placed.{IsPlaced}
use Rattle.metrics.specs.Totals.{joined, no_totals}
use Rattle.metrics.specs.Users.{no_sums, plus, sums, sums_of, sums_entry, is_of, user_total, IsUserList}
use Rattle.metrics.specs.Days.{AreFallsOf, busy_on, busy_entry}
use Rattle.metrics.specs.Part.{PartSums, IsPartOf, IsPart}
use Rattle.metrics.specs.Sums.{Tally, IsTallyOf, IsTally, sums_in}
use Rattle.metrics.proofs.UserLists.{user_total_is, user_filled}
use Rattle.metrics.proofs.DayLists.{day_list-has, day_list-rises}
use Rattle.metrics.proofs.Joins.{busy_on-append, sums_of-append, totals-append}

sums_kept : (o : Option UserSums) (s : UserSums) → unwrap_or o no_sums ≡ s → ((unwrap_or o no_sums).count ≡ 0 → o ≡ None) → o ≡ sums_entry s
sums_kept o s e f = let P : UserSums → Type 0 = λ t. o ≡ sums_entry t in subst P e (own o f)
  where
    some_kept : (x : UserSums) (b : Bool) → (x.count == 0) ≡ b → (x.count ≡ 0 → Some x ≡ None) → Some x ≡ cond b None (Some x)
    some_kept x true t f = f (grind (arith, common_steps, t))
    some_kept x false t f = refl

    own : (o : Option UserSums) → ((unwrap_or o no_sums).count ≡ 0 → o ≡ None) → o ≡ sums_entry (unwrap_or o no_sums)
    own None f = refl
    own (Some x) f = some_kept x (x.count == 0) refl f

none_of_nobody : (ps : List Placed) → length ps ≡ 0 → sums ps ≡ no_sums
none_of_nobody [] h = refl
none_of_nobody (p ∷ ps) h = absurd (omega (arith, h))

entry_sums : (s : UserSums) → (s.count ≡ 0 → s ≡ no_sums) → unwrap_or (sums_entry s) no_sums ≡ s
entry_sums s f = go (s.count == 0) refl
  where
    go : (b : Bool) → (s.count == 0) ≡ b → unwrap_or (cond b None (Some s)) no_sums ≡ s
    go true t = sym (f (grind (arith, common_steps, t)))
    go false t = refl

entry_busy : (n : ℕ) → unwrap_or (busy_entry n) 0 ≡ n
entry_busy n = go (n == 0) refl
  where
    go : (b : Bool) → (n == 0) ≡ b → unwrap_or (cond b None (Some n)) 0 ≡ n
    go true t = grind (arith, common_steps, t)
    go false t = refl

-- the sums that a part keeps of jobs are the part of these jobs
pub part_from : (ps : List Placed) (t : Tally) → IsTallyOf ps t → IsPartOf ps (sums_in t)
part_from ps t h = record {
  totals = h.totals;
  users_rise = h.user_list.rise;
  users = λ q. sums_kept (lookup (is_at (int_cmp q)) t.users) (sums_of q ps) (sym (user_total_is q t.users h.user_list.rise) ∙ h.users q) (user_filled q t.users h.user_list.some);
  days_rise = day_list-rises t.starts t.ends;
  days = day_list-has ps t.starts t.ends h.days;
}

-- sums of some jobs within the limits are a part
pub is_part_from : (t : Tally) → IsTally t → IsPart (sums_in t)
is_part_from t h = record { jobs = h.jobs; limited = h.limited; same = part_from h.jobs t h.same }

-- sums that count nothing and have no entries are those over no job
pub empty_tally : (t : Tally) → t.totals ≡ no_totals → t.users ≡ [] → AreFallsOf [] t.starts t.ends → IsTallyOf [] t
unfolding IsStrictlySortedBy
empty_tally t s u d = record {
  totals = s;
  user_list = (let P : List (ℤ × UserSums) → Type 0 = IsUserList in subst P (sym u) (record { rise = tt; some = All-nil (λ (e : ℤ × UserSums). 0 < e.1.count) }));
  users = λ q. ap (user_total q) u;
  days = d;
}

-- sums over no job are of jobs within the limits
pub is_empty_tally : (t : Tally) → IsTallyOf [] t → IsTally t
is_empty_tally t h = record { jobs = []; limited = record { each = All-nil IsPlaced; few = omega arith }; same = h }

same_sums : (ps qs : List Placed) (v : PartSums) → IsPartOf ps v → IsPartOf qs v → (q : ℤ) → sums_of q ps ≡ sums_of q qs
same_sums ps qs v h k q = sym (entry_sums (sums_of q ps) (none_of_nobody (filter (is_of q) ps))) ∙ ap (λ o. unwrap_or o no_sums) (sym (h.users q) ∙ k.users q) ∙ entry_sums (sums_of q qs) (none_of_nobody (filter (is_of q) qs))

same_busy : (ps qs : List Placed) (v : PartSums) → IsPartOf ps v → IsPartOf qs v → (d : ℕ) → busy_on d ps ≡ busy_on d qs
same_busy ps qs v h k d = sym (entry_busy (busy_on d ps)) ∙ ap (λ o. unwrap_or o 0) (sym (h.days d) ∙ k.days d) ∙ entry_busy (busy_on d qs)

-- where the jobs of two parts together have a part, so have any others of the two parts
pub any_jobs : (ps qs xs ys : List Placed) (a b v : PartSums) → IsPartOf ps a → IsPartOf qs b → IsPartOf xs a → IsPartOf ys b → IsPartOf (ps ++ qs) v → IsPartOf (xs ++ ys) v
any_jobs ps qs xs ys a b v h k m n z = record {
  totals = z.totals ∙ totals-append ps qs ∙ (λ i. joined ((sym h.totals ∙ m.totals) i) ((sym k.totals ∙ n.totals) i)) ∙ sym (totals-append xs ys);
  users_rise = z.users_rise;
  users = λ q. z.users q ∙ ap sums_entry (sums_of-append q ps qs ∙ (λ i. plus (same_sums ps xs a h m q i) (same_sums qs ys b k n q i)) ∙ sym (sums_of-append q xs ys));
  days_rise = z.days_rise;
  days = λ d. z.days d ∙ ap busy_entry (busy_on-append d ps qs ∙ (λ i. same_busy ps xs a h m d i + same_busy qs ys b k n d i) ∙ sym (busy_on-append d xs ys));
}
