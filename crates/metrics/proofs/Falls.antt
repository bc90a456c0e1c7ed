-- What falls by day add up to, as one is added and as two lists are merged; and that those up to ends less those up to starts are what jobs take.
use Rattle.std.proofs.Common.{◌≡◌, ℕ, zero, suc, ◌+◌, ◌-◌, ◌*◌, ◌/◌, ◌%◌, ◌<◌, ◌≤◌, ◌^◌, Bool, true, false, cond, eqb, List, [], ◌∷◌, ◌++◌, length, take, set, get_or, ap, sym, subst, arith, max, Err, All, refl, ◌∙◌, inl, inr, Option, Some, None, unwrap_or}
use Rattle.std.specs.Prelude.{nat_le}
use Rattle.std.specs.Ordering.{nat_cmp}
use Rattle.std.specs.BTreeMap.{is_at}
use Rattle.std.specs.Map.{keys_of, lookup}
use Rattle.std.specs.Option.{option_map}
use Rattle.std.specs.List.{sum_by, insert}
use Rattle.std.specs.List.Sorted.{IsStrictlySortedBy}
use Rattle.std.proofs.lemmas.Cmp.{nat_cmp_total}
use Rattle.std.proofs.lemmas.Map.Lookups.{exact_unsigned}
use Rattle.std.proofs.lemmas.Bool.{cases_Bool}
use Rattle.std.proofs.lemmas.Bool.Decides.{nat_tests}
use Rattle.std.proofs.lemmas.List.Sums.{sum_by_more, sum_by-take-le, sum_by-cons, sum_by-append, sum_by-le}
use Rattle.std.proofs.lemmas.List.Elements.{All-set, All-nil, All-take}
use Rattle.std.proofs.Math.Nat.{mul-le-mul}
use Rattle.scenarios.specs.declared.placed.Placed.{Placed}
use Rattle.scenarios.specs.Placed.{real_end}
use Rattle.metrics.specs.Measures.{overlap, busy_in}
use Rattle.metrics.specs.Placed.{IsPlaced}
use Rattle.metrics.specs.Part.{AreJobs}
use Rattle.metrics.specs.Days.{AreFallsOf, IsFalls, before_in, before_on, busy_on, day_total, end_of, from_day}
use Rattle.metrics.specs.Entries.{IsFound, IsMerge, total_at}
use Rattle.std.proofs.lemmas.List.{length-take-le, take_more}
use Rattle.metrics.proofs.Merges.{merge_rises, merge_each, merge_sums}
use Rattle.metrics.proofs.RisingLists.{total_is, rises-set, rises-insert, All-insert}

-- a day is that of an entry where the two are equal
pub same_day : (q k : ℕ) → is_at (nat_cmp q) k ≡ eqb k q
same_day q k = grind (arith, nat_tests)

no_falls : (es : List (ℕ × ℕ)) → es ≡ [] → IsFalls es
unfolding IsStrictlySortedBy
no_falls es e = let P : List (ℕ × ℕ) → Type 0 = IsFalls in subst P (sym e) (record { rise = tt; near = All-nil (λ (x : ℕ × ℕ). x.0 < 2 ^ 40) })

-- falls stay so with more at an entry
pub falls-set : (es : List (ℕ × ℕ)) (i : ℕ) (e : ℕ × ℕ) (b : ℕ) → i < length es → e ≡ get_or es i e → IsFalls es → IsFalls (set es i (e.0, e.1 + b))
falls-set es i e b l at h = record {
  rise = rises-set nat_cmp_total es i e (e.0, e.1 + b) (ap (λ (x : ℕ × ℕ). x.0) at) h.rise;
  near = All-set (λ (x : ℕ × ℕ). x.0 < 2 ^ 40) es i (e.0, e.1 + b) (subst (λ (x : ℕ × ℕ). x.0 < 2 ^ 40) (sym at) (h.near i e l)) h.near;
}

-- falls stay so with an entry more at the place that was found for it
pub falls-insert : (u : ℕ) (es fs : List (ℕ × ℕ)) (i : ℕ) (b : ℕ) → IsFound nat_cmp u es (Err i) → fs ≡ insert es i (u, b) → u < 2 ^ 40 → IsFalls es → IsFalls fs
falls-insert u es fs i b (l, (low, high)) e h k =
    let P : List (ℕ × ℕ) → Type 0 = IsFalls in
    subst P (sym e) (record { rise = rises-insert nat_cmp_total es i (u, b) l low high k.rise; near = All-insert (λ (x : ℕ × ℕ). x.0 < 2 ^ 40) es i (u, b) k.near h })

part_le : (t : ℕ → Bool) (es : List (ℕ × ℕ)) → total_at t (λ n. n) es ≤ from_day 0 es
part_le t [] = omega arith
part_le t (e ∷ es) =
    let z : nat_le 0 e.0 ≡ true = grind (arith, nat_tests) in
    let a = sum_by-cons (λ (x : ℕ × ℕ). cond (t x.0) x.1 0) e es in
    let b = sum_by-cons (λ (x : ℕ × ℕ). cond (nat_le 0 x.0) x.1 0) e es in
    let o : cond (nat_le 0 e.0) e.1 0 ≡ e.1 = rw z refl in
    let ih = part_le t es in let c = less (t e.0) in omega (arith, a, b, o, ih, c)
  where
    less : (v : Bool) → cond v e.1 0 ≤ e.1
    less true = omega arith
    less false = omega arith

from_le : (d : ℕ) (es : List (ℕ × ℕ)) → from_day d es ≤ from_day 0 es
from_le d es = part_le (nat_le d) es

-- what it has of a day, and of later ones, is what it has from the day on
pub from_next : (d : ℕ) (es : List (ℕ × ℕ)) → from_day d es ≡ from_day (d + 1) es + day_total d es
from_next d [] = refl
from_next d (e ∷ es) =
    let a = sum_by-cons (λ (x : ℕ × ℕ). cond (nat_le d x.0) x.1 0) e es in
    let b = sum_by-cons (λ (x : ℕ × ℕ). cond (nat_le (d + 1) x.0) x.1 0) e es in
    let c = sum_by-cons (λ (x : ℕ × ℕ). cond (is_at (nat_cmp d) x.0) x.1 0) e es in
    let ih = from_next d es in let s = split d e.0 e.1 in omega (arith, a, b, c, ih, s)
  where
    split : (d k n : ℕ) → cond (nat_le d k) n 0 ≡ cond (nat_le (d + 1) k) n 0 + cond (is_at (nat_cmp d) k) n 0
    split d k n = grind (arith, nat_tests)

-- nothing falls behind the last entry
pub none_behind : (d : ℕ) (es : List (ℕ × ℕ)) → end_of es ≤ d → from_day d es ≡ 0
none_behind d [] h = refl
none_behind d (e ∷ es) h =
    let ih = none_behind d es (omega (arith, h)) in
    let t : nat_le d e.0 ≡ false = grind (arith, nat_tests, h) in
    sum_by-cons (λ (x : ℕ × ℕ). cond (nat_le d x.0) x.1 0) e es ∙ rw t (omega (arith, ih))

end-more : (es : List (ℕ × ℕ)) (e : ℕ × ℕ) → end_of (es ++ e ∷ []) ≡ max (end_of es) (e.0 + 1)
end-more [] e = omega arith
end-more (x ∷ es) e = let ih = end-more es e in omega (arith, ih)

times_sum : (s a b c : ℕ) → a + b ≡ c → s * a + s * b ≡ s * c
times_sum s a b c e = grind (arith, e)

one_job : (d : ℕ) (p : Placed) → busy_in d p + p.job.size * before_in d p.start ≡ p.job.size * before_in d (real_end p)
one_job d p = let e : overlap d p + before_in d p.start ≡ before_in d (real_end p) = omega arith in times_sum p.job.size (overlap d p) (before_in d p.start) (before_in d (real_end p)) e

-- what jobs take of a day is what lies before their ends and not before their starts
pub busy_between : (d : ℕ) (ps : List Placed) → busy_on d ps + before_on (λ p. p.start) d ps ≡ before_on real_end d ps
busy_between d [] = refl
busy_between d (p ∷ ps) =
    let a = sum_by-cons (busy_in d) p ps in
    let b = sum_by-cons (λ (x : Placed). x.job.size * before_in d x.start) p ps in
    let c = sum_by-cons (λ (x : Placed). x.job.size * before_in d (real_end x)) p ps in
    let ih = busy_between d ps in let o = one_job d p in omega (arith, a, b, c, ih, o)

before_small : (d t : ℕ) (p : Placed) → IsPlaced p → p.job.size * before_in d t ≤ 2 ^ 41
before_small d t p h =
    let o : before_in d t ≤ 86400 = omega arith in
    let m : p.job.size * before_in d t ≤ 16777216 * 86400 = mul-le-mul h.fits_some o in omega (arith, m)

before_few : (second : Placed → ℕ) (d : ℕ) (ps : List Placed) → All IsPlaced ps → before_on second d ps ≤ length ps * 2 ^ 41
before_few second d ps h = sum_by-le (λ (p : Placed). p.job.size * before_in d (second p)) (2 ^ 41) ps (λ k e l. before_small d (second (get_or ps k e)) (get_or ps k e) (h k e l))

-- what lies before a second of each job of two lists is that of the one and of the other
pub before-append : (second : Placed → ℕ) (d : ℕ) (xs ys : List Placed) → before_on second d (xs ++ ys) ≡ before_on second d xs + before_on second d ys
before-append second d xs ys = sum_by-append (λ (p : Placed). p.job.size * before_in d (second p)) xs ys

-- the falls of a second: the rest of its day falls behind that day, and the rest of a whole day behind the day before
pub second_falls : (d s size : ℕ) → 0 < s / 86400 → cond (nat_le d (s / 86400)) (size * (s % 86400)) 0 + cond (nat_le d (s / 86400 - 1)) (size * (86400 - s % 86400)) 0 ≡ size * before_in d s
second_falls d s size h = elim (cases_Bool (nat_le d (s / 86400 - 1))) [
  | inl t ↦ let below : d + 1 ≤ s / 86400 = grind (arith, nat_tests, t, h) in
      let u : nat_le d (s / 86400) ≡ true = grind (arith, nat_tests, below) in
      let b : before_in d s ≡ 86400 = omega (arith, below) in
      let r : s % 86400 + (86400 - s % 86400) ≡ 86400 = omega arith in
      rw (t, u, b) (times_sum size (s % 86400) (86400 - s % 86400) 86400 r)
  | inr t ↦ let above : s / 86400 ≤ d = grind (arith, nat_tests, t, h) in rw t (first_fall d s size above)
]
  where
    first_fall : (d s size : ℕ) → s / 86400 ≤ d → cond (nat_le d (s / 86400)) (size * (s % 86400)) 0 + 0 ≡ size * before_in d s
    first_fall d s size above = elim (cases_Bool (nat_le d (s / 86400))) [
      | inl u ↦ let same : d ≡ s / 86400 = grind (arith, nat_tests, u, above) in
          let b : before_in d s ≡ s % 86400 = omega (arith, same) in rw (u, b) (omega arith)
      | inr u ↦ let over : s / 86400 < d = grind (arith, nat_tests, u) in
          let b : before_in d s ≡ 0 = omega (arith, over) in rw (u, b) (omega arith)
    ]

-- on day 0 the whole falls behind it
pub first_day_falls : (d s size : ℕ) → s / 86400 ≡ 0 → cond (nat_le d (s / 86400)) (size * (s % 86400)) 0 ≡ size * before_in d s
first_day_falls d s size h = elim (cases_Bool (nat_le d (s / 86400))) [
  | inl u ↦ let same : d ≡ 0 = grind (arith, nat_tests, u, h) in
      let b : before_in d s ≡ s % 86400 = omega (arith, same, h) in rw (u, b) refl
  | inr u ↦ let over : 0 < d = grind (arith, nat_tests, u, h) in
      let b : before_in d s ≡ 0 = omega (arith, over, h) in rw (u, b) (omega arith)
]

-- where what falls behind a day fits beside a whole day's, so does what falls behind the day before
pub rest_fits : (n old s size : ℕ) → n ≡ old + cond (nat_le 0 (s / 86400)) (size * (s % 86400)) 0 → old + size * 86400 < 2 ^ 64 → n + size * (86400 - s % 86400) < 2 ^ 64
rest_fits n old s size e f =
    let z : nat_le 0 (s / 86400) ≡ true = grind (arith, nat_tests) in
    let a : n ≡ old + size * (s % 86400) = rw z at e in
    let r : s % 86400 + (86400 - s % 86400) ≡ 86400 = omega arith in
    let b = times_sum size (s % 86400) (86400 - s % 86400) 86400 r in omega (arith, a, b, f)

abbrev Adds : ℕ → ℕ → ℕ → Type 0
Adds a b c = c ≡ a + b

-- falls that are merged are entries by rising day
pub falls_merged : (l r es : List (ℕ × ℕ)) → IsFalls l → IsFalls r → IsMerge nat_cmp Adds l r es → IsFalls es
falls_merged l r es h k m = record {
  rise = merge_rises nat_cmp_total exact_unsigned m h.rise k.rise;
  near = merge_each (λ (e : ℕ × ℕ). e.0 < 2 ^ 40) (λ q a b s n add. n) m h.near k.near;
}

-- falls that are merged add up to what both lists do
pub falls_sum : (l r es : List (ℕ × ℕ)) → IsMerge nat_cmp Adds l r es → (t : ℕ → Bool) → total_at t (λ n. n) es ≡ total_at t (λ n. n) l + total_at t (λ n. n) r
falls_sum l r es m t = merge_sums exact_unsigned (λ n. n) (λ a b s e. e) t m

one_more : (t : ℕ → Bool) (es : List (ℕ × ℕ)) (i : ℕ) (d : ℕ × ℕ) → i < length es → total_at t (λ n. n) (take (i + 1) es) ≡ total_at t (λ n. n) (take i es) + cond (t (get_or es i d).0) (get_or es i d).1 0
one_more t es i d l = sum_by_more (λ (x : ℕ × ℕ). cond (t x.0) x.1 0) es i d l

-- a list whose days rise has of each what stands there
pub day_total_is : (q : ℕ) (es : List (ℕ × ℕ)) → IsStrictlySortedBy nat_cmp (keys_of es) → day_total q es ≡ unwrap_or (lookup (is_at (nat_cmp q)) es) 0
day_total_is q es s = total_is nat_cmp_total (λ n. n) q es s ∙ whole_of (lookup (is_at (nat_cmp q)) es)
  where
    whole_of : (o : Option ℕ) → unwrap_or (option_map (λ (n : ℕ). n) o) 0 ≡ unwrap_or o 0
    whole_of None = refl
    whole_of (Some x) = refl

-- what the first entries have from a day on, and the next, fits where all have
pub more_fits : (d : ℕ) (es : List (ℕ × ℕ)) (i : ℕ) (e : ℕ × ℕ) → i < length es → nat_le d (get_or es i e).0 ≡ true → from_day d (take i es) + (get_or es i e).1 ≤ from_day 0 es
more_fits d es i e l t =
    let a = one_more (nat_le d) es i e l in
    let b : cond (nat_le d (get_or es i e).0) (get_or es i e).1 0 ≡ (get_or es i e).1 = rw t refl in
    let c : from_day d (take (i + 1) es) ≤ from_day d es = sum_by-take-le (λ (x : ℕ × ℕ). cond (nat_le d x.0) x.1 0) es (i + 1) in
    let m = from_le d es in omega (arith, a, b, c, m)

-- the end of the first entries, one more
pub end_next : (es : List (ℕ × ℕ)) (i : ℕ) (d : ℕ × ℕ) → i < length es → end_of (take (i + 1) es) ≡ max (end_of (take i es)) ((get_or es i d).0 + 1)
end_next es i d l = ap end_of (take_more es i (get_or es i d) l ∙ ap (λ (x : ℕ × ℕ). take i es ++ x ∷ []) (get_or-other es i l)) ∙ end-more (take i es) (get_or es i d)
  where
    get_or-other : (es : List (ℕ × ℕ)) (i : ℕ) → i < length es → get_or es i (get_or es i d) ≡ get_or es i d
    get_or-other [] i l = absurd (omega (arith, l))
    get_or-other (x ∷ es) zero l = refl
    get_or-other (x ∷ es) (suc i) l = get_or-other es i (omega (arith, l))

-- no entries are the falls of no jobs
pub falls_of_none : (starts ends : List (ℕ × ℕ)) → starts ≡ [] → ends ≡ [] → AreFallsOf [] starts ends
falls_of_none starts ends s e = record { starts_list = no_falls starts s; ends_list = no_falls ends e; at_starts = λ d. ap (from_day d) s; at_ends = λ d. ap (from_day d) e }

-- the falls of the first jobs and of the next one are those of one job more
pub falls_more : (ps : List Placed) (i : ℕ) (p : Placed) (starts ends starts' ends' : List (ℕ × ℕ)) → i < length ps → p ≡ get_or ps i p → AreFallsOf (take i ps) starts ends → IsFalls starts' → ((d : ℕ) → from_day d starts' ≡ from_day d starts + p.job.size * before_in d p.start) → IsFalls ends' → ((d : ℕ) → from_day d ends' ≡ from_day d ends + p.job.size * before_in d (real_end p)) → AreFallsOf (take (i + 1) ps) starts' ends'
falls_more ps i p starts ends starts' ends' l at h s f e g = record {
  starts_list = s;
  ends_list = e;
  at_starts = λ d. more (λ x. x.start) d _ _ (h.at_starts d) (f d);
  at_ends = λ d. more real_end d _ _ (h.at_ends d) (g d);
}
  where
    more : (second : Placed → ℕ) (d old new : ℕ) → old ≡ before_on second d (take i ps) → new ≡ old + p.job.size * before_in d (second p) → new ≡ before_on second d (take (i + 1) ps)
    more second d old new a b =
        let f : Placed → ℕ = λ x. x.job.size * before_in d (second x) in
        let m : sum_by f (take (i + 1) ps) ≡ sum_by f (take i ps) + f (get_or ps i p) = sum_by_more f ps i p l in
        let o : f (get_or ps i p) ≡ f p = ap f (sym at) in omega (arith, m, o, a, b)

-- a job's falls fit beside those of the jobs before it
pub second_fits : (second : Placed → ℕ) (ps : List Placed) (i size : ℕ) (es : List (ℕ × ℕ)) → AreJobs ps → i < length ps → from_day 0 es ≡ before_on second 0 (take i ps) → size ≤ 16777216 → from_day 0 es + size * 86400 < 2 ^ 64
second_fits second ps i size es a l e s =
    let b = before_few second 0 (take i ps) (All-take IsPlaced i ps a.each) in
    let n = length-take-le i ps (omega (arith, l)) in omega (arith, b, n, a.few, e, s, l)

-- the falls of jobs that are no more together than a log may have fit together
pub both_fit : (second : Placed → ℕ) (ps qs : List Placed) (es fs : List (ℕ × ℕ)) → AreJobs (ps ++ qs) → from_day 0 es ≡ before_on second 0 ps → from_day 0 fs ≡ before_on second 0 qs → from_day 0 es + from_day 0 fs < 2 ^ 64
both_fit second ps qs es fs a e f =
    let b = before_few second 0 (ps ++ qs) a.each in
    let c = before-append second 0 ps qs in omega (arith, b, c, a.few, e, f)

-- the falls of jobs within the limits fit
pub all_fit : (second : Placed → ℕ) (ps : List Placed) (es : List (ℕ × ℕ)) → AreJobs ps → from_day 0 es ≡ before_on second 0 ps → from_day 0 es ≤ 2 ^ 63
all_fit second ps es a e = let b = before_few second 0 ps a.each in omega (arith, b, a.few, e)

-- on each day as much lies before ends as before starts, and what is taken
pub less_before : (ps : List Placed) (starts ends : List (ℕ × ℕ)) → AreFallsOf ps starts ends → (d : ℕ) → busy_on d ps + from_day d starts ≡ from_day d ends
less_before ps starts ends h d = let b = busy_between d ps in omega (arith, b, h.at_starts d, h.at_ends d)
