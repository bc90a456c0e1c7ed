-- The candidates by estimate: a candidate for each who waits, with its place. A search by sizes finds the first who fits an offer: for those in front,
-- who are no longer than the window, what is free or extra is enough; behind, only what is extra. One comes, one leaves, and all are made anew.
use Rattle.std.proofs.Common.{◌≡◌, ℕ, zero, suc, ◌+◌, ◌≤◌, ◌<◌, Bool, true, false, cond, nat_eq, nat_le, nat_lt, max, List, [], ◌∷◌, ◌++◌, length, take, drop, set, map, slice_get, get_or, Option, Some, None, All, refl, sym, ◌∙◌, ap, arith, subst, ⊎_elim}
use Rattle.std.proofs.lemmas.Bool.{cond-true, cond-false, cases_Bool, cases_lt, eq-eqb, eqb-true, true≢false}
use Rattle.std.proofs.lemmas.Bool.Decides.{nat_tests}
use Rattle.std.proofs.lemmas.List.Elements.{All-cons, All-head, All-nil, All-tail, All-weaker, filter_map-append}
use Rattle.std.proofs.lemmas.List.{append-nil, drop_more, get_or-set_other, take_more}
use Rattle.blocks.specs.Light.{IsFirstLight, NoneLight, is_light}
use Rattle.blocks.specs.Rows.{AreBefore, entered, is_at, passes, stands, without_first}
use Rattle.scenarios.specs.Job.{EffectiveJob}
use Rattle.scenarios.specs.declared.order.Order.{Order}
use Rattle.scenarios.specs.declared.order.Order.TheVariants.{Arrival, Shortest}
use Rattle.waiting_places.specs.declared.offer.Offer.{Offer}
use Rattle.waiting_places.specs.Offers.{holds}
use Rattle.waiting_places.specs.Places.{IsFirst, NonePasses, at_place, waiting}
use Rattle.cluster_state.specs.declared.candidate.Candidate.{Candidate}
use Rattle.cluster_state.specs.State.{without}
use Rattle.cluster_state.specs.Candidates.{IsKept, by_estimate, fits_offer, jobs_of, put_last, candidates_of}
use Rattle.cluster_state.proofs.PlaceLemmas.{Having, counted, counts, one, waiting-push, waiting-set}
use Rattle.cluster_state.proofs.CandidatesLemmas.{by_estimate-arrived, candidates-started, sum_by-by_estimate}

-- the estimate of a candidate's job
abbrev pub estimate : Candidate → ℕ
estimate t = t.job.estimate

-- the place of a candidate's job among those who wait
abbrev pub place : Candidate → ℕ
place t = t.place

-- the size of a candidate's job
abbrev pub size : Candidate → ℕ
size t = t.job.size

abbrev pub IsPlaced : List (Option EffectiveJob) → Candidate → Type 0
IsPlaced places t = at_place places t.place ≡ Some t.job

fits_at : (test : EffectiveJob → Bool) (candidates : List Candidate) (k : ℕ) → holds test (at_place (map (λ job. Some job) (jobs_of candidates)) k) ≡ passes (λ t. test t.job) (slice_get candidates k)
fits_at test [] k = refl
fits_at test (t ∷ candidates) zero = refl
fits_at test (t ∷ candidates) (suc k) = fits_at test candidates k

module _ (offer : Offer) (candidates : List Candidate) (longer : ℕ) (parts : AreBefore estimate place (offer.window + 1) 0 candidates longer) where
  abbrev fits : EffectiveJob → Bool
  fits job = fits_offer offer job

  short-fits : (t : Candidate) → stands estimate place (offer.window + 1) 0 t ≡ true → fits t.job ≡ nat_le (size t) (max offer.free offer.extra)
  short-fits t e = grind (arith, nat_tests, e)

  long-fits : (t : Candidate) → stands estimate place (offer.window + 1) 0 t ≡ false → fits t.job ≡ nat_le (size t) offer.extra
  long-fits t e = grind (arith, nat_tests, e)

  in_front : (k : ℕ) → k < longer → holds fits (at_place (map (λ job. Some job) (jobs_of candidates)) k) ≡ is_light size (max offer.free offer.extra) candidates k
  in_front k lt = fits_at fits candidates k ∙ go (slice_get candidates k) (parts.front k lt)
    where
      go : (o : Option Candidate) → passes (stands estimate place (offer.window + 1) 0) o ≡ true → passes (λ t. fits t.job) o ≡ passes (λ t. nat_le (size t) (max offer.free offer.extra)) o
      go None e = refl
      go (Some t) e = short-fits t e

  behind : (k : ℕ) → longer ≤ k → holds fits (at_place (map (λ job. Some job) (jobs_of candidates)) k) ≡ is_light size offer.extra candidates k
  behind k le = fits_at fits candidates k ∙ go (slice_get candidates k) (parts.rest k le)
    where
      go : (o : Option Candidate) → passes (stands estimate place (offer.window + 1) 0) o ≡ false → passes (λ t. fits t.job) o ≡ passes (λ t. nat_le (size t) offer.extra) o
      go None e = refl
      go (Some t) e = long-fits t e

  size-places : length (map (λ job. Some job) (jobs_of candidates)) ≡ length candidates
  size-places = many candidates
    where
      many : (ts : List Candidate) → length (map (λ job. Some job) (jobs_of ts)) ≡ length ts
      many [] = refl
      many (t ∷ ts) = omega (arith, many ts)

  abbrev places : List (Option EffectiveJob)
  places = map (λ job. Some job) (jobs_of candidates)

  none_front : (from to : ℕ) → to ≤ longer → NoneLight size (max offer.free offer.extra) candidates from to → NonePasses (holds fits) places from to
  none_front from to le none k low high = in_front k (omega (arith, high, le)) ∙ none k low high

  there : (k : ℕ) → k < longer → k < length candidates
  there k lt = go (slice_get candidates k) refl (parts.front k lt)
    where
      within : (ts : List Candidate) (i : ℕ) (t : Candidate) → slice_get ts i ≡ Some t → i < length ts
      within [] i t e = cc
      within (u ∷ ts) zero t e = omega arith
      within (u ∷ ts) (suc i) t e = omega (arith, within ts i t e)

      go : (o : Option Candidate) → slice_get candidates k ≡ o → passes (stands estimate place (offer.window + 1) 0) (slice_get candidates k) ≡ true → k < length candidates
      go None e h = absurd (true≢false (sym h ∙ ap (passes (stands estimate place (offer.window + 1) 0)) e))
      go (Some t) e h = within candidates k t e

  -- of those in front, no longer than the window, the first that takes no more than is free or is extra is the first who fits the offer
  pub found_front : (from k : ℕ) → IsFirstLight size (max offer.free offer.extra) candidates from longer (Some k) → IsFirst (holds fits) places from (length places) (Some k)
  found_front from k found =
      let before : k < longer = found.1 in
      (found.0, omega (arith, there k before, size-places), in_front k before ∙ found.2, none_front from k (omega (arith, before)) found.3)

  -- where none in front takes so little, the first behind that takes no more than is extra, if there is one, is the first who fits the offer
  pub found_behind : (from end : ℕ) (r : Option ℕ) → IsFirstLight size (max offer.free offer.extra) candidates from longer None → end ≡ length candidates → IsFirstLight size offer.extra candidates (max from longer) end r → IsFirst (holds fits) places from (length places) r
  found_behind from end None none e rest = λ k low high.
      ⊎_elim
      (λ (l : k < longer). none_front from longer (omega arith) none k low l)
      (λ (g : longer ≤ k). behind k g ∙ rest k (omega (arith, low, g)) (omega (arith, high, e, size-places)))
      (cases_lt k longer)
  found_behind from end (Some k) none e rest =
      let l = rest.0 in
      let u = rest.1 in (
        omega (arith, l),
        omega (arith, u, e, size-places),
        behind k (omega (arith, l)) ∙ rest.2,
        λ i low high.
            ⊎_elim
            (λ (l : i < longer). none_front from longer (omega arith) none i low l)
            (λ (g : longer ≤ i). behind i g ∙ rest.3 i (omega (arith, low, g)) high)
            (cases_lt i longer),
      )

entered-last : (t : Candidate) (candidates : List Candidate) → All (λ (x : Candidate). x.place < t.place) candidates → jobs_of (entered estimate place t candidates) ≡ put_last t.job (jobs_of candidates)
entered-last t [] h = refl
entered-last t (x ∷ candidates) h = go (stands estimate place (estimate t) (place t) x) refl (entered-last t candidates (All-tail (λ (y : Candidate). y.place < t.place) x candidates h))
  where
    go : (b : Bool) → stands estimate place (estimate t) (place t) x ≡ b → jobs_of (entered estimate place t candidates) ≡ put_last t.job (jobs_of candidates) → jobs_of (cond b (x ∷ entered estimate place t candidates) (t ∷ x ∷ candidates)) ≡ put_last t.job (x.job ∷ jobs_of candidates)
    go true e more =
        let lt : x.place < t.place = All-head (λ (y : Candidate). y.place < t.place) x candidates h in
        let not : nat_lt t.job.estimate x.job.estimate ≡ false = grind (arith, nat_tests, e, lt) in
        ap (λ (l : List EffectiveJob). x.job ∷ l) more ∙ sym (cond-false (nat_lt t.job.estimate x.job.estimate) (t.job ∷ x.job ∷ jobs_of candidates) (x.job ∷ put_last t.job (jobs_of candidates)) not)
    go false e more =
        let lt : x.place < t.place = All-head (λ (y : Candidate). y.place < t.place) x candidates h in
        let is : nat_lt t.job.estimate x.job.estimate ≡ true = grind (arith, nat_tests, e, lt) in
        sym (cond-true (nat_lt t.job.estimate x.job.estimate) (t.job ∷ x.job ∷ jobs_of candidates) (x.job ∷ put_last t.job (jobs_of candidates)) is)

All-entered : (P : Candidate → Type 0) (t : Candidate) (candidates : List Candidate) → P t → All P candidates → All P (entered estimate place t candidates)
All-entered P t [] p h = All-cons P t [] p h
All-entered P t (x ∷ candidates) p h =
    elim (stands estimate place (estimate t) (place t) x) as (λ b. All P (cond b (x ∷ entered estimate place t candidates) (t ∷ x ∷ candidates))) [
      | true ↦ All-cons P x (entered estimate place t candidates) (All-head P x candidates h) (All-entered P t candidates p (All-tail P x candidates h))
      | false ↦ All-cons P t (x ∷ candidates) p h
    ]

at-push : (places : List (Option EffectiveJob)) (k : ℕ) (o : Option EffectiveJob) (x : EffectiveJob) → at_place places k ≡ Some x → (at_place (places ++ o ∷ []) k ≡ Some x) × (k < length places)
at-push [] k o x e = cc
at-push (p ∷ places) zero o x e = (e, omega arith)
at-push (p ∷ places) (suc k) o x e = let r = at-push places k o x e in (r.0, let l = r.1 in omega (arith, l))

at-end : (places : List (Option EffectiveJob)) (x : EffectiveJob) → at_place (places ++ Some x ∷ []) (length places) ≡ Some x
at-end [] x = refl
at-end (p ∷ places) x = at-end places x

-- what is kept of the candidates by estimate stays so as a job comes to a new last place and its candidate enters
pub kept-pushed : (places new : List (Option EffectiveJob)) (candidates candidates' : List Candidate) (t : Candidate) → IsKept Shortest places candidates → t.place ≡ length places → new ≡ places ++ Some t.job ∷ [] → candidates' ≡ entered estimate place t candidates → IsKept Shortest new candidates'
kept-pushed places new candidates candidates' t kept at e f =
    let grown = places ++ Some t.job ∷ [] in
    let inside : All (λ (x : Candidate). x.place < t.place) candidates = All-weaker (IsPlaced places) (λ (x : Candidate). x.place < t.place) (λ x (h : IsPlaced places x). let r = at-push places x.place (Some t.job) x.job h in let l = r.1 in omega (arith, l, at)) candidates kept.placed in
    let here : IsPlaced grown t = ap (at_place grown) at ∙ at-end places t.job in
    let jobs : jobs_of (entered estimate place t candidates) ≡ by_estimate (waiting grown) =
    entered-last t candidates inside ∙ ap (put_last t.job) kept.jobs ∙ sym (by_estimate-arrived (waiting places) t.job) ∙ ap by_estimate (sym (waiting-push places grown t.job refl)) in
    subst (λ (p : List (Option EffectiveJob)). IsKept Shortest p candidates') (sym e)
    (subst (λ (r : List Candidate). IsKept Shortest grown r) (sym f)
    (record {
      jobs = jobs;
      placed = All-entered (IsPlaced grown) t candidates here (All-weaker (IsPlaced places) (IsPlaced grown) (λ x (h : IsPlaced places x). (at-push places x.place (Some t.job) x.job h).0) candidates kept.placed);
    }))

one_place : (xs : List (Option EffectiveJob)) (i j : ℕ) (x y : EffectiveJob) → at_place xs i ≡ Some x → at_place xs j ≡ Some y → x.number ≡ y.number → Having x.number (waiting xs) ≤ 1 → i ≡ j
one_place [] i j x y e f same once = cc
one_place (o ∷ xs) zero zero x y e f same once = refl
one_place (None ∷ xs) zero (suc j) x y e f same once = cc
one_place (Some z ∷ xs) zero (suc j) x y e f same once =
    let is : z ≡ x = cc in
    let first : nat_eq z.number x.number ≡ true = eq-eqb z.number x.number (ap (λ (k : EffectiveJob). k.number) is) in
    let more : 1 ≤ Having x.number (waiting xs) = subst (λ n. 1 ≤ Having n (waiting xs)) (sym same) (counted xs j y f) in
    absurd (omega (arith, once, counts x.number z (waiting xs), one x.number z first, more))
one_place (None ∷ xs) (suc i) zero x y e f same once = cc
one_place (Some z ∷ xs) (suc i) zero x y e f same once =
    let is : z ≡ y = cc in
    let first : nat_eq z.number x.number ≡ true = eq-eqb z.number x.number (ap (λ (k : EffectiveJob). k.number) is ∙ sym same) in
    absurd (omega (arith, once, counts x.number z (waiting xs), one x.number z first, counted xs i x e))
one_place (None ∷ xs) (suc i) (suc j) x y e f same once = ap suc (one_place xs i j x y e f same once)
one_place (Some z ∷ xs) (suc i) (suc j) x y e f same once = ap suc (one_place xs i j x y e f same (omega (arith, once, counts x.number z (waiting xs))))

module _ (places : List (Option EffectiveJob)) (p : ℕ) (x : EffectiveJob) (at : at_place places p ≡ Some x) where
  abbrev test : Candidate → Bool
  test t = is_at estimate place x.estimate p t

  abbrev left : List (Option EffectiveJob)
  left = set places p None

  is_it : (t : Candidate) → IsPlaced places t → t.place ≡ p → t.job ≡ x
  is_it t h e =
      let both : Some t.job ≡ Some x = sym h ∙ ap (at_place places) e ∙ at in
      cc

  same_test : (t : Candidate) → Having x.number (waiting places) ≤ 1 → IsPlaced places t → test t ≡ nat_eq t.job.number x.number
  same_test t once h =
      ⊎_elim
      (λ (e : nat_eq t.job.number x.number ≡ true).
      let number : t.job.number ≡ x.number = eqb-true t.job.number x.number e in
      let here : t.place ≡ p = one_place places t.place p t.job x h at number (subst (λ n. Having n (waiting places) ≤ 1) (sym number) once) in
      let job : t.job ≡ x = is_it t h here in
      let long : t.job.estimate ≡ x.estimate = ap (λ (j : EffectiveJob). j.estimate) job in
      let yes : test t ≡ true = grind (arith, nat_tests, here, long) in
      yes ∙ sym e)
      (λ (e : nat_eq t.job.number x.number ≡ false).
      ⊎_elim
      (λ (f : test t ≡ true).
      let here : t.place ≡ p = grind (arith, nat_tests, f) in
      absurd (true≢false (sym (eq-eqb t.job.number x.number (ap (λ (j : EffectiveJob). j.number) (is_it t h here))) ∙ e)))
      (λ (f : test t ≡ false). f ∙ sym e)
      (cases_Bool (test t)))
      (cases_Bool (nat_eq t.job.number x.number))

  jobs-without : (candidates : List Candidate) → Having x.number (waiting places) ≤ 1 → All (IsPlaced places) candidates → jobs_of (without_first test candidates) ≡ without x.number (jobs_of candidates)
  jobs-without [] once h = refl
  jobs-without (t ∷ candidates) once h = go (test t) refl (same_test t once (All-head (IsPlaced places) t candidates h)) (jobs-without candidates once (All-tail (IsPlaced places) t candidates h))
    where
      go : (b : Bool) → test t ≡ b → test t ≡ nat_eq t.job.number x.number → jobs_of (without_first test candidates) ≡ without x.number (jobs_of candidates) → jobs_of (cond b candidates (t ∷ without_first test candidates)) ≡ without x.number (t.job ∷ jobs_of candidates)
      go true e s more = sym (cond-true (nat_eq t.job.number x.number) (jobs_of candidates) (t.job ∷ without x.number (jobs_of candidates)) (sym s ∙ e))
      go false e s more = ap (λ (l : List EffectiveJob). t.job ∷ l) more ∙ sym (cond-false (nat_eq t.job.number x.number) (jobs_of candidates) (t.job ∷ without x.number (jobs_of candidates)) (sym s ∙ e))

  stays : (t : Candidate) → IsPlaced places t → nat_eq t.job.number x.number ≡ false → IsPlaced left t
  stays t h e =
      get_or-set_other places p t.place None None (λ (f : t.place ≡ p). true≢false (sym (eq-eqb t.job.number x.number (ap (λ (j : EffectiveJob). j.number) (is_it t h f))) ∙ e)) ∙ h

  others : (candidates : List Candidate) → Having x.number (jobs_of candidates) ≡ 0 → All (IsPlaced places) candidates → All (IsPlaced left) candidates
  others [] none h = All-nil (IsPlaced left)
  others (t ∷ candidates) none h =
      let fails : nat_eq t.job.number x.number ≡ false = ⊎_elim
      (λ (e : nat_eq t.job.number x.number ≡ true). absurd (omega (arith, none, counts x.number t.job (jobs_of candidates), one x.number t.job e)))
      (λ (e : nat_eq t.job.number x.number ≡ false). e)
      (cases_Bool (nat_eq t.job.number x.number)) in
      All-cons (IsPlaced left) t candidates (stays t (All-head (IsPlaced places) t candidates h) fails)
      (others candidates (omega (arith, none, counts x.number t.job (jobs_of candidates))) (All-tail (IsPlaced places) t candidates h))

  placed-left : (candidates : List Candidate) → Having x.number (waiting places) ≤ 1 → Having x.number (jobs_of candidates) ≤ 1 → All (IsPlaced places) candidates → All (IsPlaced left) (without_first test candidates)
  placed-left [] once own h = All-nil (IsPlaced left)
  placed-left (t ∷ candidates) once own h = go (test t) refl (same_test t once (All-head (IsPlaced places) t candidates h)) (placed-left candidates once (omega (arith, own, counts x.number t.job (jobs_of candidates))) (All-tail (IsPlaced places) t candidates h))
    where
      go : (b : Bool) → test t ≡ b → test t ≡ nat_eq t.job.number x.number → All (IsPlaced left) (without_first test candidates) → All (IsPlaced left) (cond b candidates (t ∷ without_first test candidates))
      go true e s more = others candidates (omega (arith, own, counts x.number t.job (jobs_of candidates), one x.number t.job (sym s ∙ e))) (All-tail (IsPlaced places) t candidates h)
      go false e s more = All-cons (IsPlaced left) t (without_first test candidates) (stays t (All-head (IsPlaced places) t candidates h) (sym s ∙ e)) more

  once-candidates : (o : Order) → Having x.number (waiting places) ≤ 1 → Having x.number (candidates_of o (waiting places)) ≤ 1
  once-candidates Arrival once = omega arith
  once-candidates Shortest once = omega (arith, once, sum_by-by_estimate (λ (j : EffectiveJob). cond {A = ℕ} (nat_eq j.number x.number) 1 0) (waiting places))

  -- what is kept of the candidates stays so as a job, whose number no other has, leaves its place and its candidate the candidates
  pub kept-left : (o : Order) (candidates candidates' : List Candidate) → IsKept o places candidates → Having x.number (waiting places) ≤ 1 → candidates' ≡ without_first test candidates → IsKept o left candidates'
  kept-left o candidates candidates' kept once f =
      let n = x.number in
      subst (IsKept o left) (sym f)
      (record {
        jobs = jobs-without candidates once kept.placed ∙ ap (without n) kept.jobs ∙ candidates-started o n (waiting places) once ∙ ap (candidates_of o) (sym (waiting-set places p x once at));
        placed = placed-left candidates once (subst (λ (js : List EffectiveJob). Having n js ≤ 1) (sym kept.jobs) (once-candidates o once)) kept.placed;
      })

-- the job of a candidate of the candidates waits at the candidate's place
pub placed-at : (places : List (Option EffectiveJob)) (candidates : List Candidate) (k : ℕ) (t : Candidate) → slice_get candidates k ≡ Some t → All (IsPlaced places) candidates → at_place places t.place ≡ Some t.job
placed-at places [] k t e h = cc
placed-at places (u ∷ candidates) zero t e h = let same : u ≡ t = cc in subst (IsPlaced places) same (All-head (IsPlaced places) u candidates h)
placed-at places (u ∷ candidates) (suc k) t e h = placed-at places candidates k t e (All-tail (IsPlaced places) u candidates h)

-- the job at a place of the candidates is that of the candidate there
pub job-at : (candidates : List Candidate) (k : ℕ) (t : Candidate) → slice_get candidates k ≡ Some t → slice_get (jobs_of candidates) k ≡ Some t.job
job-at [] k t e = cc
job-at (u ∷ candidates) zero t e = let same : u ≡ t = cc in ap (λ (v : Candidate). Some v.job) same
job-at (u ∷ candidates) (suc k) t e = job-at candidates k t e

-- in order of arrival no candidates are kept, whatever the places are
pub none_kept : (places new : List (Option EffectiveJob)) (candidates : List Candidate) → IsKept Arrival places candidates → IsKept Arrival new candidates
none_kept places new [] kept = record { jobs = refl; placed = All-nil (IsPlaced new) }
none_kept places new (t ∷ candidates) kept = let e = kept.jobs in cc

-- candidates by estimate that are made anew: they have those who wait at the first k places, and there is capacity for the others
pub record IsFilling (places : List (Option EffectiveJob)) (k capacity : ℕ) (candidates : List Candidate) : Type 0 where
  pub jobs : jobs_of candidates ≡ by_estimate (waiting (take k places))
  pub placed : All (IsPlaced places) candidates
  pub before : All (λ (t : Candidate). t.place < k) candidates
  pub enough : length (waiting (drop k places)) ≤ capacity

other_default : (places : List (Option EffectiveJob)) (k : ℕ) (d e : Option EffectiveJob) → k < length places → get_or places k d ≡ get_or places k e
other_default [] k d e lt = absurd (omega (arith, lt))
other_default (p ∷ places) zero d e lt = refl
other_default (p ∷ places) (suc k) d e lt = other_default places k d e (omega (arith, lt))

module _ (places : List (Option EffectiveJob)) (k : ℕ) (o d : Option EffectiveJob) (lt : k < length places) (read : get_or places k d ≡ o) where
  read_at : get_or places k None ≡ o
  read_at = other_default places k None d lt ∙ read

  up_to : waiting (take (k + 1) places) ≡ waiting (take k places) ++ waiting (o ∷ [])
  up_to = ap waiting (take_more places k None lt) ∙ filter_map-append (λ (place : Option EffectiveJob). place) (take k places) (get_or places k None ∷ []) ∙ ap (λ (q : Option EffectiveJob). waiting (take k places) ++ waiting (q ∷ [])) read_at

  from_on : waiting (drop k places) ≡ waiting (o ∷ drop (k + 1) places)
  from_on = ap waiting (drop_more places k None lt) ∙ ap (λ (q : Option EffectiveJob). waiting (q ∷ drop (k + 1) places)) read_at

  -- a place at which nobody waits adds nothing to candidates that are made anew
  pub filling-none : (capacity : ℕ) (candidates : List Candidate) → o ≡ None → IsFilling places k capacity candidates → IsFilling places (k + 1) capacity candidates
  filling-none capacity candidates none f =
      let same : waiting (take (k + 1) places) ≡ waiting (take k places) = up_to ∙ ap (λ (q : Option EffectiveJob). waiting (take k places) ++ waiting (q ∷ [])) none ∙ append-nil (waiting (take k places)) in
      let rest : waiting (drop k places) ≡ waiting (drop (k + 1) places) = from_on ∙ ap (λ (q : Option EffectiveJob). waiting (q ∷ drop (k + 1) places)) none in
      record {
        jobs = f.jobs ∙ ap by_estimate (sym same);
        placed = f.placed;
        before = All-weaker (λ (t : Candidate). t.place < k) (λ (t : Candidate). t.place < k + 1) (λ t (h : t.place < k). omega (arith, h)) candidates f.before;
        enough = omega (arith, f.enough, ap length rest);
      }

  -- the candidate of who waits at the next place enters candidates that are made anew, and takes up one of the capacity at most
  pub filling-one : (capacity capacity' : ℕ) (t : Candidate) (candidates candidates' : List Candidate) → o ≡ Some t.job → t.place ≡ k → IsFilling places k capacity candidates → candidates' ≡ entered estimate place t candidates → capacity ≤ capacity' + 1 → IsFilling places (k + 1) capacity' candidates'
  filling-one capacity capacity' t candidates candidates' some at f e spare =
      let same : waiting (take (k + 1) places) ≡ waiting (take k places) ++ t.job ∷ [] = up_to ∙ ap (λ (q : Option EffectiveJob). waiting (take k places) ++ waiting (q ∷ [])) some in
      let rest : waiting (drop k places) ≡ t.job ∷ waiting (drop (k + 1) places) = from_on ∙ ap (λ (q : Option EffectiveJob). waiting (q ∷ drop (k + 1) places)) some in
      let inside : All (λ (y : Candidate). y.place < t.place) candidates = All-weaker (λ (y : Candidate). y.place < k) (λ (y : Candidate). y.place < t.place) (λ y (h : y.place < k). omega (arith, h, at)) candidates f.before in
      let here : IsPlaced places t = ap (at_place places) at ∙ read_at ∙ some in
      subst (IsFilling places (k + 1) capacity') (sym e)
      (record {
        jobs = entered-last t candidates inside ∙ ap (put_last t.job) f.jobs ∙ sym (by_estimate-arrived (waiting (take k places)) t.job) ∙ ap by_estimate (sym same);
        placed = All-entered (IsPlaced places) t candidates here f.placed;
        before = All-entered (λ (y : Candidate). y.place < k + 1) t candidates (omega (arith, at)) (All-weaker (λ (y : Candidate). y.place < k) (λ (y : Candidate). y.place < k + 1) (λ y (h : y.place < k). omega (arith, h)) candidates f.before);
        enough = omega (arith, f.enough, ap length rest, spare);
      })
