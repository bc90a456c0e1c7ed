-- The touched numbers among those of edits, and their submit seconds.
use Rattle.std.proofs.Common.{◌≡◌, ◌≢◌, ℕ, ◌≤◌, ◌<◌, ◌+◌, ◌⊎◌, List, [], ◌∷◌, ◌++◌, map, take, length, get_or, All, Option, None, Some, zero, suc, cond, nat_lt, refl, sym, ◌∙◌, ap, subst, arith, inl, inr}
use Rattle.std.specs.Prelude.{IsSomeAnd}
use Rattle.std.specs.List.{Contains, flat_map}
use Rattle.std.proofs.Math.Decide.{ℕ_discrete}
use Rattle.std.proofs.Math.Logic.{by_cases}
use Rattle.std.proofs.lemmas.List.{take_more, take_all, map-append}
use Rattle.std.proofs.lemmas.List.Concat.{flat_map-cons}
use Rattle.std.proofs.lemmas.List.Sums.{sum_by-append, sum_by-cons}
use Rattle.std.proofs.lemmas.List.Elements.{All-push, All-cons, All-nil, All-head, All-tail, All-weaker, All-contains_itself, Contains-append_left, Contains-append_right, Contains-append_cases}
use Rattle.swf_text.specs.Entry.{LogEntry}
use Rattle.job_table.specs.Accepted.{AreAccepted}
use Rattle.job_table.specs.Edit.{LogEdit, log_after}
use Rattle.job_table.specs.Table.{IsTable}
use Rattle.scenarios.specs.Job.{EffectiveJob}
use Rattle.scenarios.specs.Scenario.{ScenarioView}
use Rattle.scenarios.specs.Plan.{Plan, plan_of, job_numbered}
use Rattle.rejoin.specs.Named.{named, submit_in, submits_of}
use Rattle.rejoin.specs.Started.{count_before, submitted_of}
use Rattle.rejoin.specs.Tested.{AreThose}
use Rattle.rejoin.specs.Touched.{IsTouched, IsSubmit, IsTouchedSubmit}
use Rattle.rejoin.proofs.Named.{others-are-untouched}

-- the numbers that were collected are touched, and are all touched ones of these edits
pub record Collected (p q : Plan) (edits : List LogEdit) (ns : List ℕ) : Type 0 where
  pub each : All (IsTouched p q) ns
  pub whole : (n : ℕ) → Contains (map named edits) n → IsTouched p q n → Contains ns n

contains-nil : {X : Type 0} (x : X) → Contains [] x → ⊥
contains-nil x (k, l, e) = absurd (omega (arith, l))

contains-one : (m n : ℕ) → Contains (m ∷ []) n → m ≡ n
contains-one m n (zero, l, e) = e
contains-one m n (suc k, l, e) = absurd (omega (arith, l))

contains-this : (m n : ℕ) → m ≡ n → Contains (m ∷ []) n
contains-this m n e = (0, omega arith, e)

names-more : (xs : List LogEdit) (e : LogEdit) (n : ℕ) → Contains (map named (xs ++ e ∷ [])) n → Contains (map named xs) n ⊎ (named e ≡ n)
names-more xs e n h = go (Contains-append_cases (map named xs) (named e ∷ []) n (subst (λ (l : List ℕ). Contains l n) (map-append named xs (e ∷ [])) h))
  where
    go : Contains (map named xs) n ⊎ Contains (named e ∷ []) n → Contains (map named xs) n ⊎ (named e ≡ n)
    go (inl c) = inl c
    go (inr c) = inr (contains-one (named e) n c)

pub collected-more : (p q : Plan) (xs ys : List LogEdit) (e : LogEdit) (m : ℕ) (ns ms : List ℕ) → ys ≡ xs ++ e ∷ [] → m ≡ named e → ms ≡ ns ++ m ∷ [] → IsTouched p q m → Collected p q xs ns → Collected p q ys ms
collected-more p q xs ys e m ns ms more is put touched c = record {
  each = subst (All (IsTouched p q)) (sym put) (All-push (IsTouched p q) ns m c.each touched);
  whole = λ n h d. subst (λ (l : List ℕ). Contains l n) (sym put) (go n d (names-more xs e n (subst (λ (l : List LogEdit). Contains (map named l) n) more h)));
}
  where
    go : (n : ℕ) → IsTouched p q n → Contains (map named xs) n ⊎ (named e ≡ n) → Contains (ns ++ m ∷ []) n
    go n d (inl h) = Contains-append_left ns (m ∷ []) n (c.whole n h d)
    go n d (inr h) = Contains-append_right ns (m ∷ []) n (contains-this m n (is ∙ h))

pub collected-same : (p q : Plan) (xs ys : List LogEdit) (e : LogEdit) (m : ℕ) (ns : List ℕ) → ys ≡ xs ++ e ∷ [] → m ≡ named e → (IsTouched p q m → ⊥) → Collected p q xs ns → Collected p q ys ns
collected-same p q xs ys e m ns more is same c = record {
  each = c.each;
  whole = λ n h d. go n d (names-more xs e n (subst (λ (l : List LogEdit). Contains (map named l) n) more h));
}
  where
    go : (n : ℕ) → IsTouched p q n → Contains (map named xs) n ⊎ (named e ≡ n) → Contains ns n
    go n d (inl h) = c.whole n h d
    go n d (inr h) = absurd (same (subst (IsTouched p q) (sym (is ∙ h)) d))

named-or-not : (edits : List LogEdit) (n : ℕ) → Contains (map named edits) n ⊎ All (λ edit. named edit ≢ n) edits
named-or-not [] n = inr (All-nil (λ edit. named edit ≢ n))
named-or-not (e ∷ es) n = by_cases (ℕ_discrete (named e) n) (λ same. inl (0, omega arith, same)) (λ other. go other (named-or-not es n))
  where
    go : (named e ≢ n) → Contains (map named es) n ⊎ All (λ edit. named edit ≢ n) es → Contains (map named (e ∷ es)) n ⊎ All (λ edit. named edit ≢ n) (e ∷ es)
    go other (inl (k, l, at)) = inl (suc k, omega (arith, l), at)
    go other (inr all) = inr (All-cons (λ edit. named edit ≢ n) e es other all)

pub collected-all : (log : List LogEntry) (edits : List LogEdit) (now : List LogEntry) (s : ScenarioView) (ns : List ℕ) → IsTable log → AreAccepted log edits → now ≡ log_after log edits → Collected (plan_of log s) (plan_of now s) edits ns → AreThose (IsTouched (plan_of log s) (plan_of now s)) ns
collected-all log edits now s ns table accepted is c = record {
  each = c.each;
  whole = λ n d. go n d (named-or-not edits n);
}
  where
    go : (n : ℕ) → IsTouched (plan_of log s) (plan_of now s) n → Contains (map named edits) n ⊎ All (λ edit. named edit ≢ n) edits → Contains ns n
    go n d (inl h) = c.whole n h d
    go n d (inr none) = absurd (others-are-untouched log edits s n table accepted none (subst (λ (l : List LogEntry). IsTouched (plan_of log s) (plan_of l s) n) is d))

submit-is : (o : Option EffectiveJob) (t : ℕ) → Contains (submit_in o) t → IsSomeAnd o (λ j. j.submit ≡ t)
submit-is None t h = absurd (contains-nil t h)
submit-is (Some j) t h = contains-one j.submit t h

submit-has : (o : Option EffectiveJob) (t : ℕ) → IsSomeAnd o (λ j. j.submit ≡ t) → Contains (submit_in o) t
submit-has None t h = absurd h
submit-has (Some j) t h = contains-this j.submit t h

submits-are : (p q : Plan) (n t : ℕ) → Contains (submits_of p q n) t → IsSubmit p n t ⊎ IsSubmit q n t
submits-are p q n t h = go (Contains-append_cases (submit_in (job_numbered p.jobs n)) (submit_in (job_numbered q.jobs n)) t h)
  where
    go : Contains (submit_in (job_numbered p.jobs n)) t ⊎ Contains (submit_in (job_numbered q.jobs n)) t → IsSubmit p n t ⊎ IsSubmit q n t
    go (inl c) = inl (submit-is (job_numbered p.jobs n) t c)
    go (inr c) = inr (submit-is (job_numbered q.jobs n) t c)

submits-have : (p q : Plan) (n t : ℕ) → IsSubmit p n t ⊎ IsSubmit q n t → Contains (submits_of p q n) t
submits-have p q n t (inl h) = Contains-append_left (submit_in (job_numbered p.jobs n)) (submit_in (job_numbered q.jobs n)) t (submit-has (job_numbered p.jobs n) t h)
submits-have p q n t (inr h) = Contains-append_right (submit_in (job_numbered p.jobs n)) (submit_in (job_numbered q.jobs n)) t (submit-has (job_numbered q.jobs n) t h)

pieces-have : (p q : Plan) (ns : List ℕ) (n t : ℕ) → Contains ns n → Contains (submits_of p q n) t → Contains (flat_map (submits_of p q) ns) t
pieces-have p q [] n t c h = absurd (contains-nil n c)
pieces-have p q (m ∷ ms) n t (zero, l, e) h =
    subst (λ (x : List ℕ). Contains x t) (sym (flat_map-cons (submits_of p q) m ms)) (Contains-append_left (submits_of p q m) (flat_map (submits_of p q) ms) t (subst (λ k. Contains (submits_of p q k) t) (sym e) h))
pieces-have p q (m ∷ ms) n t (suc k, l, e) h =
    subst (λ (x : List ℕ). Contains x t) (sym (flat_map-cons (submits_of p q) m ms)) (Contains-append_right (submits_of p q m) (flat_map (submits_of p q) ms) t (pieces-have p q ms n t (k, omega (arith, l), e) h))

pieces-are : (p q : Plan) (ns : List ℕ) (t : ℕ) → All (IsTouched p q) ns → Contains (flat_map (submits_of p q) ns) t → IsTouchedSubmit p q t
pieces-are p q [] t all h = absurd (contains-nil t h)
pieces-are p q (m ∷ ms) t all h = go (pieces-are p q ms t (All-tail (IsTouched p q) m ms all)) (Contains-append_cases (submits_of p q m) (flat_map (submits_of p q) ms) t (subst (λ (x : List ℕ). Contains x t) (flat_map-cons (submits_of p q) m ms) h))
  where
    go : (Contains (flat_map (submits_of p q) ms) t → IsTouchedSubmit p q t) → Contains (submits_of p q m) t ⊎ Contains (flat_map (submits_of p q) ms) t → IsTouchedSubmit p q t
    go later (inl c) = (m, All-head (IsTouched p q) m ms all, submits-are p q m t c)
    go later (inr c) = later c

-- the submit seconds of all touched numbers, in both plans, are all seconds at which touched numbers are submitted
pub submits-all : (p q : Plan) (ns ts : List ℕ) → AreThose (IsTouched p q) ns → ts ≡ flat_map (submits_of p q) ns → AreThose (IsTouchedSubmit p q) ts
submits-all p q ns ts those is = record {
  each = subst (All (IsTouchedSubmit p q)) (sym is) (All-all (flat_map (submits_of p q) ns) (λ t h. pieces-are p q ns t those.each h));
  whole = λ t (n, d, h). subst (λ (x : List ℕ). Contains x t) (sym is) (pieces-have p q ns n t (those.whole n d) (submits-have p q n t h));
}
  where
    All-all : (ts : List ℕ) → ((t : ℕ) → Contains ts t → IsTouchedSubmit p q t) → All (IsTouchedSubmit p q) ts
    All-all ts h = All-weaker (Contains ts) (IsTouchedSubmit p q) h ts (All-contains_itself ts)

count-append : (t : ℕ) (xs ys : List ℕ) → count_before t (xs ++ ys) ≡ count_before t xs + count_before t ys
count-append t xs ys = sum_by-append (λ (s : ℕ). cond {A = ℕ} (nat_lt s t) 1 0) xs ys

-- of the submit seconds of some numbers in two plans as many come before second t as numbers are submitted before it in one and in the other
pub submits-count : (p q : Plan) (ns : List ℕ) (t : ℕ) → count_before t (flat_map (submits_of p q) ns) ≡ submitted_of ns p t + submitted_of ns q t
submits-count p q [] t = refl
submits-count p q (n ∷ ns) t =
    let whole = ap (count_before t) (flat_map-cons (submits_of p q) n ns) in
    let both = count-append t (submits_of p q n) (flat_map (submits_of p q) ns) in
    let one = count-append t (submit_in (job_numbered p.jobs n)) (submit_in (job_numbered q.jobs n)) in
    let was = sum_by-cons (λ m. count_before t (submit_in (job_numbered p.jobs m))) n ns in
    let is = sum_by-cons (λ m. count_before t (submit_in (job_numbered q.jobs m))) n ns in
    let rest = submits-count p q ns t in
    omega (arith, whole, both, one, was, is, rest)

module _ {X : Type 0} (f : X → LogEdit) where
  -- the first i + 1 edits of a list are its first i and the next one
  pub front-more : (xs : List X) (i : ℕ) (d : X) → i < length xs → map f (take (i + 1) xs) ≡ map f (take i xs) ++ f (get_or xs i d) ∷ []
  front-more xs i d l = ap (map f) (take_more xs i d l) ∙ map-append f (take i xs) (get_or xs i d ∷ [])

  -- where the next edit's number is touched, and is put to those collected of the first i edits, they are those of the first i + 1
  pub touched-more : (p q : Plan) (xs : List X) (i : ℕ) (d : X) (m : ℕ) (ns ms : List ℕ) → i < length xs → m ≡ named (f (get_or xs i d)) → IsTouched p q m → ms ≡ ns ++ m ∷ [] → Collected p q (map f (take i xs)) ns → Collected p q (map f (take (i + 1) xs)) ms
  touched-more p q xs i d m ns ms l is touched put c = collected-more p q (map f (take i xs)) (map f (take (i + 1) xs)) (f (get_or xs i d)) m ns ms (front-more xs i d l) is put touched c

  -- where the next edit's number is not touched, those collected of the first i edits are those of the first i + 1
  pub untouched-more : (p q : Plan) (xs : List X) (i : ℕ) (d : X) (m : ℕ) (ns ms : List ℕ) → i < length xs → m ≡ named (f (get_or xs i d)) → (IsTouched p q m → ⊥) → ms ≡ ns → Collected p q (map f (take i xs)) ns → Collected p q (map f (take (i + 1) xs)) ms
  untouched-more p q xs i d m ns ms l is same put c =
      subst (Collected p q (map f (take (i + 1) xs))) (sym put) (collected-same p q (map f (take i xs)) (map f (take (i + 1) xs)) (f (get_or xs i d)) m ns (front-more xs i d l) is same c)

  -- the numbers collected of edits that are accepted, up to the last one, are all touched numbers of the two logs' plans
  pub touched-all : (log now : List LogEntry) (s : ScenarioView) (xs : List X) (i : ℕ) (ns : List ℕ) → length xs ≤ i → IsTable log → AreAccepted log (map f xs) → now ≡ log_after log (map f xs) → Collected (plan_of log s) (plan_of now s) (map f (take i xs)) ns
      → AreThose (IsTouched (plan_of log s) (plan_of now s)) ns
  touched-all log now s xs i ns l table accepted is c =
      collected-all log (map f xs) now s ns table accepted is (subst (λ ys. Collected (plan_of log s) (plan_of now s) (map f ys) ns) (take_all i xs l) c)
