-- A ledger is kept by each start that is noted: one of a touched number, one without a start of its number in the other plan, and one with one.
use Rattle.std.proofs.Common.{◌≡◌, ℕ, ◌+◌, ◌≤◌, ◌<◌, ◌^◌, ◌&&◌, ◌↔◌, Bool, true, false, cond, not, max, nat_eq, count_by, List, [], ◌∷◌, ◌++◌, length, get_or, take, drop, All, filter, Option, Some, None, refl, sym, ◌∙◌, ap, subst, arith}
use Rattle.std.specs.Prelude.{is_none, IsSome}
use Rattle.std.proofs.Math.IntN.{pos}
use Rattle.std.specs.Ordering.{nat_cmp}
use Rattle.std.specs.BTreeMap.{BTreeMap, get}
use Rattle.std.proofs.lemmas.Bool.{cond-true, cond-false, eq-eqb, eqb-true, false≢true}
use Rattle.std.proofs.lemmas.List.{append_assoc, take_more, take-append-drop}
use Rattle.std.proofs.lemmas.List.Elements.{All-nil, All-cons, All-head, All-tail}
use Rattle.std.proofs.lemmas.List.Sums.{sum_by-cons, sum_by-append}
use Rattle.scenarios.specs.Job.{EffectiveJob}
use Rattle.scenarios.specs.Plan.{job_numbered}
use Rattle.easy_rule.specs.declared.start.Start.{Start}
use Rattle.easy_rule.specs.Simulation.{start_of}
use Rattle.timeline.specs.Ledger.{Ledger, NotesKeepTheLedger, LedgersSwap, all_apart_until, apart_until, ledger_of, noted_beside}
use Rattle.rejoin.specs.Noted.{AreStarts, Keeps}
use Rattle.rejoin.proofs.Noting.{start-cons, start-push, start-without, start-among, no-count}

abbrev Exchanged : Start → Option ℕ → BTreeMap ℕ ℕ → BTreeMap ℕ ℕ → BTreeMap ℕ ℕ → BTreeMap ℕ ℕ → Type 0
Exchanged x o here there here' there' =
    ((n : ℕ) → get nat_cmp here' n ≡ cond (nat_eq x.number n && is_none o) (Some x.at) (get nat_cmp here n)) × ((n : ℕ) → get nat_cmp there' n ≡ cond (nat_eq x.number n) None (get nat_cmp there n))

put-in : (b : Bool) (x y : Option ℕ) → cond (b && true) x y ≡ cond b x y
put-in true x y = refl
put-in false x y = refl

left-out : (b : Bool) (x y : Option ℕ) → cond (b && false) x y ≡ y
left-out true x y = refl
left-out false x y = refl

no-loss : (b : Bool) (o : Option ℕ) → (b ≡ true → o ≡ None) → cond b None o ≡ o
no-loss true o h = sym (h refl)
no-loss false o h = refl

later-max : (from u v w : ℕ) → ((t : ℕ) → from ≤ t → (u ≤ t) ↔ (v ≤ t)) → (t : ℕ) → from ≤ t → (max u w ≤ t) ↔ (max v w ≤ t)
later-max from u v w h t l = (
  (λ m. let k = (h t l).0 (omega (arith, m)) in omega (arith, m, k)),
  (λ m. let k = (h t l).1 (omega (arith, m)) in omega (arith, m, k)),
)

later-zero : (from u v : ℕ) → ((t : ℕ) → from ≤ t → (u ≤ t) ↔ (v ≤ t)) → (t : ℕ) → from ≤ t → (max u 0 ≤ t) ↔ (v ≤ t)
later-zero from u v h t l = (
  (λ m. (h t l).0 (omega (arith, m))),
  (λ m. let k = (h t l).1 m in omega (arith, k)),
)

pub keeps-beside : (from : ℕ) (l : Ledger) (job : EffectiveJob) (x : Start) (o : Option ℕ) (here there here' there' : BTreeMap ℕ ℕ) (until apart : ℕ) → Keeps from l here there until → start_of l.here x.number ≡ None → start_of l.there x.number ≡ o
    → Exchanged x o here there here' there' → ((b : ℕ) → o ≡ Some b → apart ≡ apart_until job (Some x.at) (Some b)) → (o ≡ None → apart ≡ 0) → Keeps from (noted_beside job x l o) here' there' (max until apart)
keeps-beside from l job x None here there here' there' until apart k new found (h, t) some none = record {
  tells_here = λ n. h n ∙ put-in (nat_eq x.number n) (Some x.at) (get nat_cmp here n) ∙ ap (cond (nat_eq x.number n) (Some x.at)) (k.tells_here n) ∙ sym (start-push l.here x n new);
  tells_there = λ n. t n ∙ ap (cond (nat_eq x.number n) None) (k.tells_there n) ∙ no-loss (nat_eq x.number n) (start_of l.there n) (λ e. subst (λ m. start_of l.there m ≡ None) (eqb-true x.number n e) found);
  tells_until = subst (λ a. (t : ℕ) → from ≤ t → (max until a ≤ t) ↔ (l.until ≤ t)) (sym (none refl)) (later-zero from until l.until k.tells_until);
}
keeps-beside from l job x (Some b) here there here' there' until apart k new found (h, t) some none = record {
  tells_here = λ n. h n ∙ left-out (nat_eq x.number n) (Some x.at) (get nat_cmp here n) ∙ k.tells_here n;
  tells_there = λ n. t n ∙ ap (cond (nat_eq x.number n) None) (k.tells_there n) ∙ sym (start-without x.number l.there n);
  tells_until = subst (λ a. (t : ℕ) → from ≤ t → (max until a ≤ t) ↔ (max l.until (apart_until job (Some x.at) (Some b)) ≤ t)) (sym (some b refl)) (later-max from until l.until (apart_until job (Some x.at) (Some b)) k.tells_until);
}

unasked : (b : Bool) (u v : ℕ) → (b ≡ false → u ≡ v) → cond b 0 u ≡ cond b 0 v
unasked true u v h = refl
unasked false u v h = h refl

unpassed : (b : Bool) (u v : Option ℕ) → (b ≡ true → ⊥) → cond b u v ≡ v
unpassed true u v h = absurd (h refl)
unpassed false u v h = refl

single-one : (j : EffectiveJob) (n : ℕ) → count_by (λ (i : EffectiveJob). nat_eq i.number n) (j ∷ []) ≤ 1
single-one j n = let one = sum_by-cons (λ (i : EffectiveJob). cond {A = ℕ} (nat_eq i.number n) 1 0) j [] in let few = few-at (nat_eq j.number n) in omega (arith, one, few)
  where
    few-at : (b : Bool) → cond {A = ℕ} b 1 0 ≤ 1
    few-at true = omega arith
    few-at false = omega arith

module _ (law : NotesKeepTheLedger) (touched : ℕ → Bool) (jobs : List EffectiveJob) (starts others : List Start) (x : Start) (ok : AreStarts touched jobs (starts ++ x ∷ [])) where
  pub none-yet : start_of starts x.number ≡ None
  none-yet =
      let once = ok.once x.number in
      let both = sum_by-append (λ (y : Start). cond {A = ℕ} (nat_eq y.number x.number) 1 0) starts (x ∷ []) in
      let one = sum_by-cons (λ (y : Start). cond {A = ℕ} (nat_eq y.number x.number) 1 0) x [] in
      let same = cond-true {A = ℕ} (nat_eq x.number x.number) 1 0 (eq-eqb x.number x.number refl) in
      no-count starts x.number (omega (arith, once, both, one, same))

  pub keeps-other : touched x.number ≡ false → (job : EffectiveJob) → job_numbered jobs x.number ≡ Some job → (from : ℕ) (o : Option ℕ) (here there here' there' : BTreeMap ℕ ℕ) (until apart : ℕ)
      → Keeps from (ledger_of touched jobs starts others) here there until → o ≡ get nat_cmp there x.number → Exchanged x o here there here' there'
      → ((b : ℕ) → o ≡ Some b → apart ≡ apart_until job (Some x.at) (Some b)) → (o ≡ None → apart ≡ 0) → Keeps from (ledger_of touched jobs (starts ++ x ∷ []) others) here' there' (max until apart)
  keeps-other e job is from o here there here' there' until apart k found swap some none =
      let l = ledger_of touched jobs starts others in
      let there-is : start_of l.there x.number ≡ o = sym (k.tells_there x.number) ∙ sym found in
      let whole : ledger_of touched jobs (starts ++ x ∷ []) others ≡ noted_beside job x l o =
      law touched jobs job starts others x ok.single is none-yet ∙ cond-false (touched x.number) l (noted_beside job x l (start_of l.there x.number)) e ∙ ap (noted_beside job x l) there-is in
      subst (λ (z : Ledger). Keeps from z here' there' (max until apart)) (sym whole)
      (keeps-beside from l job x o here there here' there' until apart k (start-among (λ (y : Start). not (touched y.number) && is_none (start_of others y.number)) starts x.number none-yet) there-is swap some none)

  abbrev some-job : EffectiveJob
  some-job = record { number = x.number; submit = 0; size = 0; estimate = 0; length = 0; user = pos 0; killed = false }

  alone-same : touched x.number ≡ true → ledger_of touched (some-job ∷ []) (starts ++ x ∷ []) others ≡ ledger_of touched (some-job ∷ []) starts others
  alone-same e =
      let l = ledger_of touched (some-job ∷ []) starts others in
      let is : job_numbered (some-job ∷ []) x.number ≡ Some some-job = cond-true (nat_eq x.number x.number) (Some some-job) None (eq-eqb x.number x.number refl) in
      law touched (some-job ∷ []) some-job starts others x (single-one some-job) is none-yet ∙ cond-true (touched x.number) l (noted_beside some-job x l (start_of l.there x.number)) e

  until-same : touched x.number ≡ true → (js : List EffectiveJob) → all_apart_until touched js (starts ++ x ∷ []) others ≡ all_apart_until touched js starts others
  until-same e [] = refl
  until-same e (j ∷ js) =
      let head : cond (touched j.number) 0 (apart_until j (start_of (starts ++ x ∷ []) j.number) (start_of others j.number)) ≡ cond (touched j.number) 0 (apart_until j (start_of starts j.number) (start_of others j.number)) =
      unasked (touched j.number) (apart_until j (start_of (starts ++ x ∷ []) j.number) (start_of others j.number)) (apart_until j (start_of starts j.number) (start_of others j.number))
      (λ f. ap (λ o. apart_until j o (start_of others j.number))
      (start-push starts x j.number none-yet
      ∙ unpassed (nat_eq x.number j.number) (Some x.at) (start_of starts j.number) (λ g. false≢true (sym f ∙ sym (ap touched (eqb-true x.number j.number g)) ∙ e)))) in
      let rest = until-same e js in
      omega (arith, head, rest)

  -- a ledger is kept where a start of a touched number is noted, which leaves both maps as they are
  pub keeps-touched : touched x.number ≡ true → (from : ℕ) (here there : BTreeMap ℕ ℕ) (until : ℕ)
      → Keeps from (ledger_of touched jobs starts others) here there until → Keeps from (ledger_of touched jobs (starts ++ x ∷ []) others) here there (max until 0)
  keeps-touched e from here there until k = record {
    tells_here = λ n. k.tells_here n ∙ ap (λ (z : Ledger). start_of z.here n) (sym (alone-same e));
    tells_there = λ n. k.tells_there n ∙ ap (λ (z : Ledger). start_of z.there n) (sym (alone-same e));
    tells_until = subst (λ u. (t : ℕ) → from ≤ t → (max until 0 ≤ t) ↔ (u ≤ t)) (sym (until-same e jobs)) (later-zero from until (all_apart_until touched jobs starts others) k.tells_until);
  }

somes : (a b : ℕ) → Some a ≡ Some b → a ≡ b
somes a b e = cc

All-last : (P : Start → Type 0) (xs : List Start) (x : Start) → All P (xs ++ x ∷ []) → P x
All-last P [] x all = All-head P x [] all
All-last P (y ∷ ys) x all = All-last P ys x (All-tail P y (ys ++ x ∷ []) all)

some-is : (o : Option EffectiveJob) → IsSome o → (job : EffectiveJob) × (o ≡ Some job)
some-is None h = absurd (false≢true h)
some-is (Some job) h = (job, refl)

among-early : (p : Start → Bool) (xs : List Start) (n b : ℕ) → All (λ (x : Start). x.at < 2 ^ 49) xs → start_of (filter p xs) n ≡ Some b → b < 2 ^ 49
among-early p [] n b all e = absurd (let k : None ≡ Some b = e in cc)
among-early p (y ∷ ys) n b all e = go (p y) (among-early p ys n b (All-tail (λ (x : Start). x.at < 2 ^ 49) y ys all)) e
  where
    go : (r : Bool) → ((h : start_of (filter p ys) n ≡ Some b) → b < 2 ^ 49) → start_of (cond r (y ∷ filter p ys) (filter p ys)) n ≡ Some b → b < 2 ^ 49
    go false rest h = rest h
    go true rest h = first (nat_eq y.number n) (sym (start-cons y (filter p ys) n) ∙ h)
      where
        first : (t : Bool) → cond t (Some y.at) (start_of (filter p ys) n) ≡ Some b → b < 2 ^ 49
        first true f = subst (λ u. u < 2 ^ 49) (somes y.at b f) (All-head (λ (x : Start). x.at < 2 ^ 49) y ys all)
        first false f = rest f

module _ (law : NotesKeepTheLedger) (touched : ℕ → Bool) (jobs : List EffectiveJob) (starts others : List Start) (x : Start) (ok : AreStarts touched jobs (starts ++ x ∷ [])) where
  job-of-it : touched x.number ≡ false → (job : EffectiveJob) × (job_numbered jobs x.number ≡ Some job)
  job-of-it e = some-is (job_numbered jobs x.number) (All-last (λ (y : Start). touched y.number ≡ false → IsSome (job_numbered jobs y.number)) starts x ok.have_jobs e)

  -- a ledger is kept where a start is noted of an untouched number that the other plan's map doesn't have: this plan's map has it now
  pub keeps-alone : touched x.number ≡ false → (from : ℕ) (o : Option ℕ) (here there here' there' : BTreeMap ℕ ℕ) (until : ℕ)
      → Keeps from (ledger_of touched jobs starts others) here there until → o ≡ get nat_cmp there x.number → Exchanged x o here there here' there'
      → o ≡ None → Keeps from (ledger_of touched jobs (starts ++ x ∷ []) others) here' there' (max until 0)
  keeps-alone e from o here there here' there' until k found swap none =
      let job = job-of-it e in
      keeps-other law touched jobs starts others x ok e job.0 job.1 from o here there here' there' until 0 k found swap (λ b is. absurd (let z : None ≡ Some b = sym none ∙ is in cc)) (λ _. refl)

  -- a ledger is kept where a start is noted of an untouched number that the other plan's map has: it leaves that map, and the two
  -- starts, where they differ, put off when the simulations have met
  pub keeps-apart : touched x.number ≡ false → (from : ℕ) (o : Option ℕ) (here there here' there' : BTreeMap ℕ ℕ) (until : ℕ)
      → Keeps from (ledger_of touched jobs starts others) here there until → o ≡ get nat_cmp there x.number → Exchanged x o here there here' there'
      → (other : ℕ) → o ≡ Some other → All (λ (y : Start). y.at < 2 ^ 49) others → (apart : ℕ)
      → ((job : EffectiveJob) → job_numbered jobs x.number ≡ Some job → x.at < 2 ^ 49 → other < 2 ^ 49 → apart ≡ apart_until job (Some x.at) (Some other))
      → Keeps from (ledger_of touched jobs (starts ++ x ∷ []) others) here' there' (max until apart)
  keeps-apart e from o here there here' there' until k found swap other is early apart outcome =
      let job = job-of-it e in
      let late : other < 2 ^ 49 = among-early (λ (y : Start). not (touched y.number) && is_none (start_of starts y.number)) others x.number other early (sym (k.tells_there x.number) ∙ sym found ∙ is) in
      let this : x.at < 2 ^ 49 = All-last (λ (y : Start). y.at < 2 ^ 49) starts x ok.early in
      keeps-other law touched jobs starts others x ok e job.0 job.1 from o here there here' there' until apart k found swap
      (λ b there-is. let same : other ≡ b = somes other b (sym is ∙ there-is) in subst (λ c. apart ≡ apart_until job.0 (Some x.at) (Some c)) same (outcome job.0 job.1 this late))
      (λ none. absurd (let z : None ≡ Some other = sym none ∙ is in cc))

-- a ledger of two plans' starts that is kept is still kept where the plans change places
pub keeps-swapped : LedgersSwap → (touched : ℕ → Bool) (jobs : List EffectiveJob) (starts others : List Start) (from : ℕ) (here there : BTreeMap ℕ ℕ) (until : ℕ)
    → Keeps from (ledger_of touched jobs starts others) here there until → Keeps from (ledger_of touched jobs others starts) there here until
keeps-swapped law touched jobs starts others from here there until k =
    subst (λ (z : Ledger). Keeps from z there here until) (sym (law touched jobs starts others)) (record { tells_here = k.tells_there; tells_there = k.tells_here; tells_until = k.tells_until })

All-first : (P : Start → Type 0) (xs ys : List Start) → All P (xs ++ ys) → All P xs
All-first P [] ys all = All-nil P
All-first P (x ∷ xs) ys all = All-cons P x xs (All-head P x (xs ++ ys) all) (All-first P xs ys (All-tail P x (xs ++ ys) all))

pub fewer-starts : (touched : ℕ → Bool) (jobs : List EffectiveJob) (xs ys : List Start) → AreStarts touched jobs (xs ++ ys) → AreStarts touched jobs xs
fewer-starts touched jobs xs ys ok = record {
  single = ok.single;
  once = λ n. let once = ok.once n in let both = sum_by-append (λ (x : Start). cond {A = ℕ} (nat_eq x.number n) 1 0) xs ys in omega (arith, once, both);
  have_jobs = All-first (λ (x : Start). touched x.number ≡ false → IsSome (job_numbered jobs x.number)) xs ys ok.have_jobs;
  early = All-first (λ (x : Start). x.at < 2 ^ 49) xs ys ok.early;
}

-- where a ledger is kept with the first i of some new starts, and the next one is noted, it is kept with the first i + 1
pub note-more : (touched : ℕ → Bool) (jobs : List EffectiveJob) (new : List Start) (i : ℕ) (x : Start) → i < length new → (from : ℕ) (starts others : List Start) → AreStarts touched jobs (starts ++ new) → All (λ (y : Start). y.at < 2 ^ 49) others
    → (here there here' there' : BTreeMap ℕ ℕ) (until until' : ℕ) → Keeps from (ledger_of touched jobs (starts ++ take i new) others) here there until
    → ((from until : ℕ) (starts others : List Start) → AreStarts touched jobs (starts ++ get_or new i x ∷ []) → All (λ (y : Start). y.at < 2 ^ 49) others
    → Keeps from (ledger_of touched jobs starts others) here there until → Keeps from (ledger_of touched jobs (starts ++ get_or new i x ∷ []) others) here' there' (max until until'))
    → Keeps from (ledger_of touched jobs (starts ++ take (i + 1) new) others) here' there' (max until until')
note-more touched jobs new i x l from starts others ok early here there here' there' until until' k step =
    let y = get_or new i x in
    let more : (starts ++ take i new) ++ y ∷ [] ≡ starts ++ take (i + 1) new = append_assoc starts (take i new) (y ∷ []) ∙ ap (λ (zs : List Start). starts ++ zs) (sym (take_more new i x l)) in
    let whole : starts ++ new ≡ ((starts ++ take i new) ++ y ∷ []) ++ drop (i + 1) new =
    ap (λ (zs : List Start). starts ++ zs) (sym (take-append-drop (i + 1) new)) ∙ sym (append_assoc starts (take (i + 1) new) (drop (i + 1) new)) ∙ ap (λ (zs : List Start). zs ++ drop (i + 1) new) (sym more) in
    subst (λ (zs : List Start). Keeps from (ledger_of touched jobs zs others) here' there' (max until until')) more
    (step from until (starts ++ take i new) others (fewer-starts touched jobs ((starts ++ take i new) ++ y ∷ []) (drop (i + 1) new) (subst (AreStarts touched jobs) whole ok)) early k)
