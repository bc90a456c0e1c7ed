-- The starts of touched numbers, as a simulation goes on: how many there are, and from which second on all of them have ended.
use Rattle.std.proofs.Common.{◌≡◌, ℕ, ◌+◌, ◌-◌, ◌≤◌, ◌<◌, ◌^◌, ◌↔◌, min, Bool, true, false, cond, nat_eq, count_by, if◌then◌else◌, All, List, [], ◌∷◌, ◌++◌, length, take, get_or, Option, Some, None, refl, sym, ◌∙◌, ap, subst, arith, append-nil, append_assoc}
use Rattle.std.specs.Prelude.{IfSome}
use Rattle.std.proofs.lemmas.Bool.{cond-true, eq-eqb, eqb-true}
use Rattle.std.proofs.lemmas.List.{take_more}
use Rattle.std.proofs.lemmas.List.Elements.{All-cons, All-head, All-more, All-nil, All-tail}
use Rattle.std.proofs.lemmas.List.Sums.{sum_by-append, sum_by_push}
use Rattle.scenarios.specs.Job.{EffectiveJob}
use Rattle.scenarios.specs.Plan.{job_numbered}
use Rattle.easy_rule.specs.declared.start.Start.{Start}
use Rattle.easy_rule.specs.Simulation.{start_of, starts_before}
use Rattle.rejoin.specs.Noted.{Follows}
use Rattle.rejoin.specs.Rejoining.{ChangeView}
use Rattle.rejoin.specs.Started.{among, starts_of, EachHasEnded, HaveEnded}
use Rattle.rejoin.proofs.Noting.{no-count, start-push}

-- what is noted of some more starts: how many of them are those of these numbers, and from which second on they have ended too
pub record IsMore (ns : List ℕ) (jobs : List EffectiveJob) (ys : List Start) (started started' ended ended' : ℕ) : Type 0 where
  pub count : started' ≡ min (started + starts_of ns ys) (2 ^ 64 - 1)
  pub tells : All (λ (y : Start). y.at < 2 ^ 49) ys → (t : ℕ) → (ended' ≤ t) ↔ ((ended ≤ t) × EachHasEnded ns jobs ys t)

-- what holds of all of two lists, one after the other, holds of all of the second
pub All-back : (P : Start → Type 0) (xs ys : List Start) → All P (xs ++ ys) → All P ys
All-back P [] ys all = all
All-back P (x ∷ xs) ys all = All-back P xs ys (All-tail P x (xs ++ ys) all)

abbrev HasEnded : List ℕ → List EffectiveJob → Start → ℕ → Type 0
HasEnded ns jobs y t = among ns y.number ≡ true → IfSome (job_numbered jobs y.number) (λ job. y.at + job.length < t)

if-cond : (b : Bool) (a : ℕ) (v : Option ℕ) (P : ℕ → Type 0) → (b ≡ true → v ≡ None) → IfSome (cond b (Some a) v) P → IfSome v P
if-cond true a v P none h = subst (λ o. IfSome o P) (sym (none refl)) tt
if-cond false a v P none h = h

cond-if : (b : Bool) (a : ℕ) (v : Option ℕ) (P : ℕ → Type 0) → (b ≡ true → P a) → IfSome v P → IfSome (cond b (Some a) v) P
cond-if true a v P here h = here refl
cond-if false a v P here h = h

module _ (ns : List ℕ) (jobs : List EffectiveJob) where
  abbrev EndsAt : ℕ → ℕ → ℕ → Type 0
  EndsAt t n at = IfSome (job_numbered jobs n) (λ job. at + job.length < t)

  ended-push : (xs : List Start) (y : Start) (t : ℕ) → start_of xs y.number ≡ None → HaveEnded ns jobs (xs ++ y ∷ []) t ↔ (HaveEnded ns jobs xs t × HasEnded ns jobs y t)
  ended-push xs y t new = (
    (λ h. (
      (λ n among-is. if-cond (nat_eq y.number n) y.at (start_of xs n) (EndsAt t n) (λ same. subst (λ m. start_of xs m ≡ None) (eqb-true y.number n same) new) (subst (λ o. IfSome o (EndsAt t n)) (start-push xs y n new) (h n among-is))),
      (λ among-is. subst (λ o. IfSome o (EndsAt t y.number)) (start-push xs y y.number new ∙ cond-true (nat_eq y.number y.number) (Some y.at) (start_of xs y.number) (eq-eqb y.number y.number refl)) (h y.number among-is)),
    )),
    (λ (h, e) n among-is.
        subst (λ o. IfSome o (EndsAt t n)) (sym (start-push xs y n new))
        (cond-if (nat_eq y.number n) y.at (start_of xs n) (EndsAt t n)
        (λ same. let is : y.number ≡ n = eqb-true y.number n same in subst (λ m. EndsAt t m y.at) is (e (subst (λ m. among ns m ≡ true) (sym is) among-is)))
        (h n among-is))),
  )

  none-yet : (xs : List Start) (y : Start) (zs : List Start) → ((n : ℕ) → count_by (λ (x : Start). nat_eq x.number n) (xs ++ y ∷ zs) ≤ 1) → start_of xs y.number ≡ None
  none-yet xs y zs once =
      let all = once y.number in
      let both = sum_by-append (λ (x : Start). cond {A = ℕ} (nat_eq x.number y.number) 1 0) xs (y ∷ zs) in
      let back = sum_by-append (λ (x : Start). cond {A = ℕ} (nat_eq x.number y.number) 1 0) (y ∷ []) zs in
      let one = sum_by-append (λ (x : Start). cond {A = ℕ} (nat_eq x.number y.number) 1 0) [] (y ∷ []) in
      let same = cond-true {A = ℕ} (nat_eq y.number y.number) 1 0 (eq-eqb y.number y.number refl) in
      no-count xs y.number (omega (arith, all, both, back, one, same))

  ended-append : (xs ys : List Start) (t : ℕ) → ((n : ℕ) → count_by (λ (x : Start). nat_eq x.number n) (xs ++ ys) ≤ 1) → HaveEnded ns jobs (xs ++ ys) t ↔ (HaveEnded ns jobs xs t × EachHasEnded ns jobs ys t)
  ended-append xs [] t once =
      subst (λ (l : List Start). HaveEnded ns jobs l t ↔ (HaveEnded ns jobs xs t × EachHasEnded ns jobs [] t)) (sym (append-nil xs)) ((λ h. (h, All-nil (λ x. HasEnded ns jobs x t))), (λ h. h.0))
  ended-append xs (y ∷ ys) t once =
      let whole : (xs ++ y ∷ []) ++ ys ≡ xs ++ y ∷ ys = append_assoc xs (y ∷ []) ys in
      let rest = ended-append (xs ++ y ∷ []) ys t (λ n. subst (λ (l : List Start). count_by (λ (x : Start). nat_eq x.number n) l ≤ 1) (sym whole) (once n)) in
      let one = ended-push xs y t (none-yet xs y ys once) in
      subst (λ (l : List Start). HaveEnded ns jobs l t ↔ (HaveEnded ns jobs xs t × EachHasEnded ns jobs (y ∷ ys) t)) whole (
        (λ h. let k = rest.0 h in let l = one.0 k.0 in (l.0, All-cons (λ x. HasEnded ns jobs x t) y ys l.1 k.1)),
        (λ (h, all). rest.1 (one.1 (h, All-head (λ x. HasEnded ns jobs x t) y ys all), All-tail (λ x. HasEnded ns jobs x t) y ys all)),
      )

  -- numbers that have ended before a second have ended before a later one
  pub ended-later : (xs : List Start) (a t : ℕ) → a ≤ t → HaveEnded ns jobs xs a → HaveEnded ns jobs xs t
  ended-later xs a t l h n among-is = go (start_of xs n) (h n among-is)
    where
      in-job : (o : Option EffectiveJob) (at : ℕ) → IfSome o (λ job. at + job.length < a) → IfSome o (λ job. at + job.length < t)
      in-job None at k = tt
      in-job (Some job) at k = omega (arith, k, l)

      go : (o : Option ℕ) → IfSome o (EndsAt a n) → IfSome o (EndsAt t n)
      go None k = tt
      go (Some at) k = in-job (job_numbered jobs n) at k

starts-append : (ns : List ℕ) (xs ys : List Start) → starts_of ns (xs ++ ys) ≡ starts_of ns xs + starts_of ns ys
starts-append ns xs ys = sum_by-append (λ (x : Start). cond {A = ℕ} (among ns x.number) 1 0) xs ys

-- with the next starts of the new plan noted, the touched starts of both plans are still counted, and told to have ended or not
pub follows-new : (from to : ℕ) (c : ChangeView) (f a b started started' ended ended' : ℕ) (ys : List Start) → from ≤ to → starts_before c.is b ≡ starts_before c.is a ++ ys → ((n : ℕ) → count_by (λ (x : Start). nat_eq x.number n) (starts_before c.is a ++ ys) ≤ 1)
    → All (λ (y : Start). y.at < 2 ^ 49) ys → IsMore c.touched c.is.jobs ys started started' ended ended' → Follows from c f a started ended → Follows to c f b started' ended'
follows-new from to c f a b started started' ended ended' ys l split once early more follows =
    let count = follows.count in
    let added = more.count in
    let both = ap (starts_of c.touched) split ∙ starts-append c.touched (starts_before c.is a) ys in
    record {
      count = omega (arith, count, added, both);
      tells = λ t m.
          let old = follows.tells t (omega (arith, l, m)) in
          let new = more.tells early t in
          let all = ended-append c.touched c.is.jobs (starts_before c.is a) ys t once in
          subst (λ (xs : List Start). (ended' ≤ t) ↔ (HaveEnded c.touched c.was.jobs (starts_before c.was f) t × HaveEnded c.touched c.is.jobs xs t)) (sym split) (
            (λ h. let k = new.0 h in let o = old.0 k.0 in (o.0, all.1 (o.1, k.1))),
            (λ (h, i). let k = all.0 i in new.1 (old.1 (h, k.0), k.1)),
          );
    }

-- with the next starts of the old plan noted, the touched starts of both plans are still counted, and told to have ended or not
pub follows-old : (from : ℕ) (c : ChangeView) (f g a started started' ended ended' : ℕ) (ys : List Start) → starts_before c.was g ≡ starts_before c.was f ++ ys → ((n : ℕ) → count_by (λ (x : Start). nat_eq x.number n) (starts_before c.was f ++ ys) ≤ 1)
    → All (λ (y : Start). y.at < 2 ^ 49) ys → IsMore c.touched c.was.jobs ys started started' ended ended' → Follows from c f a started ended → Follows from c g a started' ended'
follows-old from c f g a started started' ended ended' ys split once early more follows =
    let count = follows.count in
    let added = more.count in
    let both = ap (starts_of c.touched) split ∙ starts-append c.touched (starts_before c.was f) ys in
    record {
      count = omega (arith, count, added, both);
      tells = λ t m.
          let old = follows.tells t m in
          let new = more.tells early t in
          let all = ended-append c.touched c.was.jobs (starts_before c.was f) ys t once in
          subst (λ (xs : List Start). (ended' ≤ t) ↔ (HaveEnded c.touched c.was.jobs xs t × HaveEnded c.touched c.is.jobs (starts_before c.is a) t)) (sym split) (
            (λ h. let k = new.0 h in let o = old.0 k.0 in (all.1 (o.0, k.1), o.1)),
            (λ (h, i). let k = all.0 h in new.1 (old.1 (k.0, i), k.1)),
          );
    }

-- where no start is added, the count and the second from which on all have ended are as they were
pub none-more : (ns : List ℕ) (jobs : List EffectiveJob) (started ended : ℕ) → started < 2 ^ 64
    → (started ≡ min (started + starts_of ns []) (2 ^ 64 - 1)) × ((t : ℕ) → (ended ≤ t) ↔ ((ended ≤ t) × EachHasEnded ns jobs [] t))
none-more ns jobs started ended small =
    let none : starts_of ns [] ≡ 0 = refl in
    (omega (arith, small, none), (λ t. ((λ l. (l, All-nil (λ x. HasEnded ns jobs x t))), (λ h. h.0))))

module _ (ns : List ℕ) (new : List Start) (i : ℕ) (d : Start) (l : i < length new) where
  -- where the starts of these numbers among the first i new ones are counted, and the next one is then, those among the first i + 1 are
  pub count-more : (first before' after' : ℕ) → before' ≡ min (first + starts_of ns (take i new)) (2 ^ 64 - 1) → after' ≡ min (before' + (if among ns (get_or new i d).number then 1 else 0)) (2 ^ 64 - 1) → after' ≡ min (first + starts_of ns (take (i + 1) new)) (2 ^ 64 - 1)
  count-more first before' after' e f =
      let more = ap (starts_of ns) (take_more new i d l) ∙ sum_by_push (λ (x : Start). cond {A = ℕ} (among ns x.number) 1 0) (take i new) (get_or new i d) in
      omega (arith, e, f, more)

  -- where a second tells from when on the first i new starts have ended, and the next one is taken in, it tells this of the first i + 1
  pub tells-more : (jobs : List EffectiveJob) (first before' after' t : ℕ) → All (λ (x : Start). x.at < 2 ^ 49) new → (before' ≤ t) ↔ ((first ≤ t) × EachHasEnded ns jobs (take i new) t)
      → ((get_or new i d).at < 2 ^ 49 → (after' ≤ t) ↔ ((before' ≤ t) × HasEnded ns jobs (get_or new i d) t)) → (after' ≤ t) ↔ ((first ≤ t) × EachHasEnded ns jobs (take (i + 1) new) t)
  tells-more jobs first before' after' t early h step =
      let k = step (early i d l) in (
        (λ m. let a = k.0 m in let b = h.0 a.0 in (b.0, All-more (λ x. HasEnded ns jobs x t) new i d l b.1 a.1)),
        (λ (m, all). k.1 (h.1 (m, All-less (λ x. HasEnded ns jobs x t) new i d l all), All-this (λ x. HasEnded ns jobs x t) new i d l all)),
      )
    where
      All-less : (P : Start → Type 0) (xs : List Start) (k : ℕ) (e : Start) → k < length xs → All P (take (k + 1) xs) → All P (take k xs)
      All-less P xs k e m all = All-front P (take k xs) (get_or xs k e) (subst (All P) (take_more xs k e m) all)
        where
          All-front : (Q : Start → Type 0) (ys : List Start) (y : Start) → All Q (ys ++ y ∷ []) → All Q ys
          All-front Q [] y h = All-nil Q
          All-front Q (z ∷ ys) y h = All-cons Q z ys (All-head Q z (ys ++ y ∷ []) h) (All-front Q ys y (All-tail Q z (ys ++ y ∷ []) h))

      All-this : (P : Start → Type 0) (xs : List Start) (k : ℕ) (e : Start) → k < length xs → All P (take (k + 1) xs) → P (get_or xs k e)
      All-this P xs k e m all = All-head P (get_or xs k e) [] (All-back P (take k xs) (get_or xs k e ∷ []) (subst (All P) (take_more xs k e m) all))
