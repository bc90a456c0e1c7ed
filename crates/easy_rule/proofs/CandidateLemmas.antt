-- The later job that starts next, by its place among the candidates: the first from the pass on at which one may start. Where there is none nobody
-- is next.
use Rattle.std.proofs.Common.{◌≡◌, ◌≢◌, ℕ, ◌+◌, ◌≤◌, ◌<◌, false, List, [], ◌∷◌, ◌++◌, length, append-nil, Option, Some, None, IfSome, All, slice_get, refl, sym, ◌∙◌, ap, arith, subst, ⊎_elim}
use Rattle.std.proofs.lemmas.List.Elements.{All-nil, All-weaker}
use Rattle.std.proofs.lemmas.Bool.{cases_lt}
use Rattle.scenarios.specs.Job.{EffectiveJob, IsWithinLimits}
use Rattle.waiting_places.specs.Offers.{holds}
use Rattle.waiting_places.specs.Places.{IsFirst, at_place, waiting}
use Rattle.waiting_places.specs.declared.offer.Offer.{Offer}
use Rattle.cluster_state.specs.State.{State, ClusterView, IsSound, free, started}
use Rattle.cluster_state.specs.Candidates.{AreCandidates, fits_offer}
use Rattle.easy_rule.specs.declared.shadow_time.Shadow.{Shadow}
use Rattle.easy_rule.specs.Rule.{next, may_backfill, shadow_at}
use Rattle.easy_rule.specs.Pass.{less, candidates_from, IsCandidate, IsPass}
use Rattle.easy_rule.proofs.PassLemmas.{All-in_order, pass-over, pass-next, pass-done, pass-started}
use Rattle.easy_rule.proofs.PlaceLemmas.{first-same, skips, passes-at, waiting-at, past}

-- where an offer and the rule let the same jobs start, the first place that fits the offer is the first at which one may start
pub offer-first : (c : ClusterView) (now capacity : ℕ) (w : Shadow) (offer : Offer) (from : ℕ) (r : Option ℕ) → IsSound c.state → AreCandidates c → capacity ≡ free c.state
    → ((j : EffectiveJob) → IsWithinLimits j → fits_offer offer j ≡ may_backfill now capacity w j)
    → IsFirst (holds (fits_offer offer)) c.places from (length c.places) r → IsFirst (holds (may_backfill now (free c.state) w)) c.places from (length c.places) r
offer-first c now capacity w offer from r h stands is same first =
    let limits : All IsWithinLimits (waiting c.places) = subst (All IsWithinLimits) (sym stands) (All-in_order IsWithinLimits c.state.order c.state.waiting h.waiting_limits) in
    first-same (fits_offer offer) (may_backfill now (free c.state) w) c.places from (length c.places) r
    (All-weaker IsWithinLimits (λ j. fits_offer offer j ≡ may_backfill now (free c.state) w j) (λ j l. same j l ∙ ap (λ n. may_backfill now n w j) is) (waiting c.places) limits) first

module _ (c : ClusterView) (now : ℕ) (w : Shadow) (from : ℕ) (p : IsPass c.state now w (candidates_from c from)) where
  -- who stands at the first place from the pass on at which one may be backfilled is a candidate
  pub candidate-at : (place : ℕ) → IsFirst (holds (may_backfill now (free c.state) w)) c.places from (length c.places) (Some place) → (job : EffectiveJob) × IsCandidate c now w place job
  candidate-at place first =
      let q = may_backfill now (free c.state) w in
      let s = skips q c.places from place first.0 first.3 in
      let x = passes-at q c.places place first.2 in
      let on : IsPass c.state now w (candidates_from c place) = pass-over c.state now w (candidates_from c from) s.skip (candidates_from c place) p s.parts s.refused in
      let here : IsPass c.state now w (x.0 ∷ candidates_from c (place + 1)) = subst (IsPass c.state now w) (waiting-at c.places place x.0 x.1) on in
      (x.0, record { stands = x.1; may = x.2; found = pass-next c.state now w x.0 (candidates_from c (place + 1)) here x.2; pass = on })

  -- where there is no place from the pass on at which one may be backfilled, nobody is next
  pub candidate-none : IsFirst (holds (may_backfill now (free c.state) w)) c.places from (length c.places) None → next c.state now ≡ None
  candidate-none none =
      let q = may_backfill now (free c.state) w in
      pass-done c.state now w (candidates_from c from) p
      (⊎_elim
      (λ (l : length c.places < from).
      subst (All (λ j. q j ≡ false)) (sym (past c.places from (omega (arith, l)))) (All-nil (λ j. q j ≡ false)))
      (λ (l : from ≤ length c.places).
      let s = skips q c.places from (length c.places) l none in
      subst (All (λ j. q j ≡ false)) (sym (s.parts ∙ ap (λ l. s.skip ++ l) (past c.places (length c.places) (omega arith)) ∙ append-nil s.skip)) s.refused)
      (cases_lt (length c.places) from))

-- the job that starts from a candidate's place is the candidate
pub candidate-starts : (c m d : ClusterView) (now : ℕ) (w : Shadow) (place : ℕ) (job : EffectiveJob) → m ≡ c → IsCandidate c now w place job → IfSome (at_place m.places place) (λ j. d.state ≡ started m.state j now) → d.state ≡ started c.state job now
candidate-starts c m d now w place job same k is =
    subst (λ (o : Option EffectiveJob). IfSome o (λ j. d.state ≡ started c.state j now)) k.stands
    (subst (λ (v : ClusterView). IfSome (at_place v.places place) (λ j. d.state ≡ started v.state j now)) same is)

-- the pass goes on behind the candidate that starts, with what this leaves of the shadow
pub candidate-started : (c m d : ClusterView) (now : ℕ) (w w' : Shadow) (place from : ℕ) (job : EffectiveJob) → m ≡ c → IsSound c.state → IsCandidate c now w place job → d.state ≡ started c.state job now → candidates_from d from ≡ candidates_from m (place + 1) → w' ≡ less w now job
    → IsPass d.state now w' (candidates_from d from)
candidate-started c m d now w w' place from job same h k e rest is =
    let here : IsPass c.state now w (job ∷ candidates_from c (place + 1)) = subst (IsPass c.state now w) (waiting-at c.places place job k.stands) k.pass in
    let on = pass-started c.state now w job (candidates_from c (place + 1)) h here k.may in
    let left : candidates_from d from ≡ candidates_from c (place + 1) = rest ∙ ap (λ (v : ClusterView). candidates_from v (place + 1)) same in
    subst (λ (v : Shadow). IsPass d.state now v (candidates_from d from)) (sym is)
    (subst (λ (s : State). IsPass s now (less w now job) (candidates_from d from)) (sym e) (subst (IsPass (started c.state job now) now (less w now job)) (sym left) on))

pub pass-first : (c : ClusterView) (now need : ℕ) (w : Shadow) (head : EffectiveJob) → AreCandidates c → slice_get c.state.waiting 0 ≡ Some head → need ≡ head.size → free c.state < need → w ≡ shadow_at c.state need → IsPass c.state now w (candidates_from c 0)
pass-first c now need w head stands first n waits is = go c.state.waiting refl first
  where
    go : (js : List EffectiveJob) → c.state.waiting ≡ js → slice_get js 0 ≡ Some head → IsPass c.state now w (candidates_from c 0)
    go [] queue e = cc
    go (j ∷ js) queue e =
        let same : j ≡ head = cc in
        record {
          head = head;
          later = js;
          queue = queue ∙ ap (λ k. k ∷ js) same;
          waits = omega (arith, waits, n);
          shadow = is ∙ ap (shadow_at c.state) n;
          passed = [];
          parts = sym stands;
          refused = All-nil (λ j. may_backfill now (free c.state) w j ≡ false);
        }

-- where the head does not fit, a pass begins at the front of the candidates
pub pass-begins : (c : ClusterView) (now capacity need : ℕ) (w : Shadow) (head : EffectiveJob) → AreCandidates c → Some head ≡ slice_get c.state.waiting 0 → capacity ≡ free c.state → need ≡ head.size → capacity < need → w ≡ shadow_at c.state need → IsPass c.state now w (candidates_from c 0)
pass-begins c now capacity need w head stands first f n waits is = pass-first c now need w head stands (sym first) n (omega (arith, f, waits)) is

-- the job that is found at a candidate's place is the candidate
pub candidate-is : (c d : ClusterView) (now : ℕ) (w : Shadow) (place : ℕ) (job : EffectiveJob) → d ≡ c → Some job ≡ at_place d.places place → ((j : EffectiveJob) × IsCandidate c now w place j) → IsCandidate c now w place job
candidate-is c d now w place job same there k =
    let e : Some job ≡ Some k.0 = there ∙ ap (λ (v : ClusterView). at_place v.places place) same ∙ k.1.stands in
    let is : job ≡ k.0 = cc in
    subst (IsCandidate c now w place) (sym is) k.1

-- where there is a job there is not none
pub some≢none : (o : Option EffectiveJob) (job : EffectiveJob) → o ≡ Some job → o ≢ None
some≢none o job e none = let never : Some job ≡ None = sym e ∙ none in cc
