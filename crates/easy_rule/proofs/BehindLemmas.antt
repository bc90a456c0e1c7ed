-- A decision behind those who are known to wait: where the shadow is known the first waiting job does not fit, and none of the settled ones may be
-- backfilled.
use Rattle.std.proofs.Common.{◌≡◌, ℕ, zero, suc, ◌≤◌, ◌<◌, false, nat_le, List, [], ◌∷◌, ◌++◌, get_or, take, drop, Some, None, All, find, refl, sym, ◌∙◌, ap, subst, ⊎_elim}
use Rattle.std.specs.List.{list_any}
use Rattle.std.proofs.lemmas.List.Folds.{list_any_at, list_any_none}
use Rattle.std.proofs.lemmas.List.Elements.{All-tail, All-nil, All-cons, All-append}
use Rattle.std.proofs.lemmas.List.{take-append-drop}
use Rattle.std.proofs.lemmas.Bool.{le-leb, lt-leb, cond-true, cond-false, false_from_ne_true, cases_lt, true≢false}
use Rattle.scenarios.specs.Job.{EffectiveJob}
use Rattle.scenarios.specs.declared.order.Order.{Order}
use Rattle.scenarios.specs.declared.order.Order.TheVariants.{Arrival, Shortest}
use Rattle.cluster_state.specs.State.{State, ClusterView, free}
use Rattle.cluster_state.specs.Candidates.{in_order, AreCandidates}
use Rattle.cluster_state.proofs.Lemmas.{in_order-All}
use Rattle.easy_rule.specs.declared.shadow_time.Shadow.{Shadow}
use Rattle.easy_rule.specs.Rule.{shadow_for, next, next_of, may_backfill, shadow_at, shadow_time}
use Rattle.easy_rule.specs.Pass.{candidates, candidates_from, front, IsPass}
use Rattle.easy_rule.specs.Decision.{IsSettledFront}
use Rattle.easy_rule.proofs.NextLemmas.{next-candidates, too-large}
use Rattle.easy_rule.proofs.PassLemmas.{find-none, none-passes, All-in_order}

last_shadow-is : (s : State) (head : EffectiveJob) (rest : List EffectiveJob) (w : Shadow) → free s < head.size → shadow_for s (head ∷ rest) ≡ Some w → w ≡ shadow_at s head.size
last_shadow-is s head rest w waits e =
    let k : Some (shadow_at s head.size) ≡ Some w = sym (cond-false (nat_le head.size (free s)) None (Some (shadow_at s head.size)) (lt-leb head.size (free s) waits)) ∙ e in
    cc

-- the first waiting job does not fit, w is what it leaves, and none of the first jobs, which are settled, may be backfilled
pub record IsBehind (s : State) (now : ℕ) (w : Shadow) (settled : ℕ) : Type 0 where
  pub head : EffectiveJob
  pub later : List EffectiveJob
  pub queue : s.waiting ≡ head ∷ later
  pub waits : free s < head.size
  pub shadow : w ≡ shadow_at s head.size
  pub refused : All (λ j. may_backfill now (free s) w j ≡ false) (take settled s.waiting)

front-refused : (s : State) (now n : ℕ) (w : Shadow) (head : EffectiveJob) (rest : List EffectiveJob) → free s < head.size → w ≡ shadow_at s head.size → next_of (front s n) now (take n (head ∷ rest)) ≡ None
    → All (λ j. may_backfill now (free s) w j ≡ false) (take n (head ∷ rest))
unfolding shadow_time
front-refused s now zero w head rest waits is e = All-nil (λ j. may_backfill now (free s) w j ≡ false)
front-refused s now (suc n) w head rest waits is e =
    let q = may_backfill now (free s) (shadow_at s head.size) in
    let none : find q (in_order s.order (take n rest)) ≡ None =
    sym (cond-false (nat_le head.size (free s)) (Some head) (find q (in_order s.order (take n rest))) (lt-leb head.size (free s) waits)) ∙ e in
    subst (λ v. All (λ j. may_backfill now (free s) v j ≡ false) (head ∷ take n rest)) (sym is)
    (All-cons (λ j. q j ≡ false) head (take n rest) (too-large now (free s) (shadow_at s head.size) head waits)
    (in_order-All (λ j. q j ≡ false) s.order (take n rest) (none-passes q (in_order s.order (take n rest)) none)))

-- where w is the shadow and nobody of the first n may start, the head does not fit and leaves w, and none of these n may be backfilled
pub behind-is : (s : State) (now n : ℕ) (w : Shadow) → IsSettledFront s now n w → IsBehind s now w n
behind-is s now n w f = go s.waiting refl f.shadow f.settled
  where
    go : (js : List EffectiveJob) → s.waiting ≡ js → shadow_for s js ≡ Some w → next_of (front s n) now (take n js) ≡ None → IsBehind s now w n
    go [] queue last_shadow e = cc
    go (head ∷ rest) queue last_shadow e =
        ⊎_elim
        (λ (waits : free s < head.size).
        let is = last_shadow-is s head rest w waits last_shadow in
        record {
          head = head;
          later = rest;
          queue = queue;
          waits = waits;
          shadow = is;
          refused = subst (λ js. All (λ j. may_backfill now (free s) w j ≡ false) (take n js)) (sym queue) (front-refused s now n w head rest waits is e);
        })
        (λ (fits : head.size ≤ free s).
        let never : None ≡ Some w = sym (cond-true (nat_le head.size (free s)) None (Some (shadow_at s head.size)) (le-leb head.size (free s) fits)) ∙ last_shadow in
        cc)
        (cases_lt (free s) head.size)

-- where none behind the settled ones may start either, nobody is next
pub behind-done : (s : State) (now n : ℕ) (w : Shadow) → IsBehind s now w n → list_any (may_backfill now (free s) w) (drop n s.waiting) ≡ false → next s now ≡ None
behind-done s now n w b none =
    let q = may_backfill now (free s) w in
    let fresh : All (λ j. q j ≡ false) (drop n s.waiting) = (λ k d l. false_from_ne_true (q (get_or (drop n s.waiting) k d)) (λ yes'. true≢false (sym (list_any_at q (drop n s.waiting) k d l yes') ∙ none))) in
    let all : All (λ j. q j ≡ false) s.waiting = subst (λ js. All (λ j. q j ≡ false) js) (take-append-drop n s.waiting) (All-append (λ j. q j ≡ false) (take n s.waiting) (drop n s.waiting) b.refused fresh) in
    next-candidates s now b.head b.later b.queue b.waits ∙ ap (λ v. find (may_backfill now (free s) v) (candidates s)) (sym b.shadow)
    ∙ find-none q (candidates s) (All-in_order (λ j. q j ≡ false) s.order s.waiting all)

-- a pass may begin behind the settled ones in order of arrival, and at the front of the candidates by estimate
pub behind-pass : (c : ClusterView) (now n place : ℕ) (w : Shadow) → AreCandidates c → (c.state.order ≡ Arrival → candidates_from c place ≡ drop n c.state.waiting) → (c.state.order ≡ Shortest → place ≡ 0) → IsBehind c.state now w n → IsPass c.state now w (candidates_from c place)
behind-pass c now n place w stands arrival shortest b = go c.state.order refl
  where
    go : (o : Order) → c.state.order ≡ o → IsPass c.state now w (candidates_from c place)
    go Arrival by = record {
      head = b.head;
      later = b.later;
      queue = b.queue;
      waits = b.waits;
      shadow = b.shadow;
      passed = take n c.state.waiting;
      parts = ap (λ o. in_order o c.state.waiting) by ∙ sym (ap (λ l. take n c.state.waiting ++ l) (arrival by) ∙ take-append-drop n c.state.waiting);
      refused = b.refused;
    }
    go Shortest by = record {
      head = b.head;
      later = b.later;
      queue = b.queue;
      waits = b.waits;
      shadow = b.shadow;
      passed = [];
      parts = sym (ap (candidates_from c) (shortest by) ∙ stands);
      refused = All-nil (λ j. may_backfill now (free c.state) w j ≡ false);
    }

-- where nobody is next, none behind the settled ones may be backfilled
pub behind-none : (s : State) (now n : ℕ) (w : Shadow) → IsBehind s now w n → next s now ≡ None → list_any (may_backfill now (free s) w) (drop n s.waiting) ≡ false
behind-none s now n w b e =
    let q = may_backfill now (free s) w in
    let none : find q (candidates s) ≡ None = sym (next-candidates s now b.head b.later b.queue b.waits ∙ ap (λ v. find (may_backfill now (free s) v) (candidates s)) (sym b.shadow)) ∙ e in
    let all = in_order-All (λ j. q j ≡ false) s.order s.waiting (none-passes q (candidates s) none) in
    list_any_none q (drop n s.waiting) (All-drop n s.waiting all)
  where
    All-drop : (n : ℕ) (xs : List EffectiveJob) → All (λ j. may_backfill now (free s) w j ≡ false) xs → All (λ j. may_backfill now (free s) w j ≡ false) (drop n xs)
    All-drop zero xs a = a
    All-drop (suc n) [] a = a
    All-drop (suc n) (x ∷ xs) a = All-drop n xs (All-tail (λ j. may_backfill now (free s) w j ≡ false) x xs a)
