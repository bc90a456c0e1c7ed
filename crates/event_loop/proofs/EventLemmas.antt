-- Event seconds, by what the code knows at a position: the next one is the earlier of the next submit second and the least end, and nothing
-- changes before it.
use Rattle.std.proofs.Common.{◌≡◌, ◌≢◌, ℕ, zero, suc, ◌+◌, ◌-◌, ◌^◌, ◌≤◌, ◌<◌, Bool, false, nat_eq, List, [], ◌∷◌, length, All, Any, Option, Some, None, MatchOption, IfSome, IsNone, min, filter, refl, sym, ◌∙◌, ap, arith, subst, inl, inr, ⊎_elim, ◌⊎◌}
use Rattle.std.proofs.lemmas.List.{length-append, take_all}
use Rattle.std.proofs.lemmas.List.Elements.{All-head, All-tail, All-nil, All-cons, All-weaker}
use Rattle.std.proofs.lemmas.Bool.{cases_lt}
use Rattle.scenarios.specs.Job.{EffectiveJob}
use Rattle.scenarios.specs.Plan.{Plan, from_on}
use Rattle.scenarios.specs.declared.placed.Placed.{Placed}
use Rattle.scenarios.specs.Placed.{real_end}
use Rattle.cluster_state.specs.State.{State, IsSound, ended_until}
use Rattle.easy_rule.specs.declared.shadow_time.Shadow.{Shadow}
use Rattle.easy_rule.specs.Rule.{next, shadow_of}
use Rattle.easy_rule.specs.Pass.{front}
use Rattle.easy_rule.specs.Decision.{IsSettledFront}
use Rattle.easy_rule.specs.Simulation.{before, ready, submitted, IsEvent, bound, last_submit, joined}
use Rattle.scenarios.specs.SoundPlan.{IsPlan}
use Rattle.timeline.specs.Laws.{IsQuiet}
use Rattle.timeline.proofs.Lemmas.{run-before, sound-arrivals, quiet-seconds-change-nothing, all-have-ended, all-end-by-the-bound, short-plan, submitted-none, only-ends-unsettle}
use Rattle.event_loop.specs.Upcoming.{NonFalling, NextJobs, IsUpcoming, first_submit}
use Rattle.event_loop.specs.Events.{IsNextEvent, IsMidway, earlier, IsEngine, Progress}
use Rattle.event_loop.proofs.ToCome.{non-falling, at_second, at-in, at-from, at-none, from-All, from-falling, from-later, from-same}
use Rattle.scenarios.proofs.Lemmas.{from-in, from-out}
use Rattle.event_loop.proofs.Rows.{upcoming-on}

pub submitted-first : (plan : Plan) (a : ℕ) (j : EffectiveJob) (js : List EffectiveJob) → from_on a plan.jobs ≡ j ∷ js → a ≤ j.submit → submitted plan j.submit ≢ []
submitted-first plan a j js e l none =
    let k : j ∷ at_second j.submit js ≡ [] = sym (sym (at-from a j.submit plan.jobs l) ∙ ap (at_second j.submit) e ∙ at-in j.submit j js refl) ∙ none in
    cc

from-holds : (a : ℕ) (P : EffectiveJob → Type 0) (js : List EffectiveJob) → All P (from_on a js) → All (λ (j : EffectiveJob). a ≤ j.submit → P j) js
from-holds a P [] h = All-nil (λ (j : EffectiveJob). a ≤ j.submit → P j)
from-holds a P (j ∷ js) h =
    ⊎_elim
    (λ (l : j.submit < a). All-cons (λ (j : EffectiveJob). a ≤ j.submit → P j) j js (λ m. absurd (omega arith)) (from-holds a P js (subst (All P) (from-out a j js l) h)))
    (λ (l : a ≤ j.submit).
    let h' = subst (All P) (from-in a j js l) h in
    All-cons (λ (j : EffectiveJob). a ≤ j.submit → P j) j js (λ _. All-head P j (from_on a js) h') (from-holds a P js (All-tail P j (from_on a js) h')))
    (cases_lt j.submit a)

abbrev pub IsNextSubmit : Plan → ℕ → Option ℕ → Type 0
IsNextSubmit plan a o = MatchOption o (All (λ (j : EffectiveJob). j.submit < a) plan.jobs) (λ t. (a ≤ t) × (submitted plan t ≢ []) × All (λ (j : EffectiveJob). a ≤ j.submit → t ≤ j.submit) plan.jobs)

-- the submit second of the first job from a on is the least one from a on; without such a job all are submitted before a
pub next-submit : (plan : Plan) (a : ℕ) (o : Option ℕ) → IsPlan plan → o ≡ first_submit (from_on a plan.jobs) → IsNextSubmit plan a o
next-submit plan a o p is = subst (IsNextSubmit plan a) (sym is) (go (from_on a plan.jobs) refl)
  where
    go : (js : List EffectiveJob) → from_on a plan.jobs ≡ js → IsNextSubmit plan a (first_submit js)
    go [] e =
        All-weaker (λ (j : EffectiveJob). a ≤ j.submit → ⊥) (λ (j : EffectiveJob). j.submit < a) (λ j h. below j.submit h) plan.jobs
        (from-holds a (λ (j : EffectiveJob). ⊥) plan.jobs (subst (All (λ (j : EffectiveJob). ⊥)) (sym e) (All-nil (λ (j : EffectiveJob). ⊥))))
      where
        below : (n : ℕ) → (a ≤ n → ⊥) → n < a
        below n h = ⊎_elim (λ (l : n < a). l) (λ (l : a ≤ n). absurd (h l)) (cases_lt n a)
    go (j ∷ js) e =
        let l : a ≤ j.submit = All-head (λ (j : EffectiveJob). a ≤ j.submit) j js (subst (All (λ (j : EffectiveJob). a ≤ j.submit)) e (from-All a plan.jobs)) in
        let falling : NonFalling (j ∷ js) = subst NonFalling e (from-falling a plan.jobs (non-falling plan.jobs p.rising)) in (
          l,
          submitted-first plan a j js e l,
          from-holds a (λ (k : EffectiveJob). j.submit ≤ k.submit) plan.jobs (subst (All (λ (k : EffectiveJob). j.submit ≤ k.submit)) (sym e) (All-cons (λ (k : EffectiveJob). j.submit ≤ k.submit) j js (omega arith) falling.0)),
        )

from-quiet : (plan : Plan) (a t : ℕ) → a ≤ t → IsQuiet plan a t → IsPlan plan → from_on a plan.jobs ≡ from_on t plan.jobs
from-quiet plan a t l quiet p = go (from_on a plan.jobs) refl
  where
    go : (js : List EffectiveJob) → from_on a plan.jobs ≡ js → from_on a plan.jobs ≡ from_on t plan.jobs
    go [] e = e ∙ sym (sym (from-later a t plan.jobs l) ∙ ap (from_on t) e)
    go (j ∷ js) e =
        let from : a ≤ j.submit = All-head (λ (j : EffectiveJob). a ≤ j.submit) j js (subst (All (λ (j : EffectiveJob). a ≤ j.submit)) e (from-All a plan.jobs)) in
        let falling : NonFalling (j ∷ js) = subst NonFalling e (from-falling a plan.jobs (non-falling plan.jobs p.rising)) in
        ⊎_elim
        (λ (m : j.submit < t). absurd (quiet j.submit from m (inl (submitted-first plan a j js e from))))
        (λ (m : t ≤ j.submit).
        e
        ∙ sym (from-same t (j ∷ js) (All-cons (λ (k : EffectiveJob). t ≤ k.submit) j js m (All-weaker (λ (k : EffectiveJob). j.submit ≤ k.submit) (λ (k : EffectiveJob). t ≤ k.submit) (λ k n. omega (arith, m, n)) js falling.0)))
        ∙ ap (from_on t) (sym e) ∙ from-later a t plan.jobs l)
        (cases_lt j.submit t)

-- over quiet seconds the same jobs are to come, in the same row
pub upcoming-quiet : (plan : Plan) (upcoming : NextJobs) (a t : ℕ) → a ≤ t → IsQuiet plan a t → IsPlan plan → IsUpcoming upcoming a plan.jobs → IsUpcoming upcoming t plan.jobs
upcoming-quiet plan upcoming a t l quiet p h = upcoming-on upcoming a t plan.jobs (from-quiet plan a t l quiet p) h

pub lasting-before : (plan : Plan) (t : ℕ) → IsPlan plan → All (λ r. t ≤ real_end r) (before plan t).running
lasting-before plan t p =
    ⊎_elim
    (λ (l : bound plan < t). subst (λ (z : State). All (λ r. t ≤ real_end r) z.running) (sym (all-have-ended plan t p l)) (All-nil (λ r. t ≤ real_end r)))
    (λ (l : t ≤ bound plan). (run-before plan t (let k = short-plan plan p in omega (arith, k, l)) p).lasting)
    (cases_lt (bound plan) t)

none-submitted : (plan : Plan) (a b v : ℕ) → All (λ (j : EffectiveJob). a ≤ j.submit → b ≤ j.submit) plan.jobs → a ≤ v → v < b → submitted plan v ≡ []
none-submitted plan a b v h l m =
    sym (at-from a v plan.jobs l) ∙ at-other v (from_on a plan.jobs) (differ plan.jobs h)
  where
    at-other : (v : ℕ) (js : List EffectiveJob) → All (λ (j : EffectiveJob). v < j.submit) js → at_second v js ≡ []
    at-other v js h = at-none v js h

    differ : (js : List EffectiveJob) → All (λ (j : EffectiveJob). a ≤ j.submit → b ≤ j.submit) js → All (λ (j : EffectiveJob). v < j.submit) (from_on a js)
    differ [] h = All-nil (λ (j : EffectiveJob). v < j.submit)
    differ (j ∷ js) h =
        let rest = differ js (All-tail (λ (j : EffectiveJob). a ≤ j.submit → b ≤ j.submit) j js h) in
        ⊎_elim
        (λ (k : j.submit < a). subst (All (λ (j : EffectiveJob). v < j.submit)) (sym (from-out a j js k)) rest)
        (λ (k : a ≤ j.submit).
        let n = All-head (λ (j : EffectiveJob). a ≤ j.submit → b ≤ j.submit) j js h k in
        subst (All (λ (j : EffectiveJob). v < j.submit)) (sym (from-in a j js k)) (All-cons (λ (j : EffectiveJob). v < j.submit) j (from_on a js) (omega arith) rest))
        (cases_lt j.submit a)

quiet-front : (plan : Plan) (a b n : ℕ) → All (λ r. b ≤ real_end r) (before plan a).running → All (λ (j : EffectiveJob). a ≤ j.submit → b ≤ j.submit) plan.jobs → a + n ≤ b → IsQuiet plan a (a + n)
quiet-front plan a b zero ends submits q v p r event = omega arith
quiet-front plan a b (suc n) ends submits q v p r event =
    let i = quiet-front plan a b n ends submits (omega arith) in
    ⊎_elim
    (λ (x : v < a + n). i v p x event)
    (λ (x : a + n ≤ v).
    let here : a + n ≡ v = omega arith in
    let same : before plan v ≡ before plan a = ap (before plan) (sym here) ∙ (quiet-seconds-change-nothing plan a (a + n) (omega arith) i).0 in
    ⊎_elim
    (λ (some : submitted plan v ≢ []). some (none-submitted plan a b v submits p (omega arith)))
    (λ (ends' : Any (λ r. real_end r ≡ v) (before plan v).running).
    let e = subst (λ (s : State). Any (λ r. real_end r ≡ v) s.running) same ends' in
    let k = ends e.0 e.1 e.2 in
    let at = ap (λ (r : Placed). real_end r) e.3 in
    let h = e.4 in
    omega (arith, k, at, h))
    event)
    (cases_lt v (a + n))

pub quiet-until : (plan : Plan) (a b : ℕ) → All (λ r. b ≤ real_end r) (before plan a).running → All (λ (j : EffectiveJob). a ≤ j.submit → b ≤ j.submit) plan.jobs → IsQuiet plan a b
quiet-until plan a b ends submits u l m event =
    let n = b - a in
    let whole : a + n ≡ b = omega arith in
    quiet-front plan a b n ends submits (omega arith) u l (omega arith) event

pub next-some : (plan : Plan) (a t : ℕ) (s : State) → s ≡ before plan a → a ≤ t → All (λ (j : EffectiveJob). a ≤ j.submit → t ≤ j.submit) plan.jobs → All (λ r. t ≤ real_end r) s.running
    → ((submitted plan t ≢ []) ⊎ Any (λ r. real_end r ≡ t) s.running) → (a ≤ t) × IsEvent plan t × IsQuiet plan a t
next-some plan a t s is l submits ends why =
    let ends' : All (λ r. t ≤ real_end r) (before plan a).running = subst (λ (z : State). All (λ r. t ≤ real_end r) z.running) is ends in
    let quiet = quiet-until plan a t ends' submits in
    let same : s ≡ before plan t = is ∙ sym (quiet-seconds-change-nothing plan a t l quiet).0 in
    let event : IsEvent plan t =
    ⊎_elim
    (λ (e : submitted plan t ≢ []). inl e)
    (λ (e : Any (λ r. real_end r ≡ t) s.running). inr (subst (λ (z : State). Any (λ r. real_end r ≡ t) z.running) same e))
    why in
    (l, event, quiet)

pub next-none : (plan : Plan) (a : ℕ) (s : State) → s ≡ before plan a → All (λ (j : EffectiveJob). j.submit < a) plan.jobs → s.running ≡ [] → (u : ℕ) → a ≤ u → IsEvent plan u → ⊥
next-none plan a s is submits ends u l event =
    let none : All (λ r. suc u ≤ real_end r) (before plan a).running = subst (λ (z : State). All (λ r. suc u ≤ real_end r) z.running) is (subst (λ rs. All (λ r. suc u ≤ real_end r) rs) (sym ends) (All-nil (λ r. suc u ≤ real_end r))) in
    quiet-until plan a (suc u) none (All-weaker (λ (j : EffectiveJob). j.submit < a) (λ (j : EffectiveJob). a ≤ j.submit → suc u ≤ j.submit) (λ j h e. absurd (omega arith)) plan.jobs submits) u l (omega arith) event

after-end : (plan : Plan) (a : ℕ) (s : State) (t : ℕ) → IsPlan plan → s ≡ before plan a → Any (λ r. real_end r ≡ t) s.running → a ≤ t
after-end plan a s t p is (k, x, l, at, here) =
    let all : All (λ r. a ≤ real_end r) s.running = subst (λ (z : State). All (λ r. a ≤ real_end r) z.running) (sym is) (lasting-before plan a p) in
    let h = all k x l in
    let e = ap (λ (r : Placed). real_end r) at in
    omega (arith, h, e, here)

-- the earlier of the next submit second and the least end is the next event second; where there is neither, none is left
pub next-earlier : (plan : Plan) (a : ℕ) (s : State) (o e : Option ℕ) → IsPlan plan → s ≡ before plan a → IsNextSubmit plan a o
    → (IsNone e → s.running ≡ []) → IfSome e (λ t. Any (λ r. real_end r ≡ t) s.running) → IfSome e (λ t. All (λ r. t ≤ real_end r) s.running)
    → IsNextEvent plan a (earlier o e)
next-earlier plan a s None None p is submits none found least = next-none plan a s is submits (none refl)
next-earlier plan a s None (Some t) p is submits none found least =
    next-some plan a t s is (after-end plan a s t p is found) (All-weaker (λ (j : EffectiveJob). j.submit < a) (λ (j : EffectiveJob). a ≤ j.submit → t ≤ j.submit) (λ j h e. absurd (omega arith)) plan.jobs submits) least (inr found)
next-earlier plan a s (Some t) None p is submits none found least =
    next-some plan a t s is submits.0 submits.2 (subst (λ rs. All (λ r. t ≤ real_end r) rs) (sym (none refl)) (All-nil (λ r. t ≤ real_end r))) (inl submits.1)
next-earlier plan a s (Some t) (Some u) p is submits none found least =
    let l = after-end plan a s u p is found in
    ⊎_elim
    (λ (x : t < u).
    let m : min t u ≡ t = omega arith in
    subst (λ v. (a ≤ v) × IsEvent plan v × IsQuiet plan a v) (sym m)
    (next-some plan a t s is submits.0 submits.2 (All-weaker (λ r. u ≤ real_end r) (λ r. t ≤ real_end r) (λ r h. omega arith) s.running least) (inl submits.1)))
    (λ (x : u ≤ t).
    let m : min t u ≡ u = omega arith in
    subst (λ v. (a ≤ v) × IsEvent plan v × IsQuiet plan a v) (sym m)
    (next-some plan a u s is l (All-weaker (λ (j : EffectiveJob). a ≤ j.submit → t ≤ j.submit) (λ (j : EffectiveJob). a ≤ j.submit → u ≤ j.submit) (λ j h e. let k = h e in omega arith) plan.jobs submits.2) least (inr found)))
    (cases_lt t u)

-- every event second is within the bound
pub event-by-bound : (plan : Plan) (t : ℕ) → IsPlan plan → IsEvent plan t → t ≤ bound plan
event-by-bound plan t p (inl ne) =
    ⊎_elim
    (λ (l : last_submit plan.jobs < t). absurd (ne (submitted-none plan t l)))
    (λ (l : t ≤ last_submit plan.jobs). omega arith)
    (cases_lt (last_submit plan.jobs) t)
event-by-bound plan t p (inr (k, x, l, at, here)) =
    let e = ap (λ (r : Placed). real_end r) at in
    let a = all-end-by-the-bound plan t p k x l in
    omega (arith, a, e, here)

pub record Ready (plan : Plan) (s : State) (upcoming : NextJobs) (a t : ℕ) : Type 0 where
  pub is : s ≡ before plan t
  pub small : t < 2 ^ 49 - 1
  pub first : a ≤ t
  pub next : IsUpcoming upcoming t plan.jobs

-- what is seen of an engine with this plan, position, count of event seconds and failure
abbrev pub seen : Plan → ℕ → ℕ → Bool → Progress
seen plan a h f = record { plan = plan; position = a; handled = h; failed = f }

-- an engine that has not failed has at its next event second t the state before t, and knows the jobs that come from t on
pub ready-at : (now : Progress) (plan : Plan) (s : State) (upcoming : NextJobs) (last_shadow : Option Shadow) (a h t : ℕ) (f : Bool) → seen plan a h f ≡ now → IsEngine plan s upcoming last_shadow a h f → now.failed ≡ false → IsNextEvent now.plan now.position (Some t) → Ready plan s upcoming a t
ready-at now plan s upcoming last_shadow a h t f view engine going next =
    let next' : IsNextEvent plan a (Some t) = subst (λ (p : Progress). IsNextEvent p.plan p.position (Some t)) (sym view) next in
    let going' : f ≡ false = ap (λ (p : Progress). p.failed) view ∙ going in
    record {
      is = engine.state_is going' ∙ sym (quiet-seconds-change-nothing plan a t next'.0 next'.2).0;
      small = let b = event-by-bound plan t engine.is_plan next'.1 in let k = short-plan plan engine.is_plan in omega (arith, b, k);
      first = next'.0;
      next = upcoming-quiet plan upcoming a t next'.0 next'.2 engine.is_plan (engine.upcoming_is going');
    }

pub stands-at : (plan : Plan) (s ready' : State) (t : ℕ) → s ≡ before plan t → ready' ≡ ready plan (before plan t) t → All (λ r. t < real_end r) s.running
    → (next (front ready' (length s.waiting)) t ≡ None) × ((w : Shadow) → shadow_of s ≡ Some w → shadow_of ready' ≡ Some w)
stands-at plan s ready' t is at later =
    let none : Any (λ r. real_end r ≡ t) (before plan t).running → ⊥ = λ (k, x, l, same, here).
    let all : All (λ r. t < real_end r) (before plan t).running = subst (λ (z : State). All (λ r. t < real_end r) z.running) is later in
    let h = all k x l in
    let e = ap (λ (r : Placed). real_end r) same in
    omega (arith, h, e, here) in
    let law = only-ends-unsettle plan t none in (
      ap (λ (z : State). next (front z (length s.waiting)) t) at ∙ ap (λ (z : State). next (front (ready plan (before plan t) t) (length z.waiting)) t) is ∙ law.0,
      λ w last_shadow. ap shadow_of at ∙ law.1 w (ap shadow_of (sym is) ∙ last_shadow),
    )

-- where a shadow is known and no job ends by t, who waited before is a settled front of the state of t, by that shadow
pub last_shadow-front : (plan : Plan) (s ready' : State) (t n : ℕ) (last_shadow o : Option Shadow) → s ≡ before plan t → ready' ≡ ready plan (before plan t) t → n ≡ length s.waiting → IfSome last_shadow (λ w. shadow_of s ≡ Some w) → IfSome o (λ w. last_shadow ≡ Some w) → IfSome o (λ _. All (λ r. t < real_end r) s.running)
    → IfSome o (λ w. IsSettledFront ready' t n w)
last_shadow-front plan s ready' t n last_shadow None is at many holds same later = tt
last_shadow-front plan s ready' t n last_shadow (Some w) is at many holds same later =
    let stands = stands-at plan s ready' t is at later in
    let wait : length ready'.waiting ≡ length (before plan t).waiting + length (submitted plan t) = ap (λ (z : State). length z.waiting) at ∙ length-append (before plan t).waiting (submitted plan t) in
    let waited = ap (λ (z : State). length z.waiting) is in
    record {
      within = omega (arith, many, wait, waited);
      settled = subst (λ m. next (front ready' m) t ≡ None) (sym many) stands.0;
      shadow = stands.1 w (subst (λ k. IfSome k (λ w. shadow_of s ≡ Some w)) same holds);
    }

-- after the jobs that end have left, those that arrive make a sound state
pub sound-ready : (plan : Plan) (s s' : State) (t : ℕ) → IsPlan plan → t < 2 ^ 49 - 1 → s ≡ before plan t → s' ≡ ended_until s t → IsSound (joined s' (submitted plan t))
sound-ready plan s s' t p small is f =
    subst (λ (js : List EffectiveJob). IsSound (joined s' (filter (λ (j : EffectiveJob). nat_eq j.submit t) js))) (take_all (length plan.jobs) plan.jobs (omega arith))
    (sound-arrivals plan s s' t (length plan.jobs) (omega arith) p is f)

-- where the work on the next event second is given up after its ends, who runs is who may in an engine that has failed
pub midway-at : (now : Progress) (plan : Plan) (s ended new : State) (upcoming : NextJobs) (last_shadow : Option Shadow) (a h t : ℕ) (f : Bool) → seen plan a h f ≡ now → IsEngine plan s upcoming last_shadow a h f → now.failed ≡ false → IsNextEvent now.plan now.position (Some t) → ended ≡ ended_until s t
    → new.running ≡ ended.running → IsMidway plan a new.running
midway-at now plan s ended new upcoming last_shadow a h t f view engine going next end same =
    let next' : IsNextEvent plan a (Some t) = subst (λ (p : Progress). IsNextEvent p.plan p.position (Some t)) (sym view) next in
    let here : s ≡ before plan a = engine.state_is (ap (λ (p : Progress). p.failed) view ∙ going) in
    inr (t, next', same ∙ ap (λ (z : State). z.running) end ∙ ap (λ (z : State). (ended_until z t).running) here)
