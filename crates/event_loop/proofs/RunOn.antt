-- An engine that goes on: by an event second, over quiet seconds, and until no event second is left.
use Rattle.std.proofs.Common.{◌≡◌, ◌≢◌, ℕ, zero, suc, ◌+◌, ◌-◌, ◌≤◌, ◌<◌, Bool, true, false, cond, nat_eq, List, [], ◌∷◌, ◌++◌, add-one, add-zero, append_assoc, length, get_or, Option, Some, None, count_by, refl, sym, ◌∙◌, ap, arith, subst, inl, inr, ⊎_elim, ◌⊎◌}
use Rattle.std.proofs.lemmas.List.{get_or_default}
use Rattle.std.proofs.lemmas.List.Sums.{sum_by-cons}
use Rattle.std.proofs.lemmas.Bool.{true≢false, cases_lt, cond-true, cond-false, lt-ltb, le-ltb, eq-eqb, eqb-true}
use Rattle.scenarios.specs.Plan.{Plan}
use Rattle.scenarios.specs.declared.placed.Placed.{Placed}
use Rattle.scenarios.specs.Placed.{real_end}
use Rattle.cluster_state.specs.State.{State}
use Rattle.easy_rule.specs.declared.shadow_time.Shadow.{Shadow}
use Rattle.easy_rule.specs.declared.start.Start.{Start}
use Rattle.easy_rule.specs.Simulation.{IsEvent, before, starts_before, starts_in, submitted, bound, sim}
use Rattle.scenarios.specs.SoundPlan.{IsPlan}
use Rattle.timeline.specs.Laws.{IsQuiet}
use Rattle.event_loop.specs.Upcoming.{NextJobs}
use Rattle.event_loop.specs.Events.{IsNextEvent, IsEngine, Progress, has_event, events_before}
use Rattle.event_loop.specs.Going.{IsFurther, IsRunOn, IsLast}
use Rattle.timeline.proofs.Lemmas.{short-plan, starts_before-more, quiet-seconds-change-nothing}
use Rattle.event_loop.proofs.EventLemmas.{event-by-bound, upcoming-quiet, seen}

-- the event seconds before t + 1 are those before t, and t if it is one
pub events_before-more : (plan : Plan) (t : ℕ) → events_before plan (t + 1) ≡ events_before plan t + cond (has_event plan t) 1 0
unfolding events_before
events_before-more plan t = rw add-one

counted-some : {X : Type 0} (p : X → Bool) (xs : List X) (k : ℕ) (d : X) → k < length xs → p (get_or xs k d) ≡ true → 1 ≤ count_by p xs
counted-some p [] k d l e = absurd (omega arith)
counted-some p (x ∷ xs) zero d l e = let f = sum_by-cons (λ y. cond {A = ℕ} (p y) 1 0) x xs in let g = cond-true {A = ℕ} (p x) 1 0 e in omega (arith, f, g)
counted-some p (x ∷ xs) (suc k) d l e = let f = sum_by-cons (λ y. cond {A = ℕ} (p y) 1 0) x xs in let i = counted-some p xs k d (omega arith) e in omega (arith, f, i)

counted-where : {X : Type 0} (p : X → Bool) (xs : List X) → 1 ≤ count_by p xs → (k : ℕ) × (d : X) × (k < length xs) × (p (get_or xs k d) ≡ true)
counted-where {X = X} p [] l = absurd (omega arith)
counted-where {X = X} p (x ∷ xs) l =
    elim (p x) as (λ b. p x ≡ b → (k : ℕ) × (d : X) × (k < length (x ∷ xs)) × (p (get_or (x ∷ xs) k d) ≡ true)) [
      | true ↦ λ e. (0, x, omega arith, e)
      | false ↦ λ e.
          let f = sum_by-cons (λ y. cond {A = ℕ} (p y) 1 0) x xs in
          let g = cond-false {A = ℕ} (p x) 1 0 e in
          let i = counted-where p xs (omega (arith, l, f, g)) in
          (suc i.0, i.1, (let k = i.2 in omega (arith, k)), i.3)
    ] refl

some-length : {X : Type 0} (xs : List X) → xs ≢ [] → 1 ≤ length xs
some-length [] ne = absurd (ne refl)
some-length (x ∷ xs) ne = omega arith

length-some : {X : Type 0} (xs : List X) → 1 ≤ length xs → xs ≢ []
length-some [] l e = omega arith
length-some (x ∷ xs) l e = cc

-- the test holds at an event second
pub has-event : (plan : Plan) (t : ℕ) → IsEvent plan t → has_event plan t ≡ true
has-event plan t (inl ne) = lt-ltb 0 (length (submitted plan t) + count_by (λ r. nat_eq (real_end r) t) (before plan t).running) (let l = some-length (submitted plan t) ne in omega (arith, l))
has-event plan t (inr (k, x, l, at, here)) =
    let p : Placed → Bool = λ r. nat_eq (real_end r) t in
    let yes' : p (get_or (before plan t).running k x) ≡ true = eq-eqb (real_end (get_or (before plan t).running k x)) t (ap (λ (r : Placed). real_end r) at ∙ here) in
    lt-ltb 0 (length (submitted plan t) + count_by p (before plan t).running) (let c = counted-some p (before plan t).running k x l yes' in omega (arith, c))

-- the test fails at a second that is none
pub no-event : (plan : Plan) (t : ℕ) → (IsEvent plan t → ⊥) → has_event plan t ≡ false
no-event plan t no' =
    let p : Placed → Bool = λ r. nat_eq (real_end r) t in
    let rs = (before plan t).running in
    ⊎_elim
    (λ (l : 1 ≤ length (submitted plan t)). absurd (no' (inl (length-some (submitted plan t) l))))
    (λ (none : length (submitted plan t) < 1).
    ⊎_elim
    (λ (l : 1 ≤ count_by p rs).
    let w = counted-where p rs l in
    absurd (no' (inr (w.0, get_or rs w.0 w.1, w.2, get_or_default rs w.0 (get_or rs w.0 w.1) w.1 w.2, eqb-true (real_end (get_or rs w.0 w.1)) t w.3))))
    (λ (l : count_by p rs < 1). le-ltb 0 (length (submitted plan t) + count_by p rs) (omega (arith, none, l)))
    (cases_le 1 (count_by p rs)))
    (cases_le 1 (length (submitted plan t)))
  where
    cases_le : (a b : ℕ) → (a ≤ b) ⊎ (b < a)
    cases_le a b = ⊎_elim (λ (l : b < a). inr l) (λ (l : a ≤ b). inl l) (cases_lt b a)

events-quiet : (plan : Plan) (a n : ℕ) → IsQuiet plan a (a + n) → events_before plan (a + n) ≡ events_before plan a
events-quiet plan a zero quiet = ap (events_before plan) (add-zero a)
events-quiet plan a (suc n) quiet =
    let i = events-quiet plan a n (λ v p q. quiet v p (omega arith)) in
    let f = no-event plan (a + n) (quiet (a + n) (omega arith) (omega arith)) in
    let g = cond-false {A = ℕ} (has_event plan (a + n)) 1 0 f in
    let m = events_before-more plan (a + n) in
    let one : a + suc n ≡ (a + n) + 1 = omega arith in
    let e = ap (events_before plan) one in
    omega (arith, i, g, m, e)

pub quiet-between : (plan : Plan) (a b : ℕ) → a ≤ b → IsQuiet plan a b → (before plan b ≡ before plan a) × (starts_before plan b ≡ starts_before plan a) × (events_before plan b ≡ events_before plan a)
quiet-between plan a b l quiet =
    let n = b - a in
    let whole : a + n ≡ b = omega arith in
    let quiet' : IsQuiet plan a (a + n) = subst (IsQuiet plan a) (sym whole) quiet in
    let k = quiet-seconds-change-nothing plan a b l quiet in
    (k.0, k.1, ap (events_before plan) (sym whole) ∙ events-quiet plan a n quiet')

-- an engine that went on and then works its next event second has gone on, with the starts there behind those before
pub run-on-step : (old now new : Progress) (xs ys : List Start) (t : ℕ) → IsRunOn old now xs → IsNextEvent now.plan now.position (Some t) → ys ≡ starts_in now.plan t → new ≡ record now { position = t + 1; handled = now.handled + 1 }
    → IsRunOn old new (xs ++ ys)
run-on-step old now new xs ys t h next is e =
    let q : Plan = old.plan in
    let same : now.plan ≡ q = h.further.plan in
    let next' : IsNextEvent q now.position (Some t) = subst (λ (p : Plan). IsNextEvent p now.position (Some t)) same next in
    let quiet = quiet-between q now.position t next'.0 next'.2 in
    let pos : new.position ≡ t + 1 = ap (λ (p : Progress). p.position) e in
    let hand : new.handled ≡ now.handled + 1 = ap (λ (p : Progress). p.handled) e in
    let starts : ys ≡ starts_in q t = is ∙ ap (λ (p : Plan). starts_in p t) same in
    let more = events_before-more q t in
    let one = cond-true {A = ℕ} (has_event q t) 1 0 (has-event q t next'.1) in
    let at = ap (events_before q) pos in
    record {
      was = h.was;
      going = ap (λ (p : Progress). p.failed) e ∙ h.going;
      further = record {
        plan = ap (λ (p : Progress). p.plan) e ∙ same;
        first = let a = h.further.first in let b = next'.0 in omega (arith, a, b, pos);
        counted = let k = h.further.counted in omega (arith, k, hand, more, one, quiet.2, at);
      };
      outcome = sym (append_assoc (starts_before q old.position) xs ys) ∙ ap (λ l. l ++ ys) h.outcome ∙ ap (λ l. l ++ ys) (sym quiet.1) ∙ ap (λ l. starts_before q t ++ l) starts
          ∙ sym (starts_before-more q t) ∙ ap (starts_before q) (sym pos);
    }

-- an engine that went on and then stands at the end of quiet seconds has gone on, with the same starts
pub run-on-quiet : (old now new : Progress) (xs : List Start) (b : ℕ) → IsRunOn old now xs → now.position ≤ b → IsQuiet old.plan now.position b → new ≡ record now { position = b } → IsRunOn old new xs
run-on-quiet old now new xs b h l quiet e =
    let k = quiet-between old.plan now.position b l quiet in
    let pos : new.position ≡ b = ap (λ (p : Progress). p.position) e in
    let hand : new.handled ≡ now.handled = ap (λ (p : Progress). p.handled) e in
    let at = ap (events_before old.plan) pos in
    record {
      was = h.was;
      going = ap (λ (p : Progress). p.failed) e ∙ h.going;
      further = record {
        plan = ap (λ (p : Progress). p.plan) e ∙ h.further.plan;
        first = let a = h.further.first in omega (arith, a, l, pos);
        counted = let c = h.further.counted in omega (arith, c, hand, k.2, at);
      };
      outcome = h.outcome ∙ sym k.1 ∙ ap (starts_before old.plan) (sym pos);
    }

-- an engine that went on and then fails has gone on as far, with the same count of event seconds
pub further-failed : (old now new : Progress) → IsFurther old now → new ≡ record now { failed = true } → IsFurther old new
further-failed old now new h e =
    let pos : new.position ≡ now.position = ap (λ (p : Progress). p.position) e in
    let hand : new.handled ≡ now.handled = ap (λ (p : Progress). p.handled) e in
    let at = ap (events_before old.plan) pos in
    record {
      plan = ap (λ (p : Progress). p.plan) e ∙ h.plan;
      first = let a = h.first in omega (arith, a, pos);
      counted = let c = h.counted in omega (arith, c, hand, at);
    }

-- where no event second is left, the starts before are all starts
pub outcome-all : (plan : Plan) (a : ℕ) → IsPlan plan → ((u : ℕ) → a ≤ u → IsEvent plan u → ⊥) → starts_before plan a ≡ sim plan
outcome-all plan a p none =
    let b = bound plan + 1 in
    ⊎_elim
    (λ (l : a < b). sym (quiet-between plan a b (omega arith) (λ u x y. none u x)).1)
    (λ (l : b ≤ a). (quiet-between plan b a l (λ u x y e. let k = event-by-bound plan u p e in omega (arith, k, x))).1)
    (cases_lt a b)

-- an engine that worked its next event second stands one past an event second
pub last-step : (old now new : Progress) (xs : List Start) (t : ℕ) → IsRunOn old now xs → IsNextEvent now.plan now.position (Some t) → new ≡ record now { position = t + 1; handled = now.handled + 1 } → IsLast old new
last-step old now new xs t h next e =
    inr (t, ap (λ (p : Progress). p.position) e, subst (λ (p : Plan). IsEvent p t) h.further.plan next.1)

-- where the position stays, it is still what it was at first, or one past an event second
pub last-same : (old now new : Progress) → IsLast old now → new.position ≡ now.position → IsLast old new
last-same old now new (inl e) k = inl (k ∙ e)
last-same old now new (inr (t, e, v)) k = inr (t, k ∙ e, v)

-- what an engine holds at a position it holds at the end of the quiet seconds behind it
pub engine-on : (old now : Progress) (plan : Plan) (s : State) (upcoming : NextJobs) (last_shadow : Option Shadow) (a h b : ℕ) (f : Bool) → seen plan a h f ≡ now → IsEngine plan s upcoming last_shadow a h f → now.plan ≡ old.plan → now.failed ≡ false → IsQuiet old.plan now.position b → now.position ≤ b
    → IsEngine plan s upcoming last_shadow b h f
engine-on old now plan s upcoming last_shadow a h b f view e same going quiet le =
    let here : a ≡ now.position = ap (λ (p : Progress). p.position) view in
    let plan-same : plan ≡ old.plan = ap (λ (p : Progress). p.plan) view ∙ same in
    let quiet' : IsQuiet plan a b = (λ u l k v. quiet u (omega (arith, here, l)) k (subst (λ (p : Plan). IsEvent p u) plan-same v)) in
    let le' : a ≤ b = omega (arith, here, le) in
    record {
      is_plan = e.is_plan;
      counted = let k = e.counted in omega (arith, k, le');
      state_is = λ g. e.state_is g ∙ sym (quiet-between plan a b le' quiet').0;
      upcoming_is = λ g. upcoming-quiet plan upcoming a b le' quiet' e.is_plan (e.upcoming_is g);
      last_shadow_is = e.last_shadow_is;
      failed_is = λ g. absurd (true≢false (sym g ∙ ap (λ (p : Progress). p.failed) view ∙ going));
    }

-- where all seconds from the position on are quiet up to 2^64 - 1, no event second is left
pub none-left : (old now : Progress) → IsPlan old.plan → now.plan ≡ old.plan → IsQuiet old.plan now.position 18446744073709551615 → IsNextEvent now.plan now.position None
none-left old now p same quiet = λ u l v.
    let v' : IsEvent old.plan u = subst (λ (p : Plan). IsEvent p u) same v in
    let k = event-by-bound old.plan u p v' in
    let b = short-plan old.plan p in
    quiet u l (omega (arith, k, b)) v'
