-- What is noted while a plan is simulated.
use Rattle.std.proofs.Common.{◌≡◌, ℕ, ◌+◌, ◌-◌, ◌<◌, ◌^◌, min, List, [], ◌++◌, length, map, Option, Some, None, append-nil, refl, sym, ◌∙◌, ap, arith, subst}
use Rattle.std.specs.Option.{option_or}
use Rattle.std.proofs.lemmas.List.{length-append, length-map}
use Rattle.scenarios.specs.Job.{EffectiveJob}
use Rattle.scenarios.specs.Plan.{Plan}
use Rattle.scenarios.specs.SoundPlan.{IsPlan}
use Rattle.easy_rule.specs.declared.start.Start.{Start}
use Rattle.easy_rule.specs.Pass.{start_at}
use Rattle.easy_rule.specs.Simulation.{IsEvent, bound, sim, start_of, starts_before}
use Rattle.timeline.proofs.Lemmas.{events-end-by-the-bound}
use Rattle.event_loop.specs.Events.{Progress, IsNextEvent, begun}
use Rattle.event_loop.specs.Going.{IsRunOn}
use Rattle.event_loop.specs.Stepped.{StartIn}
use Rattle.event_loop.proofs.Lemmas.{run-on-step, outcome-all}
use Rattle.checkpoints.specs.Starts.{KnownStarts, known_start}
use Rattle.checkpoints.proofs.Known.{start-append}
use Rattle.checkpoints.proofs.Late.{sim-few}
use Rattle.checkpoints.proofs.Answered.{outcome-whole}

-- an engine that was begun on the plan: of the starts so far each number has its first, and they are counted
pub record Noted (plan : Plan) (now : Progress) (known : KnownStarts) (count : ℕ) : Type 0 where
  pub starts : List Start
  pub run : IsRunOn (begun plan 0) now starts
  pub outcome : (n : ℕ) → known_start known n ≡ start_of starts n
  pub counted : count ≡ min (length starts) (2 ^ 64 - 1)

-- of an engine that was just begun no start is known, and none is counted
pub noted-first : (plan whole : Plan) (now : Progress) (known : KnownStarts) → now ≡ begun whole 0 → whole ≡ plan → ((n : ℕ) → known_start known n ≡ None) → Noted plan now known 0
noted-first plan whole now known is same none =
    let e : now ≡ begun plan 0 = is ∙ ap (λ (p : Plan). begun p 0) same in
    let first : IsRunOn (begun plan 0) (begun plan 0) [] = record {
      was = refl;
      going = refl;
      further = record { plan = refl; first = omega arith; counted = refl };
      outcome = append-nil (starts_before plan 0);
    } in
    record { starts = []; run = subst (λ (p : Progress). IsRunOn (begun plan 0) p []) (sym e) first; outcome = none; counted = refl }

-- an event second further, with the starts of that second noted and counted, all starts so far are
pub noted-step : (plan : Plan) (now new : Progress) (known more : KnownStarts) (count next : ℕ) (js : List EffectiveJob) (t : ℕ) → Noted plan now known count → IsNextEvent now.plan now.position (Some t)
    → new ≡ record now { position = t + 1; handled = now.handled + 1 } → StartIn now.plan t js
    → ((n : ℕ) → known_start more n ≡ option_or (known_start known n) (start_of (map (start_at t) js) n)) → next ≡ min (count + length js) (2 ^ 64 - 1) → Noted plan new more next
noted-step plan now new known more count next js t h event is outcome noted counts = record {
  starts = h.starts ++ map (start_at t) js;
  run = run-on-step (begun plan 0) now new h.starts (map (start_at t) js) t h.run event outcome.starts is;
  outcome = λ n. noted n ∙ ap (λ (o : Option ℕ). option_or o (start_of (map (start_at t) js) n)) (h.outcome n) ∙ sym (start-append n h.starts (map (start_at t) js));
  counted = let l = length-append h.starts (map (start_at t) js) in let m = length-map js (start_at t) in let c = h.counted in omega (arith, l, m, c, counts);
}

-- an event second further, fewer seconds are left up to the bound
pub noted-nearer : (plan : Plan) (now new : Progress) (known : KnownStarts) (count t : ℕ) → Noted plan now known count → IsPlan now.plan → IsNextEvent now.plan now.position (Some t)
    → new ≡ record now { position = t + 1; handled = now.handled + 1 } → bound plan + 1 - new.position < bound plan + 1 - now.position
noted-nearer plan now new known count t h p event is =
    let same = h.run.further.plan in
    let within = events-end-by-the-bound plan t (subst IsPlan same p) (subst (λ (q : Plan). IsEvent q t) same event.1) in
    let pos : new.position ≡ t + 1 = ap (λ (q : Progress). q.position) is in
    let low = event.0 in
    omega (arith, within, pos, low)

pub noted-whole : (plan : Plan) (now : Progress) (known : KnownStarts) (count : ℕ) → IsPlan now.plan → IsNextEvent now.plan now.position None → (h : Noted plan now known count) → h.starts ≡ sim plan
noted-whole plan now known count p none h =
    let same = h.run.further.plan in
    let all : starts_before plan now.position ≡ sim plan = outcome-all plan now.position (subst IsPlan same p) (λ u l e. none u l (subst (λ (q : Plan). IsEvent q u) (sym same) e)) in
    outcome-whole plan plan (begun plan 0) h.starts refl refl (h.run.outcome ∙ all)

-- where no event second is left, each number is known to start as in the simulation
pub noted-all : (plan : Plan) (now : Progress) (known : KnownStarts) (count : ℕ) → IsPlan now.plan → IsNextEvent now.plan now.position None → Noted plan now known count → (n : ℕ) → known_start known n ≡ start_of (sim plan) n
noted-all plan now known count p none h n = h.outcome n ∙ ap (λ (xs : List Start). start_of xs n) (noted-whole plan now known count p none h)

-- where no event second is left, as many starts are counted as the simulation has
pub noted-count : (plan : Plan) (now : Progress) (known : KnownStarts) (count : ℕ) → IsPlan now.plan → IsNextEvent now.plan now.position None → Noted plan now known count → count ≡ length (sim plan)
noted-count plan now known count p none h =
    let few = sim-few plan (subst IsPlan h.run.further.plan p) in
    let all = ap length (noted-whole plan now known count p none h) in
    let c = h.counted in
    omega (arith, few, all, c)
