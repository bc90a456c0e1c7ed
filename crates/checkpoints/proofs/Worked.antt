-- An engine that works some event seconds: its stretch, the piece that it becomes, and the segments up to there.
use Rattle.std.proofs.Common.{◌≡◌, ℕ, ◌+◌, ◌-◌, ◌≤◌, ◌<◌, ◌⊎◌, inl, inr, List, [], ◌∷◌, ◌++◌, map, All, Option, Some, None, IfSome, refl, sym, ◌∙◌, ap, arith, subst}
use Rattle.std.proofs.lemmas.List.Elements.{filter_map-append}
use Rattle.scenarios.specs.Job.{EffectiveJob}
use Rattle.scenarios.specs.Plan.{Plan, job_numbered}
use Rattle.scenarios.specs.declared.placed.Placed.{Placed}
use Rattle.cluster_state.specs.Snapshot.{Numbers, numbers_of}
use Rattle.easy_rule.specs.declared.start.Start.{Start}
use Rattle.easy_rule.specs.Pass.{start_at}
use Rattle.easy_rule.specs.Simulation.{IsEvent, before, bound}
use Rattle.scenarios.specs.SoundPlan.{IsPlan}
use Rattle.timeline.proofs.Lemmas.{events-end-by-the-bound}
use Rattle.event_loop.specs.Events.{Progress, IsNextEvent, begun, events_before}
use Rattle.event_loop.specs.Going.{IsRunOn}
use Rattle.event_loop.specs.Stepped.{StartIn}
use Rattle.event_loop.proofs.Lemmas.{run-on-step}
use Rattle.metrics.specs.Part.{PartSums, IsPartOf}
use Rattle.metrics.specs.Placed.{CanSum}
use Rattle.checkpoints.specs.Segment.{SegmentView}
use Rattle.checkpoints.specs.Pieces.{PieceView, segment_of, IsNotedIn}
use Rattle.checkpoints.specs.Cut.{placed_at, placed_of, EndsWithEvent, Spans, Chain, Over, IsFull, ShortChain, IsShortCut}
use Rattle.checkpoints.specs.Coming.{NoneComes}
use Rattle.checkpoints.specs.Worked.{Cutting, WorksStretch, WorksUpTo}
use Rattle.checkpoints.proofs.Chains.{chain-push, short-chain, span-bounded}
use Rattle.checkpoints.proofs.Late.{can-sum}
use Rattle.checkpoints.proofs.Placing.{placed_from, placed-own}

-- so many event seconds were worked, with these starts and their jobs, and where some were, the last one ends the stretch
pub record Working (old now : Progress) (starts : List Start) (placed : List Placed) (count : ℕ) : Type 0 where
  pub run : IsRunOn old now starts
  pub jobs : placed ≡ placed_of old.plan.jobs starts
  pub counted : now.handled ≡ old.handled + count
  pub none : count ≡ 0 → now ≡ old
  pub some : 0 < count → EndsWithEvent old.plan old.position now.position
  pub plan : 0 < count → IsPlan old.plan

jobs-more : (plan now : Plan) (t : ℕ) (xs zs : List Start) (ps qs : List Placed) (js : List EffectiveJob) → now ≡ plan → StartIn now t js → ps ≡ placed_of plan.jobs xs → zs ≡ xs ++ map (start_at t) js → qs ≡ ps ++ map (placed_from t) js → qs ≡ placed_of plan.jobs zs
jobs-more plan now t xs zs ps qs js same outcome had put more =
    let own : All (λ (j : EffectiveJob). job_numbered plan.jobs j.number ≡ Some j) js = subst (λ (q : Plan). All (λ (j : EffectiveJob). job_numbered q.jobs j.number ≡ Some j) js) same outcome.own in
    let those : map (placed_from t) js ≡ placed_of plan.jobs (map (start_at t) js) = sym (placed-own plan.jobs js t own) in
    more ∙ ap (λ l. l ++ map (placed_from t) js) had ∙ ap (λ l. placed_of plan.jobs xs ++ l) those
    ∙ sym (filter_map-append (placed_at plan.jobs) xs (map (start_at t) js)) ∙ ap (placed_of plan.jobs) (sym put)

-- the next event second is worked too, with the starts of its jobs
pub working-more : (old now new : Progress) (xs zs : List Start) (ps qs : List Placed) (js : List EffectiveJob) (t count : ℕ) → Working old now xs ps count → IsPlan now.plan → IsNextEvent now.plan now.position (Some t) → new ≡ record now { position = t + 1; handled = now.handled + 1 } → StartIn now.plan t js
    → zs ≡ xs ++ map (start_at t) js → qs ≡ ps ++ map (placed_from t) js → Working old new zs qs (count + 1)
working-more old now new xs zs ps qs js t count h p next e outcome put more =
    let pos : new.position ≡ t + 1 = ap (λ (p : Progress). p.position) e in
    let hand : new.handled ≡ now.handled + 1 = ap (λ (p : Progress). p.handled) e in
    let sound : IsPlan old.plan = subst IsPlan h.run.further.plan p in
    let onward = h.run.further.first in
    let low = next.0 in
    record {
      run = subst (IsRunOn old new) (sym put) (run-on-step old now new xs (map (start_at t) js) t h.run next outcome.starts e);
      jobs = jobs-more old.plan now.plan t xs zs ps qs js h.run.further.plan outcome h.jobs put more;
      counted = let k = h.counted in omega (arith, k, hand);
      none = λ z. absurd (omega (arith, z));
      some = λ l. (t, omega (arith, onward, low), pos, subst (λ (p : Plan). IsEvent p t) h.run.further.plan next.1);
      plan = λ l. sound;
    }

-- where at least one event second was worked, a stretch was
pub working-stretch : (old now : Progress) (starts : List Start) (placed : List Placed) (count : ℕ) → Working old now starts placed count → (count ≡ 0 → ⊥) → WorksStretch old now starts placed
working-stretch old now starts placed count h ne = record { run = h.run; ends = h.some (omega (arith, ne)); jobs = h.jobs }

-- where n event seconds were worked, or fewer and no more of them come before the end, and the engine isn't past the end, it has worked up to n
pub working-up-to : (old now : Progress) (starts : List Start) (placed : List Placed) (count n : ℕ) (end : Option ℕ) → Working old now starts placed count → IfSome end (λ e. now.position ≤ e) → count ≤ n → (count ≡ n) ⊎ NoneComes now end → WorksUpTo old now n end
working-up-to old now starts placed count n end h within few full = record {
  within = within;
  short = let a = h.counted in let b = h.run.further.counted in omega (arith, a, b, few);
  full = go full;
}
  where
    go : (count ≡ n) ⊎ NoneComes now end → (events_before old.plan now.position ≡ events_before old.plan old.position + n) ⊎ NoneComes now end
    go (inl e) = inl (let a = h.counted in let b = h.run.further.counted in omega (arith, a, b, e))
    go (inr none) = inr none

pub ends-bounded : (plan : Plan) (a b : ℕ) → IsPlan plan → EndsWithEvent plan a b → b ≤ bound plan + 1
ends-bounded plan a b p (t, le, e, event) = let l = events-end-by-the-bound plan t p event in omega (arith, l, e)

filled : (plan : Plan) (n a b : ℕ) (new : Progress) → new.plan ≡ plan → new.position ≡ b → events_before plan b ≤ events_before plan a + n → (events_before plan b ≡ events_before plan a + n) ⊎ NoneComes new None → IsFull plan n a b
filled plan n a b new same at short (inl e) = inl e
filled plan n a b new same at short (inr none) = inr (short, subst (λ (p : Plan). Over p b) same (subst (λ t. Over new.plan t) at none))

cutting-more : (plan : Plan) (n : ℕ) (now new : Progress) (ss : List SegmentView) (s : SegmentView) (starts : List Start) → Cutting plan n now ss → IsRunOn now new starts → Spans now.plan s now.position new.position → WorksUpTo now new n None → Cutting plan n new (ss ++ s ∷ [])
cutting-more plan n now new ss s starts h run spans events = record {
  going = run.going;
  same = run.further.plan ∙ h.same;
  chain = chain-push plan n 0 now.position new.position ss s h.chain
      (subst (λ (p : Plan). Spans p s now.position new.position) h.same spans)
      (subst (λ (p : Plan). IsFull p n now.position new.position) h.same (filled now.plan n now.position new.position new run.further.plan refl events.short events.full));
}

-- the segments so far and, as one more of them, the piece that was worked are one after another
pub cutting-chain : (plan : Plan) (n : ℕ) (now new : Progress) (ss : List SegmentView) (p : PieceView) → Cutting plan n now ss → Spans now.plan (segment_of now.plan p) now.position new.position
    → (m : ℕ) × (b : ℕ) × Chain plan 0 ss m × Spans plan (segment_of plan p) m b
cutting-chain plan n now new ss p h spans =
    (now.position, new.position, short-chain plan n 0 now.position ss h.chain, subst (λ (q : Plan). Spans q (segment_of q p) now.position new.position) h.same spans)

-- behind a segment that was worked fewer seconds are left up to the bound
pub cutting-down : (plan : Plan) (now new : Progress) (s : SegmentView) → IsPlan plan → now.plan ≡ plan → Spans now.plan s now.position new.position → bound plan + 1 - new.position < bound plan + 1 - now.position
cutting-down plan now new s p same spans =
    let spans' : Spans plan s now.position new.position = subst (λ (q : Plan). Spans q s now.position new.position) same spans in
    let l = span-bounded plan s now.position new.position p spans' in
    let a = spans'.ends.1 in
    let b = spans'.ends.2 in
    omega (arith, l, a, b)

-- with the piece that was worked as one more, the segments are those up to where the engine stands then
pub cutting-piece : (plan : Plan) (n : ℕ) (now new : Progress) (ss ts : List SegmentView) (p : PieceView) → Cutting plan n now ss → IsRunOn now new p.starts → Spans now.plan (segment_of now.plan p) now.position new.position → WorksUpTo now new n None
    → ts ≡ ss ++ segment_of plan p ∷ [] → Cutting plan n new ts
cutting-piece plan n now new ss ts p h run spans events put =
    subst (Cutting plan n new) (sym put)
    (cutting-more plan n now new ss (segment_of plan p) p.starts h run (subst (λ (q : Plan). Spans now.plan (segment_of q p) now.position new.position) h.same spans) events)

-- where no event second comes any more, the segments so far are a cut of n event seconds each
pub cut-done : (plan : Plan) (n : ℕ) (now : Progress) (ss : List SegmentView) → Cutting plan n now ss → IsNextEvent now.plan now.position None → IsShortCut plan n ss
cut-done plan n now ss h none = (now.position, h.chain, subst (λ (p : Plan). IsNextEvent p now.position None) h.same none)

-- where an engine was just begun, no segments are those up to there
pub cutting-first : (plan q : Plan) (n : ℕ) (now : Progress) (ss : List SegmentView) → now ≡ begun q 0 → q ≡ plan → ss ≡ [] → Cutting plan n now ss
cutting-first plan q n now ss e same none = record {
  going = ap (λ (p : Progress). p.failed) e;
  same = ap (λ (p : Progress). p.plan) e ∙ same;
  chain = subst (λ (zs : List SegmentView). ShortChain plan n 0 zs now.position) (sym none) (sym (ap (λ (p : Progress). p.position) e));
}

-- where at least one event second was worked, sums can be made over the jobs that started
pub working-can : (old now : Progress) (starts : List Start) (placed : List Placed) (count : ℕ) → Working old now starts placed count → (count ≡ 0 → ⊥) → CanSum placed
working-can old now starts placed count h ne =
    let p : IsPlan old.plan = h.plan (omega (arith, ne)) in
    let ends = h.some (omega (arith, ne)) in
    subst CanSum (sym h.jobs) (can-sum old.plan old.position now.position starts p (ends-bounded old.plan old.position now.position p ends) h.run.outcome)

-- an engine that works a stretch goes on with the starts of the stretch's piece
pub piece-run : (old new : Progress) (p : PieceView) (first : ℕ) (snap : Option Numbers) (starts : List Start) (ps : List Placed) (part : PartSums) → p ≡ record { first = first; before = snap; starts = starts; part = part } → WorksStretch old new starts ps → IsRunOn old new p.starts
piece-run old new p first snap starts ps part is stretch = subst (λ (x : PieceView). IsRunOn old new x.starts) (sym is) stretch.run

-- the piece of a stretch, with the sums over the jobs that start in it, spans it as a segment
pub piece-spans : (old new : Progress) (p : PieceView) (first : ℕ) (snap : Option Numbers) (starts : List Start) (ps qs : List Placed) (part : PartSums) → p ≡ record { first = first; before = snap; starts = starts; part = part }
    → WorksStretch old new starts ps → first ≡ old.position → qs ≡ ps → IsPartOf qs part → Spans old.plan (segment_of old.plan p) old.position new.position
piece-spans old new p first snap starts ps qs part is stretch at e sums =
    let v : PieceView = record { first = first; before = snap; starts = starts; part = part } in
    let spans : Spans old.plan (segment_of old.plan v) old.position new.position = record {
      first = at;
      ends = stretch.ends;
      snapshot = ap (λ t. numbers_of (before old.plan t)) at;
      starts = sym stretch.run.outcome;
      part = subst (λ (xs : List Placed). IsPartOf xs part) (e ∙ stretch.jobs) sums;
    } in
    subst (λ (x : PieceView). Spans old.plan (segment_of old.plan x) old.position new.position) (sym is) spans

-- where the snapshot that was noted, if one was, is that of the state before the position, that of the piece is the plan's
pub piece-noted : (plan : Plan) (position : ℕ) (p : PieceView) (first : ℕ) (snap : Option Numbers) (starts : List Start) (part : PartSums) → p ≡ record { first = first; before = snap; starts = starts; part = part }
    → first ≡ position → IfSome snap (λ there. there ≡ numbers_of (before plan position)) → IsNotedIn plan p
piece-noted plan position p first snap starts part is at noted =
    subst (IsNotedIn plan) (sym is) (subst (λ t. IfSome snap (λ there. there ≡ numbers_of (before plan t))) (sym at) noted)
