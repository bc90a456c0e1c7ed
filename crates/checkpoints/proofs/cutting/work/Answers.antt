use Rattle.std.proofs.Common.{◌∙◌, ◌≡◌, inl, inr, true, false, ap, sym, arith, rules, List, map, ◌++◌}
use Rattle.std.proofs.lemmas.Bool.{false≢true}
use Rattle.scenarios.specs.Job.{EffectiveJob}
use Rattle.easy_rule.specs.Pass.{start_at}
use Rattle.checkpoints.proofs.Placing.{placed_from}
use Rattle.checkpoints.proofs.Worked.{working-more, working-stretch, working-up-to, working-can}
use Rattle.checkpoints.proofs.Coming.{step-before-end, none-worked, comes-some}
use Rattle.checkpoints.proofs.cutting.work.Goals as goal

pub returns-then-not-comes_before-clause-stretch : goal.returns-then-not-comes_before-clause-stretch
returns-then-not-comes_before-clause-stretch g c =
    let fails : c.comes_before.result ≡ false = search rules in
    working-stretch c.args.engine.now c.loop.engine c.loop.starts.items c.loop.placed.items c.loop.counter c.loop.invariant.working
    (none-worked c.args.engine.now c.loop.engine c.loop.starts.items c.loop.placed.items c.loop.counter c.args.end c.loop.invariant.working c.requires.coming (λ k. false≢true (sym fails ∙ c.comes_before.ensures.comes.1 k)))

pub returns-then-not-comes_before-clause-events : goal.returns-then-not-comes_before-clause-events
returns-then-not-comes_before-clause-events g c =
    let fails : c.comes_before.result ≡ false = search rules in
    working-up-to c.args.engine.now c.loop.engine c.loop.starts.items c.loop.placed.items c.loop.counter c.args.spacing c.args.end c.loop.invariant.working c.loop.invariant.within (omega arith) (inr (c.comes_before.ensures.none fails))

pub returns-then-not-comes_before-clause-can : goal.returns-then-not-comes_before-clause-can
returns-then-not-comes_before-clause-can g c =
    let fails : c.comes_before.result ≡ false = search rules in
    working-can c.args.engine.now c.loop.engine c.loop.starts.items c.loop.placed.items c.loop.counter c.loop.invariant.working
    (none-worked c.args.engine.now c.loop.engine c.loop.starts.items c.loop.placed.items c.loop.counter c.args.end c.loop.invariant.working c.requires.coming (λ k. false≢true (sym fails ∙ c.comes_before.ensures.comes.1 k)))

pub returns-in_default-clause-stretch : goal.returns-in_default-clause-stretch
returns-in_default-clause-stretch g c =
    let n = rw c.in_default.is at c.in_ok-second.ensures.none in
    let comes : c.comes_before.result ≡ true = search rules in
    absurd (comes-some c.loop.engine c.args.end (c.comes_before.ensures.comes.0 comes) n.1)

pub returns-in_default-clause-events : goal.returns-in_default-clause-events
returns-in_default-clause-events g c =
    let n = rw c.in_default.is at c.in_ok-second.ensures.none in
    let comes : c.comes_before.result ≡ true = search rules in
    absurd (comes-some c.loop.engine c.args.end (c.comes_before.ensures.comes.0 comes) n.1)

pub returns-in_default-clause-can : goal.returns-in_default-clause-can
returns-in_default-clause-can g c =
    let n = rw c.in_default.is at c.in_ok-second.ensures.none in
    let comes : c.comes_before.result ≡ true = search rules in
    absurd (comes-some c.loop.engine c.args.end (c.comes_before.ensures.comes.0 comes) n.1)

pub loop-preserved : goal.loop-preserved
loop-preserved g c =
    let w = rw c.in-Some.is at c.in_ok-second.ensures.some in
    let comes : c.comes_before.result ≡ true = search rules in
    record {
      working = working-more c.args.engine.now c.loop.engine c.step_into.new.self c.loop.starts.items _ c.loop.placed.items _ c.step_into.new.started.items c.in-Some.second c.loop.counter c.loop.invariant.working c.in_ok-second.ensures.plan w.1 w.2
          (rw c.in-Some.is at c.in_ok-second.ensures.started)
          (c.in_ok-add_starts.ensures.ok ∙ ap (λ (js : List EffectiveJob). c.loop.starts.items ++ map (start_at c.in-Some.second) js) c.as_slice-in-loop.ensures.value)
          (c.in_ok-add_placed.ensures ∙ ap (λ (js : List EffectiveJob). c.loop.placed.items ++ map (placed_from c.in-Some.second) js) c.as_slice.ensures.value);
      within = step-before-end c.loop.engine c.step_into.new.self c.args.end c.in-Some.second (c.comes_before.ensures.comes.0 comes) w.1 w.2;
    }

pub returns-clause-stretch : goal.returns-clause-stretch
returns-clause-stretch g c =
    working-stretch c.args.engine.now c.loop.engine c.loop.starts.items c.loop.placed.items c.loop.counter c.loop.invariant.working (λ (e : c.loop.counter ≡ 0). let l = c.requires.spacing in omega (arith, l, e))

pub returns-clause-events : goal.returns-clause-events
returns-clause-events g c =
    working-up-to c.args.engine.now c.loop.engine c.loop.starts.items c.loop.placed.items c.loop.counter c.args.spacing c.args.end c.loop.invariant.working c.loop.invariant.within (omega arith) (inl (omega arith))

pub returns-clause-can : goal.returns-clause-can
returns-clause-can g c =
    working-can c.args.engine.now c.loop.engine c.loop.starts.items c.loop.placed.items c.loop.counter c.loop.invariant.working (λ (e : c.loop.counter ≡ 0). let l = c.requires.spacing in omega (arith, l, e))
