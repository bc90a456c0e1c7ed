use Rattle.std.proofs.Common.{◌≤◌, arith}
use Rattle.scenarios.specs.declared.placed.Placed.{Placed}
use Rattle.scenarios.specs.Placed.{expected_end}
use Rattle.cluster_state.specs.State.{available}
use Rattle.easy_rule.proofs.Lemmas.{shadow_time-IsLeast, shadow_time-small, seen-more, seen-all}
use Rattle.oracle_runs.proofs.rule.shadow_time.Goals as goal
use Rattle.oracle_runs.proofs.rule.shadow_time.Goals.{then-end-time+then-need-available, else-end-time, else-end-time-via-then-end-time+else-need-available, else-end-time-via-else-end-time}

pub loop-r-init : goal.loop-r-init
loop-r-init g c = record { low = shadow_time-small _ _ c.running-r-items.ensures.sound c.requires.within; seen = λ k d l. absurd (omega arith) }

pub loop-r-preserved : goal.loop-r-preserved
loop-r-preserved g c =
    let s = c.args.state.now in
    let need = c.args.need in
    let sound = c.running-r-items.ensures.sound in
    let rs = c.running-r-items.result.now in
    let i = c.loop-r.r-index in
    let r : Placed = c.r-item.result in
    let least = shadow_time-IsLeast s need sound.fits c.requires.within in
    elim c.if-end-time.branch [
      | then-end-time+then-need-available w ↦
          let enough : need ≤ available s (expected_end r) = rw (← c.expected_end-end.ensures, ← w.available.ensures) w.if-need-available.true in
          record {
            low = rw (w.time-is, c.expected_end-end.ensures) (least.least (expected_end r) enough);
            seen = seen-more s need c.loop-r.time c.if-end-time.time i r rs c.loop-r-test.true (omega arith) c.r-item.is c.loop-r.invariant.seen (λ _. omega arith);
          }
      | else-end-time w ↦ record {
        low = rw w.time-is c.loop-r.invariant.low;
        seen = seen-more s need c.loop-r.time c.if-end-time.time i r rs c.loop-r-test.true (omega arith) c.r-item.is c.loop-r.invariant.seen
            (λ e. elim w.else-end-time.branch [
              | else-end-time-via-then-end-time+else-need-available v ↦ let a = rw c.expected_end-end.ensures at v.available.ensures in omega arith
              | else-end-time-via-else-end-time v ↦ omega arith
            ]);
      }
    ]

pub returns : goal.returns
returns g c =
    seen-all c.args.state.now c.args.need c.loop-r.time c.loop-r.r-index c.running-r-items.ensures.sound c.requires.wants c.requires.within
    (rw (← c.running-r-items.ensures.jobs) c.loop-r-test.false) c.loop-r.invariant.low (rw c.running-r-items.ensures.jobs at c.loop-r.invariant.seen)
