-- EASY backfilling is a rule.
use Rattle.std.proofs.Common.{◌≡◌, ◌+◌, true, length, All, sum_by, refl, arith}
use Rattle.scenarios.specs.Job.{EffectiveJob}
use Rattle.scenarios.specs.declared.placed.Placed.{Placed}
use Rattle.cluster_state.specs.State.{IsSound}
use Rattle.cluster_state.proofs.Lemmas.{sum_by-placed, sum_by-without, All-placed, All-without, sound-started}
use Rattle.easy_rule.specs.Rule.{state_after, starts_at}
use Rattle.easy_rule.specs.RuleLaws.{IsSettled, Settles, Keeps, Conserves, EasyIsARule}
use Rattle.easy_rule.proofs.NextLemmas.{All-member, next-facts, next-found, next-fits}
use Rattle.easy_rule.proofs.PassLemmas.{state_after-done, starts_at-done}
use Rattle.easy_rule.proofs.Decisions.{decided-keeps, decided-done, starts-now, outcome, next-later}

easy-settles : Settles IsSettled state_after starts_at
easy-settles = record {
  empty_machine = λ procs order now. refl;
  after_decision = λ s now. decided-done (length s.waiting) s now (omega arith);
  at_later_second = λ s now later l e. next-later s now later s.waiting l e;
  state_stays = λ s now e. state_after-done s now e;
  nobody_starts = λ s now e. starts_at-done s now e;
}

easy-keeps : Keeps state_after starts_at
easy-keeps = record {
  procs = λ s now. decided-keeps (λ z. z.procs ≡ s.procs) now (λ z job e h. h) (length s.waiting) s refl;
  order = λ s now. decided-keeps (λ z. z.order ≡ s.order) now (λ z job e h. h) (length s.waiting) s refl;
  sound = λ s now small h. decided-keeps IsSound now (λ z job e h. sound-started z job now h (next-found z now job h e) (next-fits z now job e) small) (length s.waiting) s h;
  waits = λ p s now a.
      let P : EffectiveJob → Type 0 = λ j. p j ≡ true in
      decided-keeps (λ z. All P z.waiting) now (λ z job e h. All-without P job.number z.waiting h) (length s.waiting) s a;
  runs = λ p s now a b.
      let P : Placed → Type 0 = λ r. p r ≡ true in
      let Q : EffectiveJob → Type 0 = λ j. p (record { job = j; start = now }) ≡ true in
      (decided-keeps (λ z. All P z.running × All Q z.waiting) now
      (λ z job e h. (
        All-placed P (record { job = job; start = now }) z.running (All-member Q z.waiting job (next-facts z now job z.waiting e).0 h.1) h.0,
        All-without Q job.number z.waiting h.1,
      ))
      (length s.waiting) s (a, b)).0;
  starts_now = λ s now. starts-now (length s.waiting) s now;
}

easy-conserves : Conserves state_after starts_at
easy-conserves = record {
  work = λ f s now small h.
      (decided-keeps (λ z. IsSound z × (sum_by f z.waiting + sum_by (λ (r : Placed). f r.job) z.running ≡ sum_by f s.waiting + sum_by (λ (r : Placed). f r.job) s.running)) now
      (λ z job e k.
      let found = next-found z now job k.0 e in (
        sound-started z job now k.0 found (next-fits z now job e) small,
        omega (arith, k.1, sum_by-placed (λ (r : Placed). f r.job) (record { job = job; start = now }) z.running, sum_by-without f job.number z.waiting job found),
      ))
      (length s.waiting) s (h, refl)).1;
  outcome = λ n s now small h. outcome n (length s.waiting) s now small h;
}

-- EASY backfilling is a rule: it settles, keeps and conserves
pub easy-is-a-rule : EasyIsARule
easy-is-a-rule = record { settles = easy-settles; keeps = easy-keeps; conserves = easy-conserves }
