-- Who waits or runs is the plan's job of its number.
use Rattle.std.proofs.Common.{◌≡◌, ℕ, zero, suc, not, nat_eq, List, [], ◌∷◌, length, Some, All, map, refl, sym, ◌∙◌, ap, subst, inl, inr, ⊎_elim}
use Rattle.std.proofs.lemmas.List.Elements.{All-head, All-tail, All-nil, All-cons, All-append, All-filter}
use Rattle.scenarios.specs.Job.{EffectiveJob}
use Rattle.scenarios.specs.Plan.{Plan, job_numbered}
use Rattle.scenarios.specs.declared.placed.Placed.{Placed}
use Rattle.scenarios.specs.Placed.{real_end}
use Rattle.cluster_state.specs.State.{State, started, CanStartAll}
use Rattle.cluster_state.specs.Snapshot.{Numbers, numbers_of, restored, Fits, IsOfPlan}
use Rattle.cluster_state.proofs.Lemmas.{All-placed, All-without, All-find, numbers-give-the-state-back}
use Rattle.easy_rule.specs.Rule.{next, starts_at}
use Rattle.easy_rule.specs.Pass.{start_at, AreStarted}
use Rattle.easy_rule.specs.Simulation.{before, ready, submitted}
use Rattle.easy_rule.proofs.Lemmas.{Member, find-member, next-facts, decided-keeps}
use Rattle.scenarios.specs.SoundPlan.{IsPlan}
use Rattle.timeline.proofs.Lemmas.{each-state-is-sound}
use Rattle.event_loop.specs.Stepped.{StartIn}

member-holds : (P : EffectiveJob → Type 0) (js : List EffectiveJob) (job : EffectiveJob) → Member js job → All P js → P job
member-holds P [] job m a = absurd m
member-holds P (j ∷ js) job m a =
    ⊎_elim (λ (same : j ≡ job). subst P same (All-head P j js a)) (λ (later : Member js job). member-holds P js job later (All-tail P j js a)) m

members-hold : (P : EffectiveJob → Type 0) (js : List EffectiveJob) → ((j : EffectiveJob) → Member js j → P j) → All P js
members-hold P [] f = All-nil P
members-hold P (j ∷ js) f = All-cons P j js (f j (inl refl)) (members-hold P js (λ k m. f k (inr m)))

abbrev Own : Plan → EffectiveJob → Type 0
Own plan j = job_numbered plan.jobs j.number ≡ Some j

own-jobs : (plan : Plan) → IsPlan plan → All (Own plan) plan.jobs
own-jobs plan p = members-hold (Own plan) plan.jobs (λ j m. find-member plan.jobs j m (p.once j.number))

of-plan-started : (plan : Plan) (now : ℕ) (s : State) (job : EffectiveJob) → next s now ≡ Some job → IsOfPlan s plan → IsOfPlan (started s job now) plan
of-plan-started plan now s job e h =
    let waits = (next-facts s now job s.waiting e).0 in
    record {
      procs = h.procs;
      order = h.order;
      waiting = All-without (Own plan) job.number s.waiting h.waiting;
      running = All-placed (λ r. job_numbered plan.jobs r.job.number ≡ Some r.job) (record { job = job; start = now }) s.running (member-holds (Own plan) s.waiting job waits h.waiting) h.running;
    }

of-plan-ready : (plan : Plan) (s : State) (t : ℕ) → IsPlan plan → IsOfPlan s plan → IsOfPlan (ready plan s t) plan
of-plan-ready plan s t p h = record {
  procs = h.procs;
  order = h.order;
  waiting = All-append (Own plan) s.waiting (submitted plan t) h.waiting (All-filter (λ (j : EffectiveJob). nat_eq j.submit t) (Own plan) plan.jobs (own-jobs plan p));
  running = All-filter (λ (r : Placed). not (nat_eq (real_end r) t)) (λ r. job_numbered plan.jobs r.job.number ≡ Some r.job) s.running h.running;
}

-- the state before each second has the plan's machine and order, and each of its jobs is the plan's of its number
pub before-of-plan : (plan : Plan) (t : ℕ) → IsPlan plan → IsOfPlan (before plan t) plan
unfolding before
before-of-plan plan zero p = record {
  procs = refl;
  order = refl;
  waiting = All-nil (Own plan);
  running = All-nil (λ r. job_numbered plan.jobs r.job.number ≡ Some r.job);
}
before-of-plan plan (suc t) p =
    decided-keeps (λ z. IsOfPlan z plan) t (of-plan-started plan t) (length (ready plan (before plan t) t).waiting) (ready plan (before plan t) t) (of-plan-ready plan (before plan t) t p (before-of-plan plan t p))

started-hold : (P : EffectiveJob → Type 0) (js : List EffectiveJob) (s : State) (now : ℕ) → CanStartAll s js now → All P s.waiting → All P js
started-hold P [] s now can a = All-nil P
started-hold P (j ∷ js) s now can a =
    All-cons P j js (All-find P (λ (k : EffectiveJob). nat_eq k.number j.number) s.waiting j can.0 a) (started-hold P js (started s j now) now can.2 (All-without P j.number s.waiting a))

-- the jobs that are started at a second are its starts in the simulation, each of them the plan's job of its number
pub start-in : (plan : Plan) (s s' : State) (t : ℕ) (js : List EffectiveJob) → IsPlan plan → s ≡ ready plan (before plan t) t → AreStarted s t js s' → map (start_at t) js ≡ starts_at s t → StartIn plan t js
start-in plan s s' t js p is h e =
    let waiting : All (Own plan) s.waiting = subst (λ (z : State). All (Own plan) z.waiting) (sym is) (of-plan-ready plan (before plan t) t p (before-of-plan plan t p)).waiting in
    record {
      starts = e ∙ ap (λ (z : State). starts_at z t) is;
      own = started-hold (Own plan) js s t h.can waiting;
    }

-- the snapshot of the state before a second fits, and gives that state back
pub before-fits : (plan : Plan) (t : ℕ) (p : Numbers) → IsPlan plan → p ≡ numbers_of (before plan t) → Fits p plan × (restored p plan ≡ before plan t)
before-fits plan t p sound e =
    subst (λ (q : Numbers). Fits q plan × (restored q plan ≡ before plan t)) (sym e)
    (numbers-give-the-state-back (before plan t) plan (before-of-plan plan t sound) (each-state-is-sound plan t sound).fits)
