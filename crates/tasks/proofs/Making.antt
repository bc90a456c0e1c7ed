-- The base that a published run makes, and how the run of a task was made: from nothing, or out of a base's run.
use Rattle.std.proofs.Common.{◌≡◌, ℕ, List, drop, sym, subst}
use Rattle.std.specs.Prelude.{Option, None}
use Rattle.swf_text.specs.Entry.{LogEntry}
use Rattle.job_table.specs.Edit.{LogEdit}
use Rattle.scenarios.specs.Plan.{plan_of}
use Rattle.scenarios.specs.PlanView.{PlanView, plan_in}
use Rattle.checkpoints.specs.Cut.{IsShortCut}
use Rattle.checkpoints.specs.RunView.{RunView}
use Rattle.rejoin.specs.Patch.{IsRejoined}
use Rattle.tasks.specs.Published.{PublishedView}
use Rattle.tasks.specs.Tasks.{BaseView, TaskView, IsMade, base_since}

-- the version and the run of what is published, with the edits since, are the base that it makes
pub base-is : (p : PublishedView) (es : List LogEdit) (v : ℕ) (run : RunView) (fs : List LogEdit) → v ≡ p.version → run ≡ p.run → fs ≡ drop p.version es → record { version = v; run = run; edits = fs } ≡ base_since es p
base-is p es v run fs v_is run_is fs_is = cc

-- a run that is cut as an equal plan is cut as this one
pub cut-of : (plan same : PlanView) (spacing : ℕ) (run seen : RunView) → same ≡ plan → run ≡ seen → IsShortCut (plan_in same) spacing seen.segments → IsShortCut (plan_in plan) spacing run.segments
cut-of plan same spacing run seen plan_is is cut =
    subst (λ (p : PlanView). IsShortCut (plan_in p) spacing run.segments) plan_is (subst (λ (r : RunView). IsShortCut (plan_in same) spacing r.segments) (sym is) cut)

-- a run that was made out of a base's run for this log is one for that log
pub rejoined-of : (base old : RunView) (wanted log : List LogEntry) (spacing : ℕ) (run seen : RunView) (handled reused : ℕ) → old ≡ base → log ≡ wanted → run ≡ seen → IsRejoined (plan_of old.log old.scenario) (plan_of log old.scenario) old.segments spacing seen.segments handled reused → IsRejoined (plan_of base.log base.scenario) (plan_of wanted base.scenario) base.segments spacing run.segments handled reused
rejoined-of base old wanted log spacing run seen handled reused base_is log_is is made =
    let here : IsRejoined (plan_of old.log old.scenario) (plan_of log old.scenario) old.segments spacing run.segments handled reused = subst (λ (r : RunView). IsRejoined (plan_of old.log old.scenario) (plan_of log old.scenario) old.segments spacing r.segments handled reused) (sym is) made in
    let of : IsRejoined (plan_of base.log base.scenario) (plan_of log base.scenario) base.segments spacing run.segments handled reused = subst (λ (r : RunView). IsRejoined (plan_of r.log r.scenario) (plan_of log r.scenario) r.segments spacing run.segments handled reused) base_is here in
    subst (λ (l : List LogEntry). IsRejoined (plan_of base.log base.scenario) (plan_of l base.scenario) base.segments spacing run.segments handled reused) log_is of

-- without a base, a run of the task's log and scenario in segments of at most its spacing was made as the task asks
pub made-anew : {s w : TaskView} (run : RunView) → s ≡ w → s.base ≡ None → IsShortCut (plan_of s.log s.scenario) s.spacing run.segments → IsMade w w.base run None
made-anew {s} {w} run seen none cut = subst (λ (t : TaskView). IsMade t t.base run None) seen (subst (λ (o : Option BaseView). IsMade s o run None) (sym none) cut)
