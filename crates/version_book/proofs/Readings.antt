-- What the book reads of where it stands, as the machine says it: how far all scenarios are, what is due, and the next task.
use Rattle.std.proofs.Common.{◌≡◌, ℕ, ◌+◌, ◌≤◌, ◌<◌, ◌==◌, ◌&&◌, List, [], ◌∷◌, ◌++◌, length, map, drop, refl, sym, ◌∙◌, ap, ap₂, subst, Bool, true, false, not, cond, arith}
use Rattle.std.specs.Prelude.{Option, None, Some, Ok, Err, IfSome, find, count_by, nat_le}
use Rattle.std.specs.List.{list_any}
use Rattle.std.specs.Option.{option_map}
use Rattle.std.proofs.lemmas.List.{length-map}
use Rattle.std.proofs.lemmas.Bool.{lt-leb}
use Rattle.std.proofs.lemmas.List.Sums.{sum_by-cons}
use Rattle.swf_text.specs.Entry.{LogEntry}
use Rattle.job_table.specs.Edit.{LogEdit, log_after}
use Rattle.job_table.specs.Accepted.{AreAccepted}
use Rattle.scenarios.specs.Scenario.{ScenarioView}
use Rattle.book_machine.specs.declared.settle_state.SettleState.{SettleState}
use Rattle.book_machine.specs.declared.settle_state.SettleState.TheVariants as settle
use Rattle.book_machine.specs.Machine.{Progress, is_good, is_waiting, settled}
use Rattle.tasks.specs.Published.{PublishedView}
use Rattle.tasks.specs.Tasks.{BaseView, IsTask, LeadsTo, TaskView, base_since, bases_since, ticket_for}
use Rattle.tasks.specs.Tickets.{TicketView}
use Rattle.version_book.specs.Book.{ShownView, StateView, machine_at, progress_of_shown, ticket_of_view}
use Rattle.version_book.specs.Sound.{IsSound, IsOfItsVersion}
use Rattle.version_book.specs.Tasks.{due_shown, free_due, task_for, IsNext}
use Rattle.version_book.specs.Steps.{Does, IsStep}
use Rattle.version_book.specs.Answers.{claim_answer}
use Rattle.version_book.specs.declared.faults.TooManyTickets.{TooManyTickets}
use Rattle.version_book.specs.declared.refusal.Refusal.{Refusal}
use Rattle.version_book.specs.declared.refusal.Refusal.TheVariants as why
use Rattle.book_machine.specs.Call.{Claim}
use Rattle.book_machine.specs.declared.reply.Reply.TheVariants as reply
use Rattle.version_book.specs.Lookups.{is_mark, is_behind, is_awaited, is_due_at, settled_at}
use Rattle.version_book.proofs.Lists.{list_any-map, count-map}
use Rattle.version_book.proofs.Logs.{AreAccepted-since, log_after-since}
use Rattle.version_book.proofs.WorkerSteps.{due-shown, found-run, claim-idle, claim-busy, claim-given}

twice : (b : Bool) → not (not b) ≡ b
twice true = refl
twice false = refl

marked-at : (o : Option ℕ) (v : ℕ) → (elim o [ None ↦ false | Some w ↦ w == v ]) ≡ is_mark o v
marked-at None v = refl
marked-at (Some w) v = refl

waiting-at : (seen n : ℕ) (s : StateView) (x : ShownView) → is_waiting seen (machine_at n s) (progress_of_shown x) ≡ is_awaited seen (length s.edits) x
waiting-at seen n s x = ap₂ (λ (a b : Bool). a && not (b && nat_le seen (length s.edits))) (twice (is_behind seen x)) (marked-at x.mark (length s.edits))

any-same : {X : Type 0} (p q : X → Bool) (xs : List X) → ((x : X) → p x ≡ q x) → list_any p xs ≡ list_any q xs
any-same p q [] same = refl
any-same p q (x ∷ xs) same = cc (same x, any-same p q xs same)

abbrev settled_by : Bool → ℕ → SettleState
settled_by b n = cond b settle.Waiting (cond (n == 0) settle.Done (settle.Failed n))

count-same : {X : Type 0} (p q : X → Bool) (xs : List X) → ((x : X) → p x ≡ q x) → count_by p xs ≡ count_by q xs
count-same p q [] same = refl
count-same p q (x ∷ xs) same =
    let h = count-same p q xs same in
    let e : cond (p x) 1 0 ≡ cond (q x) 1 0 = ap (λ (b : Bool). let n : ℕ = cond b 1 0 in n) (same x) in
    omega (arith, sum_by-cons (λ y. cond (p y) 1 0) x xs, sum_by-cons (λ y. cond (q y) 1 0) x xs, h, e)

pub settled-is : (s : StateView) (seen n : ℕ) → settled_at seen (length s.edits) s.shown ≡ settled seen (machine_at n s)
settled-is s seen n =
    let any = list_any-map progress_of_shown (is_waiting seen (machine_at n s)) s.shown ∙ any-same (λ (x : ShownView). is_waiting seen (machine_at n s) (progress_of_shown x)) (is_awaited seen (length s.edits)) s.shown (waiting-at seen n s) in
    let count = count-map progress_of_shown (λ (p : Progress). not (is_good seen p)) s.shown ∙ count-same (λ (x : ShownView). not (is_good seen (progress_of_shown x))) (is_behind seen) s.shown (λ x. twice (is_behind seen x)) in
    sym (ap₂ settled_by any count)

-- how far all scenarios are, as read of the version and of what is shown, is what the machine says
pub settled-with : {s w : StateView} (seen v : ℕ) (xs : List ShownView) (r : SettleState) → s ≡ w → v ≡ length s.edits → xs ≡ s.shown → r ≡ settled_at seen v xs → (n : ℕ) → r ≡ settled seen (machine_at n w)
settled-with {s} {w} seen v xs r is v_is xs_is r_is n =
    subst (λ (u : StateView). r ≡ settled seen (machine_at n u)) is (r_is ∙ (ap₂ (settled_at seen) v_is xs_is ∙ settled-is s seen n))

pub free-due : (s : StateView) (o : Option ShownView) → length s.tickets < 256 → find (is_due_at (length s.edits) s.tickets) s.shown ≡ o → option_map (λ (x : ShownView). x.id) o ≡ free_due s
free-due s o lt is =
    let count = length-map s.tickets ticket_of_view in
    let test : nat_le 256 (length (map ticket_of_view s.tickets)) ≡ false = lt-leb 256 (length (map ticket_of_view s.tickets)) (omega arith) in
    sym (ap (λ (b : Bool). cond b None (option_map (λ (x : ShownView). x.id) (due_shown s))) test ∙ ap (option_map (λ (x : ShownView). x.id)) (due-shown s ∙ is))

pub due-with : (s : StateView) (v : ℕ) (o : Option ShownView) → v ≡ length s.edits → find (is_due_at v s.tickets) s.shown ≡ o → due_shown s ≡ o
due-with s v o v_is is = due-shown s ∙ (ap (λ (w : ℕ). find (is_due_at w s.tickets) s.shown) (sym v_is) ∙ is)

-- while fewer than 256 tickets stand, the id of what is found due, if anything is, is the one that is free to be claimed
pub free-with : {s w : StateView} (v : ℕ) (o : Option ShownView) (r : Option ℕ) → s ≡ w → length s.tickets < 256 → v ≡ length s.edits → find (is_due_at v s.tickets) s.shown ≡ o → r ≡ option_map (λ (x : ShownView). x.id) o → r ≡ free_due w
free-with {s} {w} v o r is lt v_is find_is r_is = subst (λ (u : StateView). r ≡ free_due u) is (r_is ∙ free-due s o lt (ap (λ (n : ℕ). find (is_due_at n s.tickets) s.shown) (sym v_is) ∙ find_is))

base-leads : (s : StateView) (under : ScenarioView) (p : PublishedView) → IsSound s → IsOfItsVersion s.opening s.edits under p → LeadsTo s.current under (base_since s.edits p)
base-leads s under p h of = record {
  scenario = of.scenario;
  accepted = subst (λ (log : List LogEntry). AreAccepted log (drop p.version s.edits)) (sym of.log) (AreAccepted-since s.opening s.edits p.version h.accepted);
  log = h.current ∙ (log_after-since s.opening s.edits p.version ∙ ap (λ (log : List LogEntry). log_after log (drop p.version s.edits)) (sym of.log));
}

bases-lead : (s : StateView) (under : ScenarioView) (o : Option PublishedView) → IsSound s → IfSome o (IsOfItsVersion s.opening s.edits under) → IfSome (bases_since s.edits o) (LeadsTo s.current under)
bases-lead s under None h of = tt
bases-lead s under (Some p) h of = base-leads s under p h of

-- a task made of a sound state, of a scenario and the base that its published run makes, is one
pub task-sound : {s w : StateView} (ticket id v : ℕ) (log : List LogEntry) (x : ShownView) (scenario : ScenarioView) (base : Option BaseView) → s ≡ w → IsSound s → IfSome x.published (IsOfItsVersion w.opening w.edits x.scenario) → log ≡ s.current → scenario ≡ x.scenario → base ≡ bases_since s.edits x.published → IsTask (record { ticket = ticket; id = id; version = v; log = log; scenario = scenario; spacing = s.spacing; base = base })
task-sound {s} {w} ticket id v log x scenario base seen h of log_is scenario_is is =
    let of' : IfSome x.published (IsOfItsVersion s.opening s.edits x.scenario) = subst (λ (u : StateView). IfSome x.published (IsOfItsVersion u.opening u.edits x.scenario)) (sym seen) of in
    record {
      spacing = h.spacing;
      base = subst (λ (l : List LogEntry). IfSome base (LeadsTo l scenario)) (sym log_is) (subst (λ (u : ScenarioView). IfSome base (LeadsTo s.current u)) (sym scenario_is) (subst (λ (o : Option BaseView). IfSome o (LeadsTo s.current x.scenario)) (sym is) (bases-lead s x.scenario x.published h of')));
    }

-- a task of the next ticket, the current version and log, a scenario and what is published for it is the task for it
pub task-is : {s w : StateView} (ticket id v : ℕ) (log : List LogEntry) (x : ShownView) (scenario : ScenarioView) (spacing : ℕ) (base : Option BaseView) → s ≡ w → ticket ≡ s.next_ticket → id ≡ x.id → v ≡ length s.edits → log ≡ s.current → scenario ≡ x.scenario → spacing ≡ s.spacing → base ≡ bases_since s.edits x.published → record { ticket = ticket; id = id; version = v; log = log; scenario = scenario; spacing = spacing; base = base } ≡ task_for w x
task-is {s} {w} ticket id v log x scenario spacing base seen a b d e f h is =
    let same : record { ticket = ticket; id = id; version = v; log = log; scenario = scenario; spacing = spacing; base = base } ≡ task_for s x = cc in
    same ∙ ap (λ (u : StateView). task_for u x) seen

-- where a scenario is due and at least 256 tickets stand, a claim is rightly refused for too many tickets
pub next-busy : {s w : StateView} (v : ℕ) (x : ShownView) → s ≡ w → v ≡ length s.edits → find (is_due_at v s.tickets) s.shown ≡ Some x → 256 ≤ length s.tickets → IsNext w (Err (why.Fault (record {})))
next-busy {s} {w} v x seen v_is is le = subst (λ (u : StateView). IsNext u (Err (why.Fault (record {})))) seen (x, due-with s v (Some x) v_is is, le)

-- what is published for a scenario that is found due is of its version
pub next-run : {s w : StateView} (v : ℕ) (x : ShownView) → s ≡ w → IsSound s → find (is_due_at v s.tickets) s.shown ≡ Some x → IfSome x.published (IsOfItsVersion w.opening w.edits x.scenario)
next-run {s} {w} v x seen h is = subst (λ (u : StateView). IfSome x.published (IsOfItsVersion u.opening u.edits x.scenario)) seen (found-run s x (is_due_at v s.tickets) h is)

-- where a scenario is due and fewer than 256 tickets stand, a claim rightly returns the task for it
pub next-given : {s w : StateView} (v : ℕ) (x : ShownView) (task : TaskView) → s ≡ w → v ≡ length s.edits → find (is_due_at v s.tickets) s.shown ≡ Some x → length s.tickets < 256 → task ≡ task_for w x → IsNext w (Ok (Some task))
next-given {s} {w} v x task seen v_is is lt task_is =
    let given : IsNext s (Ok (Some task)) = (x, due-with s v (Some x) v_is is, lt, task_is ∙ ap (λ (u : StateView). task_for u x) (sym seen)) in
    subst (λ (u : StateView). IsNext u (Ok (Some task))) seen given

-- a claim that rightly returns no task, and changes nothing, is a step of the machine
pub claim-none : (s : StateView) → IsSound s → IsNext s (Ok None) → IsStep s s Claim reply.NoneDue
claim-none s h is = claim-idle s h (sym (due-shown s) ∙ is)

-- a claim that is rightly refused, and changes nothing, does what it answers
pub claim-refused : (s : StateView) (e : Refusal TooManyTickets) → IsSound s → IsNext s (Err e) → Does s s Claim (claim_answer (Err e))
claim-refused s why.JournalFull h is = absurd is
claim-refused s (why.Fault fault) h is = claim-busy s is.0 h (sym (due-shown s) ∙ is.1) is.2
claim-refused s why.Memory h is = refl

abbrev version_in : Option BaseView → Option ℕ
version_in o = option_map (λ b. b.version) o

base-version : (es : List LogEdit) (o : Option PublishedView) → version_in (bases_since es o) ≡ option_map (λ (p : PublishedView). p.version) o
base-version es None = refl
base-version es (Some p) = refl

-- a claim that rightly returns a task, whose ticket is put behind the others, is a step of the machine
pub claim-with : {s w : StateView} (task : TaskView) (t : TicketView) (ts : List TicketView) → s ≡ w → IsSound s → IsNext w (Ok (Some task)) → ts ≡ s.tickets ++ t ∷ [] → t ≡ ticket_for task → IsStep s (record s { tickets = ts; next_ticket = s.next_ticket + 1 }) Claim (reply.Claimed task.ticket task.id task.version (version_in task.base))
claim-with {s} {w} task t ts seen h next ts_is t_is =
    let n : IsNext s (Ok (Some task)) = subst (λ (u : StateView). IsNext u (Ok (Some task))) (sym seen) next in
    let x : ShownView = n.0 in
    let ticket : t ≡ ticket_for (task_for s x) = t_is ∙ ap ticket_for n.3 in
    let outcome = ap (λ (k : TaskView). reply.Claimed k.ticket k.id k.version (version_in k.base)) n.3 ∙ ap (reply.Claimed s.next_ticket x.id (length s.edits)) (base-version s.edits x.published) in
    claim-given s x ts _ h (sym (due-shown s) ∙ n.1) n.2 (ts_is ∙ ap (λ (u : TicketView). s.tickets ++ u ∷ []) ticket) outcome

-- a step that claims a task is one that claims an equal task
pub claim-left : {s new : StateView} (task left : TaskView) → left ≡ task → IsStep s new Claim (reply.Claimed task.ticket task.id task.version (version_in task.base)) → IsStep s new Claim (reply.Claimed left.ticket left.id left.version (version_in left.base))
claim-left {s} {new} task left is step = subst (λ (k : TaskView). IsStep s new Claim (reply.Claimed k.ticket k.id k.version (version_in k.base))) (sym is) step

-- where nothing is found due at the current version, no scenario is due
pub next-none : {s w : StateView} (v : ℕ) → s ≡ w → v ≡ length s.edits → find (is_due_at v s.tickets) s.shown ≡ None → due_shown w ≡ None
next-none {s} {w} v seen v_is is = subst (λ (u : StateView). due_shown u ≡ None) seen (due-with s v None v_is is)
