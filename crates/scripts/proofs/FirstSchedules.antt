-- The transcript of a script that settles a log and asks for the schedule of its first scenario.
use Rattle.std.proofs.Common.{◌≡◌, ℕ, ◌<◌, List, [], ◌∷◌, ◌++◌, cond, Bool, true, false, Option, None, Some, Result, refl, sym, ◌∙◌, ap, subst, inl, inr, append-nil}
use Rattle.std.specs.Prelude.{codes, slice_get}
use Rattle.std.specs.Str.{bytes_eq}
use Rattle.std.specs.List.{AllByRecursion}
use Rattle.std.proofs.lemmas.Bool.{eq-eqb}
use Rattle.std.proofs.lemmas.Slice.Eq.{bytes_eq-Decides}
use Rattle.swf_text.specs.Entry.{LogEntry}
use Rattle.scenarios.specs.Name.{is_name}
use Rattle.scenarios.specs.Plan.{plan_of}
use Rattle.scenarios.specs.ScenarioList.{Listed, Listing, named}
use Rattle.commands.specs.declared.command.Command.{Command}
use Rattle.commands.specs.declared.fault.CommandFault.{CommandFault}
use Rattle.commands.specs.Commands.{command_of_line}
use Rattle.report.specs.Schedule.{schedule_text}
use Rattle.book_machine.specs.declared.reply.Reply.TheVariants as reply
use Rattle.book_machine.specs.Call.{View}
use Rattle.book_machine.specs.Machine.{Machine, Progress, after, progress_of, settled, view_reply_at}
use Rattle.scripts.specs.Lines.{settled_line}
use Rattle.version_book.specs.Session.{Session}
use Rattle.scripts.specs.Steps.{IsNamed, IsSchedule, IsSettled, IsViewIf, settle_line}
use Rattle.scripts.specs.Transcript.{IsLineIf, IsTranscriptIf, IsUnrefused, is_quit, looked_at}
use Rattle.scripts.specs.FirstSchedule.{SchedulesTheFirst}
use Rattle.scripts.proofs.FirstLines.{schedule_is, settle_is}
use Rattle.scripts.proofs.FirstWork.{IsFirstWork, first-work, settled-done, shown, shown_of}
use Rattle.scripts.proofs.Starts.{built, start, state}

some-first : (xs : List Listed) (first : Listed) → slice_get xs 0 ≡ Some first → (rest : List Listed) × (xs ≡ first ∷ rest)
some-first [] first is = cc
some-first (x ∷ xs) first is = let same : x ≡ first = cc in (xs, ap (λ (y : Listed). y ∷ xs) same)

first-named : (xs : List Listed) (first : Listed) → slice_get xs 0 ≡ Some first → named first.name xs ≡ Some first
first-named xs first is =
    let one = some-first xs first is in
    let self : bytes_eq first.name first.name ≡ true = (bytes_eq-Decides first.name first.name).1 refl in
    ap (named first.name) one.1 ∙ ap (λ (b : Bool). cond b (Some first) (named first.name one.0)) self

first-shown : (xs : List Listed) (first : Listed) → slice_get xs 0 ≡ Some first → progress_of first.id (shown_of xs) ≡ Some (shown first.id)
first-shown xs first is =
    let one = some-first xs first is in
    ap (λ (ys : List Listed). progress_of first.id (shown_of ys)) one.1
    ∙ ap (λ (b : Bool). cond b (Some (shown first.id)) (progress_of first.id (shown_of one.0))) (eq-eqb first.id first.id refl)

first-called : (xs : List Listed) (first : Listed) → slice_get xs 0 ≡ Some first → AllByRecursion (λ (s : Listed). is_name s.name ≡ true) xs → is_name first.name ≡ true
first-called xs first is all =
    let one = some-first xs first is in
    let here : AllByRecursion (λ (s : Listed). is_name s.name ≡ true) (first ∷ one.0) = subst (AllByRecursion (λ (s : Listed). is_name s.name ≡ true)) one.1 all in
    here.0

two-lines : (A : Type 0) (comments : List (List ℕ)) (old mid new : Session) (one two text later : List ℕ) → is_quit (command_of_line {A = A} one) ≡ false → is_quit (command_of_line {A = A} two) ≡ false → IsLineIf false comments old 1 (command_of_line {A = A} one) text mid → IsLineIf false comments mid 2 (command_of_line {A = A} two) later new → IsTranscriptIf A false comments old (looked_at A (one ∷ two ∷ [])) 1 (text ++ later)
two-lines A comments old mid new one two text later goes ends first second =
    let looked : looked_at A (one ∷ two ∷ []) ≡ one ∷ two ∷ [] =
    ap (λ (b : Bool). one ∷ cond b [] (looked_at A (two ∷ []))) goes ∙ ap (λ (b : Bool). one ∷ two ∷ cond b [] []) ends in
    subst (λ (ls : List (List ℕ)). IsTranscriptIf A false comments old ls 1 (text ++ later)) (sym looked)
    (text, mid, later, first, (later, new, [], second, refl, sym (append-nil later)), refl)

is-settled : (log : List LogEntry) (list : Listing) (new : Machine) → IsFirstWork log list new → IsSettled false (record { machine = start log list; seen = 0 }) (settled_line 0) (record { machine = new; seen = 0 })
is-settled log list new work =
    let done = ap (settled 0) work.is ∙ settled-done log list work.ticket work.noted_then in
    (work.settles, refl, sym (ap (settle_line 0) done))

is-scheduled : (log : List LogEntry) (list : Listing) (ticket notes : ℕ) (first : Listed) → notes < 1000000 → slice_get list.scenarios 0 ≡ Some first
    → (new : Session) × IsNamed (record { machine = state log list (shown_of list.scenarios) ticket notes; seen = 0 }) first.name (IsViewIf false (record { machine = state log list (shown_of list.scenarios) ticket notes; seen = 0 }) IsSchedule (schedule_text first.name 0 (plan_of log first.scenario)) new) (schedule_text first.name 0 (plan_of log first.scenario)) new
is-scheduled log list ticket notes first capacity is =
    let m : Machine = state log list (shown_of list.scenarios) ticket notes in
    let new : Session = record { machine = after (View first.id 0) m; seen = 0 } in
    let replied = ap (λ (o : Option Progress). elim o [ None ↦ reply.NoSuchScenario | Some p ↦ view_reply_at 0 p.published ]) (first-shown list.scenarios first is) in
    (new, inr (first, first-named list.scenarios first is, inr (inr (reply.Shown 0, record { capacity = capacity; replied = sym replied; machine = refl; seen = refl }, inl refl))))

-- a script that settles a log and asks for its first scenario's schedule has both as its transcript, where no memory is refused
pub schedules_first : (A : Type 0) → SchedulesTheFirst A
schedules_first A log procs outcome comments scenarios first script is at says =
    let made = built log procs outcome scenarios is in
    let work = first-work log scenarios scenarios.next made.ids made.few in
    let then : Session = record { machine = state log scenarios (shown_of scenarios.scenarios) work.1.ticket work.1.noted_then; seen = 0 } in
    let view = is-scheduled log scenarios work.1.ticket work.1.noted_then first work.1.few at in
    let begin : Session = record { machine = start log scenarios; seen = 0 } in
    let settle : IsSettled false begin (settled_line 0) then = subst (λ (m : Machine). IsSettled false begin (settled_line 0) (record { machine = m; seen = 0 })) work.1.is (is-settled log scenarios work.0 work.1) in
    let schedule = schedule_is first.name (first-called scenarios.scenarios first at made.called) {A = A} in
    let text = schedule_text first.name 0 (plan_of log first.scenario) in
    let one : IsLineIf false comments begin 1 (command_of_line {A = A} (codes "settle")) (settled_line 0) then =
    subst (λ (r : Result (Option (Command A)) CommandFault). IsLineIf false comments begin 1 r (settled_line 0) then) (sym (settle_is {A = A})) settle in
    let two : IsLineIf false comments then 2 (command_of_line {A = A} (codes "schedule " ++ first.name)) text view.0 =
    subst (λ (r : Result (Option (Command A)) CommandFault). IsLineIf false comments then 2 r text view.0) (sym schedule) view.1 in
    let both = two-lines A comments begin then view.0 (codes "settle") (codes "schedule " ++ first.name) (settled_line 0) text (ap is_quit (settle_is {A = A})) (ap is_quit schedule) one two in
    let whole : IsUnrefused A comments begin script (settled_line 0 ++ text) =
    subst (λ (ls : List (List ℕ)). IsTranscriptIf A false comments begin (looked_at A ls) 1 (settled_line 0 ++ text)) (sym says) both in
    subst (λ (m : Machine). IsUnrefused A comments (record { machine = m; seen = 0 }) script (settled_line 0 ++ text)) (sym made.begins) whole
