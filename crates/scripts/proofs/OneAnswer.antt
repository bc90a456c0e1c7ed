-- Where memory doesn't run out, a command has at most one response, and leads to at most one state.
use Rattle.std.proofs.Common.{◌≡◌, ℕ, ◌<◌, List, [], ◌∷◌, ◌++◌, length, sym, ◌∙◌, ap, ap₂, subst, true, false, inl, inr, ◌⊎◌, arith}
use Rattle.std.specs.Prelude.{None, Some, IsTrue, is_some, codes}
use Rattle.swf_text.specs.Entry.{LogEntry}
use Rattle.scenarios.specs.Scenario.{ScenarioView}
use Rattle.scenarios.specs.Plan.{plan_of}
use Rattle.scenarios.specs.ScenarioList.{Listed}
use Rattle.scenarios.specs.Skips.{skips_of}
use Rattle.metrics.specs.Part.{PartSums}
use Rattle.metrics.specs.Tables.{TableRows, tables_of}
use Rattle.metrics.proofs.Lemmas.{one_part}
use Rattle.checkpoints.specs.Sums.{IsTablesOf, all_placed}
use Rattle.report.specs.Table.{table_text}
use Rattle.report.specs.Users.{users_text}
use Rattle.report.specs.Days.{days_text}
use Rattle.report.specs.Side.{shown_line}
use Rattle.report.specs.Entries.{log_text}
use Rattle.commands.specs.Opening.{saved}
use Rattle.commands.specs.declared.command.Command.{Command}
use Rattle.commands.specs.declared.command.Command.TheVariants as asks
use Rattle.job_table.specs.Edit.{Insert, Remove, Change}
use Rattle.book_machine.specs.declared.reply.Reply.{Reply}
use Rattle.book_machine.specs.declared.reply.Reply.TheVariants as reply
use Rattle.book_machine.specs.Call.{BookCall, Edit, AddScenario, DropScenario, Retry, View, Claim}
use Rattle.book_machine.specs.Machine.{Machine, version, current, settled, due, after, note_limit}
use Rattle.scripts.specs.Lines.{refused}
use Rattle.scripts.specs.Answers.{edit_says, scenario_says}
use Rattle.version_book.specs.Session.{Session, IsStep, seen_by}
use Rattle.scripts.specs.Session.{IsCallIf}
use Rattle.version_book.specs.Settling.{Ended, Published, GivenUp, AreWorked, CanClaim, Halts, IsAtRest, IsUnnoted, IsWorked}
use Rattle.scripts.specs.Steps.{AnswersIf, AreSeen, IsDays, IsMadeIf, IsNamed, IsSchedule, IsSeen, IsSettled, IsSideIf, IsSideLine, IsTable, IsAnswered, IsUsers, IsViewIf, saved_text, settle_line, side_of}
use Rattle.version_book.specs.Looks.{log_of_version}
use Rattle.version_book.proofs.Lemmas.{claim-notes}

-- one text, and one state
abbrev pub IsSame : List ℕ → List ℕ → Session → Session → Type 0
IsSame text other new next = (text ≡ other) × (new ≡ next)

abbrev session_of : Machine → ℕ → Session
session_of machine seen = record { machine = machine; seen = seen }

one-session : (a b : Session) → a.machine ≡ b.machine → a.seen ≡ b.seen → a ≡ b
one-session a b machine seen = ap₂ session_of machine seen

untrue : IsTrue false → ⊥
untrue is = cc

none-some : {X : Type 0} (x : X) → None ≡ Some x → ⊥
none-some x is = cc

false-true : false ≡ true → ⊥
false-true is = cc

one-step : (old : Session) (call : BookCall) (outcome other : Reply) (new next : Session) → IsStep old call outcome new → IsStep old call other next → (outcome ≡ other) × (new ≡ next)
one-step old call outcome other new next f g =
    let same : outcome ≡ other = f.replied ∙ sym g.replied in
    (same, one-session new next (f.machine ∙ sym g.machine) (f.seen ∙ ap (seen_by old.seen) same ∙ sym g.seen))

full-step : (n : ℕ) → n ≡ note_limit → n < note_limit → ⊥
full-step n full capacity = omega (arith, full, capacity)

one-call : (old : Session) (call : BookCall) (says : Reply → List ℕ) (text other : List ℕ) (new next : Session) → IsCallIf false old call says text new → IsCallIf false old call says other next → IsSame text other new next
one-call old call says text other new next (inl f) (inl g) = (f.1.0 ∙ sym g.1.0, f.1.1 ∙ sym g.1.1)
one-call old call says text other new next (inl f) (inr (inl g)) = absurd g
one-call old call says text other new next (inl f) (inr (inr g)) = absurd (full-step old.machine.notes f.0 g.1.capacity)
one-call old call says text other new next (inr (inl f)) g = absurd f
one-call old call says text other new next (inr (inr f)) (inl g) = absurd (full-step old.machine.notes g.0 f.1.capacity)
one-call old call says text other new next (inr (inr f)) (inr (inl g)) = absurd g
one-call old call says text other new next (inr (inr f)) (inr (inr g)) =
    let same = one-step old call f.0 g.0 new next f.1 g.1 in (f.2 ∙ ap says same.0 ∙ sym g.2, same.1)

one-named : (old : Session) (name : List ℕ) (follows : List ℕ → Session → Listed → Type 0) → ((s : Listed) (text other : List ℕ) (new next : Session) → follows text new s → follows other next s → IsSame text other new next) → (text other : List ℕ) (new next : Session) → IsNamed old name (follows text new) text new → IsNamed old name (follows other next) other next → IsSame text other new next
one-named old name follows one text other new next (inl f) (inl g) = (f.1.0 ∙ sym g.1.0, f.1.1 ∙ sym g.1.1)
one-named old name follows one text other new next (inl f) (inr g) = absurd (none-some g.0 (sym f.0 ∙ g.1))
one-named old name follows one text other new next (inr f) (inl g) = absurd (none-some f.0 (sym g.0 ∙ f.1))
one-named old name follows one text other new next (inr f) (inr g) =
    let same : f.0 ≡ g.0 = one-some f.0 g.0 (sym f.1 ∙ g.1) in
    one g.0 text other new next (subst (follows text new) same f.2) g.2
  where
    one-some : (s t : Listed) → Some s ≡ Some t → s ≡ t
    one-some s t is = cc

one-tables : (log : List LogEntry) (s : ScenarioView) (t u : TableRows) → IsTablesOf log s t → IsTablesOf log s u → t ≡ u
one-tables log s t u (v, pv, ev) (w, pw, ew) =
    ev ∙ ap (λ (x : PartSums). tables_of s.procs (skips_of log s) x) (one_part (all_placed (plan_of log s)) v w pv pw) ∙ sym ew

abbrev IsOne : (Machine → Listed → ℕ → List ℕ → Type 0) → Type 0
IsOne report = (m : Machine) (s : Listed) (v : ℕ) (a b : List ℕ) → report m s v a → report m s v b → a ≡ b

one-schedule : IsOne IsSchedule
one-schedule m s v a b f g = f ∙ sym g

one-table : IsOne IsTable
one-table m s v a b (t, tables, is) (u, others, same) =
    is ∙ ap (λ (x : TableRows). table_text s.name v x.overall) (one-tables (log_of_version m v) s.scenario t u tables others) ∙ sym same

one-users : IsOne IsUsers
one-users m s v a b (t, tables, is) (u, others, same) =
    is ∙ ap (λ (x : TableRows). users_text s.name v x.users) (one-tables (log_of_version m v) s.scenario t u tables others) ∙ sym same

one-days : IsOne IsDays
one-days m s v a b (t, tables, is) (u, others, same) =
    is ∙ ap (λ (x : TableRows). days_text s.name v x.days) (one-tables (log_of_version m v) s.scenario t u tables others) ∙ sym same

one-outcome : (report : ℕ → List ℕ → Type 0) → ((v : ℕ) (a b : List ℕ) → report v a → report v b → a ≡ b) → (outcome : Reply) (a b : List ℕ) → IsAnswered false report outcome a → IsAnswered false report outcome b → a ≡ b
one-outcome report one (reply.Shown v) a b (inl f) (inl g) = one v a b f g
one-outcome report one (reply.Shown v) a b (inl f) (inr g) = absurd g
one-outcome report one (reply.Shown v) a b (inr f) g = absurd f
one-outcome report one (reply.Edited v) a b f g = f ∙ sym g
one-outcome report one (reply.EditRefused fault) a b f g = f ∙ sym g
one-outcome report one (reply.Added id) a b f g = f ∙ sym g
one-outcome report one (reply.AddRefused fault) a b f g = f ∙ sym g
one-outcome report one (reply.Dropped id) a b f g = f ∙ sym g
one-outcome report one reply.NoSuchScenario a b f g = f ∙ sym g
one-outcome report one reply.Retried a b f g = f ∙ sym g
one-outcome report one reply.NoneDue a b f g = f ∙ sym g
one-outcome report one (reply.Claimed ticket id v base) a b f g = f ∙ sym g
one-outcome report one reply.TooManyTickets a b f g = f ∙ sym g
one-outcome report one (reply.Finished v) a b f g = f ∙ sym g
one-outcome report one reply.UnknownTicket a b f g = f ∙ sym g
one-outcome report one reply.Stranger a b f g = f ∙ sym g
one-outcome report one (reply.Stale v) a b f g = f ∙ sym g
one-outcome report one reply.GivenUp a b f g = f ∙ sym g
one-outcome report one reply.NotYet a b f g = f ∙ sym g
one-outcome report one (reply.Behind seen found) a b f g = f ∙ sym g

one-view : (old : Session) (report : Machine → Listed → ℕ → List ℕ → Type 0) → IsOne report → (s : Listed) (text other : List ℕ) (new next : Session) → IsViewIf false old report text new s → IsViewIf false old report other next s → IsSame text other new next
one-view old report one s text other new next (inl f) (inl g) = (f.1.0 ∙ sym g.1.0, f.1.1 ∙ sym g.1.1)
one-view old report one s text other new next (inl f) (inr (inl g)) = absurd g
one-view old report one s text other new next (inl f) (inr (inr g)) = absurd (full-step old.machine.notes f.0 g.1.capacity)
one-view old report one s text other new next (inr (inl f)) g = absurd f
one-view old report one s text other new next (inr (inr f)) (inl g) = absurd (full-step old.machine.notes g.0 f.1.capacity)
one-view old report one s text other new next (inr (inr f)) (inr (inl g)) = absurd g
one-view old report one s text other new next (inr (inr f)) (inr (inr g)) =
    let same = one-step old (View s.id old.seen) f.0 g.0 new next f.1 g.1 in
    (one-outcome (report old.machine s) (one old.machine s) g.0 text other (subst (λ (outcome : Reply). IsAnswered false (report old.machine s) outcome text) same.0 f.2) g.2, same.1)

one-side_line : (m : Machine) (s : Listed) (outcome : Reply) (a b : List ℕ) → IsSideLine m s outcome a → IsSideLine m s outcome b → a ≡ b
one-side_line m s (reply.Shown v) a b (t, tables, is) (u, others, same) =
    is ∙ ap (λ (x : TableRows). shown_line s.name v x.overall) (one-tables (log_of_version m v) s.scenario t u tables others) ∙ sym same
one-side_line m s reply.NotYet a b f g = f ∙ sym g
one-side_line m s (reply.Behind seen found) a b f g = f ∙ sym g
one-side_line m s (reply.Edited v) a b f g = absurd f
one-side_line m s (reply.EditRefused fault) a b f g = absurd f
one-side_line m s (reply.Added id) a b f g = absurd f
one-side_line m s (reply.AddRefused fault) a b f g = absurd f
one-side_line m s (reply.Dropped id) a b f g = absurd f
one-side_line m s reply.NoSuchScenario a b f g = absurd f
one-side_line m s reply.Retried a b f g = absurd f
one-side_line m s reply.NoneDue a b f g = absurd f
one-side_line m s (reply.Claimed ticket id v base) a b f g = absurd f
one-side_line m s reply.TooManyTickets a b f g = absurd f
one-side_line m s (reply.Finished v) a b f g = absurd f
one-side_line m s reply.UnknownTicket a b f g = absurd f
one-side_line m s reply.Stranger a b f g = absurd f
one-side_line m s (reply.Stale v) a b f g = absurd f
one-side_line m s reply.GivenUp a b f g = absurd f

one-seen : (old : Session) (s : Listed) (line other : List ℕ) (new next : Session) → IsSeen old s line new → IsSeen old s other next → IsSame line other new next
one-seen old s line other new next f g =
    let same = one-step old (View s.id old.seen) f.0 g.0 new next f.1 g.1 in
    (one-side_line old.machine s g.0 line other (subst (λ (outcome : Reply). IsSideLine old.machine s outcome line) same.0 f.2) g.2, same.1)

abbrev Stops : List Listed → Session → Type 0
Stops back new = (back ≡ []) ⊎ ((new.machine.notes ≡ note_limit) × (0 < length back))

no-view : (back : List Listed) (now next : Session) (s : Listed) (others : List Listed) (line : List ℕ) → Stops back now → back ≡ s ∷ others → IsSeen now s line next → ⊥
no-view back now next s others line (inl none) is seen = nothing (sym none ∙ is)
  where
    nothing : [] ≡ s ∷ others → ⊥
    nothing e = cc
no-view back now next s others line (inr full) is seen = full-step now.machine.notes full.0 seen.1.capacity

pub record AreSame (lines others : List (List ℕ)) (new next : Session) (back rest : List Listed) : Type 0 where
  pub lines_same : lines ≡ others
  pub state : new ≡ next
  pub left : back ≡ rest

first-same : (s t : Listed) (xs ys : List Listed) → s ∷ xs ≡ t ∷ ys → (s ≡ t) × (xs ≡ ys)
first-same s t xs ys is = (cc, cc)

one-views : (old : Session) (front back head rest : List Listed) (lines others : List (List ℕ)) (new next : Session) → front ++ back ≡ head ++ rest → AreSeen old front lines new → AreSeen old head others next → Stops back new → Stops rest next → AreSame lines others new next back rest
one-views old [] back [] rest lines others new next is f g ends stops = record { lines_same = f.0 ∙ sym g.0; state = f.1 ∙ sym g.1; left = is }
one-views old [] back (t ∷ head) rest lines others new next is f g ends stops =
    absurd (no-view back old g.0 t (head ++ rest) g.1 (subst (Stops back) f.1 ends) is g.3)
one-views old (s ∷ front) back [] rest lines others new next is f g ends stops =
    absurd (no-view rest old f.0 s (front ++ back) f.1 (subst (Stops rest) g.1 stops) (sym is) f.3)
one-views old (s ∷ front) back (t ∷ head) rest lines others new next is f g ends stops =
    let both = first-same s t (front ++ back) (head ++ rest) is in
    let one = one-seen old s f.1 g.1 f.0 g.0 f.3 (subst (λ (x : Listed). IsSeen old x g.1 g.0) (sym both.0) g.3) in
    let later = one-views f.0 front back head rest f.2 g.2 new next both.1 f.4 (subst (λ (now : Session). AreSeen now head g.2 next) (sym one.1) g.4) ends stops in
    record {
      lines_same = f.5 ∙ ap₂ (λ (x : List ℕ) (xs : List (List ℕ)). x ∷ xs) one.0 later.lines_same ∙ sym g.5;
      state = later.state;
      left = later.left;
    }

abbrev EndsWith : List Listed → List (List ℕ) → List ℕ → Session → Type 0
EndsWith back lines text new =
    ((back ≡ []) × (text ≡ side_of lines)) ⊎ (((new.machine.notes ≡ note_limit) × (0 < length back) × (text ≡ refused (codes "JournalFull"))) ⊎ ⊥)

stops-so : (back : List Listed) (lines : List (List ℕ)) (text : List ℕ) (new : Session) → EndsWith back lines text new → Stops back new
stops-so back lines text new (inl f) = inl f.0
stops-so back lines text new (inr (inl f)) = inr (f.0, f.1)
stops-so back lines text new (inr (inr f)) = absurd f

some-left : (back : List Listed) → back ≡ [] → 0 < length back → ⊥
some-left back none some = omega (arith, ap length none, some)

one-end : (back rest : List Listed) (lines others : List (List ℕ)) (text other : List ℕ) (new next : Session) → back ≡ rest → lines ≡ others → EndsWith back lines text new → EndsWith rest others other next → text ≡ other
one-end back rest lines others text other new next left same (inl f) (inl g) = f.1 ∙ ap side_of same ∙ sym g.1
one-end back rest lines others text other new next left same (inl f) (inr (inl g)) = absurd (some-left rest (sym left ∙ f.0) g.1)
one-end back rest lines others text other new next left same (inl f) (inr (inr g)) = absurd g
one-end back rest lines others text other new next left same (inr (inl f)) (inl g) = absurd (some-left back (left ∙ g.0) f.1)
one-end back rest lines others text other new next left same (inr (inl f)) (inr (inl g)) = f.2 ∙ sym g.2
one-end back rest lines others text other new next left same (inr (inl f)) (inr (inr g)) = absurd g
one-end back rest lines others text other new next left same (inr (inr f)) g = absurd f

one-side : (old : Session) (text other : List ℕ) (new next : Session) → IsSideIf false old text new → IsSideIf false old other next → IsSame text other new next
one-side old text other new next (front, back, lines, whole, seen, ends) (head, rest, others, all, views, stops) =
    let same = one-views old front back head rest lines others new next (sym whole ∙ all) seen views (stops-so back lines text new ends) (stops-so rest others other next stops) in
    (one-end back rest lines others text other new next same.left same.lines_same ends stops, same.state)

not-both : (m : Machine) → IsAtRest m → CanClaim m → ⊥
not-both m (inl none) claims = false-true (sym (ap is_some none) ∙ claims.some_due)
not-both m (inr out) claims = false-true (sym claims.free ∙ out)

full-there : (m : Machine) → IsUnnoted false m → m.notes ≡ note_limit
full-there m (inl full) = full
full-there m (inr short) = absurd (untrue short)

one-halt : (old new next : Machine) → Halts false old new → Halts false old next → new ≡ next
one-halt old new next (inl f) (inl g) = f.1 ∙ sym g.1
one-halt old new next (inl f) (inr (inl g)) = absurd (not-both old f.0 g.0)
one-halt old new next (inl f) (inr (inr g)) = absurd (not-both old f.0 g.0)
one-halt old new next (inr (inl f)) (inl g) = absurd (not-both old g.0 f.0)
one-halt old new next (inr (inl f)) (inr (inl g)) = f.2 ∙ sym g.2
one-halt old new next (inr (inl f)) (inr (inr g)) = absurd (full-step old.notes (full-there old f.1) g.1)
one-halt old new next (inr (inr f)) (inl g) = absurd (not-both old g.0 f.0)
one-halt old new next (inr (inr f)) (inr (inl g)) = absurd (full-step old.notes (full-there old g.1) f.1)
one-halt old new next (inr (inr f)) (inr (inr g)) = f.3 ∙ sym g.3

goes-on : (old next new : Machine) (ended : Ended) → IsWorked false old ended next → Halts false old new → ⊥
goes-on old next new ended worked (inl f) = not-both old f.0 worked.claims
goes-on old next new ended worked (inr (inl f)) = omega (arith, full-there old f.1, worked.capacity)
goes-on old next new ended worked (inr (inr f)) = omega (arith, full-there (after Claim old) f.2, claim-notes old (due old), worked.capacity)

one-work : (old new next : Machine) (ends others : List Ended) (last end : Machine) → AreWorked false old ends last → Halts false last new → AreWorked false old others end → Halts false end next → new ≡ next
one-work old new next [] [] last end f halts g stops =
    one-halt old new next (subst (λ (m : Machine). Halts false m new) f halts) (subst (λ (m : Machine). Halts false m next) g stops)
one-work old new next [] (ended ∷ others) last end f halts g stops = absurd (goes-on old g.0 new ended g.1 (subst (λ (m : Machine). Halts false m new) f halts))
one-work old new next (ended ∷ ends) [] last end f halts g stops = absurd (goes-on old f.0 next ended f.1 (subst (λ (m : Machine). Halts false m next) g stops))
one-work old new next (Published ∷ ends) (Published ∷ others) last end f halts g stops =
    one-work f.0 new next ends others last end f.2 halts (subst (λ (m : Machine). AreWorked false m others end) (g.1.made ∙ sym f.1.made) g.2) stops
one-work old new next (GivenUp ∷ ends) (ended ∷ others) last end f halts g stops = absurd (untrue f.1.cause)
one-work old new next (Published ∷ ends) (GivenUp ∷ others) last end f halts g stops = absurd (untrue g.1.cause)

one-settled : (old : Session) (text other : List ℕ) (new next : Session) → IsSettled false old text new → IsSettled false old other next → IsSame text other new next
one-settled old text other new next ((ends, last, worked, halts), seen, is) ((others, end, works, stops), same, says) =
    let machine : new.machine ≡ next.machine = one-work old.machine new.machine next.machine ends others last end worked halts works stops in
    (is ∙ ap (λ (m : Machine). settle_line old.seen (settled old.seen m)) machine ∙ sym says, one-session new next machine (seen ∙ sym same))

one-made : (old : Session) (made text other : List ℕ) (new next : Session) → IsMadeIf false old made text new → IsMadeIf false old made other next → IsSame text other new next
one-made old made text other new next (inl f) (inl g) = (f.0 ∙ sym g.0, f.1 ∙ sym g.1)
one-made old made text other new next (inl f) (inr g) = absurd g
one-made old made text other new next (inr f) g = absurd f

viewed-once : (old : Session) (report : Machine → Listed → ℕ → List ℕ → Type 0) → IsOne report → (name text other : List ℕ) (new next : Session) → IsNamed old name (IsViewIf false old report text new) text new → IsNamed old name (IsViewIf false old report other next) other next → IsSame text other new next
viewed-once old report one name text other new next f g = one-named old name (IsViewIf false old report) (one-view old report one) text other new next f g

-- where no memory is refused, two responses to a command from one state are the same, and lead to the same state
pub one-answer : {A : Type 0} (comments : List (List ℕ)) (old : Session) (command : Command A) (text other : List ℕ) (new next : Session) → AnswersIf false comments old command text new → AnswersIf false comments old command other next → IsSame text other new next
one-answer comments old (asks.Insert entry) text other new next f g = one-call old (Edit (Insert entry)) edit_says text other new next f g
one-answer comments old (asks.Remove number) text other new next f g = one-call old (Edit (Remove number)) edit_says text other new next f g
one-answer comments old (asks.Change number place value) text other new next f g = one-call old (Edit (Change number place value)) edit_says text other new next f g
one-answer comments old (asks.Scenario name scenario) text other new next f g = one-call old (AddScenario name scenario) (scenario_says name) text other new next f g
one-answer comments old (asks.Drop name) text other new next f g = one-call old (DropScenario name) (scenario_says name) text other new next f g
one-answer comments old (asks.Retry name) text other new next f g =
    one-named old name (λ (t : List ℕ) (n : Session) (s : Listed). IsCallIf false old (Retry s.id) (scenario_says name) t n) (λ s. one-call old (Retry s.id) (scenario_says name)) text other new next f g
one-answer comments old asks.Settle text other new next f g = one-settled old text other new next f g
one-answer comments old (asks.Schedule name) text other new next f g = viewed-once old IsSchedule one-schedule name text other new next f g
one-answer comments old (asks.Table name) text other new next f g = viewed-once old IsTable one-table name text other new next f g
one-answer comments old (asks.Users name) text other new next f g = viewed-once old IsUsers one-users name text other new next f g
one-answer comments old (asks.Days name) text other new next f g = viewed-once old IsDays one-days name text other new next f g
one-answer comments old asks.Side text other new next f g = one-side old text other new next f g
one-answer comments old (asks.Log name) text other new next f g =
    one-named old name (λ (t : List ℕ) (n : Session) (s : Listed). IsMadeIf false old (log_text s.name (version old.machine) (current old.machine) s.scenario) t n)
    (λ s. one-made old (log_text s.name (version old.machine) (current old.machine) s.scenario)) text other new next f g
one-answer comments old asks.Save text other new next f g = one-made old (saved_text (saved comments (current old.machine) old.machine.listing)) text other new next f g
one-answer comments old asks.Version text other new next f g = (f.0 ∙ sym g.0, f.1 ∙ sym g.1)
one-answer comments old asks.Quit text other new next f g = (f.0 ∙ sym g.0, f.1 ∙ sym g.1)
