-- Equality of entries, edits and calls, as tests; each is true exactly where both sides are one (Decided.antt).
use Rattle.std.specs.Prelude.{◌==◌, ◌&&◌, Bool, true, false, not}
use Rattle.std.specs.Cmp.Lexicographic.{pointwise}
use Rattle.std.specs.Ordering.{int_eq}
use Rattle.std.specs.Str.{bytes_eq}
use Rattle.swf_text.specs.Entry.{LogEntry}
use Rattle.job_table.specs.Edit.{LogEdit, Insert, Remove, Change}
use Rattle.scenarios.specs.declared.order.Order.{Order}
use Rattle.scenarios.specs.declared.order.Order.TheVariants.{Arrival, Shortest}
use Rattle.scenarios.specs.Scenario.{ScenarioView}
use Rattle.book_machine.specs.Call.{BookCall, Edit, AddScenario, DropScenario, Retry, Claim, Finish, GiveUp, View}

-- the same summary line, and the same partial lines, value by value
abbrev pub same_entry : LogEntry → LogEntry → Bool
same_entry a b = pointwise int_eq a.main b.main && pointwise (pointwise int_eq) a.parts b.parts

-- the same kind of edit, with the same arguments
abbrev pub same_edit : LogEdit → LogEdit → Bool
same_edit (Insert a) (Insert b) = same_entry a b
same_edit (Remove m) (Remove n) = m == n
same_edit (Change m p v) (Change n q w) = m == n && (p == q && int_eq v w)
same_edit _ _ = false

abbrev pub same_order : Order → Order → Bool
same_order Arrival Arrival = true
same_order Shortest Shortest = true
same_order _ _ = false

-- the same machine, factor and order
abbrev pub same_scenario : ScenarioView → ScenarioView → Bool
same_scenario a b = a.procs == b.procs && (a.factor == b.factor && same_order a.order b.order)

abbrev pub same_flag : Bool → Bool → Bool
same_flag true b = b
same_flag false b = not b

-- the same kind of call, with the same arguments
abbrev pub same_call : BookCall → BookCall → Bool
same_call (Edit a) (Edit b) = same_edit a b
same_call (AddScenario m a) (AddScenario n b) = bytes_eq m n && same_scenario a b
same_call (DropScenario m) (DropScenario n) = bytes_eq m n
same_call (Retry m) (Retry n) = m == n
same_call Claim Claim = true
same_call (Finish m a) (Finish n b) = m == n && same_flag a b
same_call (GiveUp m) (GiveUp n) = m == n
same_call (View m s) (View n t) = m == n && s == t
same_call _ _ = false
