-- Edits that are accepted, one after another.
use Rattle.std.specs.Prelude.{◌≡◌, ◌≤◌, List, [], ◌∷◌, None, nat_abs}
use Rattle.swf_text.specs.Number.{greatest}
use Rattle.swf_text.specs.Entry.{LogEntry, IsEntry}
use Rattle.job_table.specs.Edit.{LogEdit, Insert, Remove, Change, applied, fault_of}

-- what holds of every edit of a program: the entry is one, and the value is at most a trillion on either side
abbrev pub IsEdit : LogEdit → Type 0
IsEdit (Insert entry) = IsEntry entry
IsEdit (Remove number) = Unit {0}
IsEdit (Change number place value) = nat_abs value ≤ greatest

-- each of these edits is accepted after those before it
abbrev pub AreAccepted : List LogEntry → List LogEdit → Type 0
AreAccepted log [] = Unit {0}
AreAccepted log (edit ∷ edits) = IsEdit edit × (fault_of edit log ≡ None) × AreAccepted (applied edit log) edits
