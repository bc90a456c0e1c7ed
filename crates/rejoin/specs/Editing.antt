-- Edits of which one is refused.
use Rattle.std.specs.Prelude.{◌≡◌, ◌⊎◌, List, [], ◌∷◌, None, Some}
use Rattle.swf_text.specs.Entry.{LogEntry}
use Rattle.job_table.specs.declared.fault.EditFault.{EditFault}
use Rattle.job_table.specs.Edit.{LogEdit, applied, fault_of}

-- this is the fault of the first of these edits that is refused, behind the accepted ones before it
abbrev pub IsFirstRefusal : EditFault → List LogEntry → List LogEdit → Type 0
IsFirstRefusal fault log [] = ⊥
IsFirstRefusal fault log (edit ∷ edits) = (fault_of edit log ≡ Some fault) ⊎ ((fault_of edit log ≡ None) × IsFirstRefusal fault (applied edit log) edits)
