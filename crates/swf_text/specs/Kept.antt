-- How the lines of an entry are kept.
use Rattle.std.specs.Prelude.{List, [], ◌∷◌, map}
use Rattle.swf_text.specs.declared.entry.Kept.{Kept}
use Rattle.swf_text.specs.declared.entry.Kept.TheVariants.{Packed, Lines}
use Rattle.swf_text.specs.declared.line.Fields.{Fields}
use Rattle.swf_text.specs.Entry.{LogEntry, values}
use Rattle.swf_text.specs.Packed.{unpacked}

-- the entry of these lines, the first of which is its summary line
abbrev pub entry_of_lines : List Fields → LogEntry
entry_of_lines [] = record { main = []; parts = [] }
entry_of_lines (line ∷ lines) = record { main = values line; parts = map values lines }

-- the entry that is kept
abbrev pub entry_in : {A : Type 0} → Kept A → LogEntry
entry_in (Packed line alloc) = record { main = unpacked line; parts = [] }
entry_in (Lines lines) = entry_of_lines lines.items
