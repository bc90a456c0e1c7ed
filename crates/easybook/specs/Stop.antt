-- Why the program ends without its output, and with which status.
use Rattle.std.specs.Prelude.{ℕ}
use Rattle.std.specs.declared.io.ErrorKind.{ErrorKind}
use Rattle.std.specs.declared.io.ErrorKind.TheVariants as kinds
use Rattle.easybook.specs.declared.fault.ProgramFault.TheVariants as faults
use Rattle.easybook.specs.declared.words.WordsFault.TheVariants as words
use Rattle.easybook.specs.declared.stop.Stop.{Stop}
use Rattle.easybook.specs.declared.stop.Stop.TheVariants.{Words, Fault}

-- the words could not be read: memory ran out, or one is no UTF-8
abbrev pub stop_of_kind : ErrorKind → Stop
stop_of_kind kinds.OutOfMemory = Fault faults.Memory
stop_of_kind kind = Words words.BadWords

-- 2 where the words are bad, otherwise 1
abbrev pub status_of : Stop → ℕ
status_of (Words words.BadWords) = 2
status_of (Words words.Memory) = 1
status_of (Fault fault) = 1
