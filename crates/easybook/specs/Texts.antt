-- The line that is written of a program that ends without its output.
use Rattle.std.specs.Prelude.{ℕ, List, codes}
use Rattle.swf_text.specs.Names.{fault_text}
use Rattle.easybook.specs.declared.fault.ProgramFault.{ProgramFault}
use Rattle.easybook.specs.declared.fault.ProgramFault.TheVariants as faults
use Rattle.easybook.specs.declared.words.WordsFault.{WordsFault}
use Rattle.easybook.specs.declared.words.WordsFault.TheVariants as words
use Rattle.easybook.specs.declared.stop.Stop.{Stop}
use Rattle.easybook.specs.declared.stop.Stop.TheVariants as stops

-- of a log its line and what is wrong with it, otherwise what is wrong
abbrev pub fault_line : ProgramFault → List ℕ
fault_line (faults.Log fault) = fault_text fault
fault_line faults.NoMachine = codes "no machine size"
fault_line faults.BadMachine = codes "bad machine size"
fault_line faults.TooLong = codes "input too long"
fault_line faults.Read = codes "read failed"
fault_line faults.Write = codes "write failed"
fault_line (faults.Close fault) = codes "histories differ"
fault_line faults.Memory = codes "out of memory"

abbrev pub words_line : WordsFault → List ℕ
words_line words.BadWords = codes "bad arguments"
words_line words.Memory = codes "out of memory"

abbrev pub stop_line : Stop → List ℕ
stop_line (stops.Words fault) = words_line fault
stop_line (stops.Fault fault) = fault_line fault
