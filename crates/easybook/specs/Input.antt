-- Why the input is not had whole.
use Rattle.std.specs.Prelude.{◌≡◌, ℕ, ◌+◌, ◌<◌, ◌≤◌, ◌++◌, List, length, take, Option, IfSome}
use Rattle.std.specs.declared.io.ErrorKind.{ErrorKind}
use Rattle.std.specs.declared.io.ErrorKind.TheVariants as kinds
use Rattle.parallel_reader.specs.Fronts.{IsFront, Progress}
use Rattle.easybook.specs.declared.fault.ProgramFault.{ProgramFault}
use Rattle.easybook.specs.declared.fault.ProgramFault.TheVariants.{TooLong, Read, Memory}

-- it has more bytes than the limit, or the reader returned an error, or memory ran out; these two say nothing of it
abbrev pub IsInputFault : Option (List ℕ) → ℕ → ProgramFault → Type 0
IsInputFault known limit TooLong = IfSome known (λ all. limit < length all)
IsInputFault known limit Read = Unit {0}
IsInputFault known limit Memory = Unit {0}
IsInputFault known limit fault = ⊥

-- a reader returned an error, or a file could not be opened: memory ran out, or it is another error
abbrev pub fault_of_reader : ErrorKind → ProgramFault
fault_of_reader kinds.OutOfMemory = Memory
fault_of_reader kind = Read

-- the reader returned an error, or memory ran out
abbrev pub IsReadFault : ProgramFault → Type 0
IsReadFault Read = Unit {0}
IsReadFault Memory = Unit {0}
IsReadFault fault = ⊥

-- what a reader had up to a limit is the front of a log, which was read, and the rest
pub record IsBegunUpTo (limit : ℕ) (known : Option (List ℕ)) (progress : Progress) (rest : List ℕ) : Type 0 where
  pub front : List ℕ
  pub is_front : IsFront front progress
  pub whole : IfSome known (λ all. front ++ rest ≡ take limit all)

-- all that a reader had, which is within a limit, is the front of a log, which was read, and the rest
pub record IsBegun (limit : ℕ) (known : Option (List ℕ)) (progress : Progress) (rest : List ℕ) : Type 0 where
  pub front : List ℕ
  pub is_front : IsFront front progress
  pub within : length front + length rest ≤ limit
  pub whole : IfSome known (λ all. all ≡ front ++ rest)
