-- What is had of an input that is read up to one byte past a limit.
use Rattle.std.proofs.Common.{◌≡◌, ◌<◌, ◌≤◌, ◌+◌, IfSome, Option, Some, None, List, ℕ, length, take, arith, ◌∙◌, ap}
use Rattle.std.proofs.lemmas.List.{take_all, length-take}
use Rattle.std.specs.declared.io.ErrorKind.{ErrorKind}
use Rattle.std.specs.declared.io.ErrorKind.TheVariants as kinds
use Rattle.easybook.specs.Input.{IsInputFault, IsReadFault, fault_of_reader}
use Rattle.easybook.specs.declared.fault.ProgramFault.{ProgramFault}
use Rattle.easybook.specs.declared.fault.ProgramFault.TheVariants as faults

-- what is read up to one byte past a limit, and is within the limit, is all
pub all_of_front : (all front : List ℕ) (limit : ℕ) → front ≡ take (limit + 1) all → length front ≤ limit → front ≡ all
all_of_front all front limit is few =
    let short : length all ≤ limit = omega (arith, ap length is, length-take (limit + 1) all) in
    is ∙ take_all (limit + 1) all (omega arith)

-- where what is read up to one byte past a limit is past the limit, so is all
pub more_of_front : (all front : List ℕ) (limit : ℕ) → front ≡ take (limit + 1) all → limit < length front → limit < length all
more_of_front all front limit is many = omega (arith, ap length is, length-take (limit + 1) all)

-- what is read up to one byte past a limit, and is within the limit, is all that is known, where anything is
pub known_all : (known : Option (List ℕ)) (front : List ℕ) (limit : ℕ) → IfSome known (λ all. front ≡ take (limit + 1) all) → length front ≤ limit → IfSome known (λ all. front ≡ all)
known_all None front limit is few = tt
known_all (Some all) front limit is few = all_of_front all front limit is few

-- where what is read up to one byte past a limit is past the limit, so is all that is known, where anything is
pub known_more : (known : Option (List ℕ)) (front : List ℕ) (limit : ℕ) → IfSome known (λ all. front ≡ take (limit + 1) all) → limit < length front → IfSome known (λ all. limit < length all)
known_more None front limit is many = tt
known_more (Some all) front limit is many = more_of_front all front limit is many

-- what an error of a reader tells is that it could not be read
pub reader_fails : (kind : ErrorKind) → IsReadFault (fault_of_reader kind)
reader_fails kinds.OutOfMemory = tt
reader_fails kind = tt

-- what could not be read is an input that is not had, whatever its limit
pub unread_input : (known : Option (List ℕ)) (limit : ℕ) (fault : ProgramFault) → IsReadFault fault → IsInputFault known limit fault
unread_input known limit faults.Read h = tt
unread_input known limit faults.Memory h = tt
unread_input known limit fault h = absurd h

-- an input that is not had within a limit is not had within a lower one
pub lower_limit : (known : Option (List ℕ)) (lower limit : ℕ) (fault : ProgramFault) → lower ≤ limit → IsInputFault known limit fault → IsInputFault known lower fault
lower_limit None lower limit faults.TooLong is h = tt
lower_limit (Some all) lower limit faults.TooLong is h = omega (arith, is, h)
lower_limit known lower limit faults.Read is h = tt
lower_limit known lower limit faults.Memory is h = tt
lower_limit known lower limit fault is h = absurd h
