-- Job lines in codes: a code for each value.
use Rattle.std.specs.Prelude.{ℕ, ◌-◌, ◌*◌, ◌==◌, nat_lt, true, false, if◌then◌else◌, List, map, ℤ}
use Rattle.swf_text.specs.declared.packed.PackedLine.{PackedLine}
use Rattle.swf_text.specs.Number.{signed}

-- the value of a code, in millionths: -1, then the whole numbers from 0 on, and from 4,000,000,000 on the numbers of hundredths
abbrev pub value_of : ℕ → ℤ
value_of code =
    if code == 0 then signed true 1000000
    else (if nat_lt code 4000000000 then signed false (1000000 * (code - 1)) else signed false (10000 * (code - 4000000000)))

-- the values of a packed line
abbrev pub unpacked : PackedLine → List ℤ
unpacked line = map value_of line.0
