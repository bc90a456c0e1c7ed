use Rattle.std.proofs.Common.{◌≡◌, ◌+◌, ◌-◌, ◌≤◌, length, take, drop}
use Rattle.std.specs.Io.KnownBytes.{Consumes}
use Rattle.parallel_reader.proofs.filling.fill_behind.Given as goal

abbrev pub invariant-reads : goal.invariant-reads
invariant-reads g l = record {
  same : length l.buffer ≡ length l.fn.buffer;
  front : take l.at l.buffer ≡ take l.at l.fn.buffer;
  low : l.at ≤ l.filled;
  high : l.filled ≤ length l.buffer;
  given : Consumes (g.R.Read.remaining l.fn.reader) (g.R.Read.remaining l.reader) (drop l.at (take l.filled l.buffer));
  few : l.interrupts ≤ 4294967295;
}

abbrev pub decreases-reads : goal.decreases-reads
decreases-reads g l = (length l.buffer - l.filled) + (4294967295 - l.interrupts)
