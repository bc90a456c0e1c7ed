use Rattle.std.proofs.Common.{◌≤◌, length}
use Rattle.std.specs.Io.KnownBytes.{Consumes}
use Rattle.swf_text.specs.Limits.{line_limit}
use Rattle.scripts.specs.Hearing.{HasNoFeed}
use Rattle.scripts.proofs.hearing.next_line.Given as goal

abbrev pub invariant-loop : goal.invariant-loop
invariant-loop g l = record {
  read : Consumes (g.R.Read.remaining l.fn.reader) (g.R.Read.remaining l.reader) l.line.bytes.items;
  one_line : HasNoFeed l.line.bytes.items;
  short : length l.line.bytes.items ≤ line_limit;
}
