use Rattle.std.proofs.Common.{◌≡◌, take, length}
use Rattle.swf_text.proofs.Walks.{IsMet}
use Rattle.swf_text.proofs.walk.values_at.Given as goal

abbrev pub invariant-loop-index : goal.invariant-loop-index
invariant-loop-index l = record {
  sized : length l.values ≡ 18;
  met : IsMet l.line (take l.index l.values) l.index l.rest;
}
