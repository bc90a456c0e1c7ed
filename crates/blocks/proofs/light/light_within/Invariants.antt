use Rattle.std.proofs.Common.{◌≡◌}
use Rattle.blocks.specs.Rows.{flat, start}
use Rattle.blocks.specs.Light.{NoneWithin}
use Rattle.blocks.proofs.light.light_within.Given as goal

abbrev pub invariant-loop-number : goal.invariant-loop-number
invariant-loop-number g l = record {
  same : l.blocks ≡ l.initial.blocks;
  at : l.start ≡ start l.number l.initial.blocks;
  none : NoneWithin g.T.Ranked.weight l.wanted.limit (flat l.initial.blocks) l.wanted.from l.wanted.end l.start;
}
