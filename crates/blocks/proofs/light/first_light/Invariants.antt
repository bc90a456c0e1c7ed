use Rattle.std.proofs.Common.{◌≡◌, ◌*◌, length}
use Rattle.blocks.specs.Groups.{AreGroups}
use Rattle.blocks.specs.Rows.{flat, start}
use Rattle.blocks.specs.Light.{NoneWithin}
use Rattle.blocks.proofs.light.first_light.Given as goal

abbrev pub invariant-loop-number : goal.invariant-loop-number
invariant-loop-number g l = record {
  same : l.blocks ≡ l.initial.blocks;
  count : length l.groups ≡ length l.initial.groups;
  known : AreGroups g.T.Ranked.weight l.initial.blocks l.groups;
  at : l.start ≡ start (64 * l.number) l.initial.blocks;
  none : NoneWithin g.T.Ranked.weight l.wanted.limit (flat l.initial.blocks) l.wanted.from l.wanted.end l.start;
}
