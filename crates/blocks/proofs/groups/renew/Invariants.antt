use Rattle.std.proofs.Common.{◌≤◌, ◌-◌, ◌/◌, length, vec_capacity}
use Rattle.blocks.specs.Groups.{AreGroups}
use Rattle.blocks.proofs.groups.renew.Given as goal

abbrev pub invariant-missing : goal.invariant-missing
invariant-missing g l = record {
  known : AreGroups g.T.Ranked.weight l.blocks l.groups.items;
  capacity : vec_capacity l.initial.groups ≤ vec_capacity l.groups;
}

abbrev pub decreases-missing : goal.decreases-missing
decreases-missing g l = length l.blocks / 64 - length l.groups.items
