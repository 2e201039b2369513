use Rattle.std.proofs.Common.{◌≡◌, ◌≤◌, ◌+◌, ◌-◌, ◌^◌, min}
use Rattle.share_members.specs.Expiry.{removed}
use Rattle.share_members.proofs.shard.due.Given as goal

abbrev pub invariant-loop-group : goal.invariant-loop-group
invariant-loop-group l = record {
  so_far : min (l.total + removed l.moment l.group-iterator) (2 ^ 64 - 1) ≡ min (removed l.moment l.groups.entries) (2 ^ 64 - 1);
  fits : l.total ≤ 2 ^ 64 - 1;
}
