use Rattle.std.proofs.Common.{◌≡◌, ◌-◌}
use Rattle.share_members.specs.Expiry.{later_epoch}
use Rattle.share_members.proofs.group.later_epoch.Given as goal

abbrev pub invariant-loop : goal.invariant-loop
invariant-loop l = later_epoch (l.changes - l.counter) l.later ≡ later_epoch l.fn.changes l.fn.epoch
