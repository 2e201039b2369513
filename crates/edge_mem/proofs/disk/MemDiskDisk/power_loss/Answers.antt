use Rattle.std.proofs.Common.{◌≡◌, subst, ap, refl}
use Rattle.edge_mem.specs.Events.{Lost}
use Rattle.edge_mem.specs.Past.{Past, DiskState, with_event}
use Rattle.edge_mem.proofs.Calls.{lost_left, lost_told, lost_within}
use Rattle.edge_mem.proofs.disk.MemDiskDisk.power_loss.Goals as goal

lost : (c : goal.After-self-1) → c.lose.new.self ≡ with_event c.args.self.now.past (Lost c.args.choice)
lost c = subst (λ (h : Past). c.lose.new.self ≡ with_event h (Lost c.args.choice)) (ap (λ (d : DiskState). d.past) c.self.view_is) c.in-Ok.ensures.ok

pub returns-in-Ok-clause-loses : goal.returns-in-Ok-clause-loses
returns-in-Ok-clause-loses c = record { left = lost_left _ _ _ (lost c); only = lost_told _ _ _ (lost c); disarmed = refl }

pub returns-in-Ok-clause-images : goal.returns-in-Ok-clause-images
returns-in-Ok-clause-images c = lost_within _ _ _ (lost c)
