use Rattle.std.proofs.Common.{◌≡◌, refl, ap}
use Rattle.edge_mem.specs.Events.{CutTo}
use Rattle.edge_mem.specs.Past.{DiskState, with_event}
use Rattle.edge_mem.proofs.Calls.{done_to, cut_becomes, cut_crash, cut_all, cut_losses, cut_size}
use Rattle.edge_mem.proofs.disk.MemDiskDisk.cut.Goals as goal

was_cut : (c : goal.In-Ok) → c.cut.new.history ≡ with_event c.args.self.now.past (CutTo c.args.to)
was_cut c = done_to _ c.self.inside.history _ _ (ap (λ (d : DiskState). d.past) c.self.view_is) c.in-Ok.ensures.done

pub returns-in-Ok-clause-content : goal.returns-in-Ok-clause-content
returns-in-Ok-clause-content c = record { done = cut_becomes _ _ _ (was_cut c); failed = tt; told = refl }

pub returns-in-Ok-clause-images : goal.returns-in-Ok-clause-images
returns-in-Ok-clause-images c = record { follows = cut_crash _ _ _ (was_cut c); leads = cut_all _ _ _ (was_cut c) }

pub returns-in-Ok-clause-events : goal.returns-in-Ok-clause-events
returns-in-Ok-clause-events c = record { losses = cut_losses _ _ _ (was_cut c); arms = ap (λ (d : DiskState). d.arms) c.self.view_is }

pub returns-in-Ok-clause-size : goal.returns-in-Ok-clause-size
returns-in-Ok-clause-size c = cut_size _ _ _ (was_cut c) c.requires
