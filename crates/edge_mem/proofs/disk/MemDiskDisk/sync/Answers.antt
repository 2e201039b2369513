use Rattle.std.proofs.Common.{◌≡◌, ◌⊎◌, subst, ap, Some, List, ℕ, length}
use Rattle.edge_mem.specs.Events.{Kept}
use Rattle.edge_mem.specs.Steps.{EndsKept}
use Rattle.edge_mem.specs.Past.{Past, DiskState, with_event}
use Rattle.edge_mem.proofs.Calls.{sync_told, sync_content, sync_within, sync_losses}
use Rattle.edge_mem.proofs.disk.MemDiskDisk.sync.Goals as goal

kept : (c : goal.After-sync) → (c.sync.new.self ≡ with_event c.args.self.now.past Kept)
    ⊎ ((c.sync.new.self ≡ c.args.self.now.past) × EndsKept c.args.self.now.past.events)
kept c = subst (λ (h : Past). (c.sync.new.self ≡ with_event h Kept)
    ⊎ ((c.sync.new.self ≡ h) × EndsKept h.events)) (ap (λ (d : DiskState). d.past) c.self.view_is) c.sync.ensures

pub returns-clause-synced : goal.returns-clause-synced
returns-clause-synced c = sync_told _ _ (kept c)

pub returns-clause-stays : goal.returns-clause-stays
returns-clause-stays c = record { content = ap (λ (l : List ℕ). Some l) (sync_content _ _ (kept c)); size = ap length (sync_content _ _ (kept c)) }

pub returns-clause-images : goal.returns-clause-images
returns-clause-images c = sync_within _ _ (kept c)

pub returns-clause-events : goal.returns-clause-events
returns-clause-events c = record { losses = sync_losses _ _ (kept c); arms = ap (λ (d : DiskState). d.arms) c.self.view_is }
