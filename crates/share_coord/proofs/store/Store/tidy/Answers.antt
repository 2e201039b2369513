use Rattle.std.proofs.Common.{subst}
use Rattle.coord_checkpoint.specs.Writes.{Tries}
use Rattle.share_coord.specs.Stored.{Entries, snapshot_frames}
use Rattle.share_coord.proofs.Tidied.{tidied_at}
use Rattle.share_coord.proofs.store.Store.tidy.Goals as goal

pub returns-clause-tidies : goal.returns-clause-tidies
returns-clause-tidies g c =
    let made = c.checkpoint-checkpointed in
    tidied_at g.D.Disk.seen c.args.self.now.journal made.new.self c.args.self.now.table.entries c.args.self.now.room c.len-keys.ensures.sorted made.result
    (subst (λ (l : Entries). Tries g.D.Disk.seen (snapshot_frames l) c.args.self.now.journal made.new.self made.result) c.of-snapshots.ensures made.ensures.tries)
    c.renew_where.new.table.entries c.renew_where.ensures.entries
