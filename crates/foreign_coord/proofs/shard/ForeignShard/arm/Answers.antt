use Rattle.std.proofs.Common.{◌∙◌, sym, ap, subst}
use Rattle.share_coord.specs.Parts.{StoreParts}
use Rattle.share_coord.specs.States.{states_of}
use Rattle.share_coord.specs.Stored.{Entries}
use Rattle.share_coord.specs.Unwritten.{NeverRaised}
use Rattle.foreign_coord.specs.Shards.{Carries}
use Rattle.foreign_coord.proofs.shard.ForeignShard.arm.Goals as goal

pub returns-clause-stays : goal.returns-clause-stays
returns-clause-stays g c = λ shard carried.
    let k = subst (λ (s : StoreParts _). Carries g.D.Disk.seen s shard) (sym c.self.view_is) carried in
    record {
      pending = k.pending;
      holds = c.arm.ensures.stays k.pending k.holds;
      states = k.states ∙ ap states_of (sym c.arm.ensures.states);
      pending_is = k.pending_is;
      unraised = subst (λ (es : Entries). NeverRaised es k.pending) (sym c.arm.ensures.states) k.unraised;
    }
