-- What a load does, as one record.
use Rattle.std.proofs.Common.{◌≡◌, ◌≢◌, ℕ, List, ap, subst, sym, ◌∙◌}
use Rattle.edge_io.specs.Bays.{SameSlot}
use Rattle.edge_io.specs.Names.{hosted_name}
use Rattle.edge_io.specs.declared.name.DiskPlace.TheVariants.{Log}
use Rattle.topic_conf.specs.declared.topic.Topic.{Topic}
use Rattle.topic_conf.specs.Configs.{ConfigParts}
use Rattle.share_top.specs.declared.status.Status.{Status}
use Rattle.share_top.specs.Apart.{RunsDisk}
use Rattle.share_top.specs.Changes.{BayChange, InputChange, OutputChange}
use Rattle.share_top.specs.Loading.{IsLoad, IsLogDisk, LoadsSegment}
use Rattle.share_top.proofs.LoadCompletes.{completes}

pub loads_segment : {B D : Type 0} (bay : BayChange B D) (input : InputChange) (output : OutputChange) (conf : ConfigParts) (shard : ℕ) (status : Status)
    (name : List ℕ) → IsLogDisk conf.topics shard name → IsLoad bay name input output status → RunsDisk bay name
    → ((m : List ℕ) → m ≢ name → SameSlot bay.seen m bay.old bay.new) → LoadsSegment bay input output conf shard status
loads_segment bay input output conf shard status name at load runs others = record {
  disk = name;
  disk_is = at;
  ends = load;
  complete = λ still read write d c log batches told has text. completes bay name input output d c log batches told has text status load read write;
  runs = runs;
  others = λ m none. others m (λ is. none (subst (IsLogDisk conf.topics shard) (sym is) at));
}
