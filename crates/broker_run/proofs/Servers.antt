-- A server from its opening to its closing.
use Rattle.std.proofs.Common.{◌≡◌, ◌∙◌, ℕ, List, sym, subst}
use Rattle.std.specs.List.{AllByRecursion}
use Rattle.edge_io.specs.Bays.{SameSlot}
use Rattle.edge_io.specs.Views.{BayView, DiskView}
use Rattle.topic_conf.specs.Configs.{ConfigParts}
use Rattle.broker_model.specs.Hosted.{Hosted}
use Rattle.broker_hosts.specs.Bays.{AreOut, TellsStill}
use Rattle.broker_hosts.specs.Hosts.{all_names}
use Rattle.broker_locks.specs.Closing.{Closes}
use Rattle.broker_locks.specs.Opening.{IsOpening}
use Rattle.broker_run.specs.Server.{Serves}
use Rattle.broker_locks.specs.Shared.{PassesParts, SharedParts, first_shards}

pub told_on : {B D : Type 0} (bay_seen : B → BayView D) (old mid new : B) → TellsStill bay_seen old mid → TellsStill bay_seen mid new → TellsStill bay_seen old new
told_on bay_seen old mid new p q name has = q name (p name has)

pub slot_on : {B D : Type 0} (bay_seen : B → BayView D) (name : List ℕ) (old mid new : B) → SameSlot bay_seen name old mid → SameSlot bay_seen name mid new
    → SameSlot bay_seen name old new
slot_on bay_seen name old mid new p q = record {
  same_disk = q.same_disk ∙ p.same_disk;
  same_out = q.same_out ∙ p.same_out;
  same_taken = q.same_taken ∙ p.same_taken;
}

module _ {B D : Type 0} (bay_seen : B → BayView D) (seen : D → DiskView) (Worked : SharedParts D → PassesParts D → Type 0) (conf : ConfigParts)
    (old opened new : B) (shared : SharedParts D) (configured : shared.conf ≡ conf)
    (opens : IsOpening bay_seen seen conf old opened (first_shards shared)) (told : TellsStill bay_seen old opened) (rows : List (PassesParts D))
    (worked : AllByRecursion (Worked shared) rows) (closes : Closes bay_seen seen shared rows opened new) where
  pub serves : Serves bay_seen seen Worked conf old new
  serves = record {
    shared = shared;
    configured = configured;
    opened = opened;
    opens = opens;
    rows = rows;
    worked = worked;
    closes = closes;
    told = told_on bay_seen old opened new told closes.put.told;
    back = closes.put.none_out (subst (λ (l : List Hosted). AreOut bay_seen (all_names l) opened) (sym closes.hosts) opens.taken);
  }
