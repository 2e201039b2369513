-- What a server does: it was refused, or its links were served to an end.
use Rattle.std.proofs.Common.{◌≡◌, ◌≢◌, ◌⊎◌, inl, inr, refl, sym, subst, ◌∙◌, ℕ, List, [], String, Global}
use Rattle.edge_io.specs.Bays.{IsSound}
use Rattle.edge_io.specs.Causes.{Rose}
use Rattle.edge_io.specs.Views.{DiskView, BayView}
use Rattle.broker_model.specs.Hosted.{IsTaken}
use Rattle.broker_hosts.specs.Bays.{AreOut, TellsStill}
use Rattle.broker_hosts.specs.declared.fault.CoreOpen.{CoreOpen}
use Rattle.broker_hosts.specs.declared.fault.CoreOpen.TheVariants as open_fault
use Rattle.broker_run.specs.Homes.{HasLinksEnd}
use Rattle.broker_locks.specs.Opening.{IsRefused}
use Rattle.broker_run.specs.Server.{Serves}
use Rattle.broker_run.specs.declared.jobs.LinksEnd.{LinksEnd}
use Rattle.broker_run.specs.declared.jobs.LinksEnd.TheVariants as links
use Rattle.share_top.specs.declared.status.Status.{Status}
use Rattle.share_top.specs.declared.status.Status.TheVariants.{Done, Usage, Malformed, ReadFault, WriteFault, Damaged, Device, NoMemory, Listener, Spawner, Lost, Refused, Strange}
use Rattle.share_top.specs.declared.words.Words.TheVariants.{Serve}
use Rattle.share_top.specs.declared.words.address.Address.{Address}
use Rattle.share_top.specs.declared.words.server.ServeWords.{ServeWords}
use Rattle.share_top.specs.Apart.{LeavesOthers}
use Rattle.share_top.specs.Changes.{BayChange, Call, ListenerChange, OutputChange, ServerChange, SpawnerChange, bay_change}
use Rattle.share_top.specs.Commands.{Does}
use Rattle.share_top.specs.Going.{IsRefusal}
use Rattle.share_top.specs.Loading.{NoneIsOut}
use Rattle.share_top.specs.Servers.{HasServeCause, IsServe, ServesLinks, ServesTo}
use Rattle.share_top.specs.Sessions.{CountRose, HoldsStates}
use Rattle.share_top.specs.Statuses.{DisksStay, status_number}
use Rattle.share_top.specs.Words.{AreOfServe, AreServeWords, texts}
use Rattle.share_top.proofs.Ends.{disks_stay, not_opened, refusal_damaged, refusal_device}

pub none_is_out : {B D : Type 0} (bay_seen : B → BayView D) (bay : B) → AreOut bay_seen [] bay → NoneIsOut bay_seen bay
none_is_out bay_seen bay out name = out.others name tt

pub is_none_out : {B D : Type 0} (bay_seen : B → BayView D) (bay : B) → NoneIsOut bay_seen bay → AreOut bay_seen [] bay
is_none_out bay_seen bay none = record { those = λ name one. absurd one; others = λ name away. none name }

-- ---- links were served to an end

caused : (end : LinksEnd) (accept : ℕ) (listener : ListenerChange) (spawner : SpawnerChange) (status : Status)
    → HasLinksEnd end accept listener.given listener.given_after listener.done listener.faults listener.faults_after spawner.faults spawner.faults_after
    → ServesTo end status → HasServeCause accept listener spawner status
caused links.Served accept listener spawner status h e = subst (λ (s : Status). HasServeCause accept listener spawner s) (sym e) h
caused links.Listener accept listener spawner status h e = subst (λ (s : Status). HasServeCause accept listener spawner s) (sym e) h
caused links.Refused accept listener spawner status h e = subst (λ (s : Status). HasServeCause accept listener spawner s) (sym e) h
caused links.NoMemory accept listener spawner status h e = subst (λ (s : Status). HasServeCause accept listener spawner s) (sym e) tt

pub not_damaged : (end : LinksEnd) (status : Status) → ServesTo end status → status ≢ Damaged
not_damaged links.Served status e is = let f = sym e ∙ is in cc
not_damaged links.Listener status e is = let f = sym e ∙ is in cc
not_damaged links.Refused status e is = let f = sym e ∙ is in cc
not_damaged links.NoMemory status e is = let f = sym e ∙ is in cc

pub not_device : (end : LinksEnd) (status : Status) → ServesTo end status → status ≢ Device
not_device links.Served status e is = let f = sym e ∙ is in cc
not_device links.Listener status e is = let f = sym e ∙ is in cc
not_device links.Refused status e is = let f = sym e ∙ is in cc
not_device links.NoMemory status e is = let f = sym e ∙ is in cc

-- it was refused for a reason other than want of memory
fault_known : (fault : CoreOpen) (output : OutputChange) (status : Status) → IsRefusal fault output status → status ≢ NoMemory → fault ≢ open_fault.NoMemory
fault_known fault output Damaged r known is = let e = r.2 in cc
fault_known fault output WriteFault r known is = let e = r.1.2 in cc
fault_known fault output Device (inl e, kept) known is = cc
fault_known fault output Device (inr e, kept) known is = cc
fault_known fault output NoMemory r known is = known refl
fault_known fault output Done r known is = r
fault_known fault output Usage r known is = r
fault_known fault output Malformed r known is = r
fault_known fault output ReadFault r known is = r
fault_known fault output Listener r known is = r
fault_known fault output Spawner r known is = r
fault_known fault output Lost r known is = r
fault_known fault output Refused r known is = r
fault_known fault output Strange r known is = r

of_device : (fault : CoreOpen) (output : OutputChange) (status : Status) → IsRefusal fault output status → status ≡ Device
    → (fault ≡ open_fault.Device) ⊎ (fault ≡ open_fault.Bay)
of_device fault output status r is = (subst (λ (s : Status). IsRefusal fault output s) is r).0

module _ {B D : Type 0} (bay_seen : B → BayView D) (seen : D → DiskView) (old new : B) (serve : ServeWords) (output : OutputChange)
    (server : ServerChange D) (status : Status) where
  abbrev Bay : BayChange B D
  Bay = bay_change bay_seen seen old new

  pub served : (end : LinksEnd) → output.Same → Serves bay_seen seen server.Worked serve.conf old new
      → HasLinksEnd end serve.accept server.listener.given server.listener.given_after server.listener.done server.listener.faults server.listener.faults_after
      server.spawner.faults server.spawner.faults_after
      → ServesTo end status → IsServe Bay output server serve status
  served end same serves has to = inl (same, serves, caused end serve.accept server.listener server.spawner status has to)

  module _ (fault : CoreOpen) (refused : IsRefused bay_seen seen serve.conf old fault new) (r : IsRefusal fault output status) where
    rises : (fault ≡ open_fault.Device) ⊎ (fault ≡ open_fault.Bay) → CountRose Bay serve.conf
    rises (inl e) = refused.device e
    rises (inr e) = inl (refused.bay e)

    stay : TellsStill bay_seen old new → status ≢ NoMemory → DisksStay Bay (status ≡ Device)
    stay told known = disks_stay bay_seen seen (status ≡ Device) fault old new (refusal_device fault output status r) told
        (refused.stays (fault_known fault output status r known)) refused.fed

    pub unserved : TellsStill bay_seen old new → server.listener.Same → server.spawner.Same → IsServe Bay output server serve status
    unserved told no_link no_job = inr (
      no_link,
      no_job,
      stay told,
      not_opened bay_seen seen old new serve.conf output fault refused.damaged rises status r,
    )

    pub unserved_back : status ≢ NoMemory → NoneIsOut bay_seen new
    unserved_back known = none_is_out bay_seen new (refused.back (fault_known fault output status r known))

    pub unserved_whole : HoldsStates Bay serve.conf → status ≢ Damaged
    unserved_whole told is =
        let d = refusal_damaged fault output status r is in
        refused.recovers told.0 told.1 told.2 told.3 d.0 d.1 d.2

    pub unserved_sound : IsSound bay_seen seen old → status ≢ Device
    unserved_sound sound is = go (of_device fault output status r is) where
      go : (fault ≡ open_fault.Device) ⊎ (fault ≡ open_fault.Bay) → ⊥
      go (inl e) = (refused.sound sound).1 e
      go (inr e) = (refused.sound sound).0 e

-- ---- what a server does, as one record

module _ {B D : Type 0} (bay : BayChange B D) (output : OutputChange) (server : ServerChange D) (serve : ServeWords) where
  completes : (Rose server.listener.faults server.listener.faults_after → ⊥) → (Rose server.spawner.faults server.spawner.faults_after → ⊥)
      → (Rose output.faults output.faults_after → ⊥) → (status : Status) → IsServe bay output server serve status → status ≢ Damaged
      → (status ≡ Done) ⊎ ((status ≡ NoMemory) ⊎ ((status ≡ Device) × CountRose bay serve.conf))
  completes no_link no_job no_output Done d whole = inl refl
  completes no_link no_job no_output NoMemory d whole = inr (inl refl)
  completes no_link no_job no_output Damaged d whole = absurd (whole refl)
  completes no_link no_job no_output Device (inl d) whole = absurd d.2
  completes no_link no_job no_output Device (inr d) whole = inr (inr (refl, d.3.0))
  completes no_link no_job no_output WriteFault (inl d) whole = absurd d.2
  completes no_link no_job no_output WriteFault (inr d) whole = absurd (no_output d.3.0)
  completes no_link no_job no_output Listener (inl d) whole = absurd (no_link d.2)
  completes no_link no_job no_output Listener (inr d) whole = absurd d.3
  completes no_link no_job no_output Spawner (inl d) whole = absurd (no_job d.2.1)
  completes no_link no_job no_output Spawner (inr d) whole = absurd d.3
  completes no_link no_job no_output Usage (inl d) whole = absurd d.2
  completes no_link no_job no_output Usage (inr d) whole = absurd d.3
  completes no_link no_job no_output Malformed (inl d) whole = absurd d.2
  completes no_link no_job no_output Malformed (inr d) whole = absurd d.3
  completes no_link no_job no_output ReadFault (inl d) whole = absurd d.2
  completes no_link no_job no_output ReadFault (inr d) whole = absurd d.3
  completes no_link no_job no_output Lost (inl d) whole = absurd d.2
  completes no_link no_job no_output Lost (inr d) whole = absurd d.3
  completes no_link no_job no_output Refused (inl d) whole = absurd d.2
  completes no_link no_job no_output Refused (inr d) whole = absurd d.3
  completes no_link no_job no_output Strange (inl d) whole = absurd d.2
  completes no_link no_job no_output Strange (inr d) whole = absurd d.3

  pub serves_links : (status : Status) → IsServe bay output server serve status → (HoldsStates bay serve.conf → status ≢ Damaged)
      → (IsSound bay.seen bay.disk_seen bay.old → status ≢ Device) → LeavesOthers bay (IsTaken serve.conf) → ServesLinks bay output server serve status
  serves_links status ends recovers sound others = record {
    ends = ends;
    sound = sound;
    complete = λ told no_link no_job no_output. completes no_link no_job no_output status ends (recovers told);
    others = others;
  }

-- the words are those of a server
pub does_serve : {B D : Type 0} (call : Call B D) (listen : Address) (serve : ServeWords) → AreServeWords (texts call.words) listen serve → (status : Status)
    → call.number ≡ status_number status → call.input.Same → ServesLinks call.bay call.output call.server serve status → Does call
does_serve call listen serve found status is unread serves = inr (Serve listen serve, status, found, is, (unread, serves))

pub none_alone : {X : Type 0} (words : List (String Global)) (listen : Address) (serve : ServeWords) → AreServeWords (texts words) listen serve
    → (AreOfServe words → ⊥) → X
none_alone words listen serve found none = absurd (none (listen, serve, found))
