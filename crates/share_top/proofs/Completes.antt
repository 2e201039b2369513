-- A script is done, unless no memory is found or a stream failed.
use Rattle.std.proofs.Common.{◌≡◌, ◌≢◌, ◌⊎◌, inl, inr, refl, subst, Bool, ℕ, List, Option, Some, None, IfSome}
use Rattle.edge_io.specs.Causes.{Rose}
use Rattle.session_script.specs.declared.event.Event.{Event}
use Rattle.session_script.specs.declared.event.Outcome.{Outcome}
use Rattle.session_script.specs.Script.{IsScript}
use Rattle.topic_conf.specs.Configs.{ConfigParts}
use Rattle.share_top.specs.declared.status.Status.{Status}
use Rattle.share_top.specs.declared.status.Status.TheVariants.{Done, Usage, Malformed, ReadFault, WriteFault, Damaged, Device, NoMemory, Listener, Spawner, Lost, Refused, Strange}
use Rattle.share_top.specs.Changes.{BayChange, InputChange, OutputChange}
use Rattle.share_top.specs.Replaying.{IsComplete, IsReplay}
use Rattle.share_top.specs.Sessions.{Ending, IsSession, OfBay, OverBay, HoldsStates, CountRose}
use Rattle.share_top.specs.Statuses.{DisksStay, IsPlayed, IsNotOpened, IsRefusedScript}

some_each : (o : Option (List ℕ)) (P Q : List ℕ → Type 0) → ((x : List ℕ) → P x → Q x) → IfSome o P → IfSome o Q
some_each None P Q f h = tt
some_each (Some x) P Q f h = f x h

always : (o : Option (List ℕ)) (P : List ℕ → Type 0) → ((x : List ℕ) → P x) → IfSome o P
always None P h = tt
always (Some x) P h = h x

module _ {B D : Type 0} (bay : BayChange B D) (conf : ConfigParts) (summary : Bool) (input : InputChange) (output : OutputChange)
    (Session : List Event → (List Outcome → Type 0) → Ending → Type 0) (Untold Same Stay : Type 0) where
  abbrev Ends : Status → Type 0
  Ends status = IsPlayed conf summary input output Session Untold (CountRose bay conf) status ⊎ (Same × Stay × IsNotOpened bay conf output status)

  abbrev IsWhole : Status → Type 0
  IsWhole status = IfSome input.left (λ text. (events : List Event) → IsScript text events → (status ≡ Done) ⊎ (status ≡ NoMemory))

  none_refused : (Says : List Event → ℕ → Type 0) (status : Status) → IsRefusedScript input Says → IsWhole status
  none_refused Says status r = some_each input.left (λ text. (others : List Event) → IsScript text others → ⊥)
      (λ text. (events : List Event) → IsScript text events → (status ≡ Done) ⊎ (status ≡ NoMemory)) (λ text n events s. absurd (n events s)) r.no_script

  -- the ways of it that a sound bay with readable disks has
  pub completes : (status : Status) → Ends status → status ≢ Damaged → status ≢ Device
      → (Rose input.faults input.faults_after → ⊥) → (Rose output.faults output.faults_after → ⊥) → IsWhole status
  completes Done e whole fed read write = always input.left _ (λ text events s. inl refl)
  completes Usage (inl e) whole fed read write = absurd e
  completes Usage (inr e) whole fed read write = absurd e.2
  completes Listener (inl e) whole fed read write = absurd e
  completes Listener (inr e) whole fed read write = absurd e.2
  completes Spawner (inl e) whole fed read write = absurd e
  completes Spawner (inr e) whole fed read write = absurd e.2
  completes Lost (inl e) whole fed read write = absurd e
  completes Lost (inr e) whole fed read write = absurd e.2
  completes Refused (inl e) whole fed read write = absurd e
  completes Refused (inr e) whole fed read write = absurd e.2
  completes Strange (inl e) whole fed read write = absurd e
  completes Strange (inr e) whole fed read write = absurd e.2
  completes Malformed (inl e) whole fed read write = none_refused _ Malformed e
  completes Malformed (inr e) whole fed read write = absurd e.2
  completes ReadFault (inl e) whole fed read write = absurd (read e.0)
  completes ReadFault (inr e) whole fed read write = absurd e.2
  completes WriteFault (inl e) whole fed read write = absurd (write e.0)
  completes WriteFault (inr e) whole fed read write = absurd (write e.2.0)
  completes Damaged e whole fed read write = absurd (whole refl)
  completes Device e whole fed read write = absurd (fed refl)
  completes NoMemory e whole fed read write = always input.left _ (λ text events s. inr refl)

  -- where no count rose it isn't a fault of a disk or the bay, over disks that tell their contents
  pub not_device : (status : Status) → Ends status → (Untold → ⊥) → (CountRose bay conf → ⊥) → status ≢ Device
  not_device status e told still is = device (subst Ends is e) where
    device : Ends Device → ⊥
    device (inl stopped) = told stopped.1
    device (inr refusal) = still refusal.2.0

-- the same over a bay
module _ {B D : Type 0} (bay : BayChange B D) (conf : ConfigParts) (summary : Bool) (input : InputChange) (output : OutputChange) (status : Status)
    (replay : IsReplay bay conf summary input output status) where
  abbrev Session : List Event → (List Outcome → Type 0) → Ending → Type 0
  Session events Tells Ends = OverBay bay conf (IsSession conf events Tells Ends)

  abbrev Untold : Type 0
  Untold = OfBay bay conf (λ contents was. ⊥)

  abbrev Stay : Type 0
  Stay = DisksStay bay (status ≡ Device)

  pub completes_on : status ≢ Damaged → status ≢ Device → IsComplete input output status
  completes_on whole fed read write = completes bay conf summary input output Session Untold input.Same Stay status replay whole fed read write

  pub not_device_on : HoldsStates bay conf → (CountRose bay conf → ⊥) → status ≢ Device
  not_device_on told still = not_device bay conf summary input output Session Untold input.Same Stay status replay (λ untold. untold told.0 told.1 told.2) still
