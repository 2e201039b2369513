-- The acknowledgements of a visit as a step of the shard, and what follows them.
use Rattle.std.proofs.Common.{◌≡◌, ◌≢◌, ◌⊎◌, ⊎_elim, ◌∙◌, inl, inr, refl, sym, ap, subst, ℕ, max, ◌≤◌, List, Option, Some, None, Bool, true, false, cond}
use Rattle.std.specs.Prelude.{Result, Ok, Err, IsSome, is_none, is_some}
use Rattle.std.specs.BTreeMap.{insert_entry, is_at}
use Rattle.std.specs.Option.{IfSome, option_map}
use Rattle.std.specs.Cmp.Lexicographic.{slice_cmp, nat_list_cmp_total}
use Rattle.std.specs.Ordering.{nat_cmp}
use Rattle.std.proofs.lemmas.Map.Lookups.{exact_bytes}
use Rattle.ack_ranges.specs.Batches.{IsWellFormed}
use Rattle.coord_checkpoint.specs.Disks.{HasFailed}
use Rattle.edge_io.specs.Causes.{Rose}
use Rattle.edge_io.specs.Moments.{LeavesPairs}
use Rattle.flex_fields.specs.declared.fault.NoMemory.{NoMemory as want}
use Rattle.share_model.specs.ForeignRules.{ShareStates, share_state_at}
use Rattle.share_model.specs.Held.{Held}
use Rattle.share_model.specs.Keys.{key_cmp}
use Rattle.share_model.specs.Pending.{WithPending}
use Rattle.share_model.specs.ShareStates.{ShareState}
use Rattle.share_model.specs.declared.ack.AckKind.{AckKind}
use Rattle.share_model.specs.declared.fault.StoreFault.{StoreFault}
use Rattle.share_model.specs.declared.fault.StoreFault.TheVariants.{Device, Full}
use Rattle.share_model.specs.declared.visit.AckOutcome.{AckOutcome}
use Rattle.share_model.specs.declared.visit.AckOutcome.TheVariants.{Done, Malformed, NotHeld, Store}
use Rattle.share_model.specs.declared.visit.Then.{Then}
use Rattle.share_model.specs.declared.visit.Then.TheVariants.{Nothing, Release, Fetch}
use Rattle.share_model.specs.declared.visit.ThenOutcome.{ThenOutcome}
use Rattle.share_model.specs.declared.visit.ThenOutcome.TheVariants.{Done as then_done, Store as then_store}
use Rattle.share_model.specs.declared.visit.Visit.{Visit}
use Rattle.share_model.specs.declared.visit.VisitAnswer.{VisitAnswer}
use Rattle.part_log.specs.Logs.{IsStoredLog, log_in}
use Rattle.part_log.specs.Starts.{LogWrite}
use Rattle.share_coord.specs.Holding.{IsWithin, StandWith}
use Rattle.share_coord.specs.Parts.{StoreParts}
use Rattle.share_coord.specs.Stored.{Entries}
use Rattle.share_coord.specs.Unwritten.{AreLevel}
use Rattle.share_coord.proofs.Recovered.{recovers}
use Rattle.share_part.specs.Acknowledging.{Acknowledges, AreSettled, AreStatesFrom, AreTheirs, AreWithinAcks, NameNone, NameOne, StoresActs}
use Rattle.share_part.specs.Following.{Acquires, Does, Fetches, Follows, HasNothingToWrite, IsEmptyAnswer, MakesTable, releases_of}
use Rattle.share_part.specs.Failures.{AreQuiet, FailuresRose, RunOnBoth, StarveUnarmed, failures_of}
use Rattle.share_part.specs.Foreseeing.{with_ack}
use Rattle.share_part.specs.Hosting.{PartConfParts, AreHosted, IsHosted, KeepsHolds, key_of}
use Rattle.share_coord.specs.States.{states_of}
use Rattle.share_part.specs.Once.{FollowsOnce, VisitsOnce}
use Rattle.share_part.specs.Named.{named_from}
use Rattle.share_part.specs.Settling.{Acts, AreHeldBy, IsSettled, held_after}
use Rattle.share_part.specs.Shards.{PartShardState, PartParts, Carries, IsStill, IsUntouched, held_in, with_held}
use Rattle.share_part.specs.Storing.{AcksOnce, IsAcksWritten, SettlesGroup, StoresGroup, WritesWithin}
use Rattle.share_part.specs.Visits.{AreToWrite, StepsAcks}
use Rattle.share_part.specs.Writes.{WritesActs, WritesAcks, WritesThen, held_behind, write_outcome}
use Rattle.share_part.specs.Tables.{table_of}
use Rattle.share_part.specs.declared.limits.Limits.{Limits}
use Rattle.share_part.proofs.Failing.{later_both, quiet_same, starve_then, then_starve}
use Rattle.share_part.proofs.Holding.{AreKept}
use Rattle.share_part.proofs.Mapping.{at_self}
use Rattle.share_part.proofs.Parting.{all_pass}
use Rattle.share_part.proofs.Seeing.{hosted_more, write_level}
use Rattle.share_part.proofs.Staying.{settled_hosted}
use Rattle.share_part.proofs.Storage.{behind, stands_same, stands_stored, still, stored_device, stored_quiet, stored_steps, stored_writes}
use Rattle.share_part.proofs.Stepping.{next, now_settled, now_states}
use Rattle.share_part.proofs.Visiting.{carried, shard_of}
use Rattle.edge_io.specs.Views.{DiskView}

-- acknowledgements whose write came to the device, where the log starts there: they are stored, or it failed
abbrev pub AreWritten : (start : ℕ) → Visit → AckOutcome → Type 0
AreWritten start visit Done = NameOne (named_from start visit.acks)
AreWritten start visit (Malformed fault) = ⊥
AreWritten start visit (NotHeld offset) = ⊥
AreWritten start visit (Store Device) = Unit {0}
AreWritten start visit (Store (Full end)) = ⊥

-- ---- an answer with another outcome of the acknowledgements

module _ (conf : PartConfParts) (told : Bool) (rose : Type 0) (end : ℕ) (old : PartShardState) (visit : Visit) (ack : AckOutcome)
    (a : VisitAnswer) (new : PartShardState) where
  empty_as : (o : ThenOutcome) → IsEmptyAnswer o a → IsEmptyAnswer o (with_ack ack a)
  empty_as o h = record { outcome_is = h.outcome_is; grants = h.grants; batches = h.batches }

  acquires_as : (state : ShareState) (limits : Limits) → Acquires conf told old state visit limits a new → Acquires conf told old state visit limits (with_ack ack a) new
  acquires_as state limits h = record { outcome_is = h.outcome_is; grants = h.grants; batches = h.batches; size = h.size; held = h.held }

  makes_as : (limits : Limits) (o : ThenOutcome) → MakesTable conf told rose end old visit limits a new o → MakesTable conf told rose end old visit limits (with_ack ack a) new o
  makes_as limits then_done h = record { acquires = acquires_as _ limits h.acquires; states = h.states; nothing = h.nothing }
  makes_as limits (then_store Device) h = (h.0, empty_as (then_store Device) h.1, h.2)
  makes_as limits (then_store (Full at)) h = (h.0, empty_as (then_store (Full at)) h.1, h.2, h.3)

  fetches_as : (limits : Limits) (o : Option ShareState) → Fetches conf told rose end old visit limits a new o → Fetches conf told rose end old visit limits (with_ack ack a) new o
  fetches_as limits None h = makes_as limits a.then h
  fetches_as limits (Some state) h = record { acquires = acquires_as state limits h.acquires; states = h.states; pending = h.pending }

  does_as : (t : Then) → Does conf told rose end old visit a new t → Does conf told rose end old visit (with_ack ack a) new t
  does_as Nothing h = (empty_as then_done h.0, h.1)
  does_as Release h = (empty_as a.then h.0, h.1)
  does_as (Fetch records bytes first) h = fetches_as (record { records = records; bytes = bytes; first = first }) (share_state_at old.states (key_of conf visit.group)) h

  pub follows_as : (unread : Type 0) (failed : Bool) → Follows conf told unread rose end old visit a new failed
      → Follows conf told unread rose end old visit (with_ack ack a) new failed
  follows_as unread true h = record { asked = h.asked; risen = h.risen; empty = empty_as (then_store Device) h.empty; table = h.table; held = h.held }
  follows_as unread false h = does_as visit.then h

none_some : (o : Option AckKind) → o ≡ None → IsSome {T = AckKind} o → ⊥
none_some o is some = let clash : IsSome {T = AckKind} None = subst (λ (o : Option AckKind). IsSome {T = AckKind} o) is some in let never : ⊥ = cc in never

module _ {D W : Type 0} (tries : Bool) (seen : D → DiskView) (holding : W → Held) (visit : Visit) (old : PartParts D W) (states : StoreParts D)
    (windows : List (List ℕ × W)) (sound : IsStoredLog old.log.batches) (few : old.conf.limit ≤ 10)
    (hosted : AreHosted old.conf (log_in old.log) (states_of old.states.entries))
    (kept : AreKept old.conf old.log.batches (states_of old.states.entries) (held_in holding old.windows)) where
  abbrev acts : Acts
  acts = named_from old.log.start visit.acks

  abbrev was : Held
  was = held_in holding old.windows visit.group

  abbrev pub mid : PartParts D W
  mid = behind tries seen holding visit.group acts old states windows old.clock sound few hosted kept

  abbrev Rises : Type 0
  Rises = FailuresRose seen old.states states

  abbrev Same : Type 0
  Same = (other : List ℕ) → held_in holding windows other ≡ held_in holding old.windows other

  abbrev Ends : Type 0
  Ends = (other : List ℕ) → held_in holding windows other ≡ with_held (held_in holding old.windows) visit.group (held_after acts was) other

  abbrev Failed : D → D → Type 0
  Failed = HasFailed seen

  abbrev Settles : AckOutcome → Type 0
  Settles ack = SettlesGroup seen Failed old.conf old.log.batches visit.group visit.member acts was tries old.states states Same Ends ack

  abbrev pub Acked : AckOutcome → Type 0
  Acked ack = AcksOnce old.log.start visit.acks ((states ≡ old.states) × Same) Settles ack

  -- the same by what was held at first
  abbrev SettlesFrom : (List ℕ → Held) → AckOutcome → Type 0
  SettlesFrom held ack = SettlesGroup seen Failed old.conf old.log.batches visit.group visit.member acts (held visit.group) tries old.states states
      ((other : List ℕ) → held_in holding windows other ≡ held other)
      ((other : List ℕ) → held_in holding windows other ≡ with_held held visit.group (held_after acts (held visit.group)) other) ack

  abbrev pub AckedFrom : (List ℕ → Held) → AckOutcome → Type 0
  AckedFrom held ack = AcksOnce old.log.start visit.acks ((states ≡ old.states) × ((other : List ℕ) → held_in holding windows other ≡ held other)) (SettlesFrom held) ack

  pub acked_from : (held : List ℕ → Held) → ((other : List ℕ) → held other ≡ held_in holding old.windows other) → (ack : AckOutcome) → AckedFrom held ack → Acked ack
  acked_from held same ack h = subst (λ (f : List ℕ → Held). AckedFrom f ack) (λ i group. same group i) h

  -- ---- what the shard keeps

  abbrev pub Stands : Type 0
  Stands = AreHosted old.conf (log_in old.log) (states_of states.entries) × AreKept old.conf old.log.batches (states_of states.entries) (held_in holding windows)

  same_stand : states ≡ old.states → Same → Stands
  same_stand is same = stands_same tries seen holding visit.group acts old states windows old.clock sound few hosted kept
      (ap (λ (s : StoreParts D). states_of s.entries) is) same

  stored_stand : (fault : Option StoreFault)
      → StoresGroup seen Failed old.conf old.log.batches visit.group acts was tries old.states states Same Ends fault → Stands
  stored_stand fault h = stands_stored tries seen holding visit.group acts old states windows old.clock sound few hosted kept fault h

  stands_settled : (ack : AckOutcome) → Settles ack → Stands
  stands_settled (NotHeld o) h = same_stand h.1 h.2
  stands_settled (Malformed f) h = absurd h
  stands_settled Done h = stored_stand None h.1
  stands_settled (Store fault) h = stored_stand (Some fault) h.1

  pub stands : (ack : AckOutcome) → Acked ack → Stands
  stands ack (inl m) = same_stand m.3.0 m.3.1
  stands ack (inr (inl n)) = same_stand n.3.0 n.3.1
  stands ack (inr (inr g)) = stands_settled ack g.2

  -- ---- the step

  abbrev DoesAcks : AckOutcome → PartShardState → PartShardState → Type 0
  DoesAcks ack s t = Acknowledges old.conf Rises old.states.journal.end s visit t ack

  abbrev Steps : AckOutcome → PartShardState → Type 0
  Steps ack s = (t : PartShardState) × Carries seen holding mid t × StepsAcks old.conf Rises old.states.journal.end s visit ack t

  abbrev pub AllSteps : AckOutcome → Type 0
  AllSteps ack = (s : PartShardState) → Carries seen holding old s → Steps ack s

  -- the clock stays
  clock_is : (s : PartShardState) → Carries seen holding old s → s.clock ≡ old.clock
  clock_is s c = c.clock

  unmoved : (ack : AckOutcome) → states ≡ old.states → Same
      → ((batch : Option LogWrite) (pending : Option Entries) → Acknowledges old.conf Rises old.states.journal.end (shard_of seen holding old batch pending) visit (shard_of seen holding old batch pending) ack)
      → AllSteps ack
  unmoved ack is same does s c =
      let st = still tries seen holding visit.group acts old states windows old.clock sound few hosted kept (DoesAcks ack) is same does s c in
      (st.then, st.carries, record { log = st.log; clock = st.clock_is ∙ sym (clock_is s c); does = st.does })

  -- the acts are stored, or aren't
  acts_steps : RunOnBoth seen old.states states → (ack : AckOutcome) (fault : Option StoreFault) → IsWellFormed visit.acks → AreHeldBy visit.member acts was
      → ((s t : PartShardState) → s.log.start ≡ old.log.start → AreTheirs s visit → StoresActs old.conf Rises old.states.journal.end s visit.group acts t fault → DoesAcks ack s t)
      → StoresGroup seen Failed old.conf old.log.batches visit.group acts was tries old.states states Same Ends fault → AllSteps ack
  acts_steps runs ack fault formed theirs does h s c =
      let st = stored_steps tries seen holding visit.group acts old states windows old.clock sound few hosted kept runs fault h s c in
      let held : AreHeldBy visit.member acts (s.held visit.group) = subst (AreHeldBy visit.member acts) (sym (c.held visit.group)) theirs in
      let named : AreHeldBy visit.member (named_from s.log.start visit.acks) (s.held visit.group) =
      subst (λ (n : ℕ). AreHeldBy visit.member (named_from n visit.acks) (s.held visit.group)) (sym c.log.start) held in
      (st.then, st.carries, record { log = st.log; clock = st.clock_is ∙ sym (clock_is s c); does = does s st.then c.log.start (formed, named) st.does })

  -- the shard's log starts where the store's does
  on_start : (s t : PartShardState) (fault : Option StoreFault) → s.log.start ≡ old.log.start
      → StoresActs old.conf Rises old.states.journal.end s visit.group acts t fault
      → StoresActs old.conf Rises old.states.journal.end s visit.group (named_from s.log.start visit.acks) t fault
  on_start s t fault same stores = subst (λ (n : ℕ). StoresActs old.conf Rises old.states.journal.end s visit.group (named_from n visit.acks) t fault) (sym same) stores

  settled_steps : RunOnBoth seen old.states states → (ack : AckOutcome) → IsWellFormed visit.acks → Settles ack → AllSteps ack
  settled_steps runs (NotHeld o) formed h = unmoved (NotHeld o) h.1 h.2 (λ batch pending. (formed, h.0, record { states = refl; pending = refl; held = refl }))
  settled_steps runs (Malformed f) formed h = absurd h
  settled_steps runs Done formed h = acts_steps runs Done None formed h.0 (λ s t same theirs stores. (theirs, on_start s t None same stores)) h.1
  settled_steps runs (Store fault) formed h = acts_steps runs (Store fault) (Some fault) formed h.0 (λ s t same theirs stores. (theirs, on_start s t (Some fault) same stores)) h.1

  none_stored : (s t : PartShardState) → NameNone acts → IsStill s t → AreTheirs s visit → StoresActs old.conf Rises old.states.journal.end s visit.group acts t None
  none_stored s t none is theirs = inl (none, is)

  pub steps : RunOnBoth seen old.states states → (ack : AckOutcome) → Acked ack → AllSteps ack
  steps runs ack (inl m) = subst AllSteps (sym m.1)
      (unmoved (Malformed m.0) m.3.0 m.3.1 (λ batch pending. (m.2, record { states = refl; pending = refl; held = refl })))
  steps runs ack (inr (inl n)) = subst AllSteps (sym n.2)
      (unmoved Done n.3.0 n.3.1 (λ batch pending.
      ((n.0, λ offset some. absurd (none_some (acts offset) (n.1 offset) some)), inl (n.1, record { states = refl; pending = refl; held = refl }))))
  steps runs ack (inr (inr g)) = settled_steps runs ack g.0 g.2

  -- where nothing is to be written, nothing is
  none_settled : (ack : AckOutcome) → IsWellFormed visit.acks → NameOne acts → Settles ack → (batch : Option LogWrite) (pending : Option Entries)
      → (AreToWrite (shard_of seen holding old batch pending) visit → ⊥) → states ≡ old.states
  none_settled (NotHeld o) formed named h batch pending nothing = h.1
  none_settled (Malformed f) formed named h batch pending nothing = absurd h
  none_settled Done formed named h batch pending nothing = absurd (nothing ((formed, h.0), named))
  none_settled (Store fault) formed named h batch pending nothing = absurd (nothing ((formed, h.0), named))

  none_written : (r : AckOutcome) → Acked r → (batch : Option LogWrite) (pending : Option Entries)
      → (AreToWrite (shard_of seen holding old batch pending) visit → ⊥) → states ≡ old.states
  none_written r (inl m) batch pending nothing = m.3.0
  none_written r (inr (inl n)) batch pending nothing = n.3.0
  none_written r (inr (inr g)) batch pending nothing = none_settled r g.0 g.1 g.2 batch pending nothing

  pub unwritten : (r : AckOutcome) → Acked r → (s : PartShardState) → Carries seen holding old s → (AreToWrite s visit → ⊥) → states ≡ old.states
  unwritten r h = carried seen holding old (λ s. (AreToWrite s visit → ⊥) → states ≡ old.states) (λ batch pending k nothing. none_written r h batch pending nothing)

  -- nor does the shard change then
  acts_still : (n : ℕ) (s t : PartShardState) (fault : Option StoreFault)
      → StoresActs old.conf Rises old.states.journal.end s visit.group (named_from n visit.acks) t fault
      → (NameOne (named_from n visit.acks) → ⊥) → IsStill s t
  acts_still n s t None (inl h) none = h.1
  acts_still n s t None (inr h) none = absurd (none h.0)
  acts_still n s t (Some Device) h none = absurd (none h.0)
  acts_still n s t (Some (Full at)) h none = absurd (none h.0)

  acks_still : (ack : AckOutcome) (s t : PartShardState) → DoesAcks ack s t → (AreToWrite s visit → ⊥) → IsStill s t
  acks_still (Malformed f) s t h nothing = h.1
  acks_still (NotHeld o) s t h nothing = h.2
  acks_still Done s t h nothing = acts_still s.log.start s t None h.1 (λ named. nothing (h.0, named))
  acks_still (Store fault) s t h nothing = acts_still s.log.start s t (Some fault) h.1 (λ named. nothing (h.0, named))

  -- a device fault
  abbrev Starves : Type 0
  Starves = StarveUnarmed seen old.states states

  device_settled : (ack : AckOutcome) → Settles ack → ack ≡ Store Device → Starves
  device_settled (NotHeld o) h is = absurd (let clash : ⊥ = cc in clash)
  device_settled (Malformed f) h is = absurd h
  device_settled Done h is = absurd (let clash : ⊥ = cc in clash)
  device_settled (Store fault) h is = stored_device tries seen holding visit.group acts old states windows old.clock sound few hosted kept (Some fault) h.1
      (ap (λ (f : StoreFault). Some f) (let same : fault ≡ Device = cc in same))

  pub device_sound : (ack : AckOutcome) → Acked ack → ack ≡ Store Device → Starves
  device_sound ack (inl m) is = absurd (let e : Malformed m.0 ≡ Store Device = sym m.1 ∙ is in let clash : ⊥ = cc in clash)
  device_sound ack (inr (inl n)) is = absurd (let e : Done ≡ Store Device = sym n.2 ∙ is in let clash : ⊥ = cc in clash)
  device_sound ack (inr (inr g)) is = device_settled ack g.2 is

  -- no device call failed but those of a checkpoint, where none is told
  abbrev Quiet : Type 0
  Quiet = AreQuiet seen old.states states

  still_quiet : states ≡ old.states → Quiet
  still_quiet is = quiet_same seen old.states states is

  quiet_settled : (ack : AckOutcome) → Settles ack → ((fault : StoreFault) → ack ≢ Store fault) → Quiet
  quiet_settled (NotHeld o) h none = still_quiet h.1
  quiet_settled (Malformed f) h none = absurd h
  quiet_settled Done h none = stored_quiet tries seen holding visit.group acts old states windows old.clock sound few hosted kept h.1
  quiet_settled (Store fault) h none = absurd (none fault refl)

  pub quiet_acked : (ack : AckOutcome) → Acked ack → ((fault : StoreFault) → ack ≢ Store fault) → Quiet
  quiet_acked ack (inl m) none = still_quiet m.3.0
  quiet_acked ack (inr (inl n)) none = still_quiet n.3.0
  quiet_acked ack (inr (inr g)) none = quiet_settled ack g.2 none

  -- which record is stored
  abbrev Writes : AckOutcome → Type 0
  Writes ack = WritesAcks seen old.conf (log_in old.log) visit was tries old.states states ack

  writes_stored : (fault : Option StoreFault) → StoresGroup seen Failed old.conf old.log.batches visit.group acts was tries old.states states Same Ends fault
      → WritesActs seen old.conf old.log.batches visit.group acts was tries old.states states fault
  writes_stored fault h = stored_writes tries seen holding visit.group acts old states windows old.clock sound few hosted kept fault h

  writes_settled : (ack : AckOutcome) → Settles ack → Writes ack
  writes_settled (NotHeld o) h = h.1
  writes_settled (Malformed f) h = absurd h
  writes_settled Done h = writes_stored None h.1
  writes_settled (Store fault) h = writes_stored (Some fault) h.1

  pub writes_acked : (ack : AckOutcome) → Acked ack → Writes ack
  writes_acked ack (inl m) = subst Writes (sym m.1) m.3.0
  writes_acked ack (inr (inl n)) = subst Writes (sym n.2) (inl (n.1, n.3.0))
  writes_acked ack (inr (inr g)) = writes_settled ack g.2

  -- what is held behind them
  abbrev Holds : AckOutcome → Type 0
  Holds ack = held_in holding windows visit.group ≡ held_behind old.log.start visit was ack

  none_end : NameNone acts → Same → held_in holding windows visit.group ≡ held_after acts was
  none_end none same = same visit.group ∙ sym (all_pass (λ e. is_none (acts e.0)) was (λ e. ap is_none (none e.0)))

  own_held : (b : Bool) → b ≡ true → (its others : Held) → cond b its others ≡ its
  own_held b is its others = ap (λ (t : Bool). cond t its others) is

  holds_settled : (ack : AckOutcome) → Settles ack → Holds ack
  holds_settled (NotHeld o) h = h.2 visit.group
  holds_settled (Malformed f) h = absurd h
  holds_settled Done h = ⊎_elim
      (λ n. none_end n.0 n.2)
      (λ g. g.2 visit.group ∙ own_held (is_at (slice_cmp nat_cmp visit.group) visit.group) (at_self (slice_cmp nat_cmp) nat_list_cmp_total exact_bytes visit.group) (held_after acts was) was)
      h.1
  holds_settled (Store fault) h = h.1.2 visit.group

  pub holds_acked : (ack : AckOutcome) → Acked ack → Holds ack
  holds_acked ack (inl m) = subst Holds (sym m.1) (m.3.1 visit.group)
  holds_acked ack (inr (inl n)) = subst Holds (sym n.2) (none_end n.1 n.3.1)
  holds_acked ack (inr (inr g)) = holds_settled ack g.2

  -- where they came to the device, the group has a table
  abbrev HasTable : Type 0
  HasTable = (state : ShareState) × (share_state_at (states_of old.states.entries) (key_of old.conf visit.group) ≡ Some state)

  pub none_named : NameNone acts → NameOne acts → ⊥
  none_named none one = none_some (acts one.0) (none one.0) one.1

  table_settled : (ack : AckOutcome) → Settles ack → AreWritten old.log.start visit ack → HasTable
  table_settled (NotHeld o) h written = absurd written
  table_settled (Malformed f) h written = absurd h
  table_settled Done h written = ⊎_elim (λ n. absurd (none_named n.0 written)) (λ g. (g.1.state, g.1.known)) h.1
  table_settled (Store Device) h written = (h.1.1.state, h.1.1.known)
  table_settled (Store (Full at)) h written = absurd written

  pub table_there : (ack : AckOutcome) → Acked ack → AreWritten old.log.start visit ack → HasTable
  table_there ack (inl m) written = absurd (subst (AreWritten old.log.start visit) m.1 written)
  table_there ack (inr (inl n)) written = absurd (none_named n.1 (subst (AreWritten old.log.start visit) n.2 written))
  table_there ack (inr (inr g)) written = table_settled ack g.2 written

  -- they are not written for a group without a table
  pub unheld_by : (ack : AckOutcome) → Acked ack → share_state_at (states_of old.states.entries) (key_of old.conf visit.group) ≡ None
      → AreWritten old.log.start visit ack → ⊥
  unheld_by ack h none written =
      let t = table_there ack h written in
      let never : ◌≡◌ {A = Option ShareState} None (Some t.0) = sym none ∙ t.1 in
      let clash : ⊥ = cc in clash

  -- ---- nothing has changed

  same_all : states ≡ old.states → Same → IsUntouched holding old mid
  same_all is same = record { conf = refl; log = refl; states = is; clock = refl; held = same }

  -- where their write didn't come to the device
  back_settled : (ack : AckOutcome) → Settles ack → (AreWritten old.log.start visit ack → ⊥) → IsUntouched holding old mid
  back_settled (NotHeld o) h none = same_all h.1 h.2
  back_settled (Malformed f) h none = absurd h
  back_settled Done h none = ⊎_elim (λ n. same_all n.1 n.2) (λ g. absurd (none g.0)) h.1
  back_settled (Store Device) h none = absurd (none tt)
  back_settled (Store (Full at)) h none = same_all (h.1.1.once.unchanged (λ e. let clash : ⊥ = cc in clash)) h.1.2

  pub back : (ack : AckOutcome) → Acked ack → (AreWritten old.log.start visit ack → ⊥) → IsUntouched holding old mid
  back ack (inl m) none = same_all m.3.0 m.3.1
  back ack (inr (inl n)) none = same_all n.3.0 n.3.1
  back ack (inr (inr g)) none = back_settled ack g.2 none

  -- ---- the moments of their write, where no checkpoint is tried before it

  abbrev Written : Entries → Type 0
  Written es = IsAcksWritten old.conf (log_in old.log) visit.group visit.member visit.acks was old.states.entries es

  abbrev Found : List ℕ → List ℕ → ShareStates → Type 0
  Found a b states = AreStatesFrom old.log.start a b states

  module _ (es : Entries) (w : Written es) where
    its_hosted : IsHosted old.conf (log_in old.log) (key_of old.conf visit.group) w.state
    its_hosted = hosted (key_of old.conf visit.group) w.state w.known

    its_kept : KeepsHolds old.log.batches (Some w.state) was
    its_kept = subst (λ (o : Option ShareState). KeepsHolds old.log.batches o was) w.known (kept visit.group)

    abbrev its_next : ShareState
    its_next = next old.conf old.log.batches old.states.entries es visit.group w.state was acts w.change its_hosted w.known w.is w.stored

    its_settled : IsSettled old.conf.limit acts old.log.batches (table_of w.state was) its_next
    its_settled = now_settled old.conf old.log.batches old.states.entries es visit.group w.state was acts w.change its_hosted w.known w.is w.stored

    its_states : states_of es ≡ insert_entry key_cmp (states_of old.states.entries) (key_of old.conf visit.group) its_next
    its_states = now_states old.conf old.log.batches old.states.entries es visit.group w.state was acts w.change its_hosted w.known w.is w.stored

    set_hosted : AreHosted old.conf (log_in old.log) (states_of es)
    set_hosted = subst (AreHosted old.conf (log_in old.log)) (sym its_states) (hosted_more old.conf (log_in old.log) (states_of old.states.entries) (key_of old.conf visit.group) its_next hosted
        (settled_hosted old.conf old.log.batches visit.group w.state was acts sound.rises few its_hosted its_kept.0 its_next its_settled))

    set_level : AreLevel old.log.start old.states.entries → AreLevel old.log.start es
    set_level h = write_level old.conf (log_in old.log) old.states.entries es w.stored.checkpointed (key_of old.conf visit.group) _ w.stored.is refl set_hosted h

    written_settled : (batch : Option LogWrite) (pending : Option Entries) → AreSettled old.conf (shard_of seen holding old batch pending) visit.group acts (states_of es)
    written_settled batch pending = record { state = w.state; next = its_next; known = w.known; settled = its_settled; is = its_states }

  -- what stood at entry
  found_before : (pending : Option Entries) (a b : List ℕ) → AreLevel old.log.start old.states.entries → IfSome pending (AreLevel old.log.start)
      → StandWith a b old.states.entries pending → WithPending (Found a b) (states_of old.states.entries) (option_map states_of pending)
  found_before None a b level pending_level stands = recovers a b old.log.start old.states.entries stands level
  found_before (Some lost) a b level pending_level stands = ⊎_elim
      (λ x. inl (recovers a b old.log.start old.states.entries x level))
      (λ x. inr (recovers a b old.log.start lost x pending_level)) stands

  found_within : (batch : Option LogWrite) (pending : Option Entries) (a b : List ℕ) → AreLevel old.log.start old.states.entries
      → IfSome pending (AreLevel old.log.start) → IsWithin Written old.states.entries pending a b
      → AreWithinAcks old.conf (shard_of seen holding old batch pending) visit a b
  found_within batch pending a b level pending_level (inl stands) = inl (found_before pending a b level pending_level stands)
  found_within batch pending a b level pending_level (inr w) = inr (
    states_of w.0,
    (w.1.formed, w.1.theirs),
    written_settled w.0 w.1 batch pending,
    recovers a b old.log.start w.0 w.2 (set_level w.0 w.1 level),
  )

  abbrev Moments : PartShardState → Type 0
  Moments s = LeavesPairs seen old.states.journal.first.disk states.journal.first.disk old.states.journal.second.disk states.journal.second.disk
      (AreWithinAcks old.conf s visit)

  pub moments : WritesWithin seen Written old.states states → (s : PartShardState) → Carries seen holding old s → Moments s
  moments within = carried seen holding old Moments (λ batch pending k.
      let m = within pending k.holds in record {
        later_a = m.later_a;
        later_b = m.later_b;
        each = λ a b left right. found_within batch pending a b k.level k.pending_level (m.each a b left right);
      })

  -- ---- what follows

  module _ (now : ℕ) (new : PartParts D W) (ack : AckOutcome) (acked : Acked ack)
      (runs : RunOnBoth seen old.states states) (more : RunOnBoth seen states new.states) where
    abbrev Risen : Type 0
    Risen = FailuresRose seen old.states new.states

    abbrev Unarmed : Type 0
    Unarmed = StarveUnarmed seen old.states new.states

    -- the acknowledgements write nothing, and what follows them neither
    nothing_so : (s t : PartShardState) → IsStill s t → (u : Then) → HasNothingToWrite old.conf s visit u → HasNothingToWrite old.conf t visit u
    nothing_so s t still Nothing h = tt
    nothing_so s t still Release h = subst (λ (held : List ℕ → Held). NameNone (releases_of visit.member (held visit.group))) (sym still.held) h
    nothing_so s t still (Fetch records bytes first) h =
        subst (λ (states : ShareStates). IsSome (share_state_at states (key_of old.conf visit.group))) (sym still.states) h

    nothing_at_all : ((t : PartShardState) → Carries seen holding mid t → HasNothingToWrite old.conf t visit visit.then → new.states ≡ states)
        → (s : PartShardState) → Carries seen holding old s → (AreToWrite s visit → ⊥) → HasNothingToWrite old.conf s visit visit.then → new.states ≡ old.states
    nothing_at_all stays s c nothing behind =
        let first = steps runs ack acked s c in
        stays first.0 first.1 (nothing_so s first.0 (acks_still ack s first.0 first.2.does nothing) visit.then behind) ∙ unwritten ack acked s c nothing

    pub visited : (inner : VisitAnswer) (done : Result VisitAnswer want) → done ≡ Ok inner → FollowsOnce seen holding now visit mid new done
        → VisitsOnce seen holding now tries visit old new (Ok (with_ack ack inner))
    visited inner done is once =
        let o = subst (FollowsOnce seen holding now visit mid new) is once in
        record {
          unread = o.unread;
          steps = λ s c.
              let first = steps runs ack acked s c in
              let then = o.steps first.0 first.1 in (
                then.0,
                then.1,
                record {
                  between = first.0;
                  counted = failures_of seen states;
                  at = states.journal.end;
                  acks = first.2;
                  counts = (later_both seen old.states states runs, later_both seen states new.states more);
                  unwritten = λ nothing. ap (λ (p : StoreParts D). p.journal.end) (unwritten ack acked s c nothing);
                  still = λ nothing. ap (λ (p : StoreParts D). p.journal.end) (o.unwritten first.0 first.1 nothing);
                  does = follows_as old.conf (is_some (seen old.log.journal.disk).content)
                      (FailuresRose seen states new.states) states.journal.end first.0 visit ack inner then.0
                      (Rose (seen old.log.journal.disk).faults (seen new.log.journal.disk).faults) o.unread then.2.does;
                  clock = then.2.clock ∙ ap (λ (n : ℕ). max n now) first.2.clock;
                  log = then.2.log ∙ first.2.log;
                },
              );
          memory = tt;
          records = record {
            between = states;
            acks = writes_acked ack acked;
            follows = subst (λ (h : Held). WritesThen seen old.conf (log_in old.log) visit h states new.states (write_outcome o.unread inner.then) visit.then) (holds_acked ack acked) o.records;
            quiet_acks = quiet_acked ack acked;
            quiet_then = o.quiet;
          };
          ack_sound = λ fault. starve_then seen old.states states new.states (device_sound ack acked fault) runs more;
          sound = λ fault. then_starve seen old.states states new.states runs (o.sound fault);
          unwritten = λ s c nothing behind. nothing_at_all o.unwritten s c nothing behind;
          log = o.log;
          unstored = o.unstored;
          others = o.others;
          conf = o.conf;
        }

    -- no memory was found behind them, where they were not written
    pub unfollowed : (e : want) (done : Result VisitAnswer want) → done ≡ Err e
        → FollowsOnce seen holding now visit mid new done → (AreWritten old.log.start visit ack → ⊥) → (f : want) → VisitsOnce seen holding now tries visit old new (Err f)
    unfollowed e done is once none f =
        let o = subst (FollowsOnce seen holding now visit mid new) is once in
        let b = back ack acked none in
        let u = o.memory in
        record {
          unread = o.unread;
          steps = tt;
          memory = record {
            conf = u.conf;
            log = u.log;
            states = u.states ∙ b.states;
            clock = u.clock;
            held = λ group. u.held group ∙ b.held group;
          };
          records = tt;
          ack_sound = tt;
          sound = tt;
          unwritten = λ s c nothing behind. nothing_at_all o.unwritten s c nothing behind;
          log = o.log;
          unstored = tt;
          others = o.others;
          conf = o.conf;
        }
