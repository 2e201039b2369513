-- The releases of a group as a step of the shard.
use Rattle.std.proofs.Common.{◌≡◌, ◌≢◌, ◌∙◌, refl, sym, ap, subst, ℕ, max, ◌≤◌, List, Option, Some, Bool, true, false}
use Rattle.std.specs.Prelude.{Ok, is_some}
use Rattle.part_log.specs.Logs.{IsStoredLog, log_in}
use Rattle.share_coord.specs.Parts.{StoreParts}
use Rattle.share_model.specs.Held.{Held}
use Rattle.share_model.specs.declared.fault.StoreFault.{StoreFault}
use Rattle.share_model.specs.declared.fault.StoreFault.TheVariants.{Device}
use Rattle.share_model.specs.declared.visit.AckOutcome.TheVariants.{Done as acknowledged}
use Rattle.share_model.specs.declared.visit.Then.TheVariants.{Release}
use Rattle.share_model.specs.declared.visit.ThenOutcome.{ThenOutcome}
use Rattle.share_model.specs.declared.visit.ThenOutcome.TheVariants.{Done as then_done, Store as then_store}
use Rattle.share_model.specs.declared.visit.Visit.{Visit}
use Rattle.share_model.specs.declared.visit.VisitAnswer.{VisitAnswer}
use Rattle.share_part.specs.Acknowledging.{NameNone, NameOne, StoresActs}
use Rattle.share_part.specs.Failures.{AreQuiet, FailuresRose, RunOnBoth}
use Rattle.share_part.specs.Following.{Does, HasNothingToWrite, IsEmptyAnswer, fault_of, releases_of}
use Rattle.share_part.specs.Hosting.{AreHosted}
use Rattle.share_coord.specs.States.{states_of}
use Rattle.share_part.specs.Once.{FollowsOnce, ReadsBatches}
use Rattle.share_part.specs.Releasing.{Counts, ReleasesOnce, fault_in}
use Rattle.share_part.specs.Settling.{Acts, is_chosen, releasing}
use Rattle.share_part.specs.Shards.{PartParts, PartShardState, Carries, held_in}
use Rattle.share_part.specs.Writes.{WritesActs, WritesThen}
use Rattle.share_part.specs.declared.release.Released.{Released}
use Rattle.share_part.specs.declared.release.Released.TheVariants.{Done, Store}
use Rattle.share_part.specs.declared.settle.Whose.{Whose}
use Rattle.share_part.specs.declared.settle.Whose.TheVariants.{Member}
use Rattle.share_part.proofs.Holding.{AreKept}
use Rattle.share_part.proofs.Storage.{Stores, stands_stored, stored_device, stored_none, stored_quiet, stored_steps, stored_writes}
use Rattle.edge_io.specs.Views.{DiskView}

is_store : (r : Released) (fault : StoreFault) → fault_in r ≡ Some fault → r ≡ Store fault
is_store (Done count) fault e = absurd (let clash : ⊥ = cc in clash)
is_store (Store its) fault e = ap (λ (f : StoreFault). Store f) (let same : its ≡ fault = cc in same)

is_told : (o : ThenOutcome) (fault : StoreFault) → fault_of o ≡ Some fault → o ≡ then_store fault
is_told then_done fault e = absurd (let clash : ⊥ = cc in clash)
is_told (then_store its) fault e = ap (λ (f : StoreFault). then_store f) (let same : its ≡ fault = cc in same)

module _ {D W : Type 0} (seen : D → DiskView) (holding : W → Held) (group : List ℕ) (whose : Whose) (old : PartParts D W) (states : StoreParts D)
    (windows : List (List ℕ × W)) (sound : IsStoredLog old.log.batches) (few : old.conf.limit ≤ 10)
    (hosted : AreHosted old.conf (log_in old.log) (states_of old.states.entries))
    (kept : AreKept old.conf old.log.batches (states_of old.states.entries) (held_in holding old.windows)) where
  abbrev was : Held
  was = held_in holding old.windows group

  abbrev acts : Acts
  acts = releasing (is_chosen whose) was

  -- the shard behind the releases
  abbrev pub then : ℕ → PartParts D W
  then clock = record { conf = old.conf; log = old.log; states = states; windows = windows; clock = clock }

  abbrev pub Told : Released → Type 0
  Told r = Stores true seen holding group acts old states windows old.clock sound few hosted kept (fault_in r)

  pub released_stand : (r : Released) → Told r
      → AreHosted old.conf (log_in old.log) (states_of states.entries) × AreKept old.conf old.log.batches (states_of states.entries) (held_in holding windows)
  released_stand r h = stands_stored true seen holding group acts old states windows old.clock sound few hosted kept (fault_in r) h

  module _ (runs : RunOnBoth seen old.states states) where
    abbrev Rises : Type 0
    Rises = FailuresRose seen old.states states

    quiet_by : (r : Released) → Told r → ((fault : StoreFault) → r ≢ Store fault) → AreQuiet seen old.states states
    quiet_by (Done count) h none = stored_quiet true seen holding group acts old states windows old.clock sound few hosted kept h
    quiet_by (Store fault) h none = absurd (none fault refl)

    pub released : (clock : ℕ) (r : Released) → Told r → Counts whose was r
        → ReleasesOnce seen holding clock group whose old (then clock) r
    released clock r h counts =
        record {
          steps = λ s c.
              let st = stored_steps true seen holding group acts old states windows clock sound few hosted kept runs (fault_in r) h s c in (
                st.then,
                st.carries,
                record {
                  log = st.log;
                  clock_is = st.clock_is;
                  stores = subst (λ (h : Held). StoresActs old.conf Rises old.states.journal.end s group (releasing (is_chosen whose) h) st.then (fault_in r)) (sym (c.held group)) st.does;
                  counts = subst (λ (h : Held). Counts whose h r) (sym (c.held group)) counts;
                },
              );
          unwritten = stored_none true seen holding group acts old states windows clock sound few hosted kept (fault_in r) h;
          records = stored_writes true seen holding group acts old states windows old.clock sound few hosted kept (fault_in r) h;
          quiet = quiet_by r h;
          sound = λ fault. stored_device true seen holding group acts old states windows clock sound few hosted kept (fault_in r) h (ap fault_in fault);
          log = refl;
          conf = refl;
        }

-- ---- as what follows acknowledgements

module _ {D W : Type 0} (seen : D → DiskView) (holding : W → Held)
    (now clock : ℕ) (visit : Visit) (old new : PartParts D W) (is : visit.then ≡ Release)
    (read : new.log ≡ old.log → ReadsBatches seen (false ≡ true) old.log new.log) where
  abbrev told_there : Bool
  told_there = is_some (seen old.log.journal.disk).content

  abbrev Rising : Type 0
  Rising = FailuresRose seen old.states new.states

  abbrev Once : Released → Type 0
  Once r = ReleasesOnce seen holding clock visit.group (Member visit.member) old new r

  abbrev was_held : Held
  was_held = held_in holding old.windows visit.group

  told_as : (s t : PartShardState) (answer : VisitAnswer) (outcome : ThenOutcome) (r : Released) → IsEmptyAnswer outcome answer → fault_of outcome ≡ fault_in r
      → StoresActs old.conf Rising old.states.journal.end s visit.group (releases_of visit.member (s.held visit.group)) t (fault_in r)
      → Does old.conf told_there Rising old.states.journal.end s visit answer t Release
  told_as s t answer outcome r empty same stores = (
    record { outcome_is = refl; grants = empty.grants; batches = empty.batches },
    subst (λ (f : Option StoreFault). StoresActs old.conf Rising old.states.journal.end s visit.group (releases_of visit.member (s.held visit.group)) t f)
        (sym (ap fault_of empty.outcome_is ∙ same)) stores,
  )

  none_let_go : (s : PartShardState) → Carries seen holding old s
      → (NameNone (releasing (is_chosen (Member visit.member)) (held_in holding old.windows visit.group)) → new.states ≡ old.states)
      → HasNothingToWrite old.conf s visit visit.then → new.states ≡ old.states
  none_let_go s c stays nothing =
      stays (subst (λ (h : Held). NameNone (releases_of visit.member h)) (c.held visit.group) (subst (HasNothingToWrite old.conf s visit) is nothing))

  pub let_go : (r : Released) → clock ≡ max old.clock now → Once r → (answer : VisitAnswer) (outcome : ThenOutcome)
      → answer.ack ≡ acknowledged → IsEmptyAnswer outcome answer → fault_of outcome ≡ fault_in r
      → FollowsOnce seen holding now visit old new (Ok answer)
  let_go r at o answer outcome ack empty same =
      record {
        unread = false;
        steps = λ s c.
            let st = o.steps s c in (
              st.0,
              st.1,
              record {
                clock = st.2.clock_is ∙ at ∙ ap (λ (n : ℕ). max n now) (sym c.clock);
                log = st.2.log;
                ack = ack;
                does = subst (Does old.conf told_there Rising old.states.journal.end s visit answer st.0) (sym is) (told_as s st.0 answer outcome r empty same st.2.stores);
              },
            );
        memory = tt;
        records = subst (WritesThen seen old.conf (log_in old.log) visit was_held old.states new.states answer.then) (sym is)
            (subst (WritesActs seen old.conf old.log.batches visit.group (releases_of visit.member was_held) was_held true old.states new.states)
            (sym (ap fault_of empty.outcome_is ∙ same)) o.records);
        quiet = λ none. o.quiet (λ fault is. none fault (empty.outcome_is ∙ is_told outcome fault (same ∙ ap fault_in is)));
        sound = λ fault. o.sound (is_store r Device (sym same ∙ (ap fault_of (sym empty.outcome_is) ∙ ap fault_of fault)));
        unwritten = λ s c. none_let_go s c o.unwritten;
        log = read o.log;
        unstored = λ fault is. o.log;
        others = λ away. o.log;
        conf = o.conf;
      }
