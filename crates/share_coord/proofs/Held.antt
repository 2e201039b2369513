-- What a store holds, one record further. `entries` are what is kept, `written` is what the records give.
use Rattle.std.proofs.Common.{◌≡◌, ◌⊎◌, ◌<◌, ◌^◌, inl, inr, ⊎_elim, refl, sym, ap, subst, arith, ℕ, List, [], ◌∷◌, ◌++◌, length}
use Rattle.std.proofs.Common.{Bool, true, false, Option, Some, None, length-append}
use Rattle.std.specs.List.Sorted.{IsStrictlySortedBy}
use Rattle.std.specs.Map.{keys_of}
use Rattle.edge_io.specs.Moments.{LeavesPairs}
use Rattle.edge_io.specs.Views.{DiskView}
use Rattle.share_model.specs.Keys.{key_cmp}
use Rattle.checkpoint_journal.specs.Checkpoints.{IsCheckpoint}
use Rattle.checkpoint_journal.specs.Generations.{IsListed}
use Rattle.coord_checkpoint.specs.Stores.{Finds, IsBase, IsLeft, Keeps, StoreParts as JournalParts}
use Rattle.state_records.specs.Spelling.{IsRecord, record_bytes}
use Rattle.state_records.specs.declared.record.StateRecord.{StateRecord}
use Rattle.share_coord.specs.Planning.{LeadsTo}
use Rattle.share_coord.specs.Stored.{Entries, Accepts, AreTaken, based, records_from, renewed, settled, snapshot_frames}
use Rattle.share_coord.specs.States.{states_of}
use Rattle.share_coord.specs.Unwritten.{AreKeptOf, AreStatesOf}
use Rattle.share_coord.specs.Holding.{Holds, IsWithin, Leaves, LeavesPending, StandWith, StandsFor}
use Rattle.share_coord.specs.Putting.{HasNotPut, HasPut, IsPut, IsPutWithin}
use Rattle.share_coord.specs.declared.walk.Walk.TheVariants.{First}
use Rattle.share_model.specs.Keys.{KeyParts}
use Rattle.share_model.specs.ShareStates.{ShareState}
use Rattle.share_coord.proofs.Renewing.{AreFit, are_snapshots, fit_all, kept_fit, renews}
use Rattle.share_coord.proofs.Unwritten.{settled_of, settled_views, views_of}
use Rattle.share_coord.proofs.Walking.{taken_checkpoint, taken_then}

-- ---- the states of entries

pub states_renewed : (es : Entries) → states_of (renewed es) ≡ states_of es
states_renewed [] = refl
states_renewed (e ∷ es) = ap (λ (l : List (KeyParts × ShareState)). (e.0, e.1.view) ∷ l) (states_renewed es)

pub states_based : (c : Bool) (es : Entries) → states_of (based c es) ≡ states_of es
states_based false es = refl
states_based true es = states_renewed es

pub stands_now : (a b : List ℕ) (entries : Entries) (pending : Option Entries) → AreStatesOf a b entries → StandWith a b entries pending
stands_now a b entries None h = h
stands_now a b entries (Some lost) h = inl h

stands_then : (a b : List ℕ) (entries lost : Entries) (pending : Option Entries) → pending ≡ Some lost → AreStatesOf a b lost → StandWith a b entries pending
stands_then a b entries lost pending is h = subst (λ (p : Option Entries). StandWith a b entries p) (sym is) (inr h)

-- frames that stand for entries, found on the disks
pub states_by : (a b : List ℕ) (found : List (List ℕ)) (es : Entries) → IsListed a b found → StandsFor found es → AreStatesOf a b es
states_by a b found es listed stands = record {
  written = stands.0;
  stored = record { frames = found; listed = listed; taken = stands.1 };
  are = stands.2;
}

-- frames whose records give what is written of them
pub stands_by : (frames : List (List ℕ)) (written es : Entries) → AreTaken frames written → AreKeptOf written es → StandsFor frames es
stands_by frames written es taken kept = (written, taken, views_of written es kept)

found_by : (found frames : List (List ℕ)) (es : Entries) → found ≡ frames → StandsFor frames es → StandsFor found es
found_by found frames es is h = subst (λ (l : List (List ℕ)). StandsFor l es) (sym is) h

-- what is left stands for the states, with or without what is pending
pub left_stands : (a b : List ℕ) (entries written : Entries) (frames : List (List ℕ)) (sealing : Option (List (List ℕ))) (unwritten : Option (List ℕ)) (pending : Option Entries)
    → AreTaken frames written → AreKeptOf written entries → Leaves written unwritten pending
    → ((landed : List (List ℕ)) → sealing ≡ Some landed → StandsFor landed entries)
    → (found : List (List ℕ)) → IsListed a b found → IsLeft frames sealing unwritten found → StandWith a b entries pending
left_stands a b entries written frames sealing unwritten pending taken kept leaves sealed found listed (inl is) =
    stands_now a b entries pending (states_by a b found entries listed (found_by found frames entries is (stands_by frames written entries taken kept)))
left_stands a b entries written frames sealing unwritten pending taken kept leaves sealed found listed (inr (inl is)) =
    stands_now a b entries pending (states_by a b found entries listed (sealed found is))
left_stands a b entries written frames sealing unwritten pending taken kept leaves sealed found listed (inr (inr h)) =
    let frame = h.0 in
    let more : Leaves written (Some frame) pending = subst (λ (u : Option (List ℕ)). Leaves written u pending) h.1 leaves in
    stands_then a b entries more.1 pending more.2
    (states_by a b found more.1 listed
    (found_by found (frames ++ frame ∷ []) more.1 h.2 (stands_by (frames ++ frame ∷ []) more.0 more.1 (taken_then frames frame written more.0 taken more.3) more.4)))

pub holds_by : {D : Type 0} (seen : D → DiskView) (journal : JournalParts D) (entries written : Entries) (room : ℕ) (frames : List (List ℕ)) (sealing : Option (List (List ℕ)))
    (unwritten : Option (List ℕ)) (pending : Option Entries) → Keeps seen journal frames sealing unwritten → AreTaken frames written → AreKeptOf written entries
    → length frames < 2 ^ 63 → Leaves written unwritten pending
    → ((landed : List (List ℕ)) → sealing ≡ Some landed → StandsFor landed entries)
    → Holds seen (record { journal = journal; entries = entries; room = room }) pending
holds_by seen journal entries written room frames sealing unwritten pending keeps taken kept few leaves sealed = record {
  frames = frames;
  unwritten = unwritten;
  sealing = sealing;
  keeps = keeps;
  written = written;
  taken = taken;
  kept = kept;
  few = few;
  leaves = leaves;
  sealed = sealed;
  images = λ a b on_a on_b.
      let found = keeps.images a b on_a on_b in
      left_stands a b entries written frames sealing unwritten pending taken kept leaves sealed found.0 found.1 found.2;
}

pub none_lands : (entries : Entries) (landed : List (List ℕ)) → ◌≡◌ {A = Option (List (List ℕ))} None (Some landed) → StandsFor landed entries
none_lands entries landed is = let never : ⊥ = cc in absurd never

-- ---- a checkpoint of all keys

-- what is kept can be stored
pub fit_kept : (frames : List (List ℕ)) (written entries : Entries) → AreTaken frames written → AreKeptOf written entries → AreFit entries
fit_kept frames written entries taken kept = kept_fit written entries kept (fit_all (records_from First frames) [] written taken (tt, tt))

pub checkpoint_taken : (entries written : Entries) → IsStrictlySortedBy key_cmp (keys_of entries) → (frames base : List (List ℕ)) → AreTaken frames written
    → AreKeptOf written entries → IsCheckpoint (snapshot_frames entries) base → AreTaken base (settled entries)
checkpoint_taken entries written sorted frames base taken kept is =
    let fit = fit_kept frames written entries taken kept in
    subst (λ (l : List (List ℕ)). AreTaken l (settled entries)) (sym is.is)
    (taken_checkpoint is.generation (snapshot_frames entries) (settled entries) is.fits (are_snapshots entries fit) (renews entries sorted fit))

-- it stands for the states
pub checkpoint_stands : (entries written : Entries) → IsStrictlySortedBy key_cmp (keys_of entries) → (frames base : List (List ℕ)) → AreTaken frames written
    → AreKeptOf written entries → IsCheckpoint (snapshot_frames entries) base → StandsFor base entries
checkpoint_stands entries written sorted frames base taken kept is = (
  settled entries,
  checkpoint_taken entries written sorted frames base taken kept is,
  settled_views written entries kept,
)

-- what is written where a checkpoint was made, or none
abbrev pub base_of : Bool → Entries → Entries → Entries
base_of false written entries = written
base_of true written entries = settled entries

-- ---- one record more

module _ {D : Type 0} (seen : D → DiskView) (plain : StateRecord) (fresh : Option StateRecord) (old new : JournalParts D) (entries : Entries) (room : ℕ)
    (sorted : IsStrictlySortedBy key_cmp (keys_of entries)) (next : Bool → Entries)
    (follows : (c : Bool) (one : StateRecord) → IsPut plain fresh c one → (base : Entries) → AreKeptOf base (based c entries) → LeadsTo base one (next c)) where
  base_taken : (c : Bool) (frames base : List (List ℕ)) (written : Entries) → AreTaken frames written → AreKeptOf written entries
      → IsBase frames (snapshot_frames entries) c base → AreTaken base (base_of c written entries)
  base_taken false frames base written taken kept from = subst (λ (l : List (List ℕ)). AreTaken l written) (sym from) taken
  base_taken true frames base written taken kept from = checkpoint_taken entries written sorted frames base taken kept from

  base_kept : (c : Bool) (written : Entries) → AreKeptOf written entries → AreKeptOf (base_of c written entries) (based c entries)
  base_kept false written kept = kept
  base_kept true written kept = settled_of entries

  base_few : (c : Bool) (frames base : List (List ℕ)) → length frames < 2 ^ 63 → IsBase frames (snapshot_frames entries) c base → length base < 2 ^ 63
  base_few false frames base few from = subst (λ (l : List (List ℕ)). length l < 2 ^ 63) (sym from) few
  base_few true frames base few from = from.few

  abbrev Accepted : Bool → StateRecord → Entries → Type 0
  Accepted c one written = (left : Entries) × Accepts (base_of c written entries) (record_bytes one) left × AreKeptOf left (next c)

  pub accepts : (c : Bool) (one : StateRecord) → IsPut plain fresh c one → IsRecord one → (written : Entries) → AreKeptOf written entries → Accepted c one written
  accepts c one is valid written kept =
      let l = follows c one is (base_of c written entries) (base_kept c written kept) in
      (l.0, record { written = one; valid = valid; bytes = refl; follows = l.1 }, l.2)

  -- the record is written
  pub done : (c : Bool) → ((frames : List (List ℕ)) (sealing : Option (List (List ℕ))) (pending : Option (List ℕ)) → Keeps seen old frames sealing pending
      → HasPut seen new frames (snapshot_frames entries) plain fresh c)
      → (pending : Option Entries) → Holds seen (record { journal = old; entries = entries; room = room }) pending
      → Holds seen (record { journal = new; entries = next c; room = room }) None
  done c keeps pending held =
      let h = keeps held.frames held.sealing held.unwritten held.keeps in
      let few = h.few in
      let a = accepts c h.one h.is h.valid held.written held.kept in
      holds_by seen new (next c) a.0 room (h.base ++ record_bytes h.one ∷ []) None None None h.keeps
      (taken_then h.base (record_bytes h.one) (base_of c held.written entries) a.0 (base_taken c held.frames h.base held.written held.taken held.kept h.from) a.1) a.2
      (omega (arith, few, length-append h.base (record_bytes h.one ∷ []))) refl (none_lands (next c))

  module _ (Written : Entries → Type 0) (is : (c : Bool) (one : StateRecord) → IsPut plain fresh c one → Written (next c)) where
    landed_stands : (c : Bool) (frames : List (List ℕ)) (sealing : Option (List (List ℕ))) (landed : List (List ℕ)) (written : Entries) → AreTaken frames written
        → AreKeptOf written entries → ((l : List (List ℕ)) → sealing ≡ Some l → StandsFor l entries)
        → (c ≡ false) × ((sealing ≡ Some landed) ⊎ IsCheckpoint (snapshot_frames entries) landed) → StandsFor landed (based c entries)
    landed_stands false frames sealing landed written taken kept sealed h =
        ⊎_elim (λ e. sealed landed e) (λ k. checkpoint_stands entries written sorted frames landed taken kept k) h.1
    landed_stands true frames sealing landed written taken kept sealed h = let never : ⊥ = absurd_bool h.0 in absurd never
      where
        absurd_bool : true ≡ false → ⊥
        absurd_bool e = cc

    leaves_by : (c : Bool) (waits unwritten : Option (List ℕ)) (pending : Option Entries) (written : Entries) → Leaves written unwritten pending
        → (c ≡ false) × (waits ≡ unwritten) → Leaves (base_of c written entries) waits pending
    leaves_by false waits unwritten pending written leaves h = subst (λ (u : Option (List ℕ)). Leaves written u pending) (sym h.1) leaves
    leaves_by true waits unwritten pending written leaves h = let never : ⊥ = absurd_bool h.0 in absurd never
      where
        absurd_bool : true ≡ false → ⊥
        absurd_bool e = cc

    -- the record is pending, or the one from before, or none
    pub lost : (c : Bool) → (c ≡ false → new.on_second ≡ old.on_second) → ((frames : List (List ℕ)) (sealing : Option (List (List ℕ))) (pending : Option (List ℕ)) → Keeps seen old frames sealing pending
        → HasNotPut seen new frames sealing pending (snapshot_frames entries) plain fresh c)
        → (pending : Option Entries) → Holds seen (record { journal = old; entries = entries; room = room }) pending
        → LeavesPending seen Written (record { journal = old; entries = entries; room = room }) (record { journal = new; entries = based c entries; room = room }) pending
    lost c turned keeps pending held =
        let h = keeps held.frames held.sealing held.unwritten held.keeps in
        let base = base_of c held.written entries in
        let taken = base_taken c held.frames h.base held.written held.taken held.kept h.from in
        let kept = base_kept c held.written held.kept in
        let few = base_few c held.frames h.base held.few h.from in
        let sealed : (landed : List (List ℕ)) → h.seals ≡ Some landed → StandsFor landed (based c entries) =
        λ landed at. landed_stands c held.frames held.sealing landed held.written held.taken held.kept held.sealed (h.may landed at) in
        let stays : (waiting : Option Entries) → Leaves base h.waits waiting → Holds seen (record { journal = new; entries = based c entries; room = room }) waiting =
        λ waiting leaves. holds_by seen new (based c entries) base room h.base h.seals h.waits waiting h.keeps taken kept few leaves sealed in
        ⊎_elim (λ none. inr (inl (stays None (subst (λ (u : Option (List ℕ)). Leaves base u None) (sym none) refl))))
        (λ other. ⊎_elim (λ was. inl (turned was.0, stays pending (leaves_by c h.waits held.unwritten pending held.written held.leaves was)))
        (λ this. let a = accepts c this.0 this.1 this.2 held.written held.kept in inr (inr (
          next c,
          is c this.0 this.1,
          stays (Some (next c)) (subst (λ (u : Option (List ℕ)). Leaves base u (Some (next c))) (sym this.3) (a.0, next c, refl, a.1, a.2)),
        ))) other) h.which

    within : (a b : List ℕ) (pending : Option Entries) (held : Holds seen (record { journal = old; entries = entries; room = room }) pending) (found : List (List ℕ)) → IsListed a b found
        → IsPutWithin held.frames held.sealing held.unwritten (snapshot_frames entries) plain fresh found → IsWithin Written entries pending a b
    within a b pending held found listed (inl left) =
        inl (left_stands a b entries held.written held.frames held.sealing held.unwritten pending held.taken held.kept held.leaves held.sealed found listed left)
    within a b pending held found listed (inr (inl k)) =
        inl (stands_now a b entries pending (states_by a b found entries listed (checkpoint_stands entries held.written sorted held.frames found held.taken held.kept k)))
    within a b pending held found listed (inr (inr h)) =
        let c = h.0 in
        let base = h.1 in
        let one = h.2 in
        let l = accepts c one h.4 h.5 held.written held.kept in
        let front = base_taken c held.frames base held.written held.taken held.kept h.3 in
        inr (
          next c,
          is c one h.4,
          states_by a b found (next c) listed (found_by found (base ++ record_bytes one ∷ []) (next c) h.6
              (stands_by (base ++ record_bytes one ∷ []) l.0 (next c) (taken_then base (record_bytes one) (base_of c held.written entries) l.0 front l.1) l.2)),
        )

    pub moments : ((frames : List (List ℕ)) (sealing : Option (List (List ℕ))) (pending : Option (List ℕ)) → Keeps seen old frames sealing pending
        → LeavesPairs seen old.first.disk new.first.disk old.second.disk new.second.disk
        (Finds (IsPutWithin frames sealing pending (snapshot_frames entries) plain fresh)))
        → (pending : Option Entries) → Holds seen (record { journal = old; entries = entries; room = room }) pending
        → LeavesPairs seen old.first.disk new.first.disk old.second.disk new.second.disk (IsWithin Written entries pending)
    moments run pending held =
        let pairs = run held.frames held.sealing held.unwritten held.keeps in
        record {
          later_a = pairs.later_a;
          later_b = pairs.later_b;
          each = λ a b left right. let found = pairs.each a b left right in within a b pending held found.0 found.1 found.2;
        }
