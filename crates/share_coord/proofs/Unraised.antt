-- Stores of whose keys no start was raised: what is kept of them is what is written.
use Rattle.std.proofs.Common.{◌≡◌, ⊎_elim, inl, inr, refl, sym, subst, ℕ, ℤ, List, [], ◌∷◌, Option, Some, None, Bool, true, false, Err}
use Rattle.std.specs.Option.{option_map}
use Rattle.edge_io.specs.Views.{DiskView}
use Rattle.share_model.specs.Keys.{KeyParts}
use Rattle.share_model.specs.Pending.{WithPending}
use Rattle.share_model.specs.declared.run.Run.{Run}
use Rattle.state_records.specs.declared.record.StateRecord.{StateRecord}
use Rattle.state_records.specs.declared.record.StateRecord.TheVariants.{Snapshot, Update, Removal, Head, Seal}
use Rattle.share_coord.specs.Calls.{IsForgotten, IsInitialised, IsWritten}
use Rattle.share_coord.specs.Holding.{StandWith, WritesOnce}
use Rattle.share_coord.specs.Parts.{KeptState, StoreParts}
use Rattle.share_coord.specs.States.{AreStates, states_of}
use Rattle.share_coord.specs.Stored.{AreAccepted, AreTaken, Entries, Follows, based, records_from, renewed}
use Rattle.share_coord.specs.Unwritten.{AreAlike, AreKeptOf, AreStatesOf, AreUnraised, IsViewOf, NeverRaised}
use Rattle.share_coord.specs.declared.fault.CoordFault.{CoordFault}
use Rattle.share_coord.specs.declared.walk.Walk.TheVariants.{First}
use Rattle.share_coord.proofs.Keys.{all_with, all_without}
use Rattle.share_coord.proofs.Unwritten.{unraised_self, unraised_view}

abbrev IsUnraised : KeptState → Type 0
IsUnraised kept = kept.raised ≡ false

-- ---- what the records give

unraised_step : (old : Entries) (r : StateRecord) (new : Entries) → Follows old r new → AreUnraised old → AreUnraised new
unraised_step old (Snapshot state) new f h = subst AreUnraised (sym f.is) (all_with IsUnraised old state.key _ h refl)
unraised_step old (Update state) new f h = subst AreUnraised (sym f.is) (all_with IsUnraised old state.key _ h refl)
unraised_step old (Removal key) new f h = subst AreUnraised (sym f.is) (all_without IsUnraised old key h)
unraised_step old (Head generation) new f h = absurd f
unraised_step old Seal new f h = absurd f

accepted_unraised : (frames : List (List ℕ)) (old new : Entries) → AreAccepted old frames new → AreUnraised old → AreUnraised new
accepted_unraised [] old new is h = subst AreUnraised (sym is) h
accepted_unraised (f ∷ fs) old new a h = accepted_unraised fs a.0 new a.2 (unraised_step old a.1.written a.0 a.1.follows h)

pub taken_unraised : (frames : List (List ℕ)) (entries : Entries) → AreTaken frames entries → AreUnraised entries
taken_unraised frames entries taken = accepted_unraised (records_from First frames) [] entries taken tt

pub kept_self : (es : Entries) → AreUnraised es → AreKeptOf es es
kept_self [] h = tt
kept_self (e ∷ es) h = (refl, unraised_self e.1 h.0, kept_self es h.1)

-- a store that is just opened
pub taken_kept : (frames : List (List ℕ)) (entries : Entries) → AreTaken frames entries → AreKeptOf entries entries
taken_kept frames entries taken = kept_self entries (taken_unraised frames entries taken)

-- ---- so contents stand for the states themselves

views_same : (ws es : Entries) → AreAlike IsViewOf ws es → AreUnraised es → states_of ws ≡ states_of es
views_same [] [] h none = refl
views_same [] (e ∷ es) h none = absurd h
views_same (w ∷ ws) [] h none = absurd h
views_same (w ∷ ws) (e ∷ es) h none =
    let rest = views_same ws es h.2 none.1 in
    λ i. (h.0 i, sym (unraised_view w.1 e.1 h.1 none.0) i) ∷ rest i

pub states_exact : (a b : List ℕ) (es : Entries) → AreUnraised es → AreStatesOf a b es → AreStates a b (states_of es)
states_exact a b es none h = record { entries = h.written; stored = h.stored; is = sym (views_same h.written es h.are none) }

pub stand_exact : (a b : List ℕ) (es : Entries) (pending : Option Entries) → NeverRaised es pending → StandWith a b es pending
    → WithPending (AreStates a b) (states_of es) (option_map states_of pending)
stand_exact a b es None none h = states_exact a b es none.0 h
stand_exact a b es (Some lost) none h = ⊎_elim (λ x. inl (states_exact a b es none.0 x)) (λ x. inr (states_exact a b lost none.1 x)) h

-- ---- and calls that write leave such a store

unraised_renewed : (es : Entries) → AreUnraised (renewed es)
unraised_renewed [] = tt
unraised_renewed (e ∷ es) = (refl, unraised_renewed es)

pub unraised_based : (c : Bool) (es : Entries) → AreUnraised es → AreUnraised (based c es)
unraised_based true es h = unraised_renewed es
unraised_based false es h = h

pub init_unraised : (old : Entries) (key : KeyParts) (state start : ℤ) (new : Entries) → IsInitialised old key state start new → AreUnraised old → AreUnraised new
init_unraised old key state start new is h = subst AreUnraised (sym is.is) (all_with IsUnraised (based is.checkpointed old) key _ (unraised_based is.checkpointed old h) refl)

pub write_unraised : (old : Entries) (key : KeyParts) (state leader start : ℤ) (runs : List Run) (new : Entries) → IsWritten old key state leader start runs new
    → AreUnraised old → AreUnraised new
write_unraised old key state leader start runs new is h =
    subst AreUnraised (sym is.is) (all_with IsUnraised (based is.checkpointed old) key _ (unraised_based is.checkpointed old h) refl)

pub forgotten_unraised : (old : Entries) (key : KeyParts) (new : Entries) → IsForgotten old key new → AreUnraised old → AreUnraised new
forgotten_unraised old key new is h = subst AreUnraised (sym is.1.1) (all_without IsUnraised (based is.1.0 old) key (unraised_based is.1.0 old h))

-- no call that writes once raises a start: neither where it is granted, by what it writes, nor where it is refused
pub refused_unraised : {D T : Type 0} (seen : D → DiskView) (Failed : D → D → Type 0) (Written : Entries → Type 0) (old new : StoreParts D) (e : CoordFault)
    → WritesOnce {T = T} seen Failed Written old new (Err e) → AreUnraised old.entries → AreUnraised new.entries
refused_unraised seen Failed Written old new e once none = subst AreUnraised (sym once.left.1) (unraised_based once.left.0 old.entries none)
