-- A checkpoint that is tried with no write behind it.
use Rattle.std.proofs.Common.{◌≡◌, inl, inr, ⊎_elim, refl, sym, subst, ℕ, List, Bool, true, false, Option, None}
use Rattle.std.specs.Prelude.{if◌then◌else◌}
use Rattle.std.specs.List.Sorted.{IsStrictlySortedBy}
use Rattle.std.specs.Map.{keys_of}
use Rattle.checkpoint_journal.specs.Generations.{IsListed}
use Rattle.edge_io.specs.Moments.{LeavesPairs}
use Rattle.edge_io.specs.Views.{DiskView}
use Rattle.share_model.specs.Keys.{key_cmp}
use Rattle.coord_checkpoint.specs.Stores.{StoreParts as JournalParts}
use Rattle.coord_checkpoint.specs.Writes.{IsLeftTrying, Tries}
use Rattle.share_coord.specs.Holding.{Holds, StandWith, Tidies}
use Rattle.share_coord.specs.Parts.{StoreParts}
use Rattle.share_coord.specs.Stored.{Entries, based, renewed, settled, snapshot_frames}
use Rattle.share_coord.proofs.Held.{checkpoint_stands, checkpoint_taken, holds_by, left_stands, none_lands, stands_now, states_by}
use Rattle.share_coord.proofs.Unwritten.{settled_of}

module _ {D : Type 0} (seen : D → DiskView) (old new : JournalParts D) (entries : Entries) (room : ℕ)
    (sorted : IsStrictlySortedBy key_cmp (keys_of entries)) where
  abbrev Old : StoreParts D
  Old = record { journal = old; entries = entries; room = room }

  abbrev New : Entries → StoreParts D
  New es = record { journal = new; entries = es; room = room }

  stays : (c : Bool) → Tries seen (snapshot_frames entries) old new c → (pending : Option Entries) → Holds seen Old pending
      → Holds seen (New (based c entries)) (if c then None else pending)
  stays true tries pending held =
      let h = tries.made refl held.frames held.sealing held.unwritten held.keeps in
      let few = h.1.few in
      holds_by seen new (renewed entries) (settled entries) room h.0 None None None h.2
      (checkpoint_taken entries held.written sorted held.frames h.0 held.taken held.kept h.1) (settled_of entries) few refl
      (none_lands (renewed entries))
  stays false tries pending held =
      let h = tries.kept refl held.frames held.sealing held.unwritten held.keeps in
      holds_by seen new entries held.written room held.frames h.0 held.unwritten pending h.2 held.taken held.kept held.few held.leaves
      (λ landed at. ⊎_elim (λ was. held.sealed landed was) (λ k. checkpoint_stands entries held.written sorted held.frames landed held.taken held.kept k) (h.1 landed at))

  trying : (a b : List ℕ) (pending : Option Entries) (held : Holds seen Old pending) (found : List (List ℕ)) → IsListed a b found
      → IsLeftTrying held.frames held.sealing held.unwritten (snapshot_frames entries) found → StandWith a b entries pending
  trying a b pending held found listed (inl left) =
      left_stands a b entries held.written held.frames held.sealing held.unwritten pending held.taken held.kept held.leaves held.sealed found listed left
  trying a b pending held found listed (inr k) =
      stands_now a b entries pending (states_by a b found entries listed (checkpoint_stands entries held.written sorted held.frames found held.taken held.kept k))

  moments : (c : Bool) → Tries seen (snapshot_frames entries) old new c → (pending : Option Entries) → Holds seen Old pending
      → LeavesPairs seen old.first.disk new.first.disk old.second.disk new.second.disk (λ a b. StandWith a b entries pending)
  moments c tries pending held =
      let pairs = tries.any_moment held.frames held.sealing held.unwritten held.keeps in
      record {
        later_a = pairs.later_a;
        later_b = pairs.later_b;
        each = λ a b left right. let found = pairs.each a b left right in trying a b pending held found.0 found.1 found.2;
      }

  tidied : (c : Bool) → Tries seen (snapshot_frames entries) old new c → Tidies seen Old (New (based c entries))
  tidied c tries = record {
    checkpointed = c;
    journal = tries;
    is = refl;
    room = refl;
    kept = stays c tries;
    any_moment = moments c tries;
  }

  pub tidied_at : (c : Bool) → Tries seen (snapshot_frames entries) old new c → (es : Entries) → es ≡ based c entries → Tidies seen Old (New es)
  tidied_at c tries es is = subst (λ (l : Entries). Tidies seen Old (New l)) (sym is) (tidied c tries)
