-- An index of batches, seen as their log.
use Rattle.std.proofs.Common.{◌≡◌, inl, inr, ℕ, ◌≤◌, List, [], ◌∷◌, ◌++◌, length, refl, sym, ap, subst, ◌∙◌, Option, Some, None, arith}
use Rattle.std.specs.Prelude.{map, max, MatchOption}
use Rattle.std.proofs.Math.Nat.{le-max_left, le-max_right, max-le}
use Rattle.std.proofs.lemmas.List.{map-append, length-map}
use Rattle.share_model.specs.Logs.{Batch, IsNextSlot, IsSlot, end_of}
use Rattle.part_log.specs.Starts.{IsNextSlotOf, IsSlotOf, Log}
use Rattle.share_model.specs.declared.batch_place.BatchPlace.{BatchPlace}
use Rattle.log_index.specs.Indexes.{log_of}
use Rattle.log_index.specs.Indexes.{IsPlaceOf as IsPlaceIn}
use Rattle.log_index.specs.declared.entry.Entry.{Entry}
use Rattle.part_log.specs.Batches.{batch_in}
use Rattle.part_log.specs.Holding.{entry_of}
use Rattle.part_log.specs.Logs.{IsPlaceOf}
use Rattle.part_log.proofs.Parts.{map_parted}

-- the batches of frames that each have one
abbrev batched : List (ℕ × List ℕ) → List Batch
batched frames = map (λ (f : ℕ × List ℕ). batch_in f.1) frames

-- ---- slots

slot_there : (frames : List (ℕ × List ℕ)) (o : ℕ) → IsSlot (log_of (map entry_of frames)) o → IsSlot (batched frames) o
slot_there [] o s = s
slot_there (f ∷ frames) o (inl s) = inl s
slot_there (f ∷ frames) o (inr s) = inr (slot_there frames o s)

slot_here : (frames : List (ℕ × List ℕ)) (o : ℕ) → IsSlot (batched frames) o → IsSlot (log_of (map entry_of frames)) o
slot_here [] o s = s
slot_here (f ∷ frames) o (inl s) = inl s
slot_here (f ∷ frames) o (inr s) = inr (slot_here frames o s)

pub next_there : (frames : List (ℕ × List ℕ)) (from : ℕ) (r : Option ℕ) → IsNextSlot (log_of (map entry_of frames)) from r → IsNextSlot (batched frames) from r
next_there frames from None h = λ o le s. h o le (slot_here frames o s)
next_there frames from (Some slot) h = (slot_there frames slot h.0, h.1, λ o le s. h.2 o le (slot_here frames o s))

-- the next slot of a log is the next one of its batches from its start on
pub next_of : (log : Log) (from : ℕ) (r : Option ℕ) → IsNextSlot log.batches (max from log.start) r → IsNextSlotOf log from r
next_of log from None h = λ o le s. h o (max-le le s.0) s.1
next_of log from (Some slot) h = (
  (omega (arith, le-max_right from log.start, h.1), h.0),
  omega (arith, le-max_left from log.start, h.1),
  λ o le s. h.2 o (max-le le s.0) s.1,
)

-- and from an offset on that isn't below it, that of the batches from there on
pub next_above : (log : Log) (from : ℕ) (r : Option ℕ) → log.start ≤ from → IsNextSlotOf log from r → IsNextSlot log.batches from r
next_above log from None above h = λ o le s. h o le (omega (arith, above, le), s)
next_above log from (Some slot) above h = (h.0.1, h.1, λ o le s. h.2 o le (omega (arith, above, le), s))

pub end_there : (frames : List (ℕ × List ℕ)) → end_of (log_of (map entry_of frames)) ≡ end_of (batched frames)
end_there [] = refl
end_there (f ∷ []) = refl
end_there (f ∷ g ∷ frames) = end_there (g ∷ frames)

-- ---- batches by number

pub place_there : (frames : List (ℕ × List ℕ)) (offset : ℕ) (r : Option BatchPlace)
    → MatchOption r (IsSlot (log_of (map entry_of frames)) offset → ⊥) (IsPlaceIn (map entry_of frames) offset)
    → MatchOption r (IsSlot (batched frames) offset → ⊥) (IsPlaceOf (batched frames) offset)
place_there frames offset None h = λ s. h (slot_here frames offset s)
place_there frames offset (Some place) h =
    let p = map_parted entry_of frames h.at.0 h.entry h.at.1 h.at.2 in
    let whole : batched frames ≡ batched p.front ++ (batch_in p.x.1 ∷ batched p.back) =
    ap batched p.whole ∙ map-append (λ (f : ℕ × List ℕ). batch_in f.1) p.front (p.x ∷ p.back) in
    record {
      batch = batch_in p.x.1;
      at = (
        batched p.front,
        batched p.back,
        whole,
        h.at.3 ∙ sym (ap length p.fronts) ∙ length-map p.front entry_of ∙ sym (length-map p.front (λ (f : ℕ × List ℕ). batch_in f.1)),
      );
      covers = (
        subst (λ (e : Entry). e.base ≤ offset) (sym p.same) h.within.0,
        subst (λ (e : Entry). offset ≤ e.last) (sym p.same) h.within.1,
      );
      base = h.base ∙ ap (λ (e : Entry). e.base) (sym p.same);
      last = h.last ∙ ap (λ (e : Entry). e.last) (sym p.same);
      size = h.size ∙ ap (λ (e : Entry). e.size) (sym p.same);
    }

-- and of the log from its start on
pub place_of_log : (log : Log) (offset : ℕ) (r : Option BatchPlace) → log.start ≤ offset
    → MatchOption r (IsSlot log.batches offset → ⊥) (IsPlaceOf log.batches offset)
    → MatchOption r (IsSlotOf log offset → ⊥) (λ place. (log.start ≤ offset) × IsPlaceOf log.batches offset place)
place_of_log log offset None above h = λ s. h s.1
place_of_log log offset (Some place) above h = (above, h)
