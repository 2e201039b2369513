-- Two contents together: which frames they keep.
use Rattle.std.proofs.Common.{◌≡◌, ◌⊎◌, inl, inr, refl, sym, subst, ℕ, ◌+◌, Bool, true, false, List, [], ◌∷◌, ◌++◌, Option, Some, None}
use Rattle.edge_io.specs.Views.{DiskView}
use Rattle.gate_journal.specs.Frames.{IsWithPending}
use Rattle.gate_journal.specs.declared.writer.Writer.{Writer}
use Rattle.gate_journal.specs.Spares.{HasFrames}
use Rattle.checkpoint_journal.specs.Generations.{IsBeaten, IsPlain, IsWhole, KeepBoth, mark_of}
use Rattle.checkpoint_journal.proofs.Marks.{kept, one_more, overtaken}
use Rattle.coord_checkpoint.specs.Stores.{AreSides, Finds, IsLeft}

-- found with the content of the live disk and of the other one
abbrev pub FindsBy : Bool → (List (List ℕ) → Type 0) → List ℕ → List ℕ → Type 0
FindsBy true P live idle = Finds P idle live
FindsBy false P live idle = Finds P live idle

pub finds_as : (b : Bool) (P Q : List (List ℕ) → Type 0) → ((found : List (List ℕ)) → P found → Q found) → (a d : List ℕ) → FindsBy b P a d → FindsBy b Q a d
finds_as true P Q f a d h = (h.0, h.1, f h.0 h.2)
finds_as false P Q f a d h = (h.0, h.1, f h.0 h.2)

by_both : (b : Bool) (P : List (List ℕ) → Type 0) (a d : List ℕ) (frames : List (List ℕ)) → KeepBoth b a d frames → P frames → FindsBy b P a d
by_both true P a d frames k p = (frames, k, p)
by_both false P a d frames k p = (frames, k, p)

-- the live disk has whole frames of which L holds; the other one frames that lose to them, or whole ones of the next generation of
-- which N holds
module _ (b : Bool) (g : ℕ) (L N : List (List ℕ) → Type 0) (lives : (frames : List (List ℕ)) → L frames → IsWhole g frames)
    (nexts : (frames : List (List ℕ)) → N frames → IsWhole (g + 1) frames) where
  pub pair : (a d : List ℕ) → HasFrames L a → HasFrames (λ frames. IsBeaten b g frames ⊎ N frames) d → FindsBy b (λ found. L found ⊎ N found) a d
  pair a d l r = elim r.2 [
    | inl lost ↦ by_both b (λ found. L found ⊎ N found) a d l.0 (kept b g a d l.0 r.0 l.1 r.1 (lives l.0 l.2) lost) (inl l.2)
    | inr next ↦ by_both b (λ found. L found ⊎ N found) a d r.0 (overtaken b g a d l.0 r.0 l.1 r.1 (lives l.0 l.2) (nexts r.0 next)) (inr next)
  ]

-- ---- the frames of the live disk

-- as at entry, or with this frame behind them
abbrev pub IsLive : List (List ℕ) → Option (List ℕ) → List (List ℕ) → Type 0
IsLive frames pending found = (found ≡ frames) ⊎ ((frame : List ℕ) × (pending ≡ Some frame) × (found ≡ frames ++ frame ∷ []))

some_is : {A : Type 0} (x : A) (o : Option A) → (Some x ≡ None) ⊎ (Some x ≡ o) → o ≡ Some x
some_is x o (inl e) = absurd cc
some_is x o (inr e) = sym e

pub live_frames : (frames : List (List ℕ)) (written pending : Option (List ℕ)) → (written ≡ None) ⊎ (written ≡ pending)
    → (c : List ℕ) → IsWithPending frames written c → HasFrames (IsLive frames pending) c
live_frames frames None pending within c h = (frames, h, inl refl)
live_frames frames (Some p) pending within c (inl h) = (frames, h, inl refl)
live_frames frames (Some p) pending within c (inr h) = (frames ++ p ∷ [], h, inr (p, some_is p pending within, refl))

module _ (g : ℕ) (frames : List (List ℕ)) (whole : IsWhole g frames) (pending : Option (List ℕ))
    (plain : (frame : List ℕ) → pending ≡ Some frame → IsPlain (mark_of frame)) where
  pub live_whole : (found : List (List ℕ)) → IsLive frames pending found → IsWhole g found
  live_whole found (inl is) = subst (IsWhole g) (sym is) whole
  live_whole found (inr is) = subst (IsWhole g) (sym is.2) (one_more g frames is.0 whole (plain is.0 is.1))

-- ---- a store now

left_of : (frames : List (List ℕ)) (sealing : Option (List (List ℕ))) (pending : Option (List ℕ)) (found : List (List ℕ))
    → IsLive frames pending found ⊎ (sealing ≡ Some found) → IsLeft frames sealing pending found
left_of frames sealing pending found (inl (inl is)) = inl is
left_of frames sealing pending found (inl (inr is)) = inr (inr is)
left_of frames sealing pending found (inr is) = inr (inl is)

module _ {D : Type 0} (seen : D → DiskView) (live idle : Writer D) (b : Bool) (g : ℕ) (frames : List (List ℕ)) (sealing : Option (List (List ℕ)))
    (pending : Option (List ℕ)) (sides : AreSides seen live idle b g frames sealing pending) where
  pub sides_find : (a d : List ℕ) → (seen live.disk).image a → (seen idle.disk).image d → FindsBy b (IsLeft frames sealing pending) a d
  sides_find a d on_a on_d = finds_as b (λ found. IsLive frames pending found ⊎ (sealing ≡ Some found)) (IsLeft frames sealing pending)
      (left_of frames sealing pending) a d
      (pair b g (IsLive frames pending) (λ found. sealing ≡ Some found) (live_whole g frames sides.whole pending sides.plain) sides.next a d
      (live_frames frames sides.written pending sides.within a (sides.stands.images a on_a)) (sides.aside.each d on_d))
