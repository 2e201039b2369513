-- From the shape of the images before a call to that of those after it.
use Rattle.std.proofs.Common.{◌≡◌, ◌≤◌, ◌+◌, ◌^◌, ◌∙◌, refl, sym, ap, inl, arith, ℕ, ◌-◌, List, [], ◌∷◌, ◌++◌, length}
use Rattle.std.proofs.Common.{take, drop, Option, Some, None, subst, Result, Ok, Err, OnErr, length-append, length-take, length-drop}
use Rattle.std.proofs.lemmas.List.{take_at}
use Rattle.edge_io.specs.Disk.{Follows, Stepped, Reaches}
use Rattle.edge_io.specs.Moments.{LeavesOnly}
use Rattle.edge_io.proofs.Moments.{weakened}
use Rattle.share_model.specs.declared.fault.StoreFault.{StoreFault}
use Rattle.share_model.specs.declared.fault.StoreFault.TheVariants.{Full}
use Rattle.gate_journal.specs.Frames.{IsFrame, IsRest, IsShut, IsAjar, IsWithPending, StandsFor, IsBeforeOrAfter, frame_in, framed, text_of}
use Rattle.gate_journal.specs.Journals.{IsShaped, Mends, Stands, IsAtRest, RefusesFull}
use Rattle.gate_journal.specs.declared.writer.Writer.{Writer}
use Rattle.gate_journal.specs.declared.writer.Mending.{Mending}
use Rattle.gate_journal.specs.declared.writer.Mending.TheVariants.{Nothing, Behind, Gate}
use Rattle.gate_journal.proofs.Shapes.{rest_stands, shut_stands, ajar_stands, text_rests}
use Rattle.edge_io.specs.Views.{DiskView}

module _ (old new S T : List ℕ → Type 0) (has : (c : List ℕ) → old c → S c) where
  -- after a call that a crash may cut short
  pub followed : (step : List ℕ → List ℕ → Type 0) → Follows step old new → ((d c : List ℕ) → S d → step d c → T c)
      → (c : List ℕ) → new c → T c
  followed step follows f c now = let from = follows c now in f from.0 c (has from.0 from.1) from.2

  -- after one that was done and synced
  pub reached : (content : Option (List ℕ)) → ((c : List ℕ) → content ≡ Some c → old c) → (f : List ℕ → List ℕ)
      → Reaches f content new → ((d c : List ℕ) → S d → c ≡ f d → T c) → (c : List ℕ) → new c → T c
  reached content is_image f reaches g c now = let from = reaches c now in g from.0 c (has from.0 (is_image from.0 from.1)) from.2

-- at each moment of a call that a crash may cut short
pub at_moments : {D : Type 0} (seen : D → DiskView)
    (old new : D) (S P : List ℕ → Type 0) (step : List ℕ → List ℕ → Type 0) → ((c : List ℕ) → (seen old).image c → S c)
    → LeavesOnly seen old new (Stepped (seen old).image step) → ((d c : List ℕ) → S d → step d c → P c) → LeavesOnly seen old new P
at_moments seen old new S P step has run f = weakened seen old new _ P run (λ c p. f p.0 c (has p.0 p.1) p.2)

-- what holds at each end holds at a refusal
pub on_err : {T E : Type 0} (r : Result T E) (P : Type 0) → P → OnErr r P
on_err (Ok x) P p = tt
on_err (Err e) P p = p

-- ---- what is left to mend

module _ {D : Type 0} (seen : D → DiskView) (writer : Writer D) (m : Mending) (frames : List (List ℕ)) (pending : Option (List ℕ)) where
  pub at_gate : m ≡ Gate → Mends seen writer m frames pending → (frame : List ℕ) × (pending ≡ Some frame) × IsFrame frame
      × IsShaped seen writer frames (IsAjar frames frame)
  at_gate is h = subst (λ (k : Mending). Mends seen writer k frames pending) is h

  pub from_gate : m ≡ Gate → (frame : List ℕ) → pending ≡ Some frame → IsFrame frame
      → IsShaped seen writer frames (IsAjar frames frame) → Mends seen writer m frames pending
  from_gate is frame some one h = subst (λ (k : Mending). Mends seen writer k frames pending) (sym is) (frame, some, one, h)

  pub from_behind : m ≡ Behind → IsShaped seen writer frames (IsShut frames) → Mends seen writer m frames pending
  from_behind is h = subst (λ (k : Mending). Mends seen writer k frames pending) (sym is) h

-- what is left to mend is this
pub at_mending : {D : Type 0} (seen : D → DiskView) (writer : Writer D) (m k : Mending) (frames : List (List ℕ)) (pending : Option (List ℕ))
    → m ≡ k → Mends seen writer m frames pending → Mends seen writer k frames pending
at_mending seen writer m k frames pending is h = subst (λ (k : Mending). Mends seen writer k frames pending) is h

-- what stands before and after is with the pending one or without
pub with_pending : (frames : List (List ℕ)) (pending : Option (List ℕ)) (frame c : List ℕ) → pending ≡ Some frame
    → IsBeforeOrAfter frames frame c → IsWithPending frames pending c
with_pending frames pending frame c is h = subst (λ (p : Option (List ℕ)). IsWithPending frames p c) (sym is) h

pub without : (frames : List (List ℕ)) (pending : Option (List ℕ)) (c : List ℕ) → StandsFor c frames → IsWithPending frames pending c
without frames None c h = h
without frames (Some frame) c h = inl h

-- each image is with the pending one or without
pub mends_images : {D : Type 0} (seen : D → DiskView) (writer : Writer D) (m : Mending) (frames : List (List ℕ))
    (pending : Option (List ℕ)) → Mends seen writer m frames pending → (c : List ℕ) → (seen writer.disk).image c
    → IsWithPending frames pending c
mends_images seen writer Nothing frames pending h c now = without frames pending c (rest_stands frames c h.1.fit (h.1.each c now))
mends_images seen writer Behind frames pending h c now = without frames pending c (shut_stands frames c h.fit (h.each c now))
mends_images seen writer Gate frames pending h c now = with_pending frames pending h.0 c h.1 (ajar_stands frames h.0 c h.3.fit h.2 (h.3.each c now))

-- ---- an append

pub frame_in_length : (bytes : List ℕ) → length (frame_in bytes) ≡ length bytes - 5
frame_in_length bytes = omega (arith, length-take (length bytes - 5) (drop 4 bytes), length-drop 4 bytes)

-- the buffer has the same frame when its five bytes are set
pub frame_in_framed : (frame : List ℕ) → frame_in (framed frame) ≡ frame
frame_in_framed frame =
    let len : length (framed frame) - 5 ≡ length frame = omega (arith, length-append frame (0 ∷ [])) in
    ap (λ (k : ℕ). take k (frame ++ 0 ∷ [])) len ∙ take_at frame (0 ∷ []) (length frame) refl

-- a frame that has room isn't refused as full
pub not_full : {D : Type 0} (old new : Writer D) (before after : List ℕ) (r : Result ℕ StoreFault) → ((end : ℕ) → r ≡ Err (Full end) → ⊥)
    → old.end + length before ≤ 2 ^ 62 → RefusesFull old new before after r
not_full old new before after r not room = record {
  exact = λ end. (λ is. absurd (not end is), λ full. absurd (omega (arith, full.1, room)));
  same = λ end is. absurd (not end is);
}

module _ {D : Type 0} (seen : D → DiskView) (writer : Writer D) (frames : List (List ℕ)) where
  pub stands_by : (pending : Option (List ℕ)) → Mends seen writer writer.mending frames pending → Stands seen writer frames pending
  stands_by pending m = record { images = mends_images seen writer writer.mending frames pending m; mends = m }

  pub at_rest : writer.mending ≡ Nothing → IsShaped seen writer frames (IsRest frames) → IsAtRest seen writer frames
  at_rest is s = record {
    stands = stands_by None (subst (λ (k : Mending). Mends seen writer k frames None) (sym is) (refl, s));
    rests = s.each;
    mended = is;
  }

  pub rests_by_text : writer.mending ≡ Nothing → IsShaped seen writer frames (λ c. c ≡ text_of frames) → IsAtRest seen writer frames
  rests_by_text is s = at_rest is (record { each = λ c now. text_rests frames c (s.each c now); fit = s.fit; end = s.end; count = s.count })
