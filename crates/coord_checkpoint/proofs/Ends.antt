-- Where a journal ends.
use Rattle.std.proofs.Common.{◌≡◌, ◌⊎◌, ◌↔◌, ⊎_elim, refl, sym, subst, arith, ℕ, ◌+◌, ◌*◌, ◌<◌, ◌≤◌, ◌^◌, List, [], ◌∷◌, ◌++◌, length, length-append, Option, Some, None, Result, Ok, Err, OnOk, OnErr}
use Rattle.std.specs.Prelude.{MatchResult}
use Rattle.std.specs.List.{AllByRecursion}
use Rattle.std.proofs.lemmas.Bool.{cases_lt}
use Rattle.edge_io.specs.Views.{DiskView}
use Rattle.gate_journal.specs.Frames.{IsFrame, behind_gate, blocks, frame_in}
use Rattle.gate_journal.specs.Journals.{Adds, Mends, Stands}
use Rattle.gate_journal.specs.declared.writer.Writer.{Writer}
use Rattle.gate_journal.specs.declared.writer.Mending.{Mending}
use Rattle.gate_journal.specs.declared.writer.Mending.TheVariants.{Nothing, Behind, Gate}
use Rattle.gate_journal.proofs.Shaped.{frame_in_length}
use Rattle.gate_journal.proofs.Texts.{few_frames}
use Rattle.share_model.specs.declared.fault.StoreFault.{StoreFault}
use Rattle.share_model.specs.declared.fault.StoreFault.TheVariants.{Full}

end_at : {D : Type 0} (seen : D → DiskView) (writer : Writer D) (m : Mending) (frames : List (List ℕ)) (pending : Option (List ℕ))
    → Mends seen writer m frames pending → writer.end ≡ length (blocks frames) + 1
end_at seen writer Nothing frames pending h = h.1.end
end_at seen writer Behind frames pending h = h.end
end_at seen writer Gate frames pending h = h.3.end

pub end_of : {D : Type 0} (seen : D → DiskView) (writer : Writer D) (frames : List (List ℕ)) (pending : Option (List ℕ))
    → Stands seen writer frames pending → writer.end ≡ length (blocks frames) + 1
end_of seen writer frames pending h = end_at seen writer writer.mending frames pending h.mends

pub stands_few : {D : Type 0} (seen : D → DiskView) (writer : Writer D) (frames : List (List ℕ)) (pending : Option (List ℕ))
    → Stands seen writer frames pending → length frames < writer.end
stands_few seen writer frames pending h = omega (arith, few_frames frames, end_of seen writer frames pending h)

count_at : {D : Type 0} (seen : D → DiskView) (writer : Writer D) (m : Mending) (frames : List (List ℕ)) (pending : Option (List ℕ))
    → Mends seen writer m frames pending → writer.count ≡ length frames
count_at seen writer Nothing frames pending h = h.1.count
count_at seen writer Behind frames pending h = h.count
count_at seen writer Gate frames pending h = h.3.count

pub count_of : {D : Type 0} (seen : D → DiskView) (writer : Writer D) (frames : List (List ℕ)) (pending : Option (List ℕ))
    → Stands seen writer frames pending → writer.count ≡ length frames
count_of seen writer frames pending h = count_at seen writer writer.mending frames pending h.mends

blocks_longer : (frames : List (List ℕ)) (frame : List ℕ) → length (blocks (frames ++ frame ∷ [])) ≡ length (blocks frames) + (length frame + 5)
blocks_longer [] frame = omega (arith, length-append (behind_gate frame) [])
blocks_longer (f ∷ fs) frame = omega (arith, blocks_longer fs frame, length-append (behind_gate f) (blocks fs), length-append (behind_gate f) (blocks (fs ++ frame ∷ [])))

pub buffer_len : (buffer : List ℕ) → IsFrame (frame_in buffer) → length buffer ≡ length (frame_in buffer) + 5
buffer_len buffer fits = omega (arith, frame_in_length buffer, fits.0)

is_err : {T E : Type 0} → Result T E → Type 0
is_err (Ok x) = ⊥
is_err (Err e) = Unit {0}

-- an append that was not refused as full has room
pub has_room : (r : Result ℕ StoreFault) (e n : ℕ) → ((end : ℕ) → (r ≡ Err (Full end)) ↔ ((end ≡ e) × (2 ^ 62 < e + n))) → OnOk r (e + n ≤ 2 ^ 62)
unfolding is_err
has_room (Err f) e n full = tt
has_room (Ok x) e n full = ⊎_elim (λ lt. absurd (subst is_err (sym ((full e).1 (refl, lt))) tt)) (λ le. le) (cases_lt (2 ^ 62) (e + n))

-- an append moves the end on, and one that is refused leaves it
module _ {D : Type 0} (seen : D → DiskView) (old new : Writer D) (frame : List ℕ) (len : ℕ) (size : len ≡ length frame + 5)
    (frames : List (List ℕ)) (pending : Option (List ℕ)) (was : Stands seen old frames pending) where
  pub append_ends : (r : Result ℕ StoreFault) → OnOk r (Adds seen frame old new)
      → OnErr r ((frames : List (List ℕ)) (pending : Option (List ℕ)) → Stands seen old frames pending → Stands seen new frames pending ⊎ Stands seen new frames (Some frame))
      → MatchResult r (λ _. new.end ≡ old.end + len) (λ _. new.end ≡ old.end)
  append_ends (Ok n) adds fails =
      omega (
        arith,
        size,
        end_of seen old frames pending was,
        blocks_longer frames frame,
        end_of seen new (frames ++ frame ∷ []) None (adds.rests frames pending was).stands,
      )
  append_ends (Err e) adds fails = ⊎_elim
      (λ s. omega (arith, end_of seen old frames pending was, end_of seen new frames pending s))
      (λ s. omega (arith, end_of seen old frames pending was, end_of seen new frames (Some frame) s)) (fails frames pending was)

-- what follows from room follows from an append that is done
pub shut_by : (r : Result ℕ StoreFault) (e n : ℕ) (P : Type 0) → ((end : ℕ) → (r ≡ Err (Full end)) ↔ ((end ≡ e) × (2 ^ 62 < e + n))) → (e + n ≤ 2 ^ 62 → P) → OnOk r P
shut_by (Ok x) e n P full f = f (has_room (Ok x) e n full)
shut_by (Err x) e n P full f = tt

fit_at : {D : Type 0} (seen : D → DiskView) (writer : Writer D) (m : Mending) (frames : List (List ℕ)) (pending : Option (List ℕ))
    → Mends seen writer m frames pending → AllByRecursion IsFrame frames
fit_at seen writer Nothing frames pending h = h.1.fit
fit_at seen writer Behind frames pending h = h.fit
fit_at seen writer Gate frames pending h = h.3.fit

pub fit_of : {D : Type 0} (seen : D → DiskView) (writer : Writer D) (frames : List (List ℕ)) (pending : Option (List ℕ))
    → Stands seen writer frames pending → AllByRecursion IsFrame frames
fit_of seen writer frames pending h = fit_at seen writer writer.mending frames pending h.mends

-- no frame takes more than 33554437 bytes
pub blocks_few : (frames : List (List ℕ)) → AllByRecursion IsFrame frames → length (blocks frames) ≤ length frames * 33554437
blocks_few [] fit = omega arith
blocks_few (f ∷ fs) fit = let small = fit.0.1 in omega (arith, blocks_few fs fit.1, small, length-append (behind_gate f) (blocks fs))
