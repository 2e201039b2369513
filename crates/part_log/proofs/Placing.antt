-- The offsets of a batch at its place.
use Rattle.std.proofs.Common.{◌≡◌, ℕ, ◌+◌, ◌^◌, ◌<◌, ◌≤◌, List, ◌++◌, length, take, drop, replicate}
use Rattle.std.proofs.Common.{refl, sym, ap, ◌∙◌, append_assoc, length-append, length-drop, arith}
use Rattle.std.specs.Prelude.{pos, ◌+ℤ◌, ◌<ℤ◌}
use Rattle.std.specs.Int.{w32, w64, from_be_bytes, to_be_bytes, cast_signed}
use Rattle.std.proofs.lemmas.Int.{ints}
use Rattle.std.proofs.lemmas.List.{drop-drop, take_at, length-take}
use Rattle.std.proofs.lemmas.Nat.{from_be_bytes-to_be_bytes_8}
use Rattle.std.proofs.Math.Seq.{drop-append-add}
use Rattle.std.proofs.Math.Facts.{to_z_pos}
use Rattle.share_model.specs.Logs.{Batch, end_of}
use Rattle.rec_batch.specs.declared.form.Form.TheVariants.{Produced, Stored}
use Rattle.rec_batch.specs.declared.form.BatchView.{BatchView}
use Rattle.rec_batch.specs.Batches.{Accepts, at_least_zero}
use Rattle.rec_batch.specs.Fields.{base_offset, last_offset_delta}
use Rattle.rec_batch.specs.Placing.{placed}
use Rattle.rec_batch.proofs.Placed.{length-placed, placed_batch}
use Rattle.part_log.specs.Batches.{batch_in}
use Rattle.part_log.specs.Logs.{MayFollow}
use Rattle.part_log.proofs.Frames.{stored_by, view_last}

base_placed : (base : ℕ) (bytes : List ℕ) → base < 2 ^ 63 → base_offset (placed base bytes) ≡ pos base
unfolding placed
base_placed base bytes h =
    ap (λ l. cast_signed w64 (from_be_bytes w64 l)) (take_at (to_be_bytes w64 base) (take 4 (drop 8 bytes) ++ (replicate 4 0 ++ drop 16 bytes)) 8 refl)
    ∙ ap (cast_signed w64) (from_be_bytes-to_be_bytes_8 base (omega arith))
    ∙ to_z_pos w64 (omega arith)

head : ℕ → List ℕ → List ℕ
head base bytes = to_be_bytes w64 base ++ (take 4 (drop 8 bytes) ++ replicate 4 0)

head_size : (base : ℕ) (bytes : List ℕ) → 16 ≤ length bytes → length (head base bytes) ≡ 16
unfolding head
head_size base bytes h =
    omega (
      arith,
      length-append (to_be_bytes w64 base) (take 4 (drop 8 bytes) ++ replicate 4 0),
      length-append (take 4 (drop 8 bytes)) (replicate 4 0),
      length-take 4 (drop 8 bytes),
      length-drop 8 bytes,
    )

parts : (base : ℕ) (bytes : List ℕ) → placed base bytes ≡ head base bytes ++ drop 16 bytes
unfolding head placed
parts base bytes =
    sym (append_assoc (to_be_bytes w64 base) (take 4 (drop 8 bytes) ++ replicate 4 0) (drop 16 bytes)
    ∙ ap (λ l. to_be_bytes w64 base ++ l) (append_assoc (take 4 (drop 8 bytes)) (replicate 4 0) (drop 16 bytes)))

last_placed : (base : ℕ) (bytes : List ℕ) → 16 ≤ length bytes → last_offset_delta (placed base bytes) ≡ last_offset_delta bytes
last_placed base bytes h =
    let at : 23 ≡ length (head base bytes) + 7 = omega (arith, head_size base bytes h) in
    ap (λ l. cast_signed w32 (from_be_bytes w32 (take 4 l)))
    (ap (drop 23) (parts base bytes) ∙ ap (λ n. drop n (head base bytes ++ drop 16 bytes)) at ∙ drop-append-add (head base bytes) (drop 16 bytes) 7 ∙ drop-drop 7 16 bytes)

-- a produced batch, placed at the end of a log
pub record IsPlaced (log : List Batch) (base last : ℕ) (frame : List ℕ) : Type 0 where
  pub follows : MayFollow log (batch_in frame)
  pub base_is : base ≡ (batch_in frame).base
  pub last_is : last ≡ (batch_in frame).last

module _ (bytes : List ℕ) (view : BatchView) (a : Accepts Produced bytes view) where
  pub header : 61 ≤ length bytes
  header = a.1.1.header

  pub size : length bytes ≤ 1048588
  size = a.1.1.size

  pub delta : at_least_zero (last_offset_delta bytes) ≡ view.last_delta
  delta = sym (ap at_least_zero a.0.last_delta)

  pub placed_there : (log : List Batch) (base last : ℕ) → base ≡ end_of log → last ≡ base + view.last_delta → last < 2 ^ 62 → IsPlaced log base last (placed base bytes)
  placed_there log base last e l lt =
      let below : base < 2 ^ 62 = omega (arith, l, lt) in
      let long : 16 ≤ length bytes = omega (arith, a.1.1.header) in
      let sum : (pos base +ℤ last_offset_delta bytes) ≡ pos last = ap (λ z. pos base +ℤ z) (sym a.0.last_delta) ∙ ap pos (sym l) in
      let there = base_placed base bytes (omega (arith, below)) in
      let end : (pos base +ℤ last_offset_delta bytes) <ℤ pos (2 ^ 62) = omega (arith, ints, sum, lt) in
      let base_is : base ≡ at_least_zero (base_offset (placed base bytes)) = sym (ap at_least_zero there) in
      record {
        follows = record { stored = stored_by (placed base bytes) a.1.0 (placed_batch Produced base bytes a.1.0 below a.1.1 end); behind = omega (arith, e, base_is) };
        base_is = base_is;
        last_is = sym (ap at_least_zero ((λ i. there i +ℤ last_placed base bytes long i) ∙ sum));
      }

  -- it would end past the greatest offset
  pub past_there : (base : ℕ) → base ≤ 2 ^ 62 → 2 ^ 62 ≤ base + view.last_delta → 2 ^ 62 ≤ (batch_in (placed base bytes)).last
  past_there base few past =
      let long : 16 ≤ length bytes = omega (arith, a.1.1.header) in
      let there = base_placed base bytes (omega (arith, few)) in
      let sum : (pos base +ℤ last_offset_delta bytes) ≡ pos (base + view.last_delta) = ap (λ z. pos base +ℤ z) (sym a.0.last_delta) in
      let is : (batch_in (placed base bytes)).last ≡ base + view.last_delta = ap at_least_zero ((λ i. there i +ℤ last_placed base bytes long i) ∙ sum) in
      omega (arith, is, past)

  pub same_size : (base : ℕ) → length (placed base bytes) ≡ length bytes
  same_size base = length-placed base bytes (omega (arith, a.1.1.header))

-- a stored batch that begins at the end of a log or behind it
pub stored_there : (bytes : List ℕ) (view : BatchView) → Accepts Stored bytes view → (log : List Batch) (last : ℕ) → end_of log ≤ view.base → last ≡ view.base + view.last_delta
    → IsPlaced log view.base last bytes
stored_there bytes view a log last from l = record {
  follows = record { stored = stored_by bytes a.1.0 a.1.1; behind = omega (arith, from, a.0.base) };
  base_is = a.0.base;
  last_is = l ∙ view_last bytes view a;
}
