-- A batch at its place is a batch that a log keeps.
use Rattle.std.proofs.Common.{◌≡◌, ℕ, ◌+◌, ◌-◌, ◌^◌, ◌<◌, ◌≤◌, List, [], ◌∷◌, ◌++◌, length, take, drop, replicate}
use Rattle.std.proofs.Common.{refl, sym, ap, subst, ◌∙◌, append_assoc, length-append, length-drop, arith}
use Rattle.std.specs.Prelude.{ℤ, pos, ◌+ℤ◌, ◌≤ℤ◌, ◌<ℤ◌, bit_and}
use Rattle.std.specs.Int.{Width, w8, w16, w32, w64, byte_len, from_be_bytes, to_be_bytes, cast_signed}
use Rattle.std.proofs.lemmas.Int.{ints}
use Rattle.std.proofs.lemmas.List.{drop_at, drop-drop, take_at, length-take}
use Rattle.std.proofs.lemmas.Nat.{from_be_bytes-to_be_bytes_8}
use Rattle.std.proofs.Math.Seq.{drop-append-add}
use Rattle.std.proofs.Math.Facts.{to_z_pos}
use Rattle.flex_fields.specs.Grammar.{AreMany}
use Rattle.crc_castagnoli.specs.Division.{crc_of}
use Rattle.rec_batch.specs.declared.form.Form.{Form}
use Rattle.rec_batch.specs.declared.form.Form.TheVariants.{Produced, Stored}
use Rattle.rec_batch.specs.Fields.{base_offset, batch_length, last_offset_delta, signed_at, unsigned_at}
use Rattle.rec_batch.specs.Grammar.{IsRecord, Record}
use Rattle.rec_batch.specs.Batches.{Follow, IsBatch, OffsetsAgree}
use Rattle.rec_batch.specs.Placing.{placed}
use Rattle.rec_batch.proofs.Contented.{last_from_zero}

-- the sixteen bytes that are set, or stay
head : ℕ → List ℕ → List ℕ
head base bytes = to_be_bytes w64 base ++ (take 4 (drop 8 bytes) ++ replicate 4 0)

length-head : (base : ℕ) (bytes : List ℕ) → 16 ≤ length bytes → length (head base bytes) ≡ 16
unfolding head
length-head base bytes h =
    omega (
      arith,
      length-append (to_be_bytes w64 base) (take 4 (drop 8 bytes) ++ replicate 4 0),
      length-append (take 4 (drop 8 bytes)) (replicate 4 0),
      length-take 4 (drop 8 bytes),
      length-drop 8 bytes,
    )

placed-head : (base : ℕ) (bytes : List ℕ) → placed base bytes ≡ head base bytes ++ drop 16 bytes
unfolding head placed
placed-head base bytes =
    sym (append_assoc (to_be_bytes w64 base) (take 4 (drop 8 bytes) ++ replicate 4 0) (drop 16 bytes)
    ∙ ap (λ l. to_be_bytes w64 base ++ l) (append_assoc (take 4 (drop 8 bytes)) (replicate 4 0) (drop 16 bytes)))

pub length-placed : (base : ℕ) (bytes : List ℕ) → 16 ≤ length bytes → length (placed base bytes) ≡ length bytes
length-placed base bytes h = ap length (placed-head base bytes) ∙ omega (arith, length-append (head base bytes) (drop 16 bytes), length-head base bytes h, length-drop 16 bytes)

-- what follows the head stays
drop-placed : (p base : ℕ) (bytes : List ℕ) → 16 ≤ length bytes → 16 ≤ p → drop p (placed base bytes) ≡ drop p bytes
drop-placed p base bytes h k =
    let at : p ≡ length (head base bytes) + (p - 16) = omega (arith, length-head base bytes h) in
    ap (drop p) (placed-head base bytes) ∙ ap (λ n. drop n (head base bytes ++ drop 16 bytes)) at
    ∙ drop-append-add (head base bytes) (drop 16 bytes) (p - 16) ∙ drop-drop (p - 16) 16 bytes ∙ ap (λ n. drop n bytes) (let e : 16 + (p - 16) ≡ p = omega arith in e)

unsigned-placed : (w : Width) (p base : ℕ) (bytes : List ℕ) → 16 ≤ length bytes → 16 ≤ p → unsigned_at w p (placed base bytes) ≡ unsigned_at w p bytes
unsigned-placed w p base bytes h k = ap (λ l. from_be_bytes w (take (byte_len w) l)) (drop-placed p base bytes h k)

signed-placed : (w : Width) (p base : ℕ) (bytes : List ℕ) → 16 ≤ length bytes → 16 ≤ p → signed_at w p (placed base bytes) ≡ signed_at w p bytes
signed-placed w p base bytes h k = ap (cast_signed w) (unsigned-placed w p base bytes h k)

length-field : (base : ℕ) (bytes : List ℕ) → 16 ≤ length bytes → batch_length (placed base bytes) ≡ batch_length bytes
unfolding placed
length-field base bytes h =
    let middle : List ℕ = take 4 (drop 8 bytes) in
    let four : length middle ≡ 4 = omega (arith, length-take 4 (drop 8 bytes), length-drop 8 bytes) in
    ap (λ l. cast_signed w32 (from_be_bytes w32 (take 4 l))) (drop_at (to_be_bytes w64 base) (middle ++ (replicate 4 0 ++ drop 16 bytes)) 8 refl)
    ∙ ap (λ l. cast_signed w32 (from_be_bytes w32 l)) (take_at middle (replicate 4 0 ++ drop 16 bytes) 4 four)

base-field : (base : ℕ) (bytes : List ℕ) → base < 2 ^ 62 → base_offset (placed base bytes) ≡ pos base
unfolding placed
base-field base bytes h =
    ap (λ l. cast_signed w64 (from_be_bytes w64 l)) (take_at (to_be_bytes w64 base) (take 4 (drop 8 bytes) ++ (replicate 4 0 ++ drop 16 bytes)) 8 refl)
    ∙ ap (cast_signed w64) (from_be_bytes-to_be_bytes_8 base (omega arith))
    ∙ to_z_pos w64 (omega arith)

-- offsets that count up rise
pub counts_rise : (records : List Record) (next last : ℤ) → (next +ℤ pos (length records)) ≡ (last +ℤ pos 1) → Follow Produced last next records → Follow Stored last next records
counts_rise [] next last e f = tt
counts_rise (r ∷ records) next last e f =
    ((omega (arith, ints, f.0), omega (arith, ints, f.0, e)), counts_rise records (r.offset_delta +ℤ pos 1) last (omega (arith, ints, f.0, e)) f.1)

rises : (form : Form) (bytes : List ℕ) (records : List Record) → OffsetsAgree form bytes (length records) →
    Follow form (last_offset_delta bytes) (pos 0) records → Follow Stored (last_offset_delta bytes) (pos 0) records
rises Produced bytes records agree f = counts_rise records (pos 0) (last_offset_delta bytes) (omega (arith, ints, agree.1)) f
rises Stored bytes records agree f = f

pub placed_batch : (form : Form) (base : ℕ) (bytes : List ℕ) (records : List Record) → base < 2 ^ 62 → IsBatch form bytes records →
    (pos base +ℤ last_offset_delta bytes) <ℤ pos (2 ^ 62) → IsBatch Stored (placed base bytes) records
placed_batch form base bytes records below b end =
    let h : 16 ≤ length bytes = omega (arith, b.header) in
    let len = length-placed base bytes h in
    let last = signed-placed w32 23 base bytes h (omega arith) in
    let attributes = unsigned-placed w16 21 base bytes h (omega arith) in
    let at_base = base-field base bytes below in
    record {
      size = omega (arith, len, b.size);
      header = omega (arith, len, b.header);
      whole = ap (λ z. z +ℤ pos 12) (length-field base bytes h) ∙ b.whole ∙ ap (λ n. pos n) (sym len);
      version = signed-placed w8 16 base bytes h (omega arith) ∙ b.version;
      intact = unsigned-placed w32 17 base bytes h (omega arith) ∙ b.intact ∙ ap crc_of (sym (drop-placed 21 base bytes h (omega arith)));
      uncompressed = ap (λ n. bit_and n 0x7) attributes ∙ b.uncompressed;
      no_transaction = ap (λ n. bit_and n 0x10) attributes ∙ b.no_transaction;
      no_control = ap (λ n. bit_and n 0x20) attributes ∙ b.no_control;
      no_producer = signed-placed w64 43 base bytes h (omega arith) ∙ b.no_producer;
      content = (signed-placed w32 57 base bytes h (omega arith) ∙ b.content.0, subst (λ l. AreMany IsRecord l records) (sym (drop-placed 61 base bytes h (omega arith))) b.content.1);
      offsets = (
        (
          subst (λ z. pos 0 ≤ℤ z) (sym last) (last_from_zero form bytes (length records) b.offsets.0),
          subst (λ z. pos 0 ≤ℤ z) (sym at_base) (omega (arith, ints)),
          subst (λ z. (base_offset (placed base bytes) +ℤ z) <ℤ pos (2 ^ 62)) (sym last) (subst (λ z. (z +ℤ last_offset_delta bytes) <ℤ pos (2 ^ 62)) (sym at_base) end),
        ),
        subst (λ z. Follow Stored z (pos 0) records) (sym last) (rises form bytes records b.offsets.0 b.offsets.1),
      );
    }
