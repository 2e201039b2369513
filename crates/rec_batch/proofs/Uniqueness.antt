-- Bytes stand for records in one way: for so many, at these deltas.
use Rattle.std.proofs.Common.{◌≡◌, ℕ, ◌+◌, ◌<◌, List, [], ◌∷◌, ◌++◌, length, inl, inr, sym, ap, subst, ◌∙◌, append_assoc, length-append, arith}
use Rattle.std.specs.Prelude.{ℤ, pos, ◌+ℤ◌}
use Rattle.std.proofs.lemmas.Int.{ints}
use Rattle.share_model.specs.declared.fault.BatchFault.{BatchFault}
use Rattle.share_model.specs.declared.fault.BatchFault.TheVariants.{TooLarge, Short, BadMagic, BadCrc, Compressed, Transactional}
use Rattle.share_model.specs.declared.fault.BatchFault.TheVariants.{Control, HasProducer, BadRecord, BadDeltas}
use Rattle.flex_fields.specs.Grammar.{AreMany, IsVarint}
use Rattle.rec_batch.specs.declared.form.Form.{Form}
use Rattle.rec_batch.specs.Fields.{last_offset_delta, records_part}
use Rattle.rec_batch.specs.Grammar.{IsRecord, Record}
use Rattle.rec_batch.specs.Passing.{record_in}
use Rattle.rec_batch.specs.Batches.{Applies, AreRecords, BeginsNoRecord, Follow, IsBatch, MayFollow, OffsetsAgree}
use Rattle.rec_batch.proofs.Parts.{some_is}
use Rattle.rec_batch.proofs.Passed.{record_comes}

-- two readings of a first record have one delta, and one rest
pub same_first : (content f g x y : List ℕ) (q r : Record) → IsRecord f q → IsRecord g r → content ≡ f ++ x → content ≡ g ++ y → (q.offset_delta ≡ r.offset_delta) × (x ≡ y)
same_first content f g x y q r s t e h =
    let p = some_is (q.offset_delta, x) (r.offset_delta, y) (sym (record_comes f x q s) ∙ ap record_in (sym e ∙ h) ∙ record_comes g y r t) in
    (ap (λ z. z.0) p, ap (λ z. z.1) p)

varint_some : (front : List ℕ) (n : ℤ) → IsVarint front n → 0 < length front
varint_some [] n s = absurd s.1.0
varint_some (b ∷ front) n s = omega arith

-- no record stands as no byte
pub record_some : (front : List ℕ) (r : Record) → IsRecord front r → 0 < length front
record_some front r s = omega (arith, ap length s.4, length-append s.0 s.1, varint_some s.0 (pos (length s.1)) s.2)

-- what follows a front of records is the other records
pub many_behind : (qs rs : List Record) (whole front rest : List ℕ) → whole ≡ front ++ rest → AreMany IsRecord front qs → AreMany IsRecord whole rs →
    (ss : List Record) × (length rs ≡ length qs + length ss) × AreMany IsRecord rest ss
many_behind [] rs whole front rest e q r = (rs, omega arith, subst (λ l. AreMany IsRecord l rs) (e ∙ ap (λ l. l ++ rest) q) r)
many_behind (q ∷ qs) [] whole front rest e s r = absurd (omega (arith, ap length r, ap length e, length-append front rest, ap length s.4, length-append s.0 s.1, record_some s.0 q s.2))
many_behind (q ∷ qs) (r ∷ rs) whole front rest e s t =
    let parts : whole ≡ s.0 ++ (s.1 ++ rest) = e ∙ ap (λ l. l ++ rest) s.4 ∙ append_assoc s.0 s.1 rest in
    let same = same_first whole s.0 t.0 (s.1 ++ rest) t.1 q r s.2 t.2 parts t.4 in
    let more = many_behind qs rs t.1 s.1 rest (sym same.1) s.3 t.3 in
    (more.0, omega (arith, more.1), more.2)

pub follow_same : (form : Form) (last next : ℤ) (qs rs : List Record) (content : List ℕ) → AreMany IsRecord content qs → AreMany IsRecord content rs →
    length qs ≡ length rs → Follow form last next rs → Follow form last next qs
follow_same form last next [] rs content s t e f = tt
follow_same form last next (q ∷ qs) [] content s t e f = absurd (omega arith)
follow_same form last next (q ∷ qs) (r ∷ rs) content s t e f =
    let same = same_first content s.0 t.0 s.1 t.1 q r s.2 t.2 s.4 t.4 in (
      subst (λ d. MayFollow form last next d) (sym same.0) f.0,
      follow_same form last (q.offset_delta +ℤ pos 1) qs rs s.1 s.3 (subst (λ l. AreMany IsRecord l rs) (sym same.1) t.3) (omega arith)
          (subst (λ d. Follow form last (d +ℤ pos 1) rs) (sym same.0) f.1),
    )

-- records where none begins, and bytes where no record is left
none_begins : (rest : List ℕ) (ss : List Record) → 0 < length ss → AreMany IsRecord rest ss → BeginsNoRecord rest → ⊥
none_begins rest [] h s none = absurd (omega arith)
none_begins rest (r ∷ ss) h s none = none s.0 s.1 r s.4 s.2

none_left : (rest : List ℕ) (ss : List Record) → length ss ≡ 0 → AreMany IsRecord rest ss → rest ≡ []
none_left rest [] h s = s
none_left rest (r ∷ ss) h s = absurd (omega arith)

-- where all are records, none is bad
pub none_bad : (form : Form) (bytes : List ℕ) (records : List Record) → AreRecords bytes records → (i : ℕ) → Applies form bytes (BadRecord i) → ⊥
none_bad form bytes records h i a = elim a [
  | inl p ↦ absurd (omega (arith, ints, p.0, h.0))
  | inr p ↦
      let bad = p.2 in
      let same : p.0 ≡ length records = omega (arith, ints, p.1, h.0) in
      let more = many_behind bad.records records (records_part bytes) bad.front bad.rest bad.parts bad.before h.1 in
      let left : i + length more.0 ≡ p.0 = omega (arith, same, more.1, bad.number) in
      elim bad.bad [
        | inl q ↦ none_begins bad.rest more.0 (omega (arith, q.0, left)) more.2 q.1
        | inr q ↦ q.1 (none_left bad.rest more.0 (omega (arith, q.0, left)) more.2)
      ]
]

-- A batch has no fault.
pub batch_clear : (form : Form) (bytes : List ℕ) (records : List Record) → IsBatch form bytes records → (f : BatchFault) → Applies form bytes f → ⊥
batch_clear form bytes records b TooLarge a = absurd (omega (arith, b.size))
batch_clear form bytes records b Short a = elim a [ inl p ↦ absurd (omega (arith, b.header)) | inr p ↦ p b.whole ]
batch_clear form bytes records b BadMagic a = a b.version
batch_clear form bytes records b BadCrc a = a b.intact
batch_clear form bytes records b Compressed a = a b.uncompressed
batch_clear form bytes records b Transactional a = a b.no_transaction
batch_clear form bytes records b Control a = a b.no_control
batch_clear form bytes records b HasProducer a = a b.no_producer
batch_clear form bytes records b (BadRecord i) a = none_bad form bytes records b.content i a
batch_clear form bytes records b BadDeltas a =
    let same : length a.0 ≡ length records = omega (arith, ints, a.1.0, b.content.0) in
    a.2 (
      subst (λ n. OffsetsAgree form bytes n) (sym same) b.offsets.0,
      follow_same form (last_offset_delta bytes) (pos 0) a.0 records (records_part bytes) a.1.1 b.content.1 same b.offsets.1,
    )
