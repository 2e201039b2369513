-- The first row of the table that applies.
use Rattle.std.proofs.Common.{◌≡◌, ℕ, zero, suc, ◌+◌, ◌<◌, ◌≤◌, List, length, inl, inr, refl, subst, arith}
use Rattle.std.proofs.lemmas.Bool.{cases_lt}
use Rattle.std.specs.Prelude.{pos, bit_and}
use Rattle.crc_castagnoli.specs.Division.{crc_of}
use Rattle.share_model.specs.declared.fault.BatchFault.{BatchFault}
use Rattle.share_model.specs.declared.fault.BatchFault.TheVariants.{TooLarge, Short, BadMagic, BadCrc, Compressed, Transactional}
use Rattle.share_model.specs.declared.fault.BatchFault.TheVariants.{Control, HasProducer, BadRecord, BadDeltas}
use Rattle.rec_batch.specs.declared.form.Form.{Form}
use Rattle.rec_batch.specs.Batches.{Applies, IsFirstFault, max_size, row}
use Rattle.rec_batch.specs.Fields.{attributes, checked_part, checksum, magic}
use Rattle.rec_batch.specs.Verdicts.{HasFields, HasSize, IsFieldFault, IsSizeFault}

-- no row above the k-th applies
pub record Clears (form : Form) (bytes : List ℕ) (k : ℕ) : Type 0 where
  pub none : (other : BatchFault) → row other < k → Applies form bytes other → ⊥

clears_none : (form : Form) (bytes : List ℕ) → Clears form bytes 0
clears_none form bytes = record { none = λ other h a. absurd (omega arith) }

-- the one fault of a row, but for that of records
abbrev fault_at : ℕ → BatchFault
fault_at zero = TooLarge
fault_at (suc zero) = Short
fault_at (suc (suc zero)) = BadMagic
fault_at (suc (suc (suc zero))) = BadCrc
fault_at (suc (suc (suc (suc zero)))) = Compressed
fault_at (suc (suc (suc (suc (suc zero))))) = Transactional
fault_at (suc (suc (suc (suc (suc (suc zero)))))) = Control
fault_at (suc (suc (suc (suc (suc (suc (suc zero))))))) = HasProducer
fault_at (suc (suc (suc (suc (suc (suc (suc (suc k)))))))) = BadDeltas

named : (other : BatchFault) → row other < 8 → other ≡ fault_at (row other)
named TooLarge h = refl
named Short h = refl
named BadMagic h = refl
named BadCrc h = refl
named Compressed h = refl
named Transactional h = refl
named Control h = refl
named HasProducer h = refl
named (BadRecord index) h = absurd (omega arith)
named BadDeltas h = absurd (omega arith)

-- one more row doesn't apply
clears_next : (form : Form) (bytes : List ℕ) (k : ℕ) → k < 8 → Clears form bytes k → (Applies form bytes (fault_at k) → ⊥) → Clears form bytes (k + 1)
clears_next form bytes k below before here = record {
  none = λ other h a.
      elim (cases_lt (row other) k) [
        | inl p ↦ before.none other p a
        | inr p ↦
            let e : row other ≡ k = omega arith in
            let low : row other < 8 = omega arith in
            here (subst (λ n. Applies form bytes (fault_at n)) e (subst (λ f. Applies form bytes f) (named other low) a))
      ];
}

clear_large : (form : Form) (bytes : List ℕ) → length bytes ≤ max_size → Clears form bytes 1
clear_large form bytes h = clears_next form bytes 0 (omega arith) (clears_none form bytes) (λ a. absurd (omega arith))

pub clear_size : (form : Form) (bytes : List ℕ) → HasSize bytes → Clears form bytes 2
clear_size form bytes h = clears_next form bytes 1 (omega arith) (clear_large form bytes h.0) (λ a. elim a [ inl p ↦ absurd (omega (arith, h.1)) | inr p ↦ p h.2 ])

-- the rows of fields, one after the other
clear_magic : (form : Form) (bytes : List ℕ) → HasSize bytes → magic bytes ≡ pos 2 → Clears form bytes 3
clear_magic form bytes h m = clears_next form bytes 2 (omega arith) (clear_size form bytes h) (λ a. a m)

clear_crc : (form : Form) (bytes : List ℕ) → HasSize bytes → magic bytes ≡ pos 2 → checksum bytes ≡ crc_of (checked_part bytes) → Clears form bytes 4
clear_crc form bytes h m c = clears_next form bytes 3 (omega arith) (clear_magic form bytes h m) (λ a. a c)

clear_compressed : (form : Form) (bytes : List ℕ) → HasSize bytes → magic bytes ≡ pos 2 → checksum bytes ≡ crc_of (checked_part bytes) → bit_and (attributes bytes) 0x7 ≡ 0 → Clears form bytes 5
clear_compressed form bytes h m c z = clears_next form bytes 4 (omega arith) (clear_crc form bytes h m c) (λ a. a z)

clear_transactional : (form : Form) (bytes : List ℕ) → HasSize bytes → magic bytes ≡ pos 2 → checksum bytes ≡ crc_of (checked_part bytes) →
    bit_and (attributes bytes) 0x7 ≡ 0 → bit_and (attributes bytes) 0x10 ≡ 0 → Clears form bytes 6
clear_transactional form bytes h m c z t = clears_next form bytes 5 (omega arith) (clear_compressed form bytes h m c z) (λ a. a t)

clear_control : (form : Form) (bytes : List ℕ) → HasSize bytes → magic bytes ≡ pos 2 → checksum bytes ≡ crc_of (checked_part bytes) →
    bit_and (attributes bytes) 0x7 ≡ 0 → bit_and (attributes bytes) 0x10 ≡ 0
    → bit_and (attributes bytes) 0x20 ≡ 0 → Clears form bytes 7
clear_control form bytes h m c z t k = clears_next form bytes 6 (omega arith) (clear_transactional form bytes h m c z t) (λ a. a k)

pub clear_fields : (form : Form) (bytes : List ℕ) → HasSize bytes → HasFields bytes → Clears form bytes 8
clear_fields form bytes h f = clears_next form bytes 7 (omega arith) (clear_control form bytes h f.0 f.1 f.2 f.3 f.4) (λ a. a f.5)

pub size_fault_first : (form : Form) (bytes : List ℕ) (f : BatchFault) → IsSizeFault bytes f → IsFirstFault form bytes f
size_fault_first form bytes TooLarge h = (h, (clears_none form bytes).none)
size_fault_first form bytes Short h = (h.1, (clear_large form bytes h.0).none)
size_fault_first form bytes BadMagic h = absurd h
size_fault_first form bytes BadCrc h = absurd h
size_fault_first form bytes Compressed h = absurd h
size_fault_first form bytes Transactional h = absurd h
size_fault_first form bytes Control h = absurd h
size_fault_first form bytes HasProducer h = absurd h
size_fault_first form bytes (BadRecord i) h = absurd h
size_fault_first form bytes BadDeltas h = absurd h

pub field_fault_first : (form : Form) (bytes : List ℕ) (f : BatchFault) → HasSize bytes → IsFieldFault bytes f → IsFirstFault form bytes f
field_fault_first form bytes TooLarge s h = absurd h
field_fault_first form bytes Short s h = absurd h
field_fault_first form bytes BadMagic s h = (h, (clear_size form bytes s).none)
field_fault_first form bytes BadCrc s h = (h.1, (clear_magic form bytes s h.0).none)
field_fault_first form bytes Compressed s h = (h.2, (clear_crc form bytes s h.0 h.1).none)
field_fault_first form bytes Transactional s h = (h.3, (clear_compressed form bytes s h.0 h.1 h.2).none)
field_fault_first form bytes Control s h = (h.4, (clear_transactional form bytes s h.0 h.1 h.2 h.3).none)
field_fault_first form bytes HasProducer s h = (h.5, (clear_control form bytes s h.0 h.1 h.2 h.3 h.4).none)
field_fault_first form bytes (BadRecord i) s h = absurd h
field_fault_first form bytes BadDeltas s h = absurd h

pub record_fault_first : (form : Form) (bytes : List ℕ) (i : ℕ) → HasSize bytes → HasFields bytes → Applies form bytes (BadRecord i) → IsFirstFault form bytes (BadRecord i)
record_fault_first form bytes i s f a = (a, (clear_fields form bytes s f).none)

-- where the records are records, the offsets are the last row
pub clear_records : (form : Form) (bytes : List ℕ) → HasSize bytes → HasFields bytes → ((i : ℕ) → Applies form bytes (BadRecord i) → ⊥) → Clears form bytes 9
clear_records form bytes s f none = record { none = go }
  where
    before : Clears form bytes 8
    before = clear_fields form bytes s f

    go : (other : BatchFault) → row other < 9 → Applies form bytes other → ⊥
    go (BadRecord i) h a = none i a
    go BadDeltas h a = absurd (omega arith)
    go TooLarge h a = before.none TooLarge (omega arith) a
    go Short h a = before.none Short (omega arith) a
    go BadMagic h a = before.none BadMagic (omega arith) a
    go BadCrc h a = before.none BadCrc (omega arith) a
    go Compressed h a = before.none Compressed (omega arith) a
    go Transactional h a = before.none Transactional (omega arith) a
    go Control h a = before.none Control (omega arith) a
    go HasProducer h a = before.none HasProducer (omega arith) a

pub delta_fault_first : (form : Form) (bytes : List ℕ) → HasSize bytes → HasFields bytes → ((i : ℕ) → Applies form bytes (BadRecord i) → ⊥) →
    Applies form bytes BadDeltas → IsFirstFault form bytes BadDeltas
delta_fault_first form bytes s f none a = (a, (clear_records form bytes s f none).none)
