-- Bytes have one first fault.
use Rattle.std.proofs.Common.{◌≡◌, ℕ, zero, suc, ◌+◌, ◌<◌, ◌≤◌, List, [], ◌∷◌, ◌++◌, length, inl, inr, refl, sym, ap, subst, ◌∙◌, append_assoc, arith}
use Rattle.std.proofs.lemmas.Bool.{cases_lt}
use Rattle.std.proofs.lemmas.Int.{ints}
use Rattle.share_model.specs.declared.fault.BatchFault.{BatchFault}
use Rattle.share_model.specs.declared.fault.BatchFault.TheVariants.{TooLarge, Short, BadMagic, BadCrc, Compressed, Transactional}
use Rattle.share_model.specs.declared.fault.BatchFault.TheVariants.{Control, HasProducer, BadRecord, BadDeltas}
use Rattle.flex_fields.specs.Grammar.{AreMany}
use Rattle.rec_batch.specs.declared.form.Form.{Form}
use Rattle.rec_batch.specs.Fields.{records_part}
use Rattle.rec_batch.specs.Grammar.{IsRecord, Record}
use Rattle.rec_batch.specs.Batches.{Applies, BeginsNoRecord, IsBadRecord, IsFirstFault, row}
use Rattle.rec_batch.proofs.Uniqueness.{same_first}

-- where more records stand in front, one begins behind fewer of them
one_begins : (qs rs : List Record) (content f x g y : List ℕ) → content ≡ f ++ x → content ≡ g ++ y → AreMany IsRecord f qs → AreMany IsRecord g rs →
    length qs < length rs → BeginsNoRecord x → ⊥
one_begins qs [] content f x g y e h s t few none = absurd (omega arith)
one_begins [] (r ∷ rs) content f x g y e h s t few none =
    none t.0 (t.1 ++ y) r (ap (λ l. l ++ x) (sym s) ∙ sym e ∙ h ∙ ap (λ l. l ++ y) t.4 ∙ append_assoc t.0 t.1 y) t.2
one_begins (q ∷ qs) (r ∷ rs) content f x g y e h s t few none =
    let left : content ≡ s.0 ++ (s.1 ++ x) = e ∙ ap (λ l. l ++ x) s.4 ∙ append_assoc s.0 s.1 x in
    let right : content ≡ t.0 ++ (t.1 ++ y) = h ∙ ap (λ l. l ++ y) t.4 ∙ append_assoc t.0 t.1 y in
    let same = same_first content s.0 t.0 (s.1 ++ x) (t.1 ++ y) q r s.2 t.2 left right in
    one_begins qs rs (s.1 ++ x) s.1 x t.1 y refl same.1 s.3 t.3 (omega arith) none

none_earlier : (content : List ℕ) (count i j : ℕ) → IsBadRecord content count i → IsBadRecord content count j → i < j → ⊥
none_earlier content count i j a b less =
    let within : j ≤ count = elim b.bad [ inl p ↦ omega (arith, p.0) | inr p ↦ omega (arith, p.0) ] in
    elim a.bad [
      | inl p ↦
          one_begins a.records b.records content a.front a.rest b.front b.rest a.parts b.parts a.before b.before
          (omega (arith, a.number, b.number)) p.1
      | inr p ↦ absurd (omega (arith, p.0, within))
    ]

one_index : (content : List ℕ) (count i j : ℕ) → IsBadRecord content count i → IsBadRecord content count j → i ≡ j
one_index content count i j a b =
    elim (cases_lt i j) [
      | inl p ↦ absurd (none_earlier content count i j a b p)
      | inr p ↦ elim (cases_lt j i) [ inl q ↦ absurd (none_earlier content count j i b a q) | inr q ↦ omega (arith, p, q) ]
    ]

one_bad : (form : Form) (bytes : List ℕ) (i j : ℕ) → Applies form bytes (BadRecord i) → Applies form bytes (BadRecord j) → i ≡ j
one_bad form bytes i j a b =
    elim a [
      | inl p ↦ elim b [ inl q ↦ omega (arith, p.1, q.1) | inr q ↦ absurd (omega (arith, ints, p.0, q.1)) ]
      | inr p ↦ elim b [
        | inl q ↦ absurd (omega (arith, ints, q.0, p.1))
        | inr q ↦
            let same : p.0 ≡ q.0 = omega (arith, ints, p.1, q.1) in
            one_index (records_part bytes) q.0 i j (subst (λ n. IsBadRecord (records_part bytes) n i) same p.2) q.2
      ]
    ]

-- a fault by its row and its index
abbrev index_of : BatchFault → ℕ
index_of (BadRecord i) = i
index_of other = 0

abbrev fault_of : ℕ → ℕ → BatchFault
fault_of zero i = TooLarge
fault_of (suc zero) i = Short
fault_of (suc (suc zero)) i = BadMagic
fault_of (suc (suc (suc zero))) i = BadCrc
fault_of (suc (suc (suc (suc zero)))) i = Compressed
fault_of (suc (suc (suc (suc (suc zero))))) i = Transactional
fault_of (suc (suc (suc (suc (suc (suc zero)))))) i = Control
fault_of (suc (suc (suc (suc (suc (suc (suc zero))))))) i = HasProducer
fault_of (suc (suc (suc (suc (suc (suc (suc (suc zero)))))))) i = BadRecord i
fault_of (suc (suc (suc (suc (suc (suc (suc (suc (suc k))))))))) i = BadDeltas

is_that : (f : BatchFault) → f ≡ fault_of (row f) (index_of f)
is_that TooLarge = refl
is_that Short = refl
is_that BadMagic = refl
is_that BadCrc = refl
is_that Compressed = refl
is_that Transactional = refl
is_that Control = refl
is_that HasProducer = refl
is_that (BadRecord i) = refl
is_that BadDeltas = refl

no_index : (f : BatchFault) → (row f ≡ 8 → ⊥) → index_of f ≡ 0
no_index TooLarge h = refl
no_index Short h = refl
no_index BadMagic h = refl
no_index BadCrc h = refl
no_index Compressed h = refl
no_index Transactional h = refl
no_index Control h = refl
no_index HasProducer h = refl
no_index (BadRecord i) h = absurd (h refl)
no_index BadDeltas h = refl

bad_record : (form : Form) (bytes : List ℕ) (f : BatchFault) → row f ≡ 8 → Applies form bytes f → Applies form bytes (BadRecord (index_of f))
bad_record form bytes f e a = subst (λ x. Applies form bytes x) (is_that f ∙ ap (λ n. fault_of n (index_of f)) e) a

same_index : (form : Form) (bytes : List ℕ) (f g : BatchFault) → row f ≡ row g → Applies form bytes f → Applies form bytes g → index_of f ≡ index_of g
same_index form bytes f g e a b =
    elim (cases_lt (row f) 8) [
      | inl p ↦ no_index f (λ h. absurd (omega (arith, h, p))) ∙ sym (no_index g (λ h. absurd (omega (arith, h, p, e))))
      | inr p ↦ elim (cases_lt 8 (row f)) [
        | inl q ↦ no_index f (λ h. absurd (omega (arith, h, q))) ∙ sym (no_index g (λ h. absurd (omega (arith, h, q, e))))
        | inr q ↦
            let eight : row f ≡ 8 = omega (arith, p, q) in
            one_bad form bytes (index_of f) (index_of g) (bad_record form bytes f eight a) (bad_record form bytes g (sym e ∙ eight) b)
      ]
    ]

same_row : (form : Form) (bytes : List ℕ) (f g : BatchFault) → row f ≡ row g → Applies form bytes f → Applies form bytes g → f ≡ g
same_row form bytes f g e a b =
    is_that f ∙ ap (λ n. fault_of n (index_of f)) e ∙ ap (λ i. fault_of (row g) i) (same_index form bytes f g e a b) ∙ sym (is_that g)

pub one_first_fault : (form : Form) (bytes : List ℕ) (f g : BatchFault) → IsFirstFault form bytes f → IsFirstFault form bytes g → f ≡ g
one_first_fault form bytes f g a b =
    elim (cases_lt (row f) (row g)) [
      | inl p ↦ absurd (b.1 f p a.0)
      | inr p ↦ elim (cases_lt (row g) (row f)) [
        | inl q ↦ absurd (a.1 g q b.0)
        | inr q ↦ same_row form bytes f g (omega (arith, p, q)) a.0 b.0
      ]
    ]
