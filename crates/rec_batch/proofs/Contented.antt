-- From what the pass over the records finds to the answer.
use Rattle.std.proofs.Common.{◌≡◌, ℕ, List, inl, inr, refl, sym, ap, subst, ◌∙◌, arith}
use Rattle.std.specs.Prelude.{ℤ, pos, negsuc, ◌≤ℤ◌, ◌<ℤ◌, Bool, true, false, Result, Ok, Err, IfErr, IsOk}
use Rattle.std.proofs.lemmas.Int.{ints}
use Rattle.share_model.specs.declared.fault.BatchFault.{BatchFault}
use Rattle.share_model.specs.declared.fault.BatchFault.TheVariants.{BadRecord, BadDeltas}
use Rattle.rec_batch.specs.declared.form.Form.{Form}
use Rattle.rec_batch.specs.declared.form.Form.TheVariants.{Produced, Stored}
use Rattle.rec_batch.specs.declared.form.BatchView.{BatchView}
use Rattle.rec_batch.specs.Fields.{last_offset_delta, record_count, records_part}
use Rattle.rec_batch.specs.Grammar.{Record}
use Rattle.rec_batch.specs.Batches.{Accepts, AreRecords, IsBadRecord, IsBatch, IsFirstFault, IsViewOf, OffsetsAgree, at_least_zero}
use Rattle.rec_batch.specs.Verdicts.{HasFields, HasSize, Walks}
use Rattle.rec_batch.proofs.FaultOrder.{delta_fault_first, record_fault_first}
use Rattle.rec_batch.proofs.Uniqueness.{batch_clear, none_bad}

-- the count is below 0
pub count_below : (form : Form) (bytes : List ℕ) → HasSize bytes → HasFields bytes → record_count bytes <ℤ pos 0 → IsFirstFault form bytes (BadRecord 0)
count_below form bytes s f h = record_fault_first form bytes 0 s f (inl (h, refl))

pub record_bad : (form : Form) (bytes : List ℕ) (count index : ℕ) → HasSize bytes → HasFields bytes → record_count bytes ≡ pos count →
    IsBadRecord (records_part bytes) count index → IsFirstFault form bytes (BadRecord index)
record_bad form bytes count index s f e h = record_fault_first form bytes index s f (inr (count, e, h))

abbrev are : (form : Form) (bytes : List ℕ) (count : ℕ) (follow : Bool) → record_count bytes ≡ pos count →
    (w : Walks form (last_offset_delta bytes) (records_part bytes) count follow) → AreRecords bytes w.0
are form bytes count follow e w = (e ∙ ap pos (sym w.1), w.2)

pub deltas_bad : (form : Form) (bytes : List ℕ) (count : ℕ) → HasSize bytes → HasFields bytes → record_count bytes ≡ pos count →
    Walks form (last_offset_delta bytes) (records_part bytes) count false → IsFirstFault form bytes BadDeltas
deltas_bad form bytes count s f e w =
    let r = are form bytes count false e w in delta_fault_first form bytes s f (none_bad form bytes w.0 r) (w.0, r, λ h. w.3 h.1)

pub header_bad : (form : Form) (bytes : List ℕ) (count : ℕ) (follow : Bool) → HasSize bytes → HasFields bytes → record_count bytes ≡ pos count →
    Walks form (last_offset_delta bytes) (records_part bytes) count follow → (OffsetsAgree form bytes count → ⊥)
    → IsFirstFault form bytes BadDeltas
header_bad form bytes count follow s f e w none =
    let r = are form bytes count follow e w in
    delta_fault_first form bytes s f (none_bad form bytes w.0 r) (w.0, r, λ h. none (subst (λ n. OffsetsAgree form bytes n) w.1 h.0))

-- the last delta isn't below 0
pub last_from_zero : (form : Form) (bytes : List ℕ) (count : ℕ) → OffsetsAgree form bytes count → pos 0 ≤ℤ last_offset_delta bytes
last_from_zero Produced bytes count h = omega (arith, ints, h.0, h.1)
last_from_zero Stored bytes count h = h.0

zero_or_more : (z : ℤ) → pos 0 ≤ℤ z → pos (at_least_zero z) ≡ z
zero_or_more (pos n) h = refl
zero_or_more (negsuc n) h = absurd (omega (arith, ints, h))

pub last_delta_is : (form : Form) (bytes : List ℕ) (count : ℕ) → OffsetsAgree form bytes count → pos (at_least_zero (last_offset_delta bytes)) ≡ last_offset_delta bytes
last_delta_is form bytes count agree = zero_or_more (last_offset_delta bytes) (last_from_zero form bytes count agree)

pub all_good : (form : Form) (bytes : List ℕ) (count : ℕ) (view : BatchView) → HasSize bytes → HasFields bytes → record_count bytes ≡ pos count →
    Walks form (last_offset_delta bytes) (records_part bytes) count true → OffsetsAgree form bytes count → IsViewOf bytes view → Accepts form bytes view
all_good form bytes count view s f e w agree v = (
  v,
  (
    w.0,
    record {
      size = s.0;
      header = s.1;
      whole = s.2;
      version = f.0;
      intact = f.1;
      uncompressed = f.2;
      no_transaction = f.3;
      no_control = f.4;
      no_producer = f.5;
      content = are form bytes count true e w;
      offsets = (subst (λ n. OffsetsAgree form bytes n) (sym w.1) agree, w.3);
    },
  ),
)

-- a batch isn't refused
pub only_from : (form : Form) (bytes : List ℕ) (result : Result BatchView BatchFault) → IfErr result (IsFirstFault form bytes) → (records : List Record) → IsBatch form bytes records → IsOk result
only_from form bytes (Ok view) h records b = refl
only_from form bytes (Err f) h records b = absurd (batch_clear form bytes records b f h.0)
