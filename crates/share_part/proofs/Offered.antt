-- The first available slot of a walk, and what an offer reads of a table.
use Rattle.std.proofs.Common.{◌≡◌, ◌∙◌, refl, sym, ap, subst, arith, cond, ℕ, zero, suc, ◌+◌, ◌-◌, ◌<◌, ◌≤◌, List, [], ◌∷◌, map, Option, Some, None, Bool, true, false, find, is_some, inl, inr, option_to_list, if◌then◌else◌, nat_eq}
use Rattle.std.specs.Prelude.{IsSome}
use Rattle.std.specs.List.{Contains}
use Rattle.std.specs.Option.{option_map}
use Rattle.share_model.specs.ForeignRules.{ShareStates, share_state_at, size_of}
use Rattle.share_model.specs.Held.{Held}
use Rattle.share_model.specs.Logs.{Batch, IsLog, IsSlot}
use Rattle.share_model.specs.ShareStates.{ShareState}
use Rattle.share_model.specs.declared.run.Run.{Run}
use Rattle.part_log.specs.Starts.{Log}
use Rattle.share_part.specs.Collecting.{AreSlots, LieAtSlots}
use Rattle.share_part.specs.Hosting.{PartConfParts, AreHeldWell, AreHosted, HoldsWell, key_of}
use Rattle.share_part.specs.Slots.{and_more, batch_at, covers, next_slot, slots_from}
use Rattle.share_part.specs.Tables.{Table, delivery_of}
use Rattle.share_part.specs.Offering.{least_available, offer_of, offered}
use Rattle.share_part.specs.Walks.{Walk, acquired, at_slot, begun, go_on, walked, with_batch, with_batch_of, with_slot}
use Rattle.share_part.proofs.Slotting.{covers_yes, next_is, slots_more, slots_none}
use Rattle.share_part.proofs.Producing.{behind_in, front_in}
use Rattle.share_part.proofs.Writing.{slot_of}

module _ (log : List Batch) (table : Table) where
  -- the first available one of so many slots from an offset on
  abbrev pub first_free : (left from : ℕ) → Option ℕ
  first_free left from = find (λ slot. is_some (delivery_of table slot)) (slots_from left log from)

  abbrev free_of : (more : ℕ) → Option ℕ → Option ℕ
  free_of more next = find (λ slot. is_some (delivery_of table slot)) (and_more next (λ slot. slots_from more log (slot + 1)))

  pub free_done : (left from : ℕ) → left ≡ 0 → first_free left from ≡ None
  free_done left from none = ap (λ (l : List ℕ). find (λ slot. is_some (delivery_of table slot)) l) (ap (λ (n : ℕ). slots_from n log from) none ∙ slots_none log from)

  free_step : (left more from : ℕ) → left ≡ suc more → first_free left from ≡ free_of more (next_slot log from)
  free_step left more from is = ap (λ (l : List ℕ). find (λ slot. is_some (delivery_of table slot)) l) (slots_more left more log from is)

  -- the log has no further slot
  pub free_exhausted : (left more from : ℕ) → left ≡ suc more → next_slot log from ≡ None → first_free left from ≡ None
  free_exhausted left more from is none = free_step left more from is ∙ ap (free_of more) none

  free_at : (more slot : ℕ) (out : Option ℕ) → delivery_of table slot ≡ out
      → free_of more (Some slot) ≡ cond (is_some out) (Some slot) (first_free more (slot + 1))
  free_at more slot out is = ap (λ (r : Option ℕ). cond (is_some r) (Some slot) (first_free more (slot + 1))) is

  -- the next slot is available
  free_found : (left more from slot count : ℕ) → left ≡ suc more → next_slot log from ≡ Some slot → delivery_of table slot ≡ Some count
      → first_free left from ≡ Some slot
  free_found left more from slot count is some out = free_step left more from is ∙ ap (free_of more) some ∙ free_at more slot (Some count) out

  pub free_here : (left more from slot : ℕ) (out : Option ℕ) → left ≡ suc more → next_slot log from ≡ Some slot → delivery_of table slot ≡ out
      → is_some out ≡ true → first_free left from ≡ Some slot
  free_here left more from slot None is some out free = absurd (let clash : ⊥ = cc in clash)
  free_here left more from slot (Some count) is some out free = free_found left more from slot count is some out

  module _ (sound : IsLog log) where
    slot_here : (slot : ℕ) → IsSlot log slot → next_slot log slot ≡ Some slot
    slot_here slot is = sym (next_is log slot (Some slot) sound (is, omega arith, λ o le there. le))

    from_slot : (left from slot : ℕ) → next_slot log from ≡ Some slot → IsSlot log slot → first_free left from ≡ first_free left slot
    from_slot zero from slot some is = free_done 0 from refl ∙ sym (free_done 0 slot refl)
    from_slot (suc more) from slot some is =
        free_step (suc more) more from refl ∙ ap (free_of more) (some ∙ sym (slot_here slot is)) ∙ sym (free_step (suc more) more slot refl)

    over : (n left slot : ℕ) → AreSlots log slot n → n ≤ left → ((o : ℕ) → slot ≤ o → o < slot + n → delivery_of table o ≡ None)
        → first_free left slot ≡ first_free (left - n) (slot + n)
    over zero left slot slots le none =
        let all : left ≡ left - 0 = omega arith in
        let at : slot ≡ slot + 0 = omega arith in
        λ i. first_free (all i) (at i)
    over (suc n) left slot slots le none =
        let first : IsSlot log slot = slots slot (omega arith) (omega arith) in
        let one : left ≡ suc (left - 1) = omega (arith, le) in
        let less : (left - 1) - n ≡ left - suc n = omega arith in
        let at : (slot + 1) + n ≡ slot + suc n = omega arith in
        free_step left (left - 1) slot one ∙ ap (free_of (left - 1)) (slot_here slot first)
        ∙ free_at (left - 1) slot None (none slot (omega arith) (omega arith))
        ∙ over n (left - 1) (slot + 1) (λ o lo hi. slots o (omega (arith, lo)) (omega (arith, hi))) (omega (arith, le))
        (λ o lo hi. none o (omega (arith, lo)) (omega (arith, hi)))
        ∙ (λ i. first_free (less i) (at i))

    -- none of so many slots is
    pub free_past : (left from slot n : ℕ) → next_slot log from ≡ Some slot → IsSlot log slot → n ≤ left
        → ((o : ℕ) → slot ≤ o → o < slot + n → IsSlot log o) → ((o : ℕ) → slot ≤ o → o < slot + n → delivery_of table o ≡ None)
        → first_free left from ≡ first_free (left - n) (slot + n)
    free_past left from slot n some is le slots none = from_slot left from slot some is ∙ over n left slot slots le none

pub none_of : (o : Option ℕ) → is_some o ≡ false → o ≡ None
none_of None not = refl
none_of (Some n) not = absurd (let clash : ⊥ = cc in clash)

-- what is held or stored of a table lies at slots
pub lie_known : (conf : PartConfParts) (log : Log) (states : ShareStates) (group : List ℕ) (state : ShareState) (held : Held)
    → share_state_at states (key_of conf group) ≡ Some state → AreHosted conf log states → IsLog log.batches
    → HoldsWell log.batches (share_state_at states (key_of conf group)) held → LieAtSlots log.batches state.runs held
lie_known conf log states group state held known hosted sound well =
    let theirs : AreHeldWell log.batches (size_of state.start) held = subst (λ (o : Option ShareState). HoldsWell log.batches o held) known well in
    record {
      held_at = λ o hold at. slot_of 2000 log.batches (size_of state.start) o sound (theirs o hold at).slot;
      stored_at = λ o row at. slot_of 2000 log.batches (size_of state.start) o sound ((hosted (key_of conf group) state known).rows o row at).slot;
    }

-- what is told of a table, read by its parts
pub offered_is : (log : List Batch) (its : Held) (found : Option ShareState) (state : ShareState) → found ≡ Some state → (start : ℕ) (rows : List Run) (held : Held)
    → start ≡ size_of state.start → rows ≡ state.runs → held ≡ its
    → (r : Option ℕ) → r ≡ least_available log (record { start = start; rows = rows; held = held }) → offered r ≡ offer_of log its found
offered_is log its found state is start rows held at are same r told =
    ap offered (told ∙ (λ i. least_available log (record { start = at i; rows = are i; held = same i }))) ∙ sym (ap (offer_of log its) is)

-- ---- a fetch of one record

-- a slot has its batch
covered : (log : List Batch) (o : ℕ) → IsSlot log o → IsSome (batch_at log o)
covered [] o is = absurd is
covered (b ∷ log) o is = by_test (covers b o) refl is (λ rest. covered log o rest)
  where
    by_test : (t : Bool) → covers b o ≡ t → IsSlot (b ∷ log) o → (IsSlot log o → IsSome (batch_at log o)) → IsSome (if t then Some b else batch_at log o)
    by_test true at is ih = refl
    by_test false at (inl c) ih = absurd (let clash : true ≡ false = sym (covers_yes b o c.0 c.1) ∙ at in let never : ⊥ = cc in never)
    by_test false at (inr rest) ih = ih rest

module _ (log : List Batch) (table : Table) (bytes : ℕ) where
  -- a walk that may take no further record takes none
  spent : (slots : List ℕ) (walk : Walk) → walk.records ≡ 0 → (walked log table slots walk).taken ≡ walk.taken
  spent [] walk none = refl
  spent (slot ∷ slots) walk none = by_out (delivery_of table slot) (spent slots walk none)
    where
      by_out : (out : Option ℕ) → (walked log table slots walk).taken ≡ walk.taken
          → (go_on walk (λ next. walked log table slots next) (at_slot walk slot (batch_at log slot) out)).taken ≡ walk.taken
      by_out None ih = ih
      by_out (Some count) ih = ap (λ (n : ℕ). (go_on walk (λ next. walked log table slots next)
          (if nat_eq n 0 then None else option_map (with_slot slot count) (with_batch_of walk slot (batch_at log slot)))).taken) none

  abbrev single : Walk
  single = begun (record { records = 1; bytes = bytes; first = true })

  taken_first : (slots : List ℕ) → ((o : ℕ) → Contains slots o → IsSlot log o)
      → map (λ t. t.0) (walked log table slots single).taken ≡ option_to_list (find (λ slot. is_some (delivery_of table slot)) slots)
  taken_first [] all = refl
  taken_first (slot ∷ slots) all =
      by_out (delivery_of table slot) (covered log slot (all slot (front_in slot slot slots refl))) (taken_first slots (λ o c. all o (behind_in slot o slots c)))
    where
      by_batch : (count : ℕ) (batch : Option Batch) → IsSome batch
          → map (λ t. t.0) (go_on single (λ next. walked log table slots next) (at_slot single slot batch (Some count))).taken ≡ slot ∷ []
      by_batch count None there = absurd (let never : ⊥ = cc in never)
      by_batch count (Some b) there = ap (map (λ (t : ℕ × ℕ). t.0)) (spent slots (with_slot slot count (with_batch single b)) refl)

      by_out : (out : Option ℕ) → IsSome (batch_at log slot)
          → map (λ t. t.0) (walked log table slots single).taken ≡ option_to_list (find (λ slot. is_some (delivery_of table slot)) slots)
          → map (λ t. t.0) (go_on single (λ next. walked log table slots next) (at_slot single slot (batch_at log slot) out)).taken
          ≡ option_to_list (cond (is_some out) (Some slot) (find (λ slot. is_some (delivery_of table slot)) slots))
      by_out None there ih = ih
      by_out (Some count) there ih = by_batch count (batch_at log slot) there

-- it takes the slot that is offered
pub taken_is_offered : (log : List Batch) (table : Table) (bytes : ℕ) → IsLog log
    → map (λ t. t.0) (acquired log table (record { records = 1; bytes = bytes; first = true })).taken ≡ option_to_list (least_available log table)
taken_is_offered log table bytes sound = taken_first log table bytes (slots_from 2000 log table.start) (λ o c. slot_of 2000 log table.start o sound c)
