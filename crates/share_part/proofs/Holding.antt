-- What the groups of a partition hold stays well.
use Rattle.std.proofs.Common.{◌≡◌, ⊎_elim, ◌∙◌, inl, inr, refl, sym, ap, subst, arith, ℕ, ◌+◌, ◌≤◌, List, [], ◌∷◌, ◌++◌, Option, Some, None, Bool, true, false, cond, nat_eq}
use Rattle.std.specs.Prelude.{is_none, nat_lt, unwrap_or, if◌then◌else◌}
use Rattle.std.specs.BTreeMap.{insert_entry, is_at}
use Rattle.std.specs.Cmp.{nat_cmp_total}
use Rattle.std.specs.Cmp.Lexicographic.{slice_cmp, nat_list_cmp_total}
use Rattle.std.specs.List.{AllByRecursion, Contains}
use Rattle.std.specs.Option.{option_map, option_or}
use Rattle.std.specs.Ordering.{nat_cmp}
use Rattle.std.proofs.lemmas.Map.Lookups.{exact_bytes, exact_unsigned}
use Rattle.share_model.specs.ForeignRules.{ShareStates, share_state_at, size_of}
use Rattle.share_model.specs.Held.{Held, hold_at}
use Rattle.share_model.specs.Keys.{KeyParts, key_cmp}
use Rattle.share_model.specs.Logs.{Batch, IsLog}
use Rattle.share_model.specs.Runs.{row_at}
use Rattle.share_model.specs.ShareStates.{ShareState}
use Rattle.share_model.specs.declared.ack.AckKind.{AckKind}
use Rattle.share_model.specs.declared.hold.Hold.{Hold}
use Rattle.share_model.specs.declared.row.Row.{Row}
use Rattle.share_model.specs.declared.row.RowState.{RowState}
use Rattle.share_model.specs.declared.row.RowState.TheVariants.{Available, Acknowledged, Archived}
use Rattle.share_part.specs.Hosting.{PartConfParts, KeepsHolds, key_of}
use Rattle.share_part.specs.Settling.{Acts, IsOpen, IsSettled, act_row, held_after, is_closed, is_closed_state, stored_after}
use Rattle.share_part.specs.Slots.{batch_at, slots_from}
use Rattle.share_part.specs.Tables.{MayGoOut, Table, delivery_of, one_more, stored_row, table_of, unless_held, with_holds}
use Rattle.share_part.specs.Shards.{held_in, with_held}
use Rattle.share_part.specs.Walks.{Walk, acquired, after_slot, at_slot, begun, fits, go_on, in_answer, new_batch, taking, walked, with_batch, with_batch_of, with_slot}
use Rattle.share_part.specs.declared.limits.Limits.{Limits}
use Rattle.share_part.proofs.Granting.{all_more}
use Rattle.share_part.proofs.Mapping.{at_is, at_self, keys_exact, keys_total, set_found, set_other}
use Rattle.share_part.proofs.Producing.{Grows, behind_in, contains_more, front_in}
use Rattle.share_part.proofs.Writing.{slot_of}
use Rattle.share_part.proofs.Staying.{later_slots, slot_from}

-- each group holds what it may
abbrev pub AreKept : PartConfParts → List Batch → ShareStates → (List ℕ → Held) → Type 0
AreKept conf log states held = (group : List ℕ) → KeepsHolds log (share_state_at states (key_of conf group)) (held group)

pub same_kept : (conf : PartConfParts) (log : List Batch) (states : ShareStates) (held after : List ℕ → Held) → ((group : List ℕ) → after group ≡ held group)
    → AreKept conf log states held → AreKept conf log states after
same_kept conf log states held after same k group = subst (KeepsHolds log (share_state_at states (key_of conf group))) (sym (same group)) (k group)

-- a record that may be held
record IsGood (log : List Batch) (state : ShareState) (offset count : ℕ) : Type 0 where
  slot : Contains (slots_from 2000 log (size_of state.start)) offset
  low : 1 ≤ count
  high : count ≤ 10
  free : (row : Row) → row_at state.runs offset ≡ Some row → row.state ≡ Available

abbrev AreGood : List Batch → ShareState → Held → Type 0
AreGood log state held = (o : ℕ) (hold : Hold) → hold_at held o ≡ Some hold → IsGood log state o hold.count

good_of : (log : List Batch) (state : ShareState) (held : Held) → KeepsHolds log (Some state) held → AreGood log state held
good_of log state held k o hold at =
    let w = k.0 o hold at in
    record { slot = w.slot; low = w.delivered.0; high = w.delivered.1; free = λ row is. k.1 o hold row at is }

of_good : (log : List Batch) (state : ShareState) (held : Held) → AreGood log state held → KeepsHolds log (Some state) held
of_good log state held g =
    (λ o hold at. record { slot = (g o hold at).slot; delivered = ((g o hold at).low, (g o hold at).high) }, λ o hold row at is. (g o hold at).free row is)

pub none_kept : (log : List Batch) (o : Option ShareState) → KeepsHolds log o []
none_kept log None = (refl, tt)
none_kept log (Some state) = (λ o hold at. absurd (let clash : ⊥ = cc in clash), λ o hold row at is. absurd (let clash : ⊥ = cc in clash))

pub empty_kept : {W : Type 0} (holding : W → Held) (conf : PartConfParts) (log : List Batch) (states : ShareStates) (windows : List (List ℕ × W)) → windows ≡ []
    → AreKept conf log states (held_in holding windows)
empty_kept {W} holding conf log states windows is group =
    subst (λ (w : List (List ℕ × W)). KeepsHolds log (share_state_at states (key_of conf group)) (held_in holding w group)) (sym is) (none_kept log (share_state_at states (key_of conf group)))

-- ---- a log that grows

grows_slot : (log more : List Batch) (from o : ℕ) → Grows log more → Contains (slots_from 2000 log from) o → Contains (slots_from 2000 more from) o
grows_slot log more from o (inl is) h = subst (λ (l : List Batch). Contains (slots_from 2000 l from) o) (sym is) h
grows_slot log more from o (inr g) h = subst (λ (l : List Batch). Contains (slots_from 2000 l from) o) (sym g.2) (contains_more 2000 log g.0 from o h)

kept_later : (log more : List Batch) (o : Option ShareState) (held : Held) → Grows log more → KeepsHolds log o held → KeepsHolds more o held
kept_later log more None held g k = k
kept_later log more (Some state) held g k = of_good more state held (λ o hold at.
    let h = good_of log state held k o hold at in
    record { slot = grows_slot log more (size_of state.start) o g h.slot; low = h.low; high = h.high; free = h.free })

pub all_later : (conf : PartConfParts) (log more : List Batch) (states : ShareStates) (held : List ℕ → Held) → Grows log more → AreKept conf log states held → AreKept conf more states held
all_later conf log more states held g k group = kept_later log more (share_state_at states (key_of conf group)) (held group) g (k group)

-- ---- more is held

abbrev hold_of : List ℕ → ℕ → ℕ → Hold
hold_of member end count = record { member = member; end = end; count = count }

hold_same : (a b : Hold) → ◌≡◌ {A = Option Hold} (Some a) (Some b) → a ≡ b
hold_same a b e = cc

module _ (log : List Batch) (state : ShareState) where
  abbrev AllGood : List (ℕ × ℕ) → Type 0
  AllGood taken = AllByRecursion (λ (t : ℕ × ℕ). IsGood log state t.0 t.1) taken

  one_good : (held : Held) (offset : ℕ) (new : Hold) → IsGood log state offset new.count → AreGood log state held → (p : ℕ) (its : Hold)
      → hold_at (insert_entry nat_cmp held offset new) p ≡ Some its → (b : Bool) → is_at (nat_cmp p) offset ≡ b → IsGood log state p its.count
  one_good held offset new good g p its is true same =
      let one : p ≡ offset = at_is nat_cmp nat_cmp_total exact_unsigned p offset same in
      let found : hold_at (insert_entry nat_cmp held offset new) offset ≡ Some its = subst (λ (k : ℕ). hold_at (insert_entry nat_cmp held offset new) k ≡ Some its) one is in
      let value : new ≡ its = hold_same new its (sym (set_found nat_cmp nat_cmp_total exact_unsigned offset new held) ∙ found) in
      subst (λ (h : Hold). IsGood log state p h.count) value (subst (λ (k : ℕ). IsGood log state k new.count) (sym one) good)
  one_good held offset new good g p its is false apart = g p its (sym (set_other nat_cmp nat_cmp_total exact_unsigned offset new p apart held) ∙ is)

  held_good : (member : List ℕ) (end : ℕ) (taken : List (ℕ × ℕ)) (held : Held) → AllGood taken → AreGood log state held → AreGood log state (with_holds member end taken held)
  held_good member end [] held all g = g
  held_good member end (t ∷ taken) held all g =
      held_good member end taken (insert_entry nat_cmp held t.0 (hold_of member end t.1)) all.1
      (λ p its is. one_good held t.0 (hold_of member end t.1) all.0 g p its is (is_at (nat_cmp p) t.0) refl)

  module _ (held : Held) (out : MayGoOut state.runs) where
    abbrev table : Table
    table = table_of state held

    by_state : (s : RowState) (n count : ℕ) → one_more s n ≡ Some count → (s ≡ Available) × (n + 1 ≡ count)
    by_state Available n count e = (refl, (let same : n + 1 ≡ count = cc in same))
    by_state Acknowledged n count e = absurd (let clash : ⊥ = cc in clash)
    by_state Archived n count e = absurd (let clash : ⊥ = cc in clash)

    row_good : (slot count : ℕ) → Contains (slots_from 2000 log (size_of state.start)) slot → (r : Option Row) → row_at state.runs slot ≡ r
        → one_more (unwrap_or r (record { state = Available; count = 0 })).state (unwrap_or r (record { state = Available; count = 0 })).count ≡ Some count → IsGood log state slot count
    row_good slot count within None none e =
        let is : 0 + 1 ≡ count = (by_state Available 0 count e).1 in
        record { slot = within; low = omega (arith, is); high = omega (arith, is); free = λ row at. absurd (let clash : ⊥ = cc in clash) }
    row_good slot count within (Some its) there e =
        let b = by_state its.state its.count count e in
        let few : its.count ≤ 9 = out slot its there b.0 in
        let is : its.count + 1 ≡ count = b.1 in
        record {
          slot = within;
          low = omega (arith, is);
          high = omega (arith, is, few);
          free = λ row at. let same : its ≡ row = row_same its row (sym there ∙ at) in ap (λ (r : Row). r.state) (sym same) ∙ b.0;
        }
      where
        row_same : (a b : Row) → ◌≡◌ {A = Option Row} (Some a) (Some b) → a ≡ b
        row_same a b e = cc

    delivery_good : (slot count : ℕ) → Contains (slots_from 2000 log (size_of state.start)) slot → (h : Option Hold) → unless_held h (stored_row table slot) ≡ Some count → IsGood log state slot count
    delivery_good slot count within (Some hold) e = absurd (let clash : ⊥ = cc in clash)
    delivery_good slot count within None e = row_good slot count within (row_at state.runs slot) refl e

    walk_same : (a b : Walk) → ◌≡◌ {A = Option Walk} (Some a) (Some b) → a ≡ b
    walk_same a b e = cc

    batch_taken : (walk : Walk) (slot : ℕ) (batch : Option Batch) (next : Walk) → with_batch_of walk slot batch ≡ Some next → next.taken ≡ walk.taken
    batch_taken walk slot batch next e = by_test (in_answer walk.newest slot) e
      where
        by_fit : (b : Batch) (f : Bool) → (if f then Some (with_batch walk b) else None) ≡ Some next → next.taken ≡ walk.taken
        by_fit b true e = ap (λ (w : Walk). w.taken) (sym (walk_same (with_batch walk b) next e))
        by_fit b false e = absurd (let clash : ⊥ = cc in clash)

        by_batch : (o : Option Batch) → new_batch walk o ≡ Some next → next.taken ≡ walk.taken
        by_batch None e = absurd (let clash : ⊥ = cc in clash)
        by_batch (Some b) e = by_fit b (fits walk b) e

        by_test : (t : Bool) → (if t then Some walk else new_batch walk batch) ≡ Some next → next.taken ≡ walk.taken
        by_test true e = ap (λ (w : Walk). w.taken) (sym (walk_same walk next e))
        by_test false e = by_batch batch e

    slot_taken : (walk : Walk) (slot count : ℕ) (batch : Option Batch) (next : Walk) → taking walk slot count batch ≡ Some next → next.taken ≡ walk.taken ++ (slot, count) ∷ []
    slot_taken walk slot count batch next e = by_test (nat_eq walk.records 0) e
      where
        by_walk : (o : Option Walk) → with_batch_of walk slot batch ≡ o → option_map (with_slot slot count) o ≡ Some next → next.taken ≡ walk.taken ++ (slot, count) ∷ []
        by_walk None is e = absurd (let clash : ⊥ = cc in clash)
        by_walk (Some w) is e = ap (λ (w : Walk). w.taken) (sym (walk_same (with_slot slot count w) next e)) ∙ ap (λ (l : List (ℕ × ℕ)). l ++ (slot, count) ∷ []) (batch_taken walk slot batch w is)

        by_test : (t : Bool) → (if t then None else option_map (with_slot slot count) (with_batch_of walk slot batch)) ≡ Some next → next.taken ≡ walk.taken ++ (slot, count) ∷ []
        by_test true e = absurd (let clash : ⊥ = cc in clash)
        by_test false e = by_walk (with_batch_of walk slot batch) refl e

    next_good : (walk : Walk) (slot : ℕ) (next : Walk) → Contains (slots_from 2000 log (size_of state.start)) slot → AllGood walk.taken
        → (d : Option ℕ) → delivery_of table slot ≡ d → at_slot walk slot (batch_at log slot) d ≡ Some next → AllGood next.taken
    next_good walk slot next within all None none e = subst (λ (w : Walk). AllGood w.taken) (walk_same walk next e) all
    next_good walk slot next within all (Some count) some e =
        subst AllGood (sym (slot_taken walk slot count (batch_at log slot) next e))
        (all_more (λ (t : ℕ × ℕ). IsGood log state t.0 t.1) walk.taken (slot, count) all (delivery_good slot count within (hold_at held slot) some))

    walk_good : (slots : List ℕ) (walk : Walk) → ((o : ℕ) → Contains slots o → Contains (slots_from 2000 log (size_of state.start)) o) → AllGood walk.taken
        → AllGood (walked log table slots walk).taken
    walk_good [] walk within all = all
    walk_good (slot ∷ slots) walk within all = by_step (after_slot log table walk slot) refl
        (λ next good. walk_good slots next (λ o c. within o (behind_in slot o slots c)) good)
      where
        by_step : (r : Option Walk) → after_slot log table walk slot ≡ r → ((next : Walk) → AllGood next.taken → AllGood (walked log table slots next).taken)
            → AllGood (go_on walk (λ next. walked log table slots next) r).taken
        by_step None is ih = all
        by_step (Some next) is ih = ih next (next_good walk slot next (within slot (front_in slot slot slots refl)) all (delivery_of table slot) refl is)

pub kept_taken : (log : List Batch) (state : ShareState) (held : Held) (member : List ℕ) (end : ℕ) (limits : Limits) → MayGoOut state.runs → KeepsHolds log (Some state) held
    → KeepsHolds log (Some state) (with_holds member end (acquired log (table_of state held) limits).taken held)
kept_taken log state held member end limits out k =
    of_good log state (with_holds member end (acquired log (table_of state held) limits).taken held)
    (held_good log state member end (acquired log (table_of state held) limits).taken held
    (walk_good log state held out (slots_from 2000 log (size_of state.start)) (begun limits) (λ o c. c) tt) (good_of log state held k))

-- ---- the states of other groups

keys_apart : (conf : PartConfParts) (group other : List ℕ) → is_at (slice_cmp nat_cmp group) other ≡ false → is_at (key_cmp (key_of conf other)) (key_of conf group) ≡ false
keys_apart conf group other apart = by_test (is_at (key_cmp (key_of conf other)) (key_of conf group)) refl
  where
    by_test : (b : Bool) → is_at (key_cmp (key_of conf other)) (key_of conf group) ≡ b → b ≡ false
    by_test true same =
        let one : other ≡ group = ap (λ (k : KeyParts). k.group) (at_is key_cmp keys_total keys_exact (key_of conf other) (key_of conf group) same) in
        let self : is_at (slice_cmp nat_cmp group) other ≡ true = subst (λ (g : List ℕ). is_at (slice_cmp nat_cmp group) g ≡ true) (sym one) (at_self (slice_cmp nat_cmp) nat_list_cmp_total exact_bytes group) in
        absurd (let clash : ⊥ = cc in clash)
    by_test false same = refl

module _ (conf : PartConfParts) (log : List Batch) (states : ShareStates) (held : List ℕ → Held) (group : List ℕ) where
  group_is : (other : List ℕ) → is_at (slice_cmp nat_cmp group) other ≡ true → group ≡ other
  group_is other same = at_is (slice_cmp nat_cmp) nat_list_cmp_total exact_bytes group other same

  -- other holds of one group
  pub one_kept : (its : Held) → AreKept conf log states held → KeepsHolds log (share_state_at states (key_of conf group)) its → AreKept conf log states (with_held held group its)
  one_kept its k new other = by_test (is_at (slice_cmp nat_cmp group) other) refl
    where
      by_test : (b : Bool) → is_at (slice_cmp nat_cmp group) other ≡ b → KeepsHolds log (share_state_at states (key_of conf other)) (if b then its else held other)
      by_test true same = subst (λ (g : List ℕ). KeepsHolds log (share_state_at states (key_of conf g)) its) (group_is other same) new
      by_test false apart = k other

  -- another state and other holds of one group
  pub set_kept : (next : ShareState) (its : Held) → AreKept conf log states held → KeepsHolds log (Some next) its
      → AreKept conf log (insert_entry key_cmp states (key_of conf group) next) (with_held held group its)
  set_kept next its k new other = by_test (is_at (slice_cmp nat_cmp group) other) refl
    where
      by_test : (b : Bool) → is_at (slice_cmp nat_cmp group) other ≡ b
          → KeepsHolds log (share_state_at (insert_entry key_cmp states (key_of conf group) next) (key_of conf other)) (if b then its else held other)
      by_test true same =
          let found : share_state_at (insert_entry key_cmp states (key_of conf group) next) (key_of conf other) ≡ Some next =
          subst (λ (g : List ℕ). share_state_at (insert_entry key_cmp states (key_of conf group) next) (key_of conf g) ≡ Some next) (group_is other same)
          (set_found key_cmp keys_total keys_exact (key_of conf group) next states) in
          subst (λ (o : Option ShareState). KeepsHolds log o its) (sym found) new
      by_test false apart = subst (λ (o : Option ShareState). KeepsHolds log o (held other))
          (sym (set_other key_cmp keys_total keys_exact (key_of conf group) next (key_of conf other) (keys_apart conf group other apart) states)) (k other)

  same_held : (other : List ℕ) (b : Bool) → is_at (slice_cmp nat_cmp group) other ≡ b → held other ≡ (if b then held group else held other)
  same_held other true same = ap held (sym (group_is other same))
  same_held other false apart = refl

  -- another state of one group
  pub table_kept : (next : ShareState) → AreKept conf log states held → KeepsHolds log (Some next) (held group)
      → AreKept conf log (insert_entry key_cmp states (key_of conf group) next) held
  table_kept next k new = same_kept conf log (insert_entry key_cmp states (key_of conf group) next) (with_held held group (held group)) held
      (λ other. same_held other (is_at (slice_cmp nat_cmp group) other) refl) (set_kept next (held group) k new)

-- ---- acts

none_is : (a : Option AckKind) → is_none a ≡ true → a ≡ None
none_is None e = refl
none_is (Some kind) e = absurd (let clash : ⊥ = cc in clash)

pub left_held : (acts : Acts) (held : Held) (o : ℕ) (hold : Hold) → hold_at (held_after acts held) o ≡ Some hold → (hold_at held o ≡ Some hold) × (acts o ≡ None)
left_held acts [] o hold at = absurd (let clash : ⊥ = cc in clash)
left_held acts (e ∷ held) o hold at = by_tests (is_none (acts e.0)) refl (is_at (nat_cmp o) e.0) refl at (left_held acts held o hold)
  where
    by_tests : (p : Bool) → is_none (acts e.0) ≡ p → (t : Bool) → is_at (nat_cmp o) e.0 ≡ t
        → hold_at (cond p (e ∷ held_after acts held) (held_after acts held)) o ≡ Some hold
        → (hold_at (held_after acts held) o ≡ Some hold → (hold_at held o ≡ Some hold) × (acts o ≡ None))
        → (cond (is_at (nat_cmp o) e.0) (Some e.1) (hold_at held o) ≡ Some hold) × (acts o ≡ None)
    by_tests true p true t at ih =
        let one : o ≡ e.0 = at_is nat_cmp nat_cmp_total exact_unsigned o e.0 t in
        let is : Some e.1 ≡ Some hold = sym (ap (λ (b : Bool). cond b (Some e.1) (hold_at (held_after acts held) o)) t) ∙ at in
        (ap (λ (b : Bool). cond b (Some e.1) (hold_at held o)) t ∙ is, ap acts one ∙ none_is (acts e.0) p)
    by_tests true p false t at ih =
        let r = ih (sym (ap (λ (b : Bool). cond b (Some e.1) (hold_at (held_after acts held) o)) t) ∙ at) in
        (ap (λ (b : Bool). cond b (Some e.1) (hold_at held o)) t ∙ r.0, r.1)
    by_tests false p true t at ih =
        let one : o ≡ e.0 = at_is nat_cmp nat_cmp_total exact_unsigned o e.0 t in
        let none : is_none (acts e.0) ≡ true = ap (λ (x : ℕ). is_none (acts x)) (sym one) ∙ ap is_none (ih at).1 in
        absurd (let clash : ⊥ = cc in clash)
    by_tests false p false t at ih =
        let r = ih at in
        (ap (λ (b : Bool). cond b (Some e.1) (hold_at held o)) t ∙ r.0, r.1)

closed_not : (r : Option Row) → ((row : Row) → r ≡ Some row → row.state ≡ Available) → is_closed r ≡ false
closed_not None free = refl
closed_not (Some row) free = ap is_closed_state (free row refl)

unless : (t : Bool) (a : Option Row) (row : Row) → (if t then None else a) ≡ Some row → a ≡ Some row
unless true a row e = absurd (let clash : ⊥ = cc in clash)
unless false a row e = e

pub kept_settled : (limit : ℕ) (acts : Acts) (log : List Batch) (state next : ShareState) (held : Held) → IsLog log → IsSettled limit acts log (table_of state held) next
    → KeepsHolds log (Some state) held → KeepsHolds log (Some next) (held_after acts held)
kept_settled limit acts log state next held is_log s k = of_good log next (held_after acts held) (λ o hold at.
    let l = left_held acts held o hold at in
    let h = good_of log state held k o hold l.0 in
    let stored : stored_after limit acts (table_of state held) o ≡ row_at state.runs o =
    ap (λ (a : Option AckKind). option_or (act_row limit a (hold_at held o)) (row_at state.runs o)) l.1 in
    let opened : IsOpen log (stored_after limit acts (table_of state held)) o = record {
      slot = slot_of 2000 log (size_of state.start) o is_log h.slot;
      open_is = ap is_closed stored ∙ closed_not (row_at state.runs o) h.free;
    } in
    let from : size_of state.start ≤ o = slot_from 2000 log (size_of state.start) o is_log h.slot in
    let starts : (size_of state.start ≤ s.start) × (s.start ≤ o) = ⊎_elim (λ x. (x.1, x.2 o from opened)) (λ x. absurd (x.1 o from opened)) s.start_is in
    record {
      slot = subst (λ (z : ℕ). Contains (slots_from 2000 log z) o) (sym (ap size_of s.start_told)) (later_slots 2000 log (size_of state.start) s.start o is_log starts.0 starts.1 h.slot);
      low = h.low;
      high = h.high;
      free = λ row is. h.free row (sym stored ∙ unless (nat_lt o s.start) (stored_after limit acts (table_of state held) o) row (sym (s.rows o) ∙ is));
    })
