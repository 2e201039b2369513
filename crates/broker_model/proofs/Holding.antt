-- What a call on a partition does to the hold of one record.
use Rattle.std.proofs.Common.{max, ◌≡◌, ◌≢◌, ◌⊎◌, ◌≤◌, ◌<◌, ◌+◌, ◌-◌, inl, inr, ⊎_elim, refl, sym, ap, ◌∙◌, subst, arith, ℕ, zero, suc, List, [], ◌∷◌, ◌++◌, Bool, true, false, cond, Option, Some, None, if◌then◌else◌}
use Rattle.std.proofs.lemmas.Bool.{true≢false}
use Rattle.std.proofs.lemmas.Map.Lookups.{exact_bytes, exact_unsigned}
use Rattle.std.specs.Prelude.{is_none, nat_eq, nat_le}
use Rattle.std.specs.Option.{option_map}
use Rattle.std.specs.BTreeMap.{insert_entry, is_at}
use Rattle.std.specs.Cmp.{nat_cmp_total}
use Rattle.std.specs.Cmp.Lexicographic.{slice_cmp, nat_list_cmp_total}
use Rattle.std.specs.List.{AllByRecursion}
use Rattle.std.specs.Ordering.{nat_cmp}
use Rattle.share_model.specs.Held.{Held, hold_at}
use Rattle.share_model.specs.Logs.{Batch}
use Rattle.share_model.specs.declared.ack.AckKind.{AckKind}
use Rattle.share_model.specs.declared.fault.StoreFault.{StoreFault}
use Rattle.share_model.specs.declared.fault.StoreFault.TheVariants.{Device, Full}
use Rattle.share_model.specs.declared.hold.Grant.{Grant}
use Rattle.share_model.specs.declared.hold.Hold.{Hold}
use Rattle.share_part.specs.Acknowledging.{StoresActs}
use Rattle.share_part.specs.Hosting.{PartConfParts}
use Rattle.share_part.specs.Settling.{Acts, held_after}
use Rattle.share_part.specs.Shards.{PartShardState, with_held}
use Rattle.share_part.specs.Slots.{and_more, batch_at, next_slot, slots_from}
use Rattle.share_part.specs.Tables.{Table, delivery_of, stored_row, unless_held, with_holds}
use Rattle.share_part.specs.Walks.{AreRunsOf, Walk, acquired, after_slot, at_slot, begun, fits, go_on, in_answer, new_batch, offsets_with, taking, walked, with_batch, with_batch_of, with_slot, written_out}
use Rattle.share_part.specs.declared.limits.Limits.{Limits}
use Rattle.broker_model.proofs.Lists.{IsOf, none_not, of_front, of_rest, some_same}
use Rattle.broker_model.proofs.Maps.{at_is, at_self, set_found, set_other}

-- ---- the holds of a group

pub group_self : (group : List ℕ) → is_at (slice_cmp nat_cmp group) group ≡ true
group_self group = at_self (slice_cmp nat_cmp) nat_list_cmp_total exact_bytes group

pub group_is : (group other : List ℕ) → is_at (slice_cmp nat_cmp group) other ≡ true → group ≡ other
group_is group other same = at_is (slice_cmp nat_cmp) nat_list_cmp_total exact_bytes group other same

pub its_held : (held : List ℕ → Held) (group : List ℕ) (its : Held) → with_held held group its group ≡ its
its_held held group its = ap (λ (b : Bool). if b then its else held group) (group_self group)

-- those of this group, or of another one
pub one_of_two : (held : List ℕ → Held) (group : List ℕ) (its : Held) (other : List ℕ)
    → ((group ≡ other) × (with_held held group its other ≡ its)) ⊎ (with_held held group its other ≡ held other)
one_of_two held group its other = go (is_at (slice_cmp nat_cmp group) other) refl where
  go : (b : Bool) → is_at (slice_cmp nat_cmp group) other ≡ b
      → ((group ≡ other) × (with_held held group its other ≡ its)) ⊎ (with_held held group its other ≡ held other)
  go true same = inl (group_is group other same, ap (λ (b : Bool). if b then its else held other) same)
  go false away = inr (ap (λ (b : Bool). if b then its else held other) away)

-- ---- acts end holds

pub acts_hold : (acts : Acts) (held : Held) (o : ℕ) → hold_at (held_after acts held) o ≡ (if is_none (acts o) then hold_at held o else None)
acts_hold acts [] o = go (is_none (acts o)) where
  go : (b : Bool) → ◌≡◌ {A = Option Hold} None (if b then None else None)
  go true = refl
  go false = refl
acts_hold acts (e ∷ held) o = go (is_none (acts e.0)) refl (is_at (nat_cmp o) e.0) refl (acts_hold acts held o) where
  go : (p : Bool) → is_none (acts e.0) ≡ p → (t : Bool) → is_at (nat_cmp o) e.0 ≡ t
      → hold_at (held_after acts held) o ≡ (if is_none (acts o) then hold_at held o else None)
      → hold_at (cond p (e ∷ held_after acts held) (held_after acts held)) o ≡ (if is_none (acts o) then hold_at (e ∷ held) o else None)
  go true p true t ih =
      let one : o ≡ e.0 = at_is nat_cmp nat_cmp_total exact_unsigned o e.0 t in
      let free : is_none (acts o) ≡ true = ap (λ (x : ℕ). is_none (acts x)) one ∙ p in
      ap (λ (b : Bool). cond b (Some e.1) (hold_at (held_after acts held) o)) t
      ∙ sym (ap (λ (b : Bool). if b then hold_at (e ∷ held) o else None) free ∙ ap (λ (b : Bool). cond b (Some e.1) (hold_at held o)) t)
  go true p false t ih =
      ap (λ (b : Bool). cond b (Some e.1) (hold_at (held_after acts held) o)) t ∙ ih
      ∙ sym (ap (λ (b : Bool). if is_none (acts o) then cond b (Some e.1) (hold_at held o) else None) t)
  go false p true t ih =
      let one : o ≡ e.0 = at_is nat_cmp nat_cmp_total exact_unsigned o e.0 t in
      let busy : is_none (acts o) ≡ false = ap (λ (x : ℕ). is_none (acts x)) one ∙ p in
      ih ∙ ap (λ (b : Bool). if b then hold_at held o else None) busy ∙ sym (ap (λ (b : Bool). if b then hold_at (e ∷ held) o else None) busy)
  go false p false t ih =
      ih ∙ sym (ap (λ (b : Bool). if is_none (acts o) then cond b (Some e.1) (hold_at held o) else None) t)

-- the hold of a record in a shard
abbrev pub hold_in : PartShardState → List ℕ → ℕ → Option Hold
hold_in p group o = hold_at (p.held group) o

-- acts of this group that are stored and name the record
pub record EndsHold (group : List ℕ) (acts : Acts) (fault : Option StoreFault) (b : PartShardState) (other : List ℕ) (o : ℕ) : Type 0 where
  pub stored : fault ≡ None
  pub group_is : group ≡ other
  pub kind : AckKind
  pub named : acts o ≡ Some kind
  pub free : hold_in b other o ≡ None

-- acts leave the hold of a record, or are stored and end it
pub stores_hold : (conf : PartConfParts) (rose : Type 0) (end : ℕ) (a : PartShardState) (group : List ℕ) (acts : Acts) (b : PartShardState) (fault : Option StoreFault)
    → StoresActs conf rose end a group acts b fault → (other : List ℕ) (o : ℕ)
    → (hold_in b other o ≡ hold_in a other o) ⊎ EndsHold group acts fault b other o
stores_hold conf rose end a group acts b (Some Device) p other o = inl (ap (λ (h : List ℕ → Held). hold_at (h other) o) p.2.held)
stores_hold conf rose end a group acts b (Some (Full at)) p other o = inl (ap (λ (h : List ℕ → Held). hold_at (h other) o) p.2.held)
stores_hold conf rose end a group acts b None (inl p) other o = inl (ap (λ (h : List ℕ → Held). hold_at (h other) o) p.1.held)
stores_hold conf rose end a group acts b None (inr p) other o = ⊎_elim
    (λ its. by_act (acts o) refl its.0 (same ∙ ap (λ (h : Held). hold_at h o) its.1 ∙ acts_hold acts (a.held group) o))
    (λ away. inl (same ∙ ap (λ (h : Held). hold_at h o) away))
    (one_of_two a.held group (held_after acts (a.held group)) other)
  where
    same : hold_in b other o ≡ hold_at (with_held a.held group (held_after acts (a.held group)) other) o
    same = ap (λ (h : List ℕ → Held). hold_at (h other) o) p.1.held

    by_act : (k : Option AckKind) → acts o ≡ k → group ≡ other → hold_in b other o ≡ (if is_none (acts o) then hold_at (a.held group) o else None)
        → (hold_in b other o ≡ hold_in a other o) ⊎ EndsHold group acts None b other o
    by_act None none one is = inl (is ∙ ap (λ (k : Option AckKind). if is_none k then hold_at (a.held group) o else None) none ∙ ap (λ (g : List ℕ). hold_in a g o) one)
    by_act (Some kind) some one is = inr (record {
      stored = refl;
      group_is = one;
      kind = kind;
      named = some;
      free = is ∙ ap (λ (k : Option AckKind). if is_none k then hold_at (a.held group) o else None) some;
    })

-- ---- a fetch takes what is held by nobody

-- what may be delivered is held by nobody
held_no_more : (h : Option Hold) (table : Table) (o count : ℕ) → unless_held h (stored_row table o) ≡ Some count → h ≡ None
held_no_more None table o count e = refl
held_no_more (Some hold) table o count e = absurd (none_not count e)

free_hold : (table : Table) (o count : ℕ) → delivery_of table o ≡ Some count → hold_at table.held o ≡ None
free_hold table o count e = held_no_more (hold_at table.held o) table o count e

next_later : (log : List Batch) (from slot : ℕ) → next_slot log from ≡ Some slot → from ≤ slot
next_later [] from slot e = absurd (none_not slot e)
next_later (b ∷ log) from slot e = go (nat_le from b.last) e (next_later log from slot) where
  go : (t : Bool) → (if t then Some (max from b.base) else next_slot log from) ≡ Some slot → (next_slot log from ≡ Some slot → from ≤ slot) → from ≤ slot
  go true e ih = let is : max from b.base ≡ slot = some_same (max from b.base) slot e in omega (arith, is)
  go false e ih = ih e

-- slots from an offset on aren't below it
slots_later : (n : ℕ) (log : List Batch) (low from : ℕ) → low ≤ from → AllByRecursion (λ (slot : ℕ). low ≤ slot) (slots_from n log from)
unfolding slots_from
slots_later zero log low from le = tt
slots_later (suc n) log low from le = go (next_slot log from) refl (λ slot more. slots_later n log low (slot + 1) more) where
  go : (o : Option ℕ) → next_slot log from ≡ o → ((slot : ℕ) → low ≤ slot + 1 → AllByRecursion (λ (s : ℕ). low ≤ s) (slots_from n log (slot + 1)))
      → AllByRecursion (λ (s : ℕ). low ≤ s) (and_more o (λ slot. slots_from n log (slot + 1)))
  go None is ih = tt
  go (Some slot) is ih =
      let later = next_later log from slot is in
      (omega (arith, le, later), ih slot (omega (arith, le, later)))

module _ (log : List Batch) (table : Table) where
  -- each offset lies from the start on, is available, and is taken with its delivery count
  abbrev pub IsFree : ℕ × ℕ → Type 0
  IsFree t = (delivery_of table t.0 ≡ Some t.1) × (table.start ≤ t.0)

  abbrev AreFree : List (ℕ × ℕ) → Type 0
  AreFree taken = AllByRecursion IsFree taken

  free_more : (xs : List (ℕ × ℕ)) (slot count : ℕ) → AreFree xs → IsFree (slot, count) → AreFree (xs ++ (slot, count) ∷ [])
  free_more [] slot count all is = (is, tt)
  free_more (x ∷ xs) slot count all is = (all.0, free_more xs slot count all.1 is)

  batch_taken : (walk : Walk) (slot : ℕ) (batch : Option Batch) (next : Walk) → with_batch_of walk slot batch ≡ Some next → next.taken ≡ walk.taken
  batch_taken walk slot batch next e = by_test (in_answer walk.newest slot) e where
    by_fit : (b : Batch) (f : Bool) → (if f then Some (with_batch walk b) else None) ≡ Some next → next.taken ≡ walk.taken
    by_fit b true e = ap (λ (w : Walk). w.taken) (sym (some_same (with_batch walk b) next e))
    by_fit b false e = absurd (none_not next e)

    by_batch : (o : Option Batch) → new_batch walk o ≡ Some next → next.taken ≡ walk.taken
    by_batch None e = absurd (none_not next e)
    by_batch (Some b) e = by_fit b (fits walk b) e

    by_test : (t : Bool) → (if t then Some walk else new_batch walk batch) ≡ Some next → next.taken ≡ walk.taken
    by_test true e = ap (λ (w : Walk). w.taken) (sym (some_same walk next e))
    by_test false e = by_batch batch e

  slot_taken : (walk : Walk) (slot count : ℕ) (batch : Option Batch) (next : Walk) → taking walk slot count batch ≡ Some next → next.taken ≡ walk.taken ++ (slot, count) ∷ []
  slot_taken walk slot count batch next e = by_test (nat_eq walk.records 0) e where
    by_walk : (o : Option Walk) → with_batch_of walk slot batch ≡ o → option_map (with_slot slot count) o ≡ Some next → next.taken ≡ walk.taken ++ (slot, count) ∷ []
    by_walk None is e = absurd (none_not next e)
    by_walk (Some w) is e =
        ap (λ (w : Walk). w.taken) (sym (some_same (with_slot slot count w) next e))
        ∙ ap (λ (l : List (ℕ × ℕ)). l ++ (slot, count) ∷ []) (batch_taken walk slot batch w is)

    by_test : (t : Bool) → (if t then None else option_map (with_slot slot count) (with_batch_of walk slot batch)) ≡ Some next
        → next.taken ≡ walk.taken ++ (slot, count) ∷ []
    by_test true e = absurd (none_not next e)
    by_test false e = by_walk (with_batch_of walk slot batch) refl e

  next_free : (walk : Walk) (slot : ℕ) (next : Walk) (d : Option ℕ) → delivery_of table slot ≡ d → at_slot walk slot (batch_at log slot) d ≡ Some next
      → table.start ≤ slot → AreFree walk.taken → AreFree next.taken
  next_free walk slot next None none e from all = subst (λ (w : Walk). AreFree w.taken) (some_same walk next e) all
  next_free walk slot next (Some count) some e from all =
      subst AreFree (sym (slot_taken walk slot count (batch_at log slot) next e)) (free_more walk.taken slot count all (some, from))

  walk_free : (slots : List ℕ) (walk : Walk) → AllByRecursion (λ (slot : ℕ). table.start ≤ slot) slots → AreFree walk.taken
      → AreFree (walked log table slots walk).taken
  walk_free [] walk from all = all
  walk_free (slot ∷ slots) walk from all = by_step (after_slot log table walk slot) refl (λ next free. walk_free slots next from.1 free) where
    by_step : (r : Option Walk) → after_slot log table walk slot ≡ r → ((next : Walk) → AreFree next.taken → AreFree (walked log table slots next).taken)
        → AreFree (go_on walk (λ next. walked log table slots next) r).taken
    by_step None is ih = all
    by_step (Some next) is ih = ih next (next_free walk slot next (delivery_of table slot) refl is from.0 all)

  unheld : (taken : List (ℕ × ℕ)) → AreFree taken → AllByRecursion (λ (t : ℕ × ℕ). hold_at table.held t.0 ≡ None) taken
  unheld [] all = tt
  unheld (t ∷ taken) all = (free_hold table t.0 t.1 all.0.0, unheld taken all.1)

  pub taken_free : (limits : Limits) → AllByRecursion IsFree (acquired log table limits).taken
  taken_free limits = walk_free (slots_from 2000 log table.start) (begun limits) (slots_later 2000 log table.start table.start (omega arith)) tt

  pub taken_unheld : (limits : Limits) → AllByRecursion (λ (t : ℕ × ℕ). hold_at table.held t.0 ≡ None) (acquired log table limits).taken
  taken_unheld limits = unheld (acquired log table limits).taken (taken_free limits)

-- ---- what is taken is held

module _ (member : List ℕ) (end : ℕ) where
  abbrev hold_with : ℕ → Hold
  hold_with count = record { member = member; end = end; count = count }

  -- an offset that isn't taken is held as before
  pub holds_other : (taken : List (ℕ × ℕ)) (held : Held) (o : ℕ) (hold : Hold) → AllByRecursion (λ (t : ℕ × ℕ). hold_at held t.0 ≡ None) taken
      → hold_at held o ≡ Some hold → hold_at (with_holds member end taken held) o ≡ Some hold
  holds_other taken held o hold free at = go taken held (apart_all taken free) at where
    apart_all : (taken : List (ℕ × ℕ)) → AllByRecursion (λ (t : ℕ × ℕ). hold_at held t.0 ≡ None) taken → AllByRecursion (λ (t : ℕ × ℕ). o ≢ t.0) taken
    apart_all [] free = tt
    apart_all (t ∷ taken) free = (
      λ e. none_not hold (sym free.0 ∙ ap (hold_at held) (sym e) ∙ at),
      apart_all taken free.1,
    )

    go : (taken : List (ℕ × ℕ)) (held : Held) → AllByRecursion (λ (t : ℕ × ℕ). o ≢ t.0) taken → hold_at held o ≡ Some hold
        → hold_at (with_holds member end taken held) o ≡ Some hold
    go [] held away at = at
    go (t ∷ taken) held away at =
        go taken (insert_entry nat_cmp held t.0 (hold_with t.1)) away.1
        (set_other nat_cmp nat_cmp_total exact_unsigned t.0 (hold_with t.1) o away.0 held ∙ at)

  -- the member holds it until then
  abbrev pub IsMine : Held → ℕ → Type 0
  IsMine held o = (count : ℕ) × (hold_at held o ≡ Some (hold_with count))

  mine_still : (taken : List (ℕ × ℕ)) (held : Held) (o : ℕ) → IsMine held o → IsMine (with_holds member end taken held) o
  mine_still [] held o mine = mine
  mine_still (t ∷ taken) held o mine = mine_still taken (insert_entry nat_cmp held t.0 (hold_with t.1)) o (go (is_at (nat_cmp t.0) o) refl) where
    go : (b : Bool) → is_at (nat_cmp t.0) o ≡ b → IsMine (insert_entry nat_cmp held t.0 (hold_with t.1)) o
    go true same =
        let one : t.0 ≡ o = at_is nat_cmp nat_cmp_total exact_unsigned t.0 o same in (
          t.1,
          subst (λ (k : ℕ). hold_at (insert_entry nat_cmp held t.0 (hold_with t.1)) k ≡ Some (hold_with t.1)) one
              (set_found nat_cmp nat_cmp_total exact_unsigned t.0 (hold_with t.1) held),
        )
    go false away = (
      mine.0,
      set_other nat_cmp nat_cmp_total exact_unsigned t.0 (hold_with t.1) o
          (λ e. true≢false (sym (at_self nat_cmp nat_cmp_total exact_unsigned t.0) ∙ ap (is_at (nat_cmp t.0)) (sym e) ∙ away)) held ∙ mine.1,
    )

  pub mine_taken : (taken : List (ℕ × ℕ)) (held : Held) (o count : ℕ) → IsOf taken (o, count) → IsMine (with_holds member end taken held) o
  mine_taken [] held o count is = absurd is
  mine_taken (t ∷ taken) held o count (inl e) =
      mine_still taken (insert_entry nat_cmp held t.0 (hold_with t.1)) o (
        t.1,
        subst (λ (k : ℕ). hold_at (insert_entry nat_cmp held t.0 (hold_with t.1)) k ≡ Some (hold_with t.1)) (ap (λ (x : ℕ × ℕ). x.0) e)
            (set_found nat_cmp nat_cmp_total exact_unsigned t.0 (hold_with t.1) held),
      )
  mine_taken (t ∷ taken) held o count (inr is) = mine_taken taken (insert_entry nat_cmp held t.0 (hold_with t.1)) o count is

-- ---- what is granted is taken

offset_in : (first n count o : ℕ) → first ≤ o → o < first + n → IsOf (offsets_with first n count) (o, count)
offset_in first zero count o low high = absurd (let clash : ⊥ = omega (arith, low, high) in clash)
offset_in first (suc n) count o low high = go (same_or_more first o low) (λ more. offset_in (first + 1) n count o more (omega (arith, high))) where
  same_or_more : (a b : ℕ) → a ≤ b → (a ≡ b) ⊎ (a + 1 ≤ b)
  same_or_more a b le = grind (arith)

  go : (first ≡ o) ⊎ (first + 1 ≤ o) → (first + 1 ≤ o → IsOf (offsets_with (first + 1) n count) (o, count)) → IsOf (offsets_with first (suc n) count) (o, count)
  go (inl e) behind = inl (λ i. (e i, count))
  go (inr more) behind = inr (behind more)

grant_in : (grants : List Grant) (g : Grant) (o : ℕ) → IsOf grants g → g.first ≤ o → o ≤ g.last → IsOf (written_out grants) (o, g.count)
grant_in [] g o is low high = absurd is
grant_in (h ∷ grants) g o (inl e) low high =
    of_front (offsets_with h.first ((h.last + 1) - h.first) h.count) (written_out grants) (o, g.count)
    (subst (λ (x : Grant). IsOf (offsets_with x.first ((x.last + 1) - x.first) x.count) (o, g.count)) (sym e)
    (offset_in g.first ((g.last + 1) - g.first) g.count o low (omega (arith, low, high))))
grant_in (h ∷ grants) g o (inr is) low high =
    of_rest (offsets_with h.first ((h.last + 1) - h.first) h.count) (written_out grants) (o, g.count) (grant_in grants g o is low high)

pub granted_taken : (o : ℕ) (taken : List (ℕ × ℕ)) (grants : List Grant) (g : Grant) → IsOf grants g → g.first ≤ o → o ≤ g.last → AreRunsOf taken grants
    → IsOf taken (o, g.count)
granted_taken o taken grants g is low high runs = subst (λ (l : List (ℕ × ℕ)). IsOf l (o, g.count)) runs.offsets (grant_in grants g o is low high)
