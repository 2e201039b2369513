-- What a walk takes, as many slots at once as go out alike.
use Rattle.std.proofs.Common.{◌≡◌, ◌∙◌, inl, inr, refl, sym, ap, subst, arith, ℕ, zero, suc, ◌+◌, ◌-◌, ◌^◌, ◌<◌, ◌≤◌, List, [], ◌∷◌, ◌++◌, length, append_assoc, length-append, Option, Some, None, Bool, true, false, nat_le, nat_eq, ◌||◌, if◌then◌else◌}
use Rattle.std.proofs.lemmas.Bool.Decides.{nat_tests}
use Rattle.std.specs.Option.{option_map}
use Rattle.std.specs.List.{AllByRecursion}
use Rattle.std.specs.Prelude.{option_to_list}
use Rattle.share_model.specs.Logs.{Batch, Covers, IsAt, IsLog, IsSlot}
use Rattle.share_model.specs.declared.hold.Grant.{Grant}
use Rattle.part_log.specs.Logs.{IsPlaceOf}
use Rattle.share_model.specs.declared.batch_place.BatchPlace.{BatchPlace}
use Rattle.share_part.specs.Slots.{batch_at, covers}
use Rattle.share_part.specs.Tables.{Table, delivery_of}
use Rattle.share_part.specs.Walks.{Walk, after_slot, at_slot, bytes_in, fits, in_answer, new_batch, offsets_with, taking, with_batch, with_batch_of, with_slot, AreRunsOf, IsSmallGrant, joins}
use Rattle.share_part.specs.Collecting.{AreAt, Collects, CoversSlot, GoOut, Goes, GoesOver, OpensFirst, IsNewest, IsOfLog, after_slots, and_then, grants_of, with_slots}
use Rattle.share_part.specs.declared.collector.Collector.{Collector}
use Rattle.share_part.proofs.Slotting.{batch_is}
use Rattle.share_part.proofs.Granting.{all_more, all_front, first_run, grown_order, nil_right, offsets_length, run_grown, run_more}

at_more : (log : List Batch) (numbers : List ℕ) (batches : List Batch) (n : ℕ) (b : Batch) → AreAt log numbers batches → IsAt log n b
    → AreAt log (numbers ++ n ∷ []) (batches ++ b ∷ [])
at_more log [] [] n b h at = (at, tt)
at_more log [] (c ∷ batches) n b h at = absurd h
at_more log (m ∷ numbers) [] n b h at = absurd h
at_more log (m ∷ numbers) (c ∷ batches) n b h at = (h.0, at_more log numbers batches n b h.1 at)

pub bytes_more : (batches others : List Batch) → bytes_in (batches ++ others) ≡ bytes_in batches ++ bytes_in others
bytes_more [] others = refl
bytes_more (b ∷ batches) others = ap (λ (l : List ℕ). b.bytes ++ l) (bytes_more batches others) ∙ sym (append_assoc b.bytes (bytes_in batches) (bytes_in others))

pub size_more : (batches : List Batch) (b : Batch) → length (bytes_in (batches ++ b ∷ [])) ≡ length (bytes_in batches) + length b.bytes
size_more batches b =
    ap length (bytes_more batches (b ∷ [])) ∙ length-append (bytes_in batches) (b.bytes ++ [])
    ∙ ap (λ (n : ℕ). length (bytes_in batches) + n) (length-append b.bytes [] ∙ (let e : length b.bytes + 0 ≡ length b.bytes = omega arith in e))

-- ---- the batch of a slot

-- it is in the answer already
pub included : (log : List Batch) (c : Collector) (walk : Walk) (slot : ℕ) → Collects log c walk → in_answer walk.newest slot ≡ true
    → Goes log c walk true (with_batch_of walk slot (batch_at log slot))
included log c walk slot h there = (walk, ap (λ (t : Bool). if t then Some walk else new_batch walk (batch_at log slot)) there, h)

module _ (log : List Batch) (c : Collector) (walk : Walk) (slot : ℕ) (place : BatchPlace) (is_log : IsLog log) (h : Collects log c walk)
    (absent : in_answer walk.newest slot ≡ false) (p : IsPlaceOf log slot place) where
  is_new : with_batch_of walk slot (batch_at log slot) ≡ new_batch walk (Some p.batch)
  is_new = ap (λ (t : Bool). if t then Some walk else new_batch walk (batch_at log slot)) absent
      ∙ ap (new_batch walk) (batch_is log place.number p.batch is_log p.at slot p.covers)

  fits_is : fits walk p.batch ≡ (c.budget.first || nat_le place.size c.budget.bytes)
  fits_is = λ i. (h.first i || nat_le (sym p.size i) (h.bytes i))

  -- it doesn't fit
  pub refused : (c.budget.first || nat_le place.size c.budget.bytes) ≡ false → Goes log c walk false (with_batch_of walk slot (batch_at log slot))
  refused never = (is_new ∙ ap (λ (t : Bool). if t then Some (with_batch walk p.batch) else None) (fits_is ∙ never), h)

  -- it comes into the answer
  pub taken_in : (d : Collector) → (c.budget.first || nat_le place.size c.budget.bytes) ≡ true
      → d.budget.records ≡ c.budget.records → d.budget.bytes ≡ c.budget.bytes - place.size → d.budget.first ≡ false
      → d.budget.count ≡ c.budget.count → d.budget.size ≡ c.budget.size + place.size
      → d.newest ≡ Some place → d.grants.items ≡ c.grants.items → d.growing ≡ c.growing → d.numbers.items ≡ c.numbers.items ++ place.number ∷ []
      → Goes log d walk true (with_batch_of walk slot (batch_at log slot))
  taken_in d fit records bytes first count size newest grants growing numbers =
      let same : grants_of c ≡ grants_of d = λ i. sym grants i ++ option_to_list (sym growing i) in (
        with_batch walk p.batch,
        is_new ∙ ap (λ (t : Bool). if t then Some (with_batch walk p.batch) else None) (fits_is ∙ fit),
        record {
          records = h.records ∙ sym records;
          bytes = (λ i. h.bytes i - sym p.size i) ∙ sym bytes;
          first = sym first;
          newest = subst (λ (o : Option BatchPlace). IsNewest o (Some p.batch)) (sym newest) (p.base, p.last);
          of_log = (place.number, p.at);
          opens = subst (λ (o : Option Grant). OpensFirst o d.grants.items) (sym growing)
              (subst (OpensFirst c.growing) (sym grants) h.opens);
          taken = subst (AreRunsOf walk.taken) same h.taken;
          small = subst (AllByRecursion IsSmallGrant) same h.small;
          batches = subst (λ (l : List ℕ). AreAt log l (walk.batches ++ p.batch ∷ [])) (sym numbers)
              (at_more log c.numbers.items walk.batches place.number p.batch h.batches p.at);
          count = count ∙ h.count;
          size = size ∙ (λ i. h.size i + p.size i) ∙ sym (size_more walk.batches p.batch);
        },
      )

-- ---- more records

module _ (log : List Batch) (c d : Collector) (walk : Walk) (slot last count : ℕ) (h : Collects log c walk) (order : slot ≤ last)
    (small : (last < 2 ^ 62) × (count ≤ 10))
    (records : d.budget.records ≡ c.budget.records - ((last + 1) - slot)) (bytes : d.budget.bytes ≡ c.budget.bytes) (first : d.budget.first ≡ c.budget.first)
    (counted : d.budget.count ≡ c.budget.count + ((last + 1) - slot)) (size : d.budget.size ≡ c.budget.size)
    (newest : d.newest ≡ c.newest) (numbers : d.numbers.items ≡ c.numbers.items) where
  abbrev n : ℕ
  n = (last + 1) - slot

  abbrev its : Grant
  its = record { first = slot; last = last; count = count }

  by_runs : (o : Grant) → d.growing ≡ Some o → AreRunsOf (walk.taken ++ offsets_with slot n count) (grants_of d) → AllByRecursion IsSmallGrant (grants_of d)
      → Collects log d (with_slots slot n count walk)
  by_runs o growing runs all = record {
    records = ap (λ (k : ℕ). k - n) h.records ∙ sym records;
    bytes = h.bytes ∙ sym bytes;
    first = h.first ∙ sym first;
    newest = subst (λ (o : Option BatchPlace). IsNewest o walk.newest) (sym newest) h.newest;
    of_log = h.of_log;
    opens = subst (λ (g : Option Grant). OpensFirst g d.grants.items) (sym growing) tt;
    taken = runs;
    small = all;
    batches = subst (λ (l : List ℕ). AreAt log l walk.batches) (sym numbers) h.batches;
    count = counted ∙ ap (λ (k : ℕ). k + n) h.count ∙ sym (length-append walk.taken (offsets_with slot n count) ∙ ap (λ (k : ℕ). length walk.taken + k) (offsets_length slot n count));
    size = size ∙ h.size;
  }

  -- none was growing
  pub opened : c.growing ≡ None → d.grants.items ≡ c.grants.items → d.growing ≡ Some its → Collects log d (with_slots slot n count walk)
  opened none grants growing =
      let empty : c.grants.items ≡ [] = subst (λ (o : Option Grant). OpensFirst o c.grants.items) none h.opens in
      let was : grants_of c ≡ [] = λ i. empty i ++ option_to_list (none i) in
      let is : grants_of d ≡ its ∷ [] = λ i. (grants ∙ empty) i ++ option_to_list (growing i) in
      by_runs _ growing (subst (AreRunsOf (walk.taken ++ offsets_with slot n count)) (sym is) (first_run slot last count walk.taken order (subst (AreRunsOf walk.taken) was h.taken)))
      (subst (AllByRecursion IsSmallGrant) (sym is) ((order, small.0, small.1), tt))

  -- the growing one grows
  pub lengthened : (g : Grant) → c.growing ≡ Some g → joins g its ≡ true
      → d.grants.items ≡ c.grants.items → d.growing ≡ Some (record { first = g.first; last = last; count = count }) → Collects log d (with_slots slot n count walk)
  lengthened g some joined grants growing =
      let was : grants_of c ≡ c.grants.items ++ g ∷ [] = ap (λ (o : Option Grant). c.grants.items ++ option_to_list o) some in
      let is : grants_of d ≡ c.grants.items ++ record { first = g.first; last = last; count = count } ∷ [] = λ i. grants i ++ option_to_list (growing i) in
      by_runs _ growing (subst (AreRunsOf (walk.taken ++ offsets_with slot n count)) (sym is)
      (run_grown c.grants.items g slot last count walk.taken order (subst (AreRunsOf walk.taken) was h.taken) joined))
      (subst (AllByRecursion IsSmallGrant) (sym is)
      (all_more IsSmallGrant c.grants.items (record { first = g.first; last = last; count = count })
      (all_front IsSmallGrant c.grants.items (g ∷ []) (subst (AllByRecursion IsSmallGrant) was h.small))
      (grown_order c.grants.items g slot last count order (subst (AreRunsOf walk.taken) was h.taken).apart joined, small.0, small.1)))

  -- the growing one is closed
  pub closed : (g : Grant) → c.growing ≡ Some g → joins g its ≡ false
      → d.grants.items ≡ c.grants.items ++ g ∷ [] → d.growing ≡ Some its → Collects log d (with_slots slot n count walk)
  closed g some apart grants growing =
      let was : grants_of c ≡ c.grants.items ++ g ∷ [] = ap (λ (o : Option Grant). c.grants.items ++ option_to_list o) some in
      let is : grants_of d ≡ (c.grants.items ++ g ∷ []) ++ its ∷ [] = λ i. grants i ++ option_to_list (growing i) in
      by_runs _ growing (subst (AreRunsOf (walk.taken ++ offsets_with slot n count)) (sym is)
      (run_more c.grants.items g slot last count walk.taken order (subst (AreRunsOf walk.taken) was h.taken) apart))
      (subst (AllByRecursion IsSmallGrant) (sym is)
      (all_more IsSmallGrant (c.grants.items ++ g ∷ []) its
      (subst (AllByRecursion IsSmallGrant) was h.small) (order, small.0, small.1)))

-- ---- many slots at once

covers_slot : (o : Option BatchPlace) (b : Option Batch) (slot : ℕ) → IsNewest o b → CoversSlot slot o → in_answer b slot ≡ true
covers_slot None b slot same there = absurd there
covers_slot (Some place) None slot same there = absurd same
covers_slot (Some place) (Some b) slot same there = covered (same.0) (same.1) (there.0) (there.1)
  where
    covered : place.base ≡ b.base → place.last ≡ b.last → place.base ≤ slot → slot ≤ place.last → covers b slot ≡ true
    covered base last lo hi =
        let low : b.base ≤ slot = omega (arith, base, lo) in
        let high : slot ≤ b.last = omega (arith, last, hi) in
        grind (arith, nat_tests)

-- a slot that the newest batch covers is one of the log
pub newest_slot : (log : List Batch) (o : Option BatchPlace) (b : Option Batch) (slot : ℕ) → IsOfLog log b → IsNewest o b → CoversSlot slot o → IsSlot log slot
newest_slot log None b slot of_log same there = absurd there
newest_slot log (Some place) None slot of_log same there = absurd same
newest_slot log (Some place) (Some b) slot of_log same there =
    subst (λ (l : List Batch). IsSlot l slot) (sym of_log.1.2) (within of_log.1.0 of_log.1.1 (omega (arith, same.0, there.0), omega (arith, same.1, there.1)))
  where
    within : (before behind : List Batch) → Covers b slot → IsSlot (before ++ (b ∷ behind)) slot
    within [] behind covered = inl covered
    within (x ∷ before) behind covered = inr (within before behind covered)

-- none more
none_more : (slot count : ℕ) (walk : Walk) → walk ≡ with_slots slot 0 count walk
none_more slot count walk =
    let same : walk.records ≡ walk.records - 0 = omega arith in
    let taken = nil_right walk.taken in
    λ i. record {
      records = same i;
      bytes = walk.bytes;
      first = walk.first;
      newest = walk.newest;
      taken = sym taken i;
      batches = walk.batches;
    }

-- one, and more behind it
one_more_slot : (slot n count : ℕ) (walk : Walk) → with_slots (slot + 1) n count (with_slot slot count walk) ≡ with_slots slot (suc n) count walk
one_more_slot slot n count walk =
    let less : (walk.records - 1) - n ≡ walk.records - suc n = omega arith in
    let taken = append_assoc walk.taken ((slot, count) ∷ []) (offsets_with (slot + 1) n count) in
    λ i. record {
      records = less i;
      bytes = walk.bytes;
      first = walk.first;
      newest = walk.newest;
      taken = taken i;
      batches = walk.batches;
    }

module _ (log : List Batch) (table : Table) (count : ℕ) where
  at_count : (walk : Walk) (slot : ℕ) → delivery_of table slot ≡ Some count → after_slot log table walk slot ≡ taking walk slot count (batch_at log slot)
  at_count walk slot is = ap (at_slot walk slot (batch_at log slot)) is

  some_left : (walk : Walk) (slot : ℕ) → 1 ≤ walk.records → taking walk slot count (batch_at log slot) ≡ option_map (with_slot slot count) (with_batch_of walk slot (batch_at log slot))
  some_left walk slot some =
      let test : nat_eq walk.records 0 ≡ false = grind (arith, nat_tests) in
      ap (λ (b : Bool). if b then None else option_map (with_slot slot count) (with_batch_of walk slot (batch_at log slot))) test

  there_already : (walk : Walk) (slot : ℕ) → in_answer walk.newest slot ≡ true → with_batch_of walk slot (batch_at log slot) ≡ Some walk
  there_already walk slot is = ap (λ (b : Bool). if b then Some walk else new_batch walk (batch_at log slot)) is

  -- slots of the newest batch
  pub taken_over : (n slot : ℕ) (walk : Walk) → ((o : ℕ) → slot ≤ o → o < slot + n → in_answer walk.newest o ≡ true)
      → ((o : ℕ) → slot ≤ o → o < slot + n → delivery_of table o ≡ Some count) → n ≤ walk.records → after_slots log table slot n walk ≡ Some (with_slots slot n count walk)
  taken_over zero slot walk there go left = ap (λ (w : Walk). Some w) (none_more slot count walk)
  taken_over (suc n) slot walk there go left =
      ap (λ (o : Option Walk). and_then o (λ next. after_slots log table (slot + 1) n next))
      (at_count walk slot (go slot (omega arith) (omega arith)) ∙ some_left walk slot (omega (arith, left))
      ∙ ap (option_map (with_slot slot count)) (there_already walk slot (there slot (omega arith) (omega arith))))
      ∙ taken_over n (slot + 1) (with_slot slot count walk) (λ o lo hi. there o (omega (arith, lo)) (omega (arith, hi)))
      (λ o lo hi. go o (omega (arith, lo)) (omega (arith, hi))) (omega (arith, left))
      ∙ ap (λ (w : Walk). Some w) (one_more_slot slot n count walk)

  -- the first of them brings its batch into the answer
  pub first_over : (n slot : ℕ) (walk next : Walk) → 1 ≤ n → with_batch_of walk slot (batch_at log slot) ≡ Some next → 1 ≤ walk.records
      → ((o : ℕ) → slot ≤ o → o < slot + n → in_answer next.newest o ≡ true)
      → ((o : ℕ) → slot ≤ o → o < slot + n → delivery_of table o ≡ Some count) → n ≤ next.records → after_slots log table slot n walk ≡ Some (with_slots slot n count next)
  first_over zero slot walk next some is has there go left = absurd (omega (arith, some))
  first_over (suc n) slot walk next some is has there go left =
      ap (λ (o : Option Walk). and_then o (λ more. after_slots log table (slot + 1) n more))
      (at_count walk slot (go slot (omega arith) (omega arith)) ∙ some_left walk slot has ∙ ap (option_map (with_slot slot count)) is)
      ∙ taken_over n (slot + 1) (with_slot slot count next) (λ o lo hi. there o (omega (arith, lo)) (omega (arith, hi)))
      (λ o lo hi. go o (omega (arith, lo)) (omega (arith, hi))) (omega (arith, left))
      ∙ ap (λ (w : Walk). Some w) (one_more_slot slot n count next)

  -- the walk ends
  pub none_left : (walk : Walk) (slot : ℕ) → delivery_of table slot ≡ Some count → walk.records ≡ 0 → after_slot log table walk slot ≡ None
  none_left walk slot go none =
      let test : nat_eq walk.records 0 ≡ true = grind (arith, nat_tests) in
      at_count walk slot go ∙ ap (λ (b : Bool). if b then None else option_map (with_slot slot count) (with_batch_of walk slot (batch_at log slot))) test

  pub no_batch : (walk : Walk) (slot : ℕ) → delivery_of table slot ≡ Some count → 1 ≤ walk.records → with_batch_of walk slot (batch_at log slot) ≡ None
      → after_slot log table walk slot ≡ None
  no_batch walk slot go some none = at_count walk slot go ∙ some_left walk slot some ∙ ap (option_map (with_slot slot count)) none

-- slots of one batch that go out alike
pub goes_over : (log : List Batch) (c d : Collector) (table : Table) (walk next : Walk) (slot to count n : ℕ) → with_batch_of walk slot (batch_at log slot) ≡ Some next
    → 1 ≤ walk.records → Collects log c next → slot ≤ to → ((o : ℕ) → slot ≤ o → o ≤ to → CoversSlot o c.newest) → GoOut table slot to count
    → (to + 1) - slot ≤ next.records → n ≡ (to + 1) - slot → Collects log d (with_slots slot ((to + 1) - slot) count next) → GoesOver log table d walk slot (Some n)
goes_over log c d table walk next slot to count n is some h order covered go few count_is taken =
    subst (λ (k : ℕ). GoesOver log table d walk slot (Some k)) (sym count_is) (
      with_slots slot ((to + 1) - slot) count next,
      omega (arith, order),
      λ o lo hi. newest_slot log c.newest next.newest o h.of_log h.newest (covered o lo (omega (arith, hi, order))),
      first_over log table count ((to + 1) - slot) slot walk next (omega (arith, order)) is some
          (λ o lo hi. covers_slot c.newest next.newest o h.newest (covered o lo (omega (arith, hi, order))))
          (λ o lo hi. go o lo (omega (arith, hi, order))) few,
      taken,
    )
