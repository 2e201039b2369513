-- The records of a partition's batches, from the first one on.
use Rattle.std.proofs.Common.{◌≡◌, ◌^◌, ◌+◌, ◌-◌, ◌≤◌, ◌<◌, ◌∙◌, ◌∷◌, [], ◌++◌, ℕ, ℤ, zero, suc, pos, negsuc, Bool, true, false, List, Option, Some, None, refl, sym, ap, subst, map, length, take, drop, arith, append_assoc, length-append, length-drop, true≢false}
use Rattle.std.specs.Prelude.{◌==◌, ◌≤ℤ◌, ◌+ℤ◌, ◌<ℤ◌, nat_lt, flat_map, if◌then◌else◌, MatchOption}
use Rattle.std.specs.Option.{option_copied, option_map, option_map_or}
use Rattle.std.proofs.lemmas.Int.{ints}
use Rattle.std.proofs.lemmas.List.{append-nil, drop_at}
use Rattle.std.proofs.Math.Seq.{drop-append_seam, take-append_seam}
use Rattle.flex_fields.specs.Grammar.{AreMany}
use Rattle.rec_batch.specs.declared.form.Form.TheVariants.{Stored}
use Rattle.rec_batch.specs.declared.places.Pieces.{Pieces}
use Rattle.rec_batch.specs.declared.places.RecordAt.{RecordAt}
use Rattle.rec_batch.specs.Batches.{Follow, IsBatch, at_least_zero}
use Rattle.rec_batch.specs.Fields.{base_offset, batch_length, last_offset_delta, record_count, records_part}
use Rattle.rec_batch.specs.Grammar.{AreHeaders, IsRecord, Record}
use Rattle.rec_batch.specs.Pieces.{pieces_in}
use Rattle.rec_batch.specs.Places.{ShowsValue, SplitsAt}
use Rattle.rec_batch.proofs.RecordPlaces.{HasPieces, HasShown, pieces_come, splits_first}
use Rattle.rec_batch.proofs.Uniqueness.{record_some}
use Rattle.share_client.specs.declared.reader.Reader.{Reader}
use Rattle.share_client.specs.Grants.{AreStored, Batch, BeginsFrom, span_of}
use Rattle.share_client.specs.Readers.{IsSettled, Left, Stands}
use Rattle.share_client.specs.Records.{OffsetRecord, all_records, batch_records, first_at, found_at, from_offset, front_record, front_size, records_from, records_in, shown, shown_batch, sized_value}
use Rattle.share_client.specs.Spans.{IsSized}
use Rattle.share_client.proofs.Walking.{says}

-- ---- lists

nothing_is : (n : ℕ) (l : List Record) → n ≡ length l → n ≡ 0 → l ≡ []
nothing_is n [] e z = refl
nothing_is n (r ∷ l) e z = absurd (omega (arith, e, z))

-- as many records as bytes at most
most_records : (bytes : List ℕ) (records : List Record) → AreMany IsRecord bytes records → length records ≤ length bytes
most_records bytes [] h = omega arith
most_records bytes (r ∷ records) h =
    let more = most_records h.1 records h.3 in
    omega (arith, more, record_some h.0 r h.2, ap (λ (l : List ℕ). length l) h.4, length-append h.0 h.1)

zero_or : (z : ℤ) (n : ℕ) → z ≡ pos n → at_least_zero z ≡ n
zero_or z n e = ap at_least_zero e

-- ---- the batch in front

pub front_of : (bytes front rest : List ℕ) (n : ℕ) → bytes ≡ front ++ rest → length front ≡ n → take n bytes ≡ front
front_of bytes front rest n e l = ap (λ (x : List ℕ). take n x) e ∙ (ap (λ (k : ℕ). take k (front ++ rest)) (sym l) ∙ take-append_seam front rest)

pub rest_of : (bytes front rest : List ℕ) (n : ℕ) → bytes ≡ front ++ rest → length front ≡ n → drop n bytes ≡ rest
rest_of bytes front rest n e l = ap (λ (x : List ℕ). drop n x) e ∙ (ap (λ (k : ℕ). drop k (front ++ rest)) (sym l) ∙ drop-append_seam front rest)

stands_first : (bytes : List ℕ) (base : ℕ) (records : List Record) → IsBatch Stored bytes records → base ≡ at_least_zero (base_offset bytes) → Stands bytes 61 base records
stands_first bytes base [] is e = tt
stands_first bytes base (r ∷ records) is e = ([], splits_first bytes (r ∷ records) is, e)

-- what stands before a reader of which no batch is opened
pub left_closed : (reader : Reader) (next : ℕ) (found : List Batch) → reader.left ≡ 0 → AreStored next reader.rest.now found → Left reader (flat_map shown_batch found)
left_closed reader next found none s = record { next = next; behind = []; batches = found; stored = s; count = none; stands = tt; are = refl }

-- a batch is next
pub record Opens (rest : List ℕ) (records : List OffsetRecord) : Type 0 where
  pub next : ℕ
  pub first : Batch
  pub others : List Batch
  pub begins : BeginsFrom next first
  pub after : List ℕ
  pub parts : rest ≡ first.bytes ++ after
  pub stored : AreStored ((span_of first).last + 1) after others
  pub are : records ≡ shown_batch first ++ flat_map shown_batch others

opens_by : (rest : List ℕ) (next base : ℕ) (behind : List Record) (batches : List Batch) (records : List OffsetRecord) → behind ≡ [] → 1 ≤ length rest
    → AreStored next rest batches → records ≡ map (shown base) behind ++ flat_map shown_batch batches → Opens rest records
opens_by rest next base [] [] records z some s e = absurd (omega (arith, some, ap (λ (l : List ℕ). length l) s))
opens_by rest next base [] (b ∷ batches) records z some s e = record { next = next; first = b; others = batches; begins = s.0; after = s.1.0; parts = s.1.1; stored = s.1.2; are = e }
opens_by rest next base (r ∷ behind) batches records z some s e = absurd cc

module _ (reader : Reader) (end : reader.left ≡ 0) (some : 1 ≤ length reader.rest.now) where
  pub opens : (records : List OffsetRecord) → Left reader records → Opens reader.rest.now records
  opens records l = opens_by reader.rest.now l.next reader.base l.behind l.batches records (nothing_is reader.left l.behind l.count end) some l.stored l.are

  pub is_sized : (records : List OffsetRecord) → Left reader records → IsSized reader.rest.now None → ⊥
  is_sized records l s = let o = opens records l in s o.first o.after o.parts o.begins.0

  module _ (size : ℕ) (s : IsSized reader.rest.now (Some size)) where
    module _ (records : List OffsetRecord) (l : Left reader records) where
      abbrev o : Opens reader.rest.now records
      o = opens records l

      size_is : length o.first.bytes ≡ size
      size_is = s.1 o.first o.after o.parts o.begins.0

      front_is : take size reader.rest.now ≡ o.first.bytes
      front_is = front_of reader.rest.now o.first.bytes o.after size o.parts size_is

      rest_is : drop size reader.rest.now ≡ o.after
      rest_is = rest_of reader.rest.now o.first.bytes o.after size o.parts size_is

      pub long_enough : 61 ≤ length (take size reader.rest.now)
      long_enough = subst (λ (x : List ℕ). 61 ≤ length x) (sym front_is) o.begins.0.header

      count_is : at_least_zero (record_count o.first.bytes) ≡ length o.first.records
      count_is = zero_or (record_count o.first.bytes) (length o.first.records) o.begins.0.content.0

      few : length o.first.records + 61 ≤ length o.first.bytes
      few =
          let most = most_records (records_part o.first.bytes) o.first.records o.begins.0.content.1 in
          omega (arith, most, length-drop 61 o.first.bytes, o.begins.0.header)

      pub opened_shorter : (left : ℕ) → left ≡ at_least_zero (record_count (take size reader.rest.now)) → length (drop size reader.rest.now) + left < length reader.rest.now
      opened_shorter left e =
          let c : left ≡ length o.first.records = e ∙ (ap (λ (x : List ℕ). at_least_zero (record_count x)) front_is ∙ count_is) in
          omega (arith, c, few, ap (λ (x : List ℕ). length x) rest_is, ap (λ (x : List ℕ). length x) o.parts, length-append o.first.bytes o.after)

      pub opened_left : (new : Reader) → new.batch.now ≡ take size reader.rest.now → new.rest.now ≡ drop size reader.rest.now → new.place ≡ 61
          → new.base ≡ at_least_zero (base_offset (take size reader.rest.now)) → new.left ≡ at_least_zero (record_count (take size reader.rest.now)) → Left new records
      opened_left new batch rest place base left =
          let whole : new.batch.now ≡ o.first.bytes = batch ∙ front_is in
          let base' : new.base ≡ at_least_zero (base_offset o.first.bytes) = base ∙ ap (λ (x : List ℕ). at_least_zero (base_offset x)) front_is in
          let stands : Stands o.first.bytes 61 new.base o.first.records = stands_first o.first.bytes new.base o.first.records o.begins.0 base' in
          record {
            next = (span_of o.first).last + 1;
            behind = o.first.records;
            batches = o.others;
            stored = subst (λ (x : List ℕ). AreStored ((span_of o.first).last + 1) x o.others) (sym (rest ∙ rest_is)) o.stored;
            count = left ∙ (ap (λ (x : List ℕ). at_least_zero (record_count x)) front_is ∙ count_is);
            stands = subst (λ (x : List ℕ). Stands x new.place new.base o.first.records) (sym whole)
                (subst (λ (n : ℕ). Stands o.first.bytes n new.base o.first.records) (sym place) stands);
            are = o.are ∙ ap (λ (n : ℕ). map (shown n) o.first.records ++ flat_map shown_batch o.others) (sym base');
          }

-- ---- the next record

-- a record is next
pub record Nears (reader : Reader) (records : List OffsetRecord) : Type 0 where
  pub before : List Record
  pub item : Record
  pub others : List Record
  pub splits : SplitsAt reader.batch.now reader.place before (item ∷ others)
  pub base : reader.base ≡ at_least_zero (base_offset reader.batch.now)
  pub count : reader.left ≡ suc (length others)
  pub next : ℕ
  pub batches : List Batch
  pub stored : AreStored next reader.rest.now batches
  pub are : records ≡ shown reader.base item ∷ (map (shown reader.base) others ++ flat_map shown_batch batches)

nears_by : (reader : Reader) (records : List OffsetRecord) (next : ℕ) (behind : List Record) (batches : List Batch) → 1 ≤ reader.left → reader.left ≡ length behind
    → Stands reader.batch.now reader.place reader.base behind → AreStored next reader.rest.now batches
    → records ≡ map (shown reader.base) behind ++ flat_map shown_batch batches → Nears reader records
nears_by reader records next [] batches some c s t e = absurd (omega (arith, some, c))
nears_by reader records next (r ∷ behind) batches some c s t e =
    record { before = s.0; item = r; others = behind; splits = s.1; base = s.2; count = c; next = next; batches = batches; stored = t; are = e }

pub nears : (reader : Reader) (records : List OffsetRecord) → Left reader records → 1 ≤ reader.left → Nears reader records
nears reader records l some = nears_by reader records l.next l.behind l.batches some l.count l.stands l.stored l.are

-- a record begins at its place
pub begins_there : (reader : Reader) (records : List OffsetRecord) → Left reader records → 1 ≤ reader.left
    → (before : List Record) × (r : Record) × (behind : List Record) × SplitsAt reader.batch.now reader.place before (r ∷ behind)
begins_there reader records l some = let n = nears reader records l some in (n.before, n.item, n.others, n.splits)

stands_next : (bytes : List ℕ) (place base : ℕ) (before : List Record) (r : Record) (others : List Record) → SplitsAt bytes place (before ++ r ∷ []) others
    → base ≡ at_least_zero (base_offset bytes) → Stands bytes place base others
stands_next bytes place base before r [] s e = tt
stands_next bytes place base before r (q ∷ others) s e = (before ++ r ∷ [], s, e)

module _ (reader : Reader) (some : 1 ≤ reader.left) (found : RecordAt)
    (delta : (before behind : List Record) (r : Record) → SplitsAt reader.batch.now reader.place before (r ∷ behind) → pos found.delta ≡ r.offset_delta)
    (value : (before behind : List Record) (r : Record) → SplitsAt reader.batch.now reader.place before (r ∷ behind) → ShowsValue reader.batch.now r found)
    (after : (before behind : List Record) (r : Record) → SplitsAt reader.batch.now reader.place before (r ∷ behind) → SplitsAt reader.batch.now found.next (before ++ r ∷ []) behind)
    (records : List OffsetRecord) (l : Left reader records) where
  abbrev n : Nears reader records
  n = nears reader records l some

  delta_is : at_least_zero n.item.offset_delta ≡ found.delta
  delta_is = zero_or n.item.offset_delta found.delta (sym (delta n.before n.others n.item n.splits))

  offset_is : (shown reader.base n.item).offset ≡ reader.base + found.delta
  offset_is = ap (λ (d : ℕ). reader.base + d) delta_is

  pub shows_next : (r : Record) × ShowsValue reader.batch.now r found
  shows_next = (n.item, value n.before n.others n.item n.splits)

  abbrev others_are : List OffsetRecord
  others_are = map (shown reader.base) n.others ++ flat_map shown_batch n.batches

  -- the record is below the offset
  pub next_below : (offset : ℕ) → nat_lt (reader.base + found.delta) offset ≡ true → (new : Reader) → new.batch.now ≡ reader.batch.now → new.rest.now ≡ reader.rest.now
      → new.base ≡ reader.base → new.place ≡ found.next → new.left ≡ reader.left - 1
      → (rest : List OffsetRecord) × Left new rest × (from_offset offset records ≡ from_offset offset rest)
  next_below offset lt new batch rest base place left = (
    others_are,
    record {
      next = n.next;
      behind = n.others;
      batches = n.batches;
      stored = subst (λ (x : List ℕ). AreStored n.next x n.batches) (sym rest) n.stored;
      count = omega (arith, left, n.count);
      stands = subst (λ (x : List ℕ). Stands x new.place new.base n.others) (sym batch)
          (stands_next reader.batch.now new.place new.base n.before n.item n.others
          (subst (λ (p : ℕ). SplitsAt reader.batch.now p (n.before ++ n.item ∷ []) n.others) (sym place) (after n.before n.others n.item n.splits)) (base ∙ n.base));
      are = ap (λ (b : ℕ). map (shown b) n.others ++ flat_map shown_batch n.batches) (sym base);
    },
    ap (λ (x : List OffsetRecord). from_offset offset x) n.are
        ∙ ap (λ (b : Bool). if b then from_offset offset others_are else shown reader.base n.item ∷ others_are)
        (ap (λ (k : ℕ). nat_lt k offset) offset_is ∙ lt),
  )

  -- the record is not below the offset
  pub next_stays : (offset : ℕ) → nat_lt (reader.base + found.delta) offset ≡ false → from_offset offset records ≡ records
  next_stays offset ge =
      ap (λ (x : List OffsetRecord). from_offset offset x) n.are
      ∙ (ap (λ (b : Bool). if b then from_offset offset others_are else shown reader.base n.item ∷ others_are)
      (ap (λ (k : ℕ). nat_lt k offset) offset_is ∙ ge) ∙ sym n.are)

  first_is : (offset : ℕ) (b : Bool) → (reader.base + found.delta == offset) ≡ b → first_at offset records ≡ (if b then Some n.item.value else None)
  first_is offset b e =
      ap (λ (x : List OffsetRecord). first_at offset x) n.are
      ∙ ap (λ (c : Bool). if c then Some n.item.value else None) (ap (λ (k : ℕ). k == offset) offset_is ∙ e)

  pub next_elsewhere : (offset : ℕ) → (reader.base + found.delta == offset) ≡ false → None ≡ first_at offset records
  next_elsewhere offset e = sym (first_is offset false e)

  pub next_there : (offset : ℕ) (shows : Option (List ℕ)) → (reader.base + found.delta == offset) ≡ true
      → ((r : Record) → ShowsValue reader.batch.now r found → shows ≡ r.value) → Some shows ≡ first_at offset records
  next_there offset shows e is =
      ap (λ (v : Option (List ℕ)). Some v) (is n.item (value n.before n.others n.item n.splits)) ∙ sym (first_is offset true e)

-- ---- the end

ends_by : (next base : ℕ) (behind : List Record) (batches : List Batch) (records : List OffsetRecord) → behind ≡ [] → AreStored next [] batches
    → records ≡ map (shown base) behind ++ flat_map shown_batch batches → records ≡ []
ends_by next base [] [] records z s e = e
ends_by next base [] (b ∷ batches) records z s e =
    absurd (omega (arith, ap (λ (l : List ℕ). length l) s.1.1, length-append b.bytes s.1.0, s.0.0.header))
ends_by next base (r ∷ behind) batches records z s e = absurd cc

-- no record is left
pub at_end : (reader : Reader) (records : List OffsetRecord) → Left reader records → reader.left ≡ 0 → reader.rest.now ≡ [] → records ≡ []
at_end reader records l closed none =
    ends_by l.next reader.base l.behind l.batches records (nothing_is reader.left l.behind l.count closed)
    (subst (λ (x : List ℕ). AreStored l.next x l.batches) none l.stored) l.are
