-- What a reply hands out, offset by offset.
use Rattle.std.proofs.Common.{inl, inr, ◌≡◌, ◌+◌, ◌-◌, ◌≤◌, ◌<◌, ◌∙◌, ◌∷◌, [], ◌++◌, ℕ, ℤ, suc, pos, Bool, true, false, List, Option, Some, None, Result, Ok, Err, refl, sym, ap, subst, map, length, arith, append_assoc, length-append, true≢false}
use Rattle.std.specs.Prelude.{◌⊎◌, flat_map, nat_lt, if◌then◌else◌}
use Rattle.std.specs.Bool.{MatchBool}
use Rattle.std.specs.List.{range_with_len}
use Rattle.std.proofs.lemmas.Grind.{flat_map-append}
use Rattle.std.proofs.lemmas.List.{append-nil}
use Rattle.msgs_share.specs.declared.share_fetch_reply.AcquiredRecords.{AcquiredRecords}
use Rattle.msgs_share.specs.declared.share_topic.AcknowledgementBatch.{AcknowledgementBatch}
use Rattle.msgs_share.specs.declared.share_topic.SharePartition.{SharePartition}
use Rattle.msgs_share.specs.declared.share_topic.ShareTopic.{ShareTopic}
use Rattle.rec_batch.specs.Batches.{at_least_zero}
use Rattle.share_client.specs.declared.grants.Handout.{Handout}
use Rattle.share_client.specs.declared.located.Located.{Located}
use Rattle.share_client.specs.declared.page.Page.{Page}
use Rattle.share_client.specs.declared.reader.Reader.{Reader}
use Rattle.share_client.specs.Deliveries.{Delivery, Slot, delivered, entry_acknowledged, entry_deliveries, line, run_acknowledged, run_deliveries, run_first, runs_deliveries, slot_deliveries, slots_from, topic_acknowledged, type_of}
use Rattle.share_client.specs.Grants.{AreFetched, AreGrants, AreStored, Batch, Entry, IsFetched, Named, StandsIn, content_of, is_passed, name_of, span_of}
use Rattle.share_client.specs.Readers.{Adds, AreSound, Hands, IsSound, Left, LeftFrom, Rise}
use Rattle.share_client.specs.declared.batches.Span.{Span}
use Rattle.share_client.specs.declared.fetched.LocatedPartition.{LocatedPartition}
use Rattle.share_client.specs.Records.{OffsetRecord, all_records, first_at, found_at, from_offset, shown_batch}
use Rattle.share_client.proofs.Recording.{records_are}

-- ---- a page

pub adds_none : (p : Page) → Adds [] p p
adds_none p = record { text = sym (append-nil p.text); count = omega arith }

pub adds_line : (d : Delivery) (old new : Page) → new.text ≡ old.text ++ line d → new.count ≡ old.count + 1 → Adds (d ∷ []) old new
adds_line d old new t n = record { text = t ∙ ap (λ (x : List ℕ). old.text ++ x) (sym (append-nil (line d))); count = n }

pub adds_then : (xs ys : List Delivery) (a b c : Page) → Adds xs a b → Adds ys b c → Adds (xs ++ ys) a c
adds_then xs ys a b c f g = record {
  text = g.text ∙ (ap (λ (x : List ℕ). x ++ flat_map line ys) f.text
      ∙ (append_assoc a.text (flat_map line xs) (flat_map line ys) ∙ ap (λ (x : List ℕ). a.text ++ x) (sym (flat_map-append line xs ys))));
  count = omega (arith, f.count, g.count, length-append xs ys);
}

-- From what stood on the page at first to what stands on it now: what these are added to now, all are added to at first.
abbrev pub AddsOn : List Delivery → Page → List Delivery → Page → Type 0
AddsOn all old rest now = (last : Page) → Adds rest now last → Adds all old last

pub adds_on : (all xs ys : List Delivery) (old now new : Page) → AddsOn all old (xs ++ ys) now → Adds xs now new → AddsOn all old ys new
adds_on all xs ys old now new h f = λ last g. h last (adds_then xs ys now new last f g)

pub adds_end : (all : List Delivery) (old now : Page) → AddsOn all old [] now → Adds all old now
adds_end all old now h = h now (adds_none now)

-- ---- the records that are left

below_more : (a m n : ℕ) (b : Bool) → m ≤ n → nat_lt a m ≡ true → nat_lt a n ≡ b → b ≡ true
below_more a m n true le lt e = refl
below_more a m n false le lt e = absurd (grind (arith, lt, e, le))

skip_by : (m n : ℕ) (r : OffsetRecord) (records : List OffsetRecord) (b : Bool) → m ≤ n → nat_lt r.offset m ≡ b → from_offset n records ≡ from_offset n (from_offset m records)
    → from_offset n (r ∷ records) ≡ from_offset n (if b then from_offset m records else r ∷ records)
skip_by m n r records true le e more =
    ap (λ (c : Bool). if c then from_offset n records else r ∷ records) (below_more r.offset m n (nat_lt r.offset n) le e refl) ∙ more
skip_by m n r records false le e more = refl

skip : (m n : ℕ) (records : List OffsetRecord) → m ≤ n → from_offset n records ≡ from_offset n (from_offset m records)
skip m n [] le = refl
skip m n (r ∷ records) le = skip_by m n r records (nat_lt r.offset m) le refl (skip m n records le)

module _ (first : ℕ) (records : List OffsetRecord) (reader : Reader) (l : LeftFrom first records reader) where
  -- what is found at the first offset
  pub found_is : (found : Option (Option (List ℕ))) → ((rest : List OffsetRecord) → Left reader rest → found ≡ found_at rest first) → found ≡ found_at records first
  found_is found h = h l.0 l.1 ∙ sym (ap (λ (x : List OffsetRecord). first_at first x) (l.2 first (omega arith)))

  pub left_on : (after : Reader) → ((rest : List OffsetRecord) → Left reader rest → Left after (from_offset first rest)) → LeftFrom (first + 1) records after
  left_on after h = (from_offset first l.0, h l.0 l.1, λ n le. l.2 n (omega (arith, le)) ∙ skip first n l.0 (omega (arith, le)))

pub left_later : (first next : ℕ) (records : List OffsetRecord) (reader : Reader) → first ≤ next → LeftFrom first records reader → LeftFrom next records reader
left_later first next records reader le l = (l.0, l.1, λ n more. l.2 n (omega (arith, le, more)))

-- a reader before all records of a partition
pub left_all : (content : List ℕ) (found : List Batch) (reader : Reader) → AreStored 0 content found → ((batches : List Batch) → AreStored 0 content batches → Left reader (flat_map shown_batch batches))
    → LeftFrom 0 (all_records content) reader
left_all content found reader s h =
    (flat_map shown_batch found, h found s, λ n le. ap (λ (x : List OffsetRecord). from_offset n x) (records_are content found s))

-- ---- the offsets of a run

slots_step : (records : List OffsetRecord) (offset last : ℕ) → offset ≤ last
    → slots_from records offset (last + 1 - offset) ≡ record { offset = offset; found = found_at records offset } ∷ slots_from records (offset + 1) (last + 1 - (offset + 1))
slots_step records offset last le =
    let n : last + 1 - offset ≡ suc (last + 1 - (offset + 1)) = omega (arith, le) in
    ap (λ (k : ℕ). slots_from records offset k) n

slots_none : (records : List OffsetRecord) (offset last : ℕ) → last < offset → slots_from records offset (last + 1 - offset) ≡ []
slots_none records offset last lt = let n : last + 1 - offset ≡ 0 = omega (arith, lt) in ap (λ (k : ℕ). slots_from records offset k) n

abbrev types_from : List OffsetRecord → ℕ → ℕ → List ℤ
types_from records offset last = map (λ s. type_of s.found) (slots_from records offset (last + 1 - offset))

abbrev adds_from : Named → ℤ → List OffsetRecord → ℕ → ℕ → List Delivery
adds_from name count records offset last = slot_deliveries name count (slots_from records offset (last + 1 - offset))

-- what is told of the offsets from the first one on, as far as the reader has come
pub record Slotted (name : Named) (count : ℤ) (first last : ℕ) (records : List OffsetRecord) (old : Page) (offset : ℕ) (reader : Reader) (types : List ℤ) (page : Page) : Type 0 where
  pub left : LeftFrom offset records reader
  pub types_are : types ++ types_from records offset last ≡ types_from records first last
  pub adds : AddsOn (adds_from name count records first last) old (adds_from name count records offset last) page

pub slotted_starts : (name : Named) (count : ℤ) (first last : ℕ) (records : List OffsetRecord) (old : Page) (reader : Reader) → LeftFrom first records reader
    → Slotted name count first last records old first reader [] old
slotted_starts name count first last records old reader l = record { left = l; types_are = refl; adds = λ last h. h }

module _ (name : Named) (count : ℤ) (first last : ℕ) (records : List OffsetRecord) (old : Page) (offset : ℕ) (reader : Reader) (types : List ℤ) (page : Page)
    (s : Slotted name count first last records old offset reader types page) where
  pub slotted_on : offset ≤ last → (found : Option (Option (List ℕ))) → ((rest : List OffsetRecord) → Left reader rest → found ≡ found_at rest offset)
      → (after : Reader) → ((rest : List OffsetRecord) → Left reader rest → Left after (from_offset offset rest))
      → (t : ℤ) → t ≡ type_of found → (new : Page) → Adds (delivered name count offset found) page new
      → Slotted name count first last records old (offset + 1) after (types ++ t ∷ []) new
  slotted_on le found at after behind t is new added =
      let found' : found ≡ found_at records offset = found_is offset records reader s.left found at in
      record {
        left = left_on offset records reader s.left after behind;
        types_are =
            append_assoc types (t ∷ []) (types_from records (offset + 1) last)
            ∙ (ap (λ (k : ℤ). types ++ k ∷ types_from records (offset + 1) last) (is ∙ ap type_of found')
            ∙ (ap (λ (l : List Slot). types ++ map (λ s. type_of s.found) l) (sym (slots_step records offset last le)) ∙ s.types_are));
        adds = adds_on (adds_from name count records first last) (delivered name count offset found) (adds_from name count records (offset + 1) last) old page new
            (subst (λ (ds : List Delivery). AddsOn (adds_from name count records first last) old ds page)
            (ap (λ (l : List Slot). slot_deliveries name count l) (slots_step records offset last le)
            ∙ ap (λ (f : Option (Option (List ℕ))). delivered name count offset f ++ adds_from name count records (offset + 1) last) (sym found'))
            s.adds)
            added;
      }

  pub slotted_types : last < offset → types ≡ types_from records first last
  slotted_types lt = sym (append-nil types) ∙ (ap (λ (l : List Slot). types ++ map (λ s. type_of s.found) l) (sym (slots_none records offset last lt)) ∙ s.types_are)

  pub slotted_adds : last < offset → Adds (adds_from name count records first last) old page
  slotted_adds lt =
      adds_end (adds_from name count records first last) old page
      (subst (λ (l : List Slot). AddsOn (adds_from name count records first last) old (slot_deliveries name count l) page) (slots_none records offset last lt) s.adds)

-- ---- the elements of a partition

abbrev batches_for : List OffsetRecord → List (Located AcquiredRecords) → List AcknowledgementBatch
batches_for records acquired = map (λ a. run_acknowledged records a.item) acquired

pub record Runs (name : Named) (records : List OffsetRecord) (all : List (Located AcquiredRecords)) (old : Page) (rest : List (Located AcquiredRecords)) (reader : Reader)
    (batches : List AcknowledgementBatch) (page : Page) : Type 0 where
  pub next : ℕ
  pub left : LeftFrom next records reader
  pub rise : Rise next rest
  pub batches_are : batches ++ batches_for records rest ≡ batches_for records all
  pub adds : AddsOn (runs_deliveries name records all) old (runs_deliveries name records rest) page

pub runs_start : (name : Named) (records : List OffsetRecord) (all : List (Located AcquiredRecords)) (old : Page) (reader : Reader) → LeftFrom 0 records reader → Rise 0 all
    → Runs name records all old all reader [] old
runs_start name records all old reader l r = record { next = 0; left = l; rise = r; batches_are = refl; adds = λ last h. h }

module _ (name : Named) (records : List OffsetRecord) (all : List (Located AcquiredRecords)) (old : Page) (a : Located AcquiredRecords) (others : List (Located AcquiredRecords)) (reader : Reader)
    (batches : List AcknowledgementBatch) (page : Page) (s : Runs name records all old (a ∷ others) reader batches page) where
  pub run_left : LeftFrom (run_first a.item) records reader
  run_left = left_later s.next (run_first a.item) records reader s.rise.0 s.left

  pub run_order : run_first a.item ≤ at_least_zero a.item.last_offset
  run_order = s.rise.1

  pub runs_on : (batch : AcknowledgementBatch) (after : Reader) (new : Page) → batch ≡ run_acknowledged records a.item → LeftFrom (at_least_zero a.item.last_offset + 1) records after
      → Adds (run_deliveries name records a.item) page new → Runs name records all old others after (batches ++ batch ∷ []) new
  runs_on batch after new is left added = record {
    next = at_least_zero a.item.last_offset + 1;
    left = left;
    rise = s.rise.2;
    batches_are =
        append_assoc batches (batch ∷ []) (batches_for records others)
        ∙ (ap (λ (b : AcknowledgementBatch). batches ++ b ∷ batches_for records others) is ∙ s.batches_are);
    adds = adds_on (runs_deliveries name records all) (run_deliveries name records a.item) (runs_deliveries name records others) old page new s.adds added;
  }

module _ (name : Named) (records : List OffsetRecord) (all : List (Located AcquiredRecords)) (old : Page) (reader : Reader)
    (batches : List AcknowledgementBatch) (page : Page) (s : Runs name records all old [] reader batches page) where
  pub runs_batches : batches ≡ batches_for records all
  runs_batches = sym (append-nil batches) ∙ s.batches_are

  pub runs_adds : Adds (runs_deliveries name records all) old page
  runs_adds = adds_end (runs_deliveries name records all) old page s.adds

-- ---- partitions that can be so

pub sound_front : (xs ys : List Entry) → AreSound (xs ++ ys) → AreSound xs
sound_front [] ys h = tt
sound_front (x ∷ xs) ys h = (h.0, sound_front xs ys h.1)

pub sound_rest : (xs ys : List Entry) → AreSound (xs ++ ys) → AreSound ys
sound_rest [] ys h = h
sound_rest (x ∷ xs) ys h = sound_rest xs ys h.1

-- ---- the partitions of a reply

pub hands_none : (h : Handout) → Hands [] h h
hands_none h = record { topics = sym (append-nil h.topics.items); adds = adds_none h.page }

pub hands_then : (xs ys : List Entry) (a b c : Handout) → Hands xs a b → Hands ys b c → Hands (xs ++ ys) a c
hands_then xs ys a b c f g = record {
  topics = g.topics ∙ (ap (λ (x : List (ShareTopic SharePartition)). x ++ flat_map entry_acknowledged ys) f.topics
      ∙ (append_assoc a.topics.items (flat_map entry_acknowledged xs) (flat_map entry_acknowledged ys)
      ∙ ap (λ (x : List (ShareTopic SharePartition)). a.topics.items ++ x) (sym (flat_map-append entry_acknowledged xs ys))));
  adds = subst (λ (ds : List Delivery). Adds ds a.page c.page) (sym (flat_map-append entry_deliveries xs ys))
      (adds_then (flat_map entry_deliveries xs) (flat_map entry_deliveries ys) a.page b.page c.page f.adds g.adds);
}

-- From what was handed out at first to what was handed out since: what the rest hands out now, all hand out at first.
pub record HandsOn (old : Handout) (all : List Entry) (now : Handout) (rest : List Entry) : Type 0 where
  pub on : (last : Handout) → Hands rest now last → Hands all old last
  pub sound : AreSound rest

pub hands_from : (old : Handout) (all : List Entry) → AreSound all → HandsOn old all old all
hands_from old all s = record { on = λ last h. h; sound = s }

pub first_sound : (old : Handout) (all : List Entry) (now : Handout) (e : Entry) (rest : List Entry) → HandsOn old all now (e ∷ rest) → IsSound e
first_sound old all now e rest h = h.sound.0

pub front_sound : (old : Handout) (all : List Entry) (now : Handout) (front rest : List Entry) → HandsOn old all now (front ++ rest) → AreSound front
front_sound old all now front rest h = sound_front front rest h.sound

module _ (old : Handout) (all : List Entry) (mid : Handout) (front rest : List Entry) (g : HandsOn old all mid (front ++ rest)) where
  pub hands_on : (new : Handout) → Hands front mid new → HandsOn old all new rest
  hands_on new f = record { on = λ last h. g.on last (hands_then front rest mid new last f h); sound = sound_rest front rest g.sound }

pub hands_all : (old : Handout) (all : List Entry) (new : Handout) → HandsOn old all new [] → Hands all old new
hands_all old all new g = g.on new (hands_none new)

pub hands_passed : (e : Entry) (h : Handout) → is_passed e ≡ true → Hands (e ∷ []) h h
hands_passed e h p = record {
  topics = sym (ap (λ (b : Bool). h.topics.items ++ ((if b then [] else
      topic_acknowledged (name_of e) (map (λ a. run_acknowledged (all_records (content_of e.1.item.records)) a.item) e.1.item.acquired_records)) ++ [])) p ∙ append-nil h.topics.items);
  adds = subst (λ (b : Bool). Adds ((if b then [] else runs_deliveries (name_of e) (all_records (content_of e.1.item.records)) e.1.item.acquired_records) ++ []) h.page h.page) (sym p)
      (adds_none h.page);
}

pub hands_one : (e : Entry) (old new : Handout) → is_passed e ≡ false
    → new.topics.items ≡ old.topics.items ++ topic_acknowledged (name_of e) (batches_for (all_records (content_of e.1.item.records)) e.1.item.acquired_records)
    → Adds (runs_deliveries (name_of e) (all_records (content_of e.1.item.records)) e.1.item.acquired_records) old.page new.page → Hands (e ∷ []) old new
hands_one e old new p t a = record {
  topics = t ∙ ap (λ (b : Bool). old.topics.items ++ (if b then [] else
      topic_acknowledged (name_of e) (batches_for (all_records (content_of e.1.item.records)) e.1.item.acquired_records))) (sym p)
      ∙ ap (λ (x : List (ShareTopic SharePartition)). old.topics.items ++ x) (sym (append-nil (entry_acknowledged e)));
  adds = subst (λ (ds : List Delivery). Adds ds old.page new.page) (sym (append-nil (entry_deliveries e)))
      (subst (λ (b : Bool). Adds (if b then [] else runs_deliveries (name_of e) (all_records (content_of e.1.item.records)) e.1.item.acquired_records) old.page new.page) (sym p) a);
}

-- ---- what a reply tells

offset_is : (z : ℤ) (n : ℕ) → z ≡ pos n → at_least_zero z ≡ n
offset_is z n e = ap at_least_zero e

grants_rise : (spans : List Span) (next left rest : ℕ) (acquired : List (Located AcquiredRecords)) → AreGrants spans next left acquired (Ok rest) → Rise next acquired
grants_rise spans next left rest [] h = tt
grants_rise spans next left rest (a ∷ others) (inl h) = absurd cc
grants_rise spans next left rest (a ∷ others) (inr h) =
    let first = offset_is a.item.first_offset h.0 h.2.first_is in
    let last = offset_is a.item.last_offset h.1 h.2.last_is in (
      omega (arith, first, h.2.above),
      omega (arith, first, last, h.2.order),
      subst (λ (n : ℕ). Rise (n + 1) others) (sym last) (grants_rise spans (h.1 + 1) (h.0 + left - (h.1 + 1)) rest others h.3),
    )

pub fetched_sound : (left rest : ℕ) (p : LocatedPartition) → IsFetched left p (Ok rest) → ((found : List Batch) × AreStored 0 (content_of p.records) found) × Rise 0 p.acquired_records
fetched_sound left rest p (inl h) = absurd cc
fetched_sound left rest p (inr h) = ((h.0, h.1), grants_rise (map (λ b. span_of b) h.0) 0 left rest p.acquired_records h.2)

abbrev pub Looked : List Named → ℕ → Entry → List Entry → Type 0
Looked named left e others = (StandsIn named (name_of e) × (None ≡ Some e.1.place))
    ⊎ ((StandsIn named (name_of e) → ⊥)
    × (((place : ℕ) × IsFetched left e.1.item (Err place) × (None ≡ Some place))
    ⊎ ((rest : ℕ) × IsFetched left e.1.item (Ok rest) × AreFetched (name_of e ∷ named) rest others None)))

pub tells_sound : (named : List Named) (left : ℕ) (es : List Entry) → AreFetched named left es None → AreSound es
tells_sound named left [] h = tt
tells_sound named left (e ∷ es) h =
    by (is_passed e) refl (λ n k. tells_sound named left es k) (λ rest k. tells_sound (name_of e ∷ named) rest es k) h
  where
    looked : ((rest : ℕ) → AreFetched (name_of e ∷ named) rest es None → AreSound es) → Looked named left e es → AreSound (e ∷ es)
    looked on (inl h) = absurd cc
    looked on (inr h) = inner h.1
      where
        inner : ((place : ℕ) × IsFetched left e.1.item (Err place) × (None ≡ Some place)) ⊎ ((rest : ℕ) × IsFetched left e.1.item (Ok rest) × AreFetched (name_of e ∷ named) rest es None)
            → AreSound (e ∷ es)
        inner (inl k) = absurd cc
        inner (inr k) = (λ p. fetched_sound left k.0 e.1.item k.1, on k.0 k.2)

    by : (b : Bool) → is_passed e ≡ b → (ℕ → AreFetched named left es None → AreSound es) → ((rest : ℕ) → AreFetched (name_of e ∷ named) rest es None → AreSound es)
        → MatchBool b (AreFetched named left es None) (Looked named left e es) → AreSound (e ∷ es)
    by true p pass on h = ((λ q. absurd (true≢false (sym p ∙ q))), pass 0 h)
    by false p pass on h = looked on h

pub none_left : {A : Type 0} (l : List A) → length l ≡ 0 → l ≡ []
none_left [] e = refl
none_left (x ∷ l) e = absurd (omega (arith, e))
