-- What is read with places is what is read without them.
use Rattle.std.proofs.Common.{◌≡◌, ◌∙◌, ◌∷◌, ℕ, zero, suc, Bool, true, false, List, Option, Some, None, Result, Ok, Err, refl, ap, map}
use Rattle.std.specs.Prelude.{if◌then◌else◌, ◌==◌, take}
use Rattle.std.specs.Option.{option_map}
use Rattle.flex_fields.specs.declared.fault.WireFault.{WireFault}
use Rattle.flex_fields.specs.declared.fault.WireFault.TheVariants.{Short}
use Rattle.flex_fields.specs.Formats.{int16, int32, null_byte_string, null_string, uuid}
use Rattle.flex_fields.specs.Reading.{At, ◌>>=◌, array_at, array_len_at, as_at, bytes_at, len_at, many_at, nullable_at, past, tagged_at, tags_at, then_at, uvarint_at}
use Rattle.msgs_share.specs.declared.share_fetch_reply.AcquiredRecords.{AcquiredRecords}
use Rattle.msgs_share.specs.Nodes.{current_leader, node_endpoint}
use Rattle.msgs_share.specs.ShareFetchReply.{acquired_records, fetched_partition, fetched_partition_shape, share_fetch_reply, share_fetch_reply_shape}
use Rattle.msgs_share.specs.ShareTopic.{share_topic, share_topic_shape}
use Rattle.share_client.specs.declared.located.Located.{Located}
use Rattle.share_client.specs.declared.located.LocatedRecords.{LocatedRecords}
use Rattle.share_client.specs.declared.fetched.LocatedPartition.{LocatedPartition}
use Rattle.share_client.specs.Locating.{bare_fetch, bare_partition, bare_topic, located_at, located_bytes_at, located_fetch_at, located_records_at, partition_at, partition_of, topic_at, fetch_of}

abbrev Reader : Type 0 → Type 0
Reader A = At → Result (A × At) WireFault

-- what the one reads, seen by `bare`, is what the other reads
abbrev IsBare : {A B : Type 0} → (A → B) → Reader A → Reader B → Type 0
IsBare bare located read = (at : At) → as_at bare located at ≡ read at

abbrev seen : {A B : Type 0} → (A → B) → Result (A × At) WireFault → Result (B × At) WireFault
seen f r = r >>= λ x. Ok (f x.0, x.1)

seen_same : {A : Type 0} (r : Result (A × At) WireFault) → seen (λ x. x) r ≡ r
seen_same (Ok x) = refl
seen_same (Err e) = refl

seen_twice : {A B C : Type 0} (f : A → B) (g : B → C) (r : Result (A × At) WireFault) → seen g (seen f r) ≡ seen (λ x. g (f x)) r
seen_twice f g (Ok x) = refl
seen_twice f g (Err e) = refl

bare_same : {A : Type 0} (read : Reader A) → IsBare (λ x. x) read read
bare_same read at = seen_same (read at)

-- ---- one behind the other

then_by : {A B C D : Type 0} (f : A → C) (g : B → D) (s : Reader B) (t : Reader D) → IsBare g s t → (r : Result (A × At) WireFault)
    → seen {B = C × D} (λ (x : A × B). (f x.0, g x.1)) (r >>= λ a. s a.1 >>= λ b. Ok ((a.0, b.0), b.1)) ≡ (seen f r >>= λ a. t a.1 >>= λ b. Ok ((a.0, b.0), b.1))
then_by {A} {B} {C} {D} f g s t h (Ok a) = inner (s a.1) ∙ ap (λ (r : Result (D × At) WireFault). r >>= λ b. Ok ((f a.0, b.0), b.1)) (h a.1)
  where
    inner : (r : Result (B × At) WireFault) → seen {B = C × D} (λ (x : A × B). (f x.0, g x.1)) (r >>= λ b. Ok ((a.0, b.0), b.1)) ≡ (seen g r >>= λ b. Ok ((f a.0, b.0), b.1))
    inner (Ok b) = refl
    inner (Err e) = refl
then_by f g s t h (Err e) = refl

bare_then : {A B C D : Type 0} (f : A → C) (g : B → D) (r : Reader A) (q : Reader C) (s : Reader B) (t : Reader D) → IsBare f r q → IsBare g s t
    → IsBare (λ (x : A × B). (f x.0, g x.1)) (then_at r s) (then_at q t)
bare_then {A} {B} {C} {D} f g r q s t h k at =
    then_by f g s t k (r at) ∙ ap (λ (x : Result (C × At) WireFault). x >>= λ a. t a.1 >>= λ b. Ok ((a.0, b.0), b.1)) (h at)

-- ---- so many

many_by : {A B : Type 0} (f : A → B) (s : Reader A) (t : Reader B) (n : ℕ) → ((at : At) → seen (map f) (many_at s n at) ≡ many_at t n at) → (r : Result (A × At) WireFault)
    → seen (map f) (r >>= λ a. many_at s n a.1 >>= λ b. Ok (a.0 ∷ b.0, b.1)) ≡ (seen f r >>= λ a. many_at t n a.1 >>= λ b. Ok (a.0 ∷ b.0, b.1))
many_by {A} {B} f s t n h (Ok a) = inner (many_at s n a.1) ∙ ap (λ (r : Result (List B × At) WireFault). r >>= λ b. Ok (f a.0 ∷ b.0, b.1)) (h a.1)
  where
    inner : (r : Result (List A × At) WireFault) → seen (map f) (r >>= λ b. Ok (a.0 ∷ b.0, b.1)) ≡ (seen (map f) r >>= λ b. Ok (f a.0 ∷ b.0, b.1))
    inner (Ok b) = refl
    inner (Err e) = refl
many_by f s t n h (Err e) = refl

bare_many : {A B : Type 0} (f : A → B) (s : Reader A) (t : Reader B) → IsBare f s t → (n : ℕ) (at : At) → seen (map f) (many_at s n at) ≡ many_at t n at
unfolding many_at
bare_many f s t h zero at = refl
bare_many {A} {B} f s t h (suc n) at =
    many_by f s t n (bare_many f s t h n) (s at) ∙ ap (λ (x : Result (B × At) WireFault). x >>= λ a. many_at t n a.1 >>= λ b. Ok (a.0 ∷ b.0, b.1)) (h at)

bare_array : {A B : Type 0} (f : A → B) (s : Reader A) (t : Reader B) → IsBare f s t → IsBare (map f) (array_at s) (array_at t)
unfolding array_at
bare_array {A} {B} f s t h at = inner (array_len_at at)
  where
    inner : (r : Result (ℕ × At) WireFault) → seen (map f) (r >>= λ n. many_at s n.0 n.1) ≡ (r >>= λ n. many_at t n.0 n.1)
    inner (Ok n) = bare_many f s t h n.0 n.1
    inner (Err e) = refl

-- ---- what is made of them

bare_tagged : {A B : Type 0} (f : A → B) (s : Reader A) (t : Reader B) → IsBare f s t → IsBare f (tagged_at s) (tagged_at t)
bare_tagged {A} {B} f s t h at = inner (s at) ∙ ap (λ (x : Result (B × At) WireFault). x >>= λ a. tags_at a.1 >>= λ after. Ok (a.0, after)) (h at)
  where
    last : (x : A) (r : Result At WireFault) → seen f (r >>= λ after. Ok (x, after)) ≡ (r >>= λ after. Ok (f x, after))
    last x (Ok after) = refl
    last x (Err e) = refl

    inner : (r : Result (A × At) WireFault) → seen f (r >>= λ a. tags_at a.1 >>= λ after. Ok (a.0, after)) ≡ (seen f r >>= λ a. tags_at a.1 >>= λ after. Ok (a.0, after))
    inner (Ok a) = last a.0 (tags_at a.1)
    inner (Err e) = refl

bare_located : {A B : Type 0} (f : A → B) (s : Reader A) (t : Reader B) → IsBare f s t → IsBare (λ (x : Located A). f x.item) (located_at s) t
bare_located f s t h at = seen_twice (λ x. record { place = at.place; item = x }) (λ x. f x.item) (s at) ∙ h at

-- a struct of fields that are seen barely
bare_made : {A B C D : Type 0} (make : A → B) (bare : B → D) (f : A → C) (other : C → D) (s : Reader A) (t : Reader C) → IsBare f s t
    → ((x : A) → bare (make x) ≡ other (f x)) → IsBare bare (as_at make s) (as_at other t)
bare_made {A} {B} {C} {D} make bare f other s t h e at = inner (s at) ∙ ap (λ (x : Result (C × At) WireFault). seen other x) (h at)
  where
    inner : (r : Result (A × At) WireFault) → seen bare (seen make r) ≡ seen other (seen f r)
    inner (Ok x) = ap (λ (y : D). Ok (y, x.1)) (e x.0)
    inner (Err e) = refl

-- ---- the fields of the reply

bare_bytes : IsBare (λ (x : Located (List ℕ)). x.item) located_bytes_at bytes_at
unfolding located_bytes_at bytes_at
bare_bytes at = inner (len_at (Short at.place) at)
  where
    inner : (r : Result (ℕ × At) WireFault) → seen (λ (x : Located (List ℕ)). x.item) (r >>= λ n. Ok (record { place = n.1.place; item = take n.0 n.1.left }, past n.0 n.1))
        ≡ (r >>= λ n. Ok (take n.0 n.1.left, past n.0 n.1))
    inner (Ok n) = refl
    inner (Err e) = refl

bare_nullable : {A B : Type 0} (f : A → B) (bare : Option A → Option B) (s : Reader A) (t : Reader B) → IsBare f s t → bare None ≡ None → ((x : A) → bare (Some x) ≡ Some (f x))
    → IsBare bare (nullable_at s) (nullable_at t)
unfolding nullable_at
bare_nullable {A} {B} f bare s t h none some at = outer (uvarint_at at)
  where
    inner : (r : Result (A × At) WireFault) → seen bare (seen Some r) ≡ seen Some (seen f r)
    inner (Ok x) = ap (λ (y : Option B). Ok (y, x.1)) (some x.0)
    inner (Err e) = refl

    pick : (b : Bool) (after : At) → seen bare (if b then Ok (None, after) else as_at Some s at) ≡ (if b then Ok (None, after) else as_at Some t at)
    pick true after = ap (λ (y : Option B). Ok (y, after)) none
    pick false after = inner (s at) ∙ ap (λ (x : Result (B × At) WireFault). seen Some x) (h at)

    outer : (r : Result (ℕ × At) WireFault) → seen bare (r >>= λ n. if n.0 == 0 then Ok (None, n.1) else as_at Some s at)
        ≡ (r >>= λ n. if n.0 == 0 then Ok (None, n.1) else as_at Some t at)
    outer (Ok n) = pick (n.0 == 0) n.1
    outer (Err e) = refl

bare_records : IsBare (λ (x : LocatedRecords). option_map (λ y. y.item) x.records) located_records_at (nullable_at bytes_at)
unfolding located_records_at
bare_records at =
    seen_twice (λ x. record { records = x }) (λ (x : LocatedRecords). option_map (λ y. y.item) x.records) (nullable_at located_bytes_at at)
    ∙ bare_nullable (λ (x : Located (List ℕ)). x.item) (λ o. option_map (λ y. y.item) o) located_bytes_at bytes_at bare_bytes refl (λ _. refl) at

abbrev past_one : {A B C : Type 0} → (B → C) → A × B → A × C
past_one f x = (x.0, f x.1)

-- a field without places, in front
bare_field : {A B C : Type 0} (read : Reader A) (f : B → C) (s : Reader B) (t : Reader C) → IsBare f s t → IsBare (past_one {A = A} f) (then_at read s) (then_at read t)
bare_field read f s t h = bare_then (λ x. x) f read read s t (bare_same read) h

abbrev bare_grants : LocatedRecords × List (Located AcquiredRecords) → Option (List ℕ) × List AcquiredRecords
bare_grants x = (option_map (λ y. y.item) x.0.records, map (λ y. y.item) x.1)

abbrev grants_at : Reader (LocatedRecords × List (Located AcquiredRecords))
grants_at = then_at located_records_at (array_at (located_at acquired_records.read))

abbrev bare_grants_at : Reader (Option (List ℕ) × List AcquiredRecords)
bare_grants_at = then_at null_byte_string.read (array_at acquired_records.read)

grants_bare : IsBare bare_grants grants_at bare_grants_at
grants_bare = bare_then (λ (x : LocatedRecords). option_map (λ y. y.item) x.records) (map (λ y. y.item)) located_records_at null_byte_string.read
    (array_at (located_at acquired_records.read)) (array_at acquired_records.read) bare_records
    (bare_array (λ y. y.item) (located_at acquired_records.read) acquired_records.read
    (bare_located (λ y. y) acquired_records.read acquired_records.read (bare_same acquired_records.read)))

partition_bare : IsBare bare_partition partition_at fetched_partition.read
unfolding partition_at fetched_partition
partition_bare =
    bare_made partition_of bare_partition (past_one (past_one (past_one (past_one (past_one (past_one bare_grants)))))) fetched_partition_shape.make _ _
    (bare_tagged (past_one (past_one (past_one (past_one (past_one (past_one bare_grants)))))) _ _
    (bare_field int32.read (past_one (past_one (past_one (past_one (past_one bare_grants))))) _ _
    (bare_field int16.read (past_one (past_one (past_one (past_one bare_grants)))) _ _
    (bare_field null_string.read (past_one (past_one (past_one bare_grants))) _ _
    (bare_field int16.read (past_one (past_one bare_grants)) _ _
    (bare_field null_string.read (past_one bare_grants) _ _ (bare_field current_leader.read bare_grants grants_at bare_grants_at grants_bare)))))))
    (λ _. refl)

partitions_bare : IsBare (map (λ (x : Located LocatedPartition). bare_partition x.item)) (array_at (located_at partition_at)) (array_at fetched_partition.read)
partitions_bare =
    bare_array (λ (x : Located LocatedPartition). bare_partition x.item) (located_at partition_at) fetched_partition.read
    (bare_located bare_partition partition_at fetched_partition.read partition_bare)

topic_bare : IsBare bare_topic topic_at (share_topic fetched_partition).read
unfolding topic_at share_topic
topic_bare =
    bare_made (λ x. record { topic_id = x.0; partitions = x.1 }) bare_topic (past_one (map (λ (x : Located LocatedPartition). bare_partition x.item))) share_topic_shape.make _ _
    (bare_tagged (past_one (map (λ (x : Located LocatedPartition). bare_partition x.item))) _ _
    (bare_field uuid.read (map (λ (x : Located LocatedPartition). bare_partition x.item)) _ _ partitions_bare))
    (λ _. refl)

pub fetch_bare : (at : At) → as_at bare_fetch located_fetch_at at ≡ share_fetch_reply.read at
unfolding located_fetch_at share_fetch_reply
fetch_bare =
    bare_made fetch_of bare_fetch (past_one (past_one (past_one (past_one (λ x. (map bare_topic x.0, x.1)))))) share_fetch_reply_shape.make _ _
    (bare_tagged (past_one (past_one (past_one (past_one (λ x. (map bare_topic x.0, x.1)))))) _ _
    (bare_field int32.read (past_one (past_one (past_one (λ x. (map bare_topic x.0, x.1))))) _ _
    (bare_field int16.read (past_one (past_one (λ x. (map bare_topic x.0, x.1)))) _ _
    (bare_field null_string.read (past_one (λ x. (map bare_topic x.0, x.1))) _ _
    (bare_field int32.read (λ x. (map bare_topic x.0, x.1)) _ _
    (bare_then (map bare_topic) (λ x. x) (array_at topic_at) (array_at (share_topic fetched_partition).read) (array_at node_endpoint.read) (array_at node_endpoint.read)
    (bare_array bare_topic topic_at (share_topic fetched_partition).read topic_bare) (bare_same (array_at node_endpoint.read))))))))
    (λ _. refl)
