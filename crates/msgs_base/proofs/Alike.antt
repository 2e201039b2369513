-- The reply that tells one coordinator of all keys.
use Rattle.std.proofs.Common.{◌≡◌, ◌+◌, ◌∙◌, ℕ, pos, List, [], ◌∷◌, ◌++◌, None, length, map, refl, sym, ap, append_assoc}
use Rattle.std.specs.Int.{w32}
use Rattle.std.specs.List.{flat_map}
use Rattle.std.proofs.lemmas.List.{length-map}
use Rattle.flex_fields.specs.Writing.{int_bytes, uvarint_bytes, groups_of}
use Rattle.flex_fields.specs.Formats.{Format, Writes, WritesNoTags, ◌▹◌, string, null_string, int16, int32}
use Rattle.msgs_base.specs.declared.coordinator_of_all.CoordinatorOfAll.{CoordinatorOfAll}
use Rattle.msgs_base.specs.FindCoordinatorReply.{coordinator, find_coordinator_reply}
use Rattle.msgs_base.specs.CoordinatorOfAll.{with_key, all_have}
use Rattle.msgs_base.specs.Texts.{spelled_before}

-- what stands behind each key
abbrev pub TellsBehind : CoordinatorOfAll → List ℕ → Type 0
TellsBehind told behind = (key : List ℕ) → coordinator.bytes (with_key told key) ≡ string.bytes key ++ behind

pub tells_behind : (told : CoordinatorOfAll) (start between out : List ℕ) → start ≡ []
    → Writes (int32 ▹ string ▹ int32 ▹ int16 ▹ null_string) start between (told.node_id, (told.host, (told.port, (told.error_code, None))))
    → WritesNoTags between out → TellsBehind told out
unfolding coordinator
tells_behind told start between out none fields tags key =
    let f = (int32 ▹ string ▹ int32 ▹ int16 ▹ null_string).bytes (told.node_id, (told.host, (told.port, (told.error_code, None)))) in
    let all : out ≡ f ++ uvarint_bytes 0 =
    tags.appended ∙ ap (λ (l : List ℕ). l ++ uvarint_bytes 0) (fields.appended ∙ ap (λ (l : List ℕ). l ++ f) none) in
    append_assoc (string.bytes key) f (uvarint_bytes 0) ∙ ap (λ (l : List ℕ). string.bytes key ++ l) (sym all)

each_alike : (told : CoordinatorOfAll) (behind : List ℕ) → TellsBehind told behind → (keys : List (List ℕ))
    → flat_map coordinator.bytes (map (with_key told) keys) ≡ spelled_before behind keys
each_alike told behind tells [] = refl
each_alike told behind tells (key ∷ keys) =
    ap (λ (l : List ℕ). l ++ flat_map coordinator.bytes (map (with_key told) keys)) (tells key)
    ∙ ap (λ (l : List ℕ). (string.bytes key ++ behind) ++ l) (each_alike told behind tells keys)

zero_bytes : uvarint_bytes 0 ≡ 0 ∷ []
unfolding groups_of
zero_bytes = refl

pub whole_reply : (told : CoordinatorOfAll) (behind : List ℕ) (keys : List (List ℕ)) (body front each : List ℕ) → TellsBehind told behind
    → front ≡ int_bytes w32 (pos 0) ++ uvarint_bytes (length keys + 1) → each ≡ front ++ spelled_before behind keys → body ≡ each ++ 0 ∷ []
    → body ≡ find_coordinator_reply.bytes (all_have told keys)
unfolding find_coordinator_reply
whole_reply told behind keys body front each tells first items last =
    let told_keys = map (with_key told) keys in
    let i = int_bytes w32 (pos 0) in
    let middle : spelled_before behind keys ≡ flat_map coordinator.bytes told_keys = sym (each_alike told behind tells keys) in
    let count : length keys ≡ length told_keys = sym (length-map keys (with_key told)) in
    let whole : each ≡ i ++ (uvarint_bytes (length told_keys + 1) ++ flat_map coordinator.bytes told_keys) =
    items ∙ ap (λ (l : List ℕ). l ++ spelled_before behind keys) first
    ∙ append_assoc i (uvarint_bytes (length keys + 1)) (spelled_before behind keys)
    ∙ ap (λ (n : ℕ). i ++ (uvarint_bytes (n + 1) ++ spelled_before behind keys)) count
    ∙ ap (λ (l : List ℕ). i ++ (uvarint_bytes (length told_keys + 1) ++ l)) middle in
    last ∙ ap (λ (l : List ℕ). l ++ 0 ∷ []) whole
    ∙ ap (λ (l : List ℕ). (i ++ (uvarint_bytes (length told_keys + 1) ++ flat_map coordinator.bytes told_keys)) ++ l) (sym zero_bytes)
