-- The partitions of one list that don't stand in another.
use Rattle.std.proofs.Common.{◌≡◌, ◌∙◌, ◌∷◌, [], ◌++◌, ◌||◌, ℕ, ℤ, Bool, true, false, not, cond, List, refl, sym, ap, map, append_assoc, arith, length}
use Rattle.std.proofs.lemmas.List.{append-nil}
use Rattle.std.specs.Prelude.{filter, flat_map, if◌then◌else◌}
use Rattle.std.specs.BTreeMap.{is_at}
use Rattle.std.specs.BTreeSet.{contains}
use Rattle.std.specs.List.{list_any}
use Rattle.msgs_group.specs.declared.heartbeat_reply.AssignedTopic.{AssignedTopic}
use Rattle.share_client.specs.Grants.{Named}
use Rattle.share_client.specs.Partitions.{HasJust, Notes, is_named, names_in, some_topic, topic_names, topic_outside}
use Rattle.share_client.specs.Spans.{Names, name_cmp}

swapped : (a o c : Bool) → (o || cond a true c) ≡ ((a || o) || c)
swapped true true c = refl
swapped true false c = refl
swapped false true c = refl
swapped false false c = refl

moved : (a o c : Bool) → (o || (a || c)) ≡ ((a || o) || c)
moved true true c = refl
moved true false c = refl
moved false true c = refl
moved false false c = refl

or_false : (b : Bool) → (b || false) ≡ b
or_false true = refl
or_false false = refl

named_append : (xs ys : List Named) (q : Named) → is_named (xs ++ ys) q ≡ (is_named xs q || is_named ys q)
named_append [] ys q = refl
named_append (x ∷ xs) ys q = by (is_at (name_cmp x) q) (is_named xs q) (is_named ys q) (is_named (xs ++ ys) q) (named_append xs ys q)
  where
    by : (a b c d : Bool) → d ≡ (b || c) → (a || d) ≡ ((a || b) || c)
    by true b c d e = refl
    by false b c d e = e

-- one more partition is noted
pub noted_on : (id : List ℕ) (n : ℤ) (others : List ℤ) (old new : Names) (all : Named → Bool)
    → ((q : Named) → contains name_cmp new q ≡ cond (is_at (name_cmp (id, n)) q) true (contains name_cmp old q))
    → ((q : Named) → (is_named (map (λ k. (id, k)) (n ∷ others)) q || contains name_cmp old q) ≡ all q)
    → (q : Named) → (is_named (map (λ k. (id, k)) others) q || contains name_cmp new q) ≡ all q
noted_on id n others old new all has h q =
    ap (λ (b : Bool). is_named (map (λ k. (id, k)) others) q || b) (has q)
    ∙ (swapped (is_at (name_cmp (id, n)) q) (is_named (map (λ k. (id, k)) others) q) (contains name_cmp old q) ∙ h q)

-- one more topic is noted
pub joined_on : (t : AssignedTopic) (others : List AssignedTopic) (old new : Names) (all : Named → Bool) → Notes old (topic_names t) new
    → ((q : Named) → (is_named (names_in (t ∷ others)) q || contains name_cmp old q) ≡ all q)
    → (q : Named) → (is_named (names_in others) q || contains name_cmp new q) ≡ all q
joined_on t others old new all notes h q =
    ap (λ (b : Bool). is_named (names_in others) q || b) (notes q)
    ∙ (moved (is_named (topic_names t) q) (is_named (names_in others) q) (contains name_cmp old q)
    ∙ (ap (λ (b : Bool). b || contains name_cmp old q) (sym (named_append (topic_names t) (names_in others) q)) ∙ h q))

-- at first no name is noted
pub none_noted : (names : Names) → names.keys ≡ [] → (topics : List AssignedTopic) (q : Named) → (is_named (names_in topics) q || contains name_cmp names q) ≡ is_named (names_in topics) q
none_noted names e topics q =
    ap (λ (l : List Named). is_named (names_in topics) q || list_any (is_at (name_cmp q)) l) e ∙ or_false (is_named (names_in topics) q)

-- the partitions that pass so far
pub passed_on : (p : ℤ → Bool) (items : List ℤ) (n : ℤ) (others all : List ℤ) (b : Bool) → p n ≡ b → items ++ filter p (n ∷ others) ≡ all
    → (if b then items ++ n ∷ [] else items) ++ filter p others ≡ all
passed_on p items n others all true e h =
    append_assoc items (n ∷ []) (filter p others) ∙ (ap (λ (c : Bool). items ++ (if c then n ∷ filter p others else filter p others)) (sym e) ∙ h)
passed_on p items n others all false e h = ap (λ (c : Bool). items ++ (if c then n ∷ filter p others else filter p others)) (sym e) ∙ h

-- one more topic is looked at
pub outside_on : (names : List Named) (t : AssignedTopic) (others found all : List AssignedTopic) (partitions : List ℤ)
    → partitions ≡ filter (λ n. not (is_named names (t.topic_id, n))) t.partitions → found ++ flat_map (topic_outside names) (t ∷ others) ≡ all
    → (found ++ some_topic t.topic_id partitions) ++ flat_map (topic_outside names) others ≡ all
outside_on names t others found all partitions e h =
    append_assoc found (some_topic t.topic_id partitions) (flat_map (topic_outside names) others)
    ∙ (ap (λ (l : List ℤ). found ++ (some_topic t.topic_id l ++ flat_map (topic_outside names) others)) e ∙ h)

pub passed_end : (p : ℤ → Bool) (items rest all : List ℤ) → length rest ≡ 0 → items ++ filter p rest ≡ all → items ≡ all
passed_end p items [] all e h = sym (append-nil items) ∙ h
passed_end p items (n ∷ rest) all e h = absurd (omega (arith, e))
