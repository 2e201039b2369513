-- On partitions that stand twice.
use Rattle.std.proofs.Common.{◌≡◌, ◌<◌, ◌+◌, ℕ, ℤ, Bool, true, false, cond, not, ◌&&◌, ◌||◌, List, [], ◌∷◌, ◌++◌, length, map, drop, get_or, refl, sym, ap, ◌∙◌}
use Rattle.std.specs.List.{list_any}
use Rattle.std.specs.Ordering.{nat_cmp, int_cmp, int_eq, is_eq, ordering_then}
use Rattle.std.specs.declared.cmp.Ordering.{Ordering}
use Rattle.std.specs.declared.cmp.Ordering.TheVariants.{Less, Equal, Greater}
use Rattle.std.specs.Cmp.Lexicographic.{slice_cmp}
use Rattle.std.specs.Str.{bytes_eq}
use Rattle.std.proofs.lemmas.Map.Text.{is_eq-slice_cmp}
use Rattle.msgs_share.specs.declared.share_topic.SharePartition.{SharePartition}
use Rattle.share_session.specs.Requests.{is_same, has_repeat}
use Rattle.share_session.specs.Seen.{was_seen, repeats}
use Rattle.share_session.proofs.Lists.{drop_item}

abbrev pub Entry : Type 0
Entry = List ℕ × SharePartition

abbrev pub key_cmp : List ℕ × ℤ → List ℕ × ℤ → Ordering
key_cmp a b = ordering_then (slice_cmp nat_cmp a.0 b.0) (int_cmp a.1 b.1)

then_eq : (o p : Ordering) → is_eq (ordering_then o p) ≡ (is_eq o && is_eq p)
then_eq Less p = refl
then_eq Equal p = refl
then_eq Greater p = refl

key_same : (a b : List ℕ × ℤ) → is_eq (key_cmp a b) ≡ (bytes_eq a.0 b.0 && int_eq a.1 b.1)
key_same a b = then_eq (slice_cmp nat_cmp a.0 b.0) (int_cmp a.1 b.1) ∙ ap (λ c. c && int_eq a.1 b.1) (is_eq-slice_cmp a.0 b.0)

either : (b c : Bool) → cond b true c ≡ (b || c)
either true c = refl
either false c = refl

module _ (old new : List (List ℕ × ℤ)) (e : Entry) where
  -- new has what old has, and e
  abbrev pub Adds : Type 0
  Adds = (q : List ℕ × ℤ) → list_any (λ k. is_eq (key_cmp q k)) new ≡ cond (is_eq (key_cmp (e.0, e.1.partition_index) q)) true (list_any (λ k. is_eq (key_cmp q k)) old)

  added : Adds → (other : Entry) → (is_same e other || was_seen old other) ≡ was_seen new other
  added h other =
      sym (h (other.0, other.1.partition_index)
      ∙ either (is_eq (key_cmp (e.0, e.1.partition_index) (other.0, other.1.partition_index))) (was_seen old other)
      ∙ ap (λ c. c || was_seen old other) (key_same (e.0, e.1.partition_index) (other.0, other.1.partition_index)))

  -- a partition that wasn't seen is passed by
  pub goes_on : Adds → was_seen old e ≡ false → (es : List Entry) → repeats (was_seen old) (e ∷ es) ≡ repeats (was_seen new) es
  goes_on h fresh es =
      let same : (λ (other : Entry). is_same e other || was_seen old other) ≡ was_seen new = (λ j. λ other. added h other j) in
      ap (λ c. c || repeats (λ (other : Entry). is_same e other || was_seen old other) es) fresh ∙ ap (λ (f : Entry → Bool). repeats f es) same

-- one that was seen is found
pub found : (seen : List (List ℕ × ℤ)) (e : Entry) (es : List Entry) → was_seen seen e ≡ true → repeats (was_seen seen) (e ∷ es) ≡ true
found seen e es h = ap (λ c. c || repeats (λ (other : Entry). is_same e other || was_seen seen other) es) h

any_either : (f g : Entry → Bool) (es : List Entry) → list_any (λ o. f o || g o) es ≡ (list_any f es || list_any g es)
any_either f g [] = refl
any_either f g (e ∷ es) = ap (λ c. (f e || g e) || c) (any_either f g es) ∙ mixed (f e) (g e) (list_any f es) (list_any g es)
  where
    mixed : (a b c d : Bool) → ((a || b) || (c || d)) ≡ ((a || c) || (b || d))
    mixed true b c d = refl
    mixed false true true d = refl
    mixed false true false d = refl
    mixed false false c d = refl

shuffled : (k s n h : Bool) → (k || ((s || n) || h)) ≡ ((k || n) || (s || h))
shuffled true s n h = refl
shuffled false true true h = refl
shuffled false true false h = refl
shuffled false false n h = refl

repeats_all : (known : Entry → Bool) (es : List Entry) → repeats known es ≡ (list_any known es || has_repeat es)
repeats_all known [] = refl
repeats_all known (e ∷ es) =
    ap (λ c. known e || c) (repeats_all (λ o. is_same e o || known o) es ∙ ap (λ c. c || has_repeat es) (any_either (is_same e) known es))
    ∙ shuffled (known e) (list_any (is_same e) es) (list_any known es) (has_repeat es)

none_seen : (es : List Entry) → list_any (was_seen []) es ≡ false
none_seen [] = refl
none_seen (e ∷ es) = none_seen es

-- at first nothing was seen
pub at_first : (es : List Entry) → has_repeat es ≡ repeats (was_seen []) es
at_first es = sym (repeats_all (was_seen []) es ∙ ap (λ c. c || has_repeat es) (none_seen es))

not_false : (b c : Bool) → c ≡ not b → c ≡ false → b ≡ true
not_false true c e f = refl
not_false false c e f = sym f ∙ e

not_true : (b c : Bool) → c ≡ not b → c ≡ true → b ≡ false
not_true true c e f = sym f ∙ e
not_true false c e f = refl

-- a loop over the partitions of a topic, at the partition p, whose number is z
module _ (id : List ℕ) (parts : List SharePartition) (i : ℕ) (p : SharePartition) (within : i < length parts) (is : p ≡ get_or parts i p) (z : ℤ) (same : z ≡ p.partition_index) where
  abbrev from : ℕ → List Entry → List Entry
  from n rest = map (λ x. (id, x)) (drop n parts) ++ rest

  left : (rest : List Entry) → from i rest ≡ (id, p) ∷ from (i + 1) rest
  left rest = ap (λ l. map (λ (x : SharePartition). (id, x)) l ++ rest) (drop_item parts i p within is)

  seen_by : (seen : List (List ℕ × ℤ)) → list_any (λ k. is_eq (key_cmp (id, z) k)) seen ≡ was_seen seen (id, p)
  seen_by seen = ap (λ (n : ℤ). list_any (λ k. is_eq (key_cmp (id, n) k)) seen) same

  pub again : (seen : List (List ℕ × ℤ)) (fresh : Bool) → fresh ≡ not (list_any (λ k. is_eq (key_cmp (id, z) k)) seen) → fresh ≡ false →
      (rest : List Entry) → repeats (was_seen seen) (from i rest) ≡ true
  again seen fresh e f rest =
      ap (repeats (was_seen seen)) (left rest) ∙ found seen (id, p) (from (i + 1) rest) (sym (seen_by seen) ∙ not_false _ fresh e f)

  pub passes : (old new : List (List ℕ × ℤ)) (fresh : Bool) → fresh ≡ not (list_any (λ k. is_eq (key_cmp (id, z) k)) old) → fresh ≡ true →
      ((q : List ℕ × ℤ) → list_any (λ k. is_eq (key_cmp q k)) new ≡ cond (is_eq (key_cmp (id, z) q)) true (list_any (λ k. is_eq (key_cmp q k)) old)) →
      (rest : List Entry) → repeats (was_seen old) (from i rest) ≡ repeats (was_seen new) (from (i + 1) rest)
  passes old new fresh e f h rest =
      ap (repeats (was_seen old)) (left rest)
      ∙ goes_on old new (id, p) (λ q. h q ∙ ap (λ (n : ℤ). cond (is_eq (key_cmp (id, n) q)) true (list_any (λ k. is_eq (key_cmp q k)) old)) same)
      (sym (seen_by old) ∙ not_true _ fresh e f) (from (i + 1) rest)
