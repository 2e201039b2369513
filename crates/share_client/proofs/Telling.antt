-- A reply tells one thing.
use Rattle.std.proofs.Common.{inl, inr, ◌≡◌, ◌∙◌, ◌∷◌, [], ◌++◌, ◌+◌, ◌-◌, ℕ, ℤ, pos, Bool, true, false, List, Option, Some, Result, Ok, Err, refl, sym, ap, subst, map, length, take, drop, arith}
use Rattle.std.specs.Prelude.{◌⊎◌}
use Rattle.std.specs.Bool.{MatchBool}
use Rattle.std.proofs.Math.Seq.{drop-append_seam, take-append_seam}
use Rattle.std.proofs.lemmas.Int.{ints}
use Rattle.std.proofs.lemmas.List.{length-append}
use Rattle.msgs_share.specs.declared.share_fetch_reply.AcquiredRecords.{AcquiredRecords}
use Rattle.rec_batch.specs.declared.form.Form.TheVariants.{Stored}
use Rattle.rec_batch.specs.Batches.{IsBatch, at_least_zero}
use Rattle.rec_batch.specs.Fields.{base_offset, last_offset_delta}
use Rattle.share_client.specs.declared.batches.Span.{Span}
use Rattle.share_client.specs.declared.fetched.LocatedPartition.{LocatedPartition}
use Rattle.share_client.specs.declared.located.Located.{Located}
use Rattle.share_client.specs.Grants.{AreBroken, AreFetched, AreGrants, AreStored, Batch, Entry, IsFetched, Named, StandsIn, content_of, is_passed, name_of, place_of, span_of}
use Rattle.share_client.proofs.Walking.{says}

-- ---- batches

abbrev span_in : List ℕ → Span
span_in bytes = record { base = at_least_zero (base_offset bytes); last = at_least_zero (base_offset bytes) + at_least_zero (last_offset_delta bytes) }

-- one stored batch stands in front
module _ (bytes : List ℕ) (b c : Batch) (r s : List ℕ) (e : bytes ≡ b.bytes ++ r) (f : bytes ≡ c.bytes ++ s)
    (is : IsBatch Stored b.bytes b.records) (also : IsBatch Stored c.bytes c.records) where
  same_length : length b.bytes ≡ length c.bytes
  same_length =
      let x = says bytes b r e is in
      let y = says bytes c s f also in
      omega (arith, ints, x, y)

  front_of : (x y : List ℕ) → bytes ≡ x ++ y → x ≡ take (length x) bytes
  front_of x y h = sym (take-append_seam x y) ∙ ap (λ (l : List ℕ). take (length x) l) (sym h)

  rest_of : (x y : List ℕ) → bytes ≡ x ++ y → y ≡ drop (length x) bytes
  rest_of x y h = sym (drop-append_seam x y) ∙ ap (λ (l : List ℕ). drop (length x) l) (sym h)

  same_bytes : b.bytes ≡ c.bytes
  same_bytes = front_of b.bytes r e ∙ (ap (λ (n : ℕ). take n bytes) same_length ∙ sym (front_of c.bytes s f))

  same_rest : r ≡ s
  same_rest = rest_of b.bytes r e ∙ (ap (λ (n : ℕ). drop n bytes) same_length ∙ sym (rest_of c.bytes s f))

  same_span : span_of b ≡ span_of c
  same_span = ap span_in same_bytes

not_empty : (bytes : List ℕ) (b : Batch) (r : List ℕ) → bytes ≡ b.bytes ++ r → IsBatch Stored b.bytes b.records → bytes ≡ [] → ⊥
not_empty bytes b r e is none =
    let n : length b.bytes + length r ≡ 0 = sym (length-append b.bytes r) ∙ ap (λ (x : List ℕ). length x) (sym e ∙ none) in
    omega (arith, n, is.header)

stored_once : (next : ℕ) (bytes : List ℕ) (bs cs : List Batch) → AreStored next bytes bs → AreStored next bytes cs → map span_of bs ≡ map span_of cs
stored_once next bytes [] [] h k = refl
stored_once next bytes [] (c ∷ cs) h k = absurd (not_empty bytes c k.1.0 k.1.1 k.0.0 h)
stored_once next bytes (b ∷ bs) [] h k = absurd (not_empty bytes b h.1.0 h.1.1 h.0.0 k)
stored_once next bytes (b ∷ bs) (c ∷ cs) h k =
    let s = same_span bytes b c h.1.0 k.1.0 h.1.1 k.1.1 h.0.0 k.0.0 in
    let r = same_rest bytes b c h.1.0 k.1.0 h.1.1 k.1.1 h.0.0 k.0.0 in
    let others : AreStored ((span_of b).last + 1) h.1.0 cs =
    subst (λ (l : List ℕ). AreStored ((span_of b).last + 1) l cs) (sym r) (subst (λ (x : Span). AreStored (x.last + 1) k.1.0 cs) (sym s) k.1.2) in
    let more = stored_once ((span_of b).last + 1) h.1.0 bs cs h.1.2 others in
    λ i. s i ∷ more i

not_broken : (next : ℕ) (bytes : List ℕ) (bs cs : List Batch) (len : ℕ) → AreStored next bytes bs → AreBroken next bytes cs len → ⊥
not_broken next bytes [] [] len h k = let n : length bytes ≡ 0 = ap (λ (x : List ℕ). length x) h in omega (arith, n, k.1)
not_broken next bytes (b ∷ bs) [] len h k = k.2 b h.1.0 h.1.1 h.0
not_broken next bytes [] (c ∷ cs) len h k = not_empty bytes c k.1.0 k.1.2 k.0.0 h
not_broken next bytes (b ∷ bs) (c ∷ cs) len h k =
    let s = same_span bytes b c h.1.0 k.1.0 h.1.1 k.1.2 h.0.0 k.0.0 in
    let r = same_rest bytes b c h.1.0 k.1.0 h.1.1 k.1.2 h.0.0 k.0.0 in
    let others : AreBroken ((span_of b).last + 1) h.1.0 cs k.1.1 =
    subst (λ (l : List ℕ). AreBroken ((span_of b).last + 1) l cs k.1.1) (sym r) (subst (λ (x : Span). AreBroken (x.last + 1) k.1.0 cs k.1.1) (sym s) k.1.4) in
    not_broken ((span_of b).last + 1) h.1.0 bs cs k.1.1 h.1.2 others

broken_once : (next : ℕ) (bytes : List ℕ) (bs cs : List Batch) (m n : ℕ) → AreBroken next bytes bs m → AreBroken next bytes cs n → m ≡ n
broken_once next bytes [] [] m n h k = h.0 ∙ sym k.0
broken_once next bytes (b ∷ bs) [] m n h k = absurd (k.2 b h.1.0 h.1.2 h.0)
broken_once next bytes [] (c ∷ cs) m n h k = absurd (h.2 c k.1.0 k.1.2 k.0)
broken_once next bytes (b ∷ bs) (c ∷ cs) m n h k =
    let s = same_span bytes b c h.1.0 k.1.0 h.1.2 k.1.2 h.0.0 k.0.0 in
    let r = same_rest bytes b c h.1.0 k.1.0 h.1.2 k.1.2 h.0.0 k.0.0 in
    let l = same_length bytes b c h.1.0 k.1.0 h.1.2 k.1.2 h.0.0 k.0.0 in
    let others : AreBroken ((span_of b).last + 1) h.1.0 cs k.1.1 =
    subst (λ (l : List ℕ). AreBroken ((span_of b).last + 1) l cs k.1.1) (sym r) (subst (λ (x : Span). AreBroken (x.last + 1) k.1.0 cs k.1.1) (sym s) k.1.4) in
    let more = broken_once ((span_of b).last + 1) h.1.0 bs cs h.1.1 k.1.1 h.1.4 others in
    h.1.3 ∙ ((λ i. l i + more i) ∙ sym k.1.3)

-- ---- granted offsets

pos_once : (a : ℤ) (m n : ℕ) → a ≡ pos m → a ≡ pos n → m ≡ n
pos_once a m n h k = omega (arith, ints, h, k)

grants_once : (spans : List Span) (next left : ℕ) (list : List (Located AcquiredRecords)) (x y : Result ℕ ℕ) → AreGrants spans next left list x → AreGrants spans next left list y → x ≡ y
grants_once spans next left [] x y h k = h ∙ sym k
grants_once spans next left (a ∷ others) x y (inl h) (inl k) = h.1 ∙ sym k.1
grants_once spans next left (a ∷ others) x y (inl h) (inr k) = absurd (h.0 k.0 k.1 k.2)
grants_once spans next left (a ∷ others) x y (inr h) (inl k) = absurd (k.0 h.0 h.1 h.2)
grants_once spans next left (a ∷ others) x y (inr h) (inr k) =
    let f = pos_once a.item.first_offset k.0 h.0 k.2.first_is h.2.first_is in
    let l = pos_once a.item.last_offset k.1 h.1 k.2.last_is h.2.last_is in
    grants_once spans (h.1 + 1) (h.0 + left - (h.1 + 1)) others x y h.3
    (subst (λ (n : ℕ). AreGrants spans (h.1 + 1) (n + left - (h.1 + 1)) others y) f (subst (λ (n : ℕ). AreGrants spans (n + 1) (k.0 + left - (n + 1)) others y) l k.3))

-- ---- partitions

fetched_once : (left : ℕ) (p : LocatedPartition) (x y : Result ℕ ℕ) → IsFetched left p x → IsFetched left p y → x ≡ y
fetched_once left p x y (inl h) (inl k) =
    h.3 ∙ (ap (λ (n : ℕ). Err (place_of p.records + n)) (broken_once 0 (content_of p.records) h.0 k.0 h.1 k.1 h.2 k.2) ∙ sym k.3)
fetched_once left p x y (inl h) (inr k) = absurd (not_broken 0 (content_of p.records) k.0 h.0 h.1 k.1 h.2)
fetched_once left p x y (inr h) (inl k) = absurd (not_broken 0 (content_of p.records) h.0 k.0 k.1 h.1 k.2)
fetched_once left p x y (inr h) (inr k) =
    let s = stored_once 0 (content_of p.records) k.0 h.0 k.1 h.1 in
    grants_once (map span_of h.0) 0 left p.acquired_records x y h.2 (subst (λ (l : List Span). AreGrants l 0 left p.acquired_records y) s k.2)

place_once : (m n : ℕ) → ◌≡◌ {A = Result ℕ ℕ} (Err m) (Err n) → m ≡ n
place_once m n h = cc

left_once : (m n : ℕ) → ◌≡◌ {A = Result ℕ ℕ} (Ok m) (Ok n) → m ≡ n
left_once m n h = cc

apart : (m n : ℕ) → ◌≡◌ {A = Result ℕ ℕ} (Ok m) (Err n) → ⊥
apart m n h = cc

abbrev Looked : List Named → ℕ → Entry → List Entry → Option ℕ → Type 0
Looked named left e others told = (StandsIn named (name_of e) × (told ≡ Some e.1.place))
    ⊎ ((StandsIn named (name_of e) → ⊥)
    × (((place : ℕ) × IsFetched left e.1.item (Err place) × (told ≡ Some place))
    ⊎ ((rest : ℕ) × IsFetched left e.1.item (Ok rest) × AreFetched (name_of e ∷ named) rest others told)))

pub tells_once : (named : List Named) (left : ℕ) (es : List Entry) (x y : Option ℕ) → AreFetched named left es x → AreFetched named left es y → x ≡ y
tells_once named left [] x y h k = h ∙ sym k
tells_once named left (e ∷ es) x y h k =
    by (is_passed e) (λ p q. tells_once named left es x y p q) (λ rest p q. tells_once (name_of e ∷ named) rest es x y p q) h k
  where
    looked : ((rest : ℕ) → AreFetched (name_of e ∷ named) rest es x → AreFetched (name_of e ∷ named) rest es y → x ≡ y) → Looked named left e es x → Looked named left e es y → x ≡ y
    looked on (inl h) (inl k) = h.1 ∙ sym k.1
    looked on (inl h) (inr k) = absurd (k.0 h.0)
    looked on (inr h) (inl k) = absurd (h.0 k.0)
    looked on (inr h) (inr k) = inner h.1 k.1
      where
        inner : ((place : ℕ) × IsFetched left e.1.item (Err place) × (x ≡ Some place)) ⊎ ((rest : ℕ) × IsFetched left e.1.item (Ok rest) × AreFetched (name_of e ∷ named) rest es x)
            → ((place : ℕ) × IsFetched left e.1.item (Err place) × (y ≡ Some place)) ⊎ ((rest : ℕ) × IsFetched left e.1.item (Ok rest) × AreFetched (name_of e ∷ named) rest es y) → x ≡ y
        inner (inl a) (inl b) =
            a.2 ∙ (ap (λ (n : ℕ). Some n) (place_once a.0 b.0 (fetched_once left e.1.item (Err a.0) (Err b.0) a.1 b.1)) ∙ sym b.2)
        inner (inl a) (inr b) = absurd (apart b.0 a.0 (fetched_once left e.1.item (Ok b.0) (Err a.0) b.1 a.1))
        inner (inr a) (inl b) = absurd (apart a.0 b.0 (fetched_once left e.1.item (Ok a.0) (Err b.0) a.1 b.1))
        inner (inr a) (inr b) =
            on a.0 a.2 (subst (λ (n : ℕ). AreFetched (name_of e ∷ named) n es y) (left_once b.0 a.0 (fetched_once left e.1.item (Ok b.0) (Ok a.0) b.1 a.1)) b.2)

    by : (b : Bool) → (AreFetched named left es x → AreFetched named left es y → x ≡ y)
        → ((rest : ℕ) → AreFetched (name_of e ∷ named) rest es x → AreFetched (name_of e ∷ named) rest es y → x ≡ y)
        → MatchBool b (AreFetched named left es x) (Looked named left e es x) → MatchBool b (AreFetched named left es y) (Looked named left e es y) → x ≡ y
    by true pass on h k = pass h k
    by false pass on h k = looked on h k
