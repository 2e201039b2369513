-- Going past the parts of a record goes past just what stands for them.
use Rattle.std.proofs.Common.{◌≡◌, ℕ, zero, suc, ◌≤◌, List, [], ◌∷◌, ◌++◌, length, take, drop, refl, sym, ap, ◌∙◌}
use Rattle.std.proofs.Common.{append_assoc, append-nil, subst, arith, length-append, ltb-false, inl, inr, ◌⊎◌}
use Rattle.std.specs.Prelude.{ℤ, pos, negsuc, Option, Some, None, nat_lt, ◌==◌, Bool, true, false, cond}
use Rattle.std.specs.Int.{w8, from_be_bytes, cast_signed}
use Rattle.std.proofs.lemmas.Bool.{cond-false, le-ltb, ne_eqb}
use Rattle.std.proofs.lemmas.List.{take-append-drop, drop_at, take_at, length-take}
use Rattle.flex_fields.specs.Grammar.{AreMany, IsBytes, IsInt, IsVarint, Then}
use Rattle.rec_batch.specs.Grammar.{AreHeaders, IsBody, IsCounted, IsNullable, IsRecord, Record}
use Rattle.rec_batch.specs.Passing.{◌>>=◌, all_headers_in, body_in, byte_in, content_in, counted_in, headers_in}
use Rattle.rec_batch.specs.Passing.{nullable_in, record_in, some_headers_in, split_in, varint_in, varlong_in}
use Rattle.rec_batch.proofs.Parts.{Front, Drops, bind_some, some_is, rest_fits, IsBytes-front, Front-then}
use Rattle.rec_batch.proofs.Numbers.{varint_passes, varlong_passes}

byte_goes : (bytes rest : List ℕ) → IsBytes bytes → byte_in bytes ≡ Some rest → (x : ℤ) × Front bytes rest (λ front. IsInt w8 front x)
unfolding byte_in
byte_goes [] rest fits e = cc
byte_goes (b ∷ bytes) rest fits e = (cast_signed w8 (from_be_bytes w8 (b ∷ [])), record { front = b ∷ []; parts = ap (λ l. b ∷ l) (some_is bytes rest e); stands = (refl, refl) })

byte_comes : (front tail : List ℕ) (x : ℤ) → IsInt w8 front x → byte_in (front ++ tail) ≡ Some tail
unfolding byte_in
byte_comes [] tail x s = absurd (omega (arith, s.0))
byte_comes (b ∷ []) tail x s = refl
byte_comes (b ∷ c ∷ front) tail x s = absurd (omega (arith, s.0))

pub byte_drops : Drops (IsInt w8) byte_in
byte_drops = record { takes = byte_goes; gives = byte_comes }

-- nothing is left
end_is : (left : List ℕ) (d y : ℤ) → cond (length left == 0) (Some d) None ≡ Some y → (left ≡ []) × (d ≡ y)
end_is [] d y e = (refl, some_is d y e)
end_is (b ∷ left) d y e =
    let more : (length (b ∷ left) == 0) ≡ false = ne_eqb (length (b ∷ left)) 0 (λ h. omega arith) in
    let none : None ≡ Some y = sym (cond-false (length (b ∷ left) == 0) (Some d) None more) ∙ e in
    absurd (let never : ⊥ = cc in never)

-- so many bytes in front
split_some : (n : ℤ) (bytes : List ℕ) (x : List ℕ × List ℕ) → split_in n bytes ≡ Some x → (n ≡ pos (length x.0)) × (bytes ≡ x.0 ++ x.1)
unfolding split_in
split_some (pos n) bytes x e = go (nat_lt (length bytes) n) refl e
  where
    go : (b : Bool) → nat_lt (length bytes) n ≡ b → cond b None (Some (take n bytes, drop n bytes)) ≡ Some x → (pos n ≡ pos (length x.0)) × (bytes ≡ x.0 ++ x.1)
    go true h e = cc
    go false h e =
        let p = some_is (take n bytes, drop n bytes) x e in
        let within : n ≤ length bytes = ltb-false (length bytes) n h in
        (ap pos (let q : n ≡ length (take n bytes) = omega (arith, length-take n bytes) in q ∙ ap (λ y. length y.0) p), sym (take-append-drop n bytes) ∙ ap (λ y. y.0 ++ y.1) p)
split_some (negsuc n) bytes x e = cc

pub split_gives : (content tail : List ℕ) → split_in (pos (length content)) (content ++ tail) ≡ Some (content, tail)
unfolding split_in
split_gives content tail =
    let enough : nat_lt (length (content ++ tail)) (length content) ≡ false = le-ltb (length (content ++ tail)) (length content) (omega (arith, length-append content tail)) in
    rw (enough, take_at content tail (length content) refl, drop_at content tail (length content) refl) refl

-- what a number counts, behind it
pub counted_goes : (bytes rest : List ℕ) → IsBytes bytes → counted_in bytes ≡ Some rest → (x : List ℕ) × Front bytes rest (λ front. IsCounted front x)
unfolding counted_in
counted_goes bytes rest fits e =
    let m = bind_some (varint_in bytes) (λ n. split_in n.0 n.1 >>= λ parts. Some parts.1) rest e in
    let k = bind_some (split_in m.0.0 m.0.1) (λ parts. Some parts.1) rest m.2 in
    let t = varint_passes.takes bytes m.0.0 m.0.1 fits m.1 in
    let s = split_some m.0.0 m.0.1 k.0 k.1 in
    let u : Front m.0.1 rest (λ front. front ≡ k.0.0) = record { front = k.0.0; parts = s.1 ∙ ap (λ l. k.0.0 ++ l) (some_is k.0.1 rest k.2); stands = refl } in
    (k.0.0, Front-then bytes m.0.1 rest t u (λ x y p q. (x, subst (λ n. IsVarint x n) s.0 p, ap (λ l. x ++ l) q)))

counted_comes : (front tail x : List ℕ) → IsCounted front x → counted_in (front ++ tail) ≡ Some tail
unfolding counted_in
counted_comes front tail x c =
    subst (λ f. counted_in (f ++ tail) ≡ Some tail) (sym c.2)
    (ap counted_in (append_assoc c.0 x tail) ∙ rw (varint_passes.gives c.0 (x ++ tail) (pos (length x)) c.1, split_gives x tail) refl)

pub counted_drops : Drops IsCounted counted_in
counted_drops = record { takes = counted_goes; gives = counted_comes }

-- null, or what a number counts
content_some : (n : ℤ) (bytes rest : List ℕ) → content_in n bytes ≡ Some rest → ((n ≡ negsuc 0) × (bytes ≡ rest)) ⊎ ((content : List ℕ) × (n ≡ pos (length content)) × (bytes ≡ content ++ rest))
unfolding content_in
content_some (pos n) bytes rest e =
    let k = bind_some (split_in (pos n) bytes) (λ parts. Some parts.1) rest e in
    let s = split_some (pos n) bytes k.0 k.1 in
    inr (k.0.0, s.0, s.1 ∙ ap (λ l. k.0.0 ++ l) (some_is k.0.1 rest k.2))
content_some (negsuc zero) bytes rest e = inl (refl, some_is bytes rest e)
content_some (negsuc (suc n)) bytes rest e = cc

nullable_goes : (bytes rest : List ℕ) → IsBytes bytes → nullable_in bytes ≡ Some rest → (x : Option (List ℕ)) × Front bytes rest (λ front. IsNullable front x)
unfolding nullable_in
nullable_goes bytes rest fits e =
    let m = bind_some (varint_in bytes) (λ n. content_in n.0 n.1) rest e in
    let t = varint_passes.takes bytes m.0.0 m.0.1 fits m.1 in
    elim (content_some m.0.0 m.0.1 rest m.2) [
      | inl s ↦ (None, record { front = t.front; parts = t.parts ∙ ap (λ l. t.front ++ l) s.1; stands = subst (λ n. IsVarint t.front n) s.0 t.stands })
      | inr s ↦
          let u : Front m.0.1 rest (λ front. front ≡ s.0) = record { front = s.0; parts = s.2; stands = refl } in
          (Some s.0, Front-then bytes m.0.1 rest t u (λ x y p q. (x, subst (λ n. IsVarint x n) s.1 p, ap (λ l. x ++ l) q)))
    ]

nullable_comes : (front tail : List ℕ) (x : Option (List ℕ)) → IsNullable front x → nullable_in (front ++ tail) ≡ Some tail
unfolding nullable_in content_in
nullable_comes front tail None c = rw (varint_passes.gives front tail (negsuc 0) c) refl
nullable_comes front tail (Some x) c =
    subst (λ f. nullable_in (f ++ tail) ≡ Some tail) (sym c.2)
    (ap nullable_in (append_assoc c.0 x tail) ∙ rw (varint_passes.gives c.0 (x ++ tail) (pos (length x)) c.1, split_gives x tail) refl)

pub nullable_drops : Drops IsNullable nullable_in
nullable_drops = record { takes = nullable_goes; gives = nullable_comes }

-- headers one after the other
abbrev Headers : Type 0
Headers = List (List ℕ × Option (List ℕ))

headers_goes : (n : ℕ) (bytes rest : List ℕ) → IsBytes bytes → headers_in n bytes ≡ Some rest →
    (hs : Headers) × (length hs ≡ n) × Front bytes rest (λ front. AreMany (Then IsCounted IsNullable) front hs)
unfolding headers_in
headers_goes zero bytes rest fits e = ([], refl, record { front = []; parts = some_is bytes rest e; stands = refl })
headers_goes (suc n) bytes rest fits e =
    let m = bind_some (counted_in bytes) (λ key. nullable_in key >>= λ value. headers_in n value) rest e in
    let k = bind_some (nullable_in m.0) (λ value. headers_in n value) rest m.2 in
    let a = counted_goes bytes m.0 fits m.1 in
    let within = rest_fits bytes m.0 _ fits a.1 in
    let b = nullable_goes m.0 k.0 within k.1 in
    let h = headers_goes n k.0 rest (rest_fits m.0 k.0 _ within b.1) k.2 in
    let one : Front bytes k.0 (λ front. Then IsCounted IsNullable front (a.0, b.0)) = Front-then bytes m.0 k.0 a.1 b.1 (λ x y p q. (x, y, p, q, refl)) in
    ((a.0, b.0) ∷ h.0, ap suc h.1, Front-then bytes k.0 rest one h.2 (λ x y p q. (x, y, p, q, refl)))

headers_comes : (hs : Headers) (front tail : List ℕ) → AreMany (Then IsCounted IsNullable) front hs → headers_in (length hs) (front ++ tail) ≡ Some tail
unfolding headers_in
headers_comes [] front tail c = ap (λ f. Some (f ++ tail)) c
headers_comes (h ∷ hs) front tail c =
    let f = c.2.0 in
    let g = c.2.1 in
    let regrouped : front ++ tail ≡ f ++ (g ++ (c.1 ++ tail)) =
    ap (λ l. l ++ tail) (c.4 ∙ ap (λ l. l ++ c.1) c.2.4) ∙ append_assoc (f ++ g) c.1 tail ∙ append_assoc f g (c.1 ++ tail) in
    ap (headers_in (suc (length hs))) regrouped
    ∙ rw (counted_comes f (g ++ (c.1 ++ tail)) h.0 c.2.2, nullable_comes g (c.1 ++ tail) h.1 c.2.3) (headers_comes hs c.1 tail c.3)

some_headers_goes : (n : ℤ) (bytes rest : List ℕ) → IsBytes bytes → some_headers_in n bytes ≡ Some rest →
    (hs : Headers) × (n ≡ pos (length hs)) × Front bytes rest (λ front. AreMany (Then IsCounted IsNullable) front hs)
unfolding some_headers_in
some_headers_goes (pos n) bytes rest fits e = let h = headers_goes n bytes rest fits e in (h.0, ap pos (sym h.1), h.2)
some_headers_goes (negsuc n) bytes rest fits e = cc

all_headers_goes : (bytes rest : List ℕ) → IsBytes bytes → all_headers_in bytes ≡ Some rest → (hs : Headers) × Front bytes rest (λ front. AreHeaders front hs)
unfolding all_headers_in
all_headers_goes bytes rest fits e =
    let m = bind_some (varint_in bytes) (λ n. some_headers_in n.0 n.1) rest e in
    let t = varint_passes.takes bytes m.0.0 m.0.1 fits m.1 in
    let h = some_headers_goes m.0.0 m.0.1 rest (rest_fits bytes m.0.1 _ fits t) m.2 in
    (h.0, Front-then bytes m.0.1 rest t h.2 (λ x y p q. (x, y, subst (λ n. IsVarint x n) h.1 p, q, refl)))

all_headers_comes : (front tail : List ℕ) (hs : Headers) → AreHeaders front hs → all_headers_in (front ++ tail) ≡ Some tail
unfolding all_headers_in some_headers_in
all_headers_comes front tail hs c =
    ap all_headers_in (ap (λ l. l ++ tail) c.4 ∙ append_assoc c.0 c.1 tail)
    ∙ rw (varint_passes.gives c.0 (c.1 ++ tail) (pos (length hs)) c.2) (headers_comes hs c.1 tail c.3)

-- a whole body
body_goes : (bytes : List ℕ) (d : ℤ) → IsBytes bytes → body_in bytes ≡ Some d → (r : Record) × (r.offset_delta ≡ d) × IsBody bytes r
unfolding body_in
body_goes bytes d fits e =
    let a = bind_some (byte_in bytes) _ d e in
    let b = bind_some (varlong_in a.0) _ d a.2 in
    let c = bind_some (varint_in b.0.1) _ d b.2 in
    let k = bind_some (nullable_in c.0.1) _ d c.2 in
    let v = bind_some (nullable_in k.0) _ d k.2 in
    let h = bind_some (all_headers_in v.0) _ d v.2 in
    let done = end_is h.0 c.0.0 d h.2 in
    let a' = byte_goes bytes a.0 fits a.1 in
    let fits_a = rest_fits bytes a.0 _ fits a'.1 in
    let b' = varlong_passes.takes a.0 b.0.0 b.0.1 fits_a b.1 in
    let fits_b = rest_fits a.0 b.0.1 _ fits_a b' in
    let c' = varint_passes.takes b.0.1 c.0.0 c.0.1 fits_b c.1 in
    let fits_c = rest_fits b.0.1 c.0.1 _ fits_b c' in
    let k' = nullable_goes c.0.1 k.0 fits_c k.1 in
    let fits_k = rest_fits c.0.1 k.0 _ fits_c k'.1 in
    let v' = nullable_goes k.0 v.0 fits_k v.1 in
    let fits_v = rest_fits k.0 v.0 _ fits_k v'.1 in
    let h' = all_headers_goes v.0 h.0 fits_v h.1 in
    let last : AreHeaders v.0 h'.0 = subst (λ l. AreHeaders l h'.0) (sym (h'.1.parts ∙ ap (λ l. h'.1.front ++ l) done.0 ∙ append-nil h'.1.front)) h'.1.stands in (
      record { attributes = a'.0; timestamp_delta = b.0.0; offset_delta = c.0.0; key = k'.0; value = v'.0; headers = h'.0 },
      done.1,
      (
        a'.1.front,
        a.0,
        a'.1.stands,
        (
          b'.front,
          b.0.1,
          b'.stands,
          (c'.front, c.0.1, c'.stands, (k'.1.front, k.0, k'.1.stands, (v'.1.front, v.0, v'.1.stands, last, v'.1.parts), k'.1.parts), c'.parts),
          b'.parts,
        ),
        a'.1.parts,
      ),
    )

body_comes : (bytes : List ℕ) (r : Record) → IsBody bytes r → body_in bytes ≡ Some r.offset_delta
unfolding body_in
body_comes bytes r a =
    let b = a.3 in
    let c = b.3 in
    let k = c.3 in
    let v = k.3 in
    let a' : byte_in bytes ≡ Some a.1 = ap byte_in a.4 ∙ byte_comes a.0 a.1 r.attributes a.2 in
    let b' : varlong_in a.1 ≡ Some (r.timestamp_delta, b.1) = ap varlong_in b.4 ∙ varlong_passes.gives b.0 b.1 r.timestamp_delta b.2 in
    let c' : varint_in b.1 ≡ Some (r.offset_delta, c.1) = ap varint_in c.4 ∙ varint_passes.gives c.0 c.1 r.offset_delta c.2 in
    let k' : nullable_in c.1 ≡ Some k.1 = ap nullable_in k.4 ∙ nullable_comes k.0 k.1 r.key k.2 in
    let v' : nullable_in k.1 ≡ Some v.1 = ap nullable_in v.4 ∙ nullable_comes v.0 v.1 r.value v.2 in
    let h' : all_headers_in v.1 ≡ Some [] = ap all_headers_in (sym (append-nil v.1)) ∙ all_headers_comes v.1 [] r.headers v.3 in
    rw (a', b', c', k', v', h') refl

-- a record in front
pub record_goes : (bytes rest : List ℕ) (d : ℤ) → IsBytes bytes → record_in bytes ≡ Some (d, rest) → (r : Record) × (r.offset_delta ≡ d) × Front bytes rest (λ front. IsRecord front r)
unfolding record_in
record_goes bytes rest d fits e =
    let m = bind_some (varint_in bytes) _ (d, rest) e in
    let k = bind_some (split_in m.0.0 m.0.1) _ (d, rest) m.2 in
    let n = bind_some (body_in k.0.0) _ (d, rest) k.2 in
    let t = varint_passes.takes bytes m.0.0 m.0.1 fits m.1 in
    let s = split_some m.0.0 m.0.1 k.0 k.1 in
    let within = IsBytes-front k.0.0 k.0.1 (subst IsBytes s.1 (rest_fits bytes m.0.1 _ fits t)) in
    let same = some_is (n.0, k.0.1) (d, rest) n.2 in
    let b = body_goes k.0.0 n.0 within n.1 in
    let u : Front m.0.1 rest (λ front. front ≡ k.0.0) = record { front = k.0.0; parts = s.1 ∙ ap (λ x. k.0.0 ++ x.1) same; stands = refl } in
    (b.0, b.1 ∙ ap (λ x. x.0) same, Front-then bytes m.0.1 rest t u (λ x y p q. (x, k.0.0, subst (λ z. IsVarint x z) s.0 p, b.2, ap (λ l. x ++ l) q)))

pub record_comes : (front tail : List ℕ) (r : Record) → IsRecord front r → record_in (front ++ tail) ≡ Some (r.offset_delta, tail)
unfolding record_in
record_comes front tail r c =
    ap record_in (ap (λ l. l ++ tail) c.4 ∙ append_assoc c.0 c.1 tail)
    ∙ rw (varint_passes.gives c.0 (c.1 ++ tail) (pos (length c.1)) c.2, split_gives c.1 tail, body_comes c.1 r c.3) refl

-- where nothing is read, no record stands
pub record_none : (bytes front rest : List ℕ) (r : Record) → record_in bytes ≡ None → bytes ≡ front ++ rest → IsRecord front r → ⊥
record_none bytes front rest r e p s = let q = record_comes front rest r s in cc
