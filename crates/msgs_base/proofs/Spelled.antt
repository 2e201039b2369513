-- Texts that are kept as a message spells them.
use Rattle.std.proofs.Common.{◌≡◌, ◌+◌, ◌-◌, ◌<◌, ◌≤◌, ◌^◌, ◌∙◌, ℕ, false, ltb, List, [], ◌∷◌, ◌++◌, All, length, take, Result, Ok, Err}
use Rattle.std.proofs.Common.{refl, sym, ap, subst, append_assoc, append-nil, length-append, arith}
use Rattle.std.specs.Prelude.{OnOk}
use Rattle.std.specs.List.{flat_map}
use Rattle.std.proofs.lemmas.Bool.{le-ltb}
use Rattle.std.proofs.lemmas.List.{take_at, drop_at, flat_map_more}
use Rattle.std.proofs.lemmas.List.Concat.{flat_map-cons}
use Rattle.std.proofs.lemmas.List.Elements.{All-nil, All-cons, All-head, All-tail, All-append}
use Rattle.flex_fields.specs.declared.fault.WireFault.{WireFault}
use Rattle.flex_fields.specs.declared.fault.WireFault.TheVariants.{Short, BadVarint, BadLength, NotUtf8, Trailing, NoMemory}
use Rattle.flex_fields.specs.Cursors.{Fails, IsOfBytes}
use Rattle.flex_fields.specs.Reading.{At, raw_at, uvarint_at, str_at, many_at}
use Rattle.flex_fields.specs.Grammar.{IsStr, AreMany}
use Rattle.flex_fields.specs.Writing.{uvarint_bytes, sized_bytes}
use Rattle.flex_fields.specs.Formats.{Writes, array, string}
use Rattle.flex_fields.specs.Sound.Counted.{str_reads, many_give}
use Rattle.flex_fields.specs.Sound.Fields.{ok_is}
use Rattle.flex_fields.specs.Sound.Readers.{uvarint_reads}
use Rattle.flex_fields.proofs.Puts.{array_writes}
use Rattle.flex_fields.proofs.Written.{uvarint_spells, str_spells}
use Rattle.flex_fields.proofs.Repeated.{with_front, many_goes_on, many_ends, many_done}
use Rattle.msgs_base.specs.Texts.{IsText, AreSpelled, AreKept, texts_in, texts_read, spelled_before}

-- ---- what is kept is read again

pub are_many : (texts : List (List ℕ)) → All IsText texts → AreMany IsStr (flat_map sized_bytes texts) texts
are_many [] each = refl
are_many (text ∷ texts) each =
    let one = All-head IsText text texts each in (
      sized_bytes text,
      flat_map sized_bytes texts,
      str_spells text one.0 one.1,
      are_many texts (All-tail IsText text texts each),
      flat_map-cons sized_bytes text texts,
    )

abbrev pub at_first : List ℕ → At
at_first bytes = record { place = 0; left = bytes }

pub says : (count : ℕ) (bytes : List ℕ) (texts : List (List ℕ)) → AreSpelled count bytes texts → texts_in count bytes ≡ texts
says count bytes texts s =
    let many : AreMany IsStr bytes texts = subst (λ (l : List ℕ). AreMany IsStr l texts) (sym s.spelled) (are_many texts s.each) in
    let read : many_at str_at (length texts) (at_first (bytes ++ [])) ≡ Ok (texts, record { place = 0 + length bytes; left = [] }) =
    many_give IsStr str_at str_reads texts bytes [] 0 many in
    ap texts_read
    (ap (λ (n : ℕ). many_at str_at n (at_first bytes)) (sym s.counted)
    ∙ ap (λ (l : List ℕ). many_at str_at (length texts) (at_first l)) (sym (append-nil bytes))
    ∙ read)

pub kept : (count : ℕ) (bytes : List ℕ) (texts : List (List ℕ)) → count + 1 < 2 ^ 32 → AreSpelled count bytes texts → AreKept count bytes
kept count bytes texts few s = (subst (AreSpelled count bytes) (sym (says count bytes texts s)) s, few)

pub put_kept : {X E : Type 0} (result : Result X E) (count : ℕ) (bytes a b c : List ℕ) → AreKept count bytes → b ≡ a ++ uvarint_bytes (count + 1)
    → OnOk result (c ≡ b ++ bytes) → OnOk result (Writes (array string) a c (texts_in count bytes))
put_kept (Ok x) count bytes a b c k number items =
    let texts = texts_in count bytes in
    let few : length texts + 1 < 2 ^ 32 = omega (arith, k.0.counted, k.1) in
    array_writes string texts few
    (number ∙ ap (λ (n : ℕ). a ++ uvarint_bytes (n + 1)) (sym k.0.counted))
    (items ∙ ap (λ (l : List ℕ). b ++ l) k.0.spelled)
    (are_many texts k.0.each)
put_kept (Err e) count bytes a b c k number items = tt

-- ---- taking them

-- so many were taken, and spelled
pub record Taken (count done : ℕ) (start at : At) (bytes : List ℕ) : Type 0 where
  pub texts : List (List ℕ)
  pub read : with_front texts (many_at str_at (count - done) at) ≡ many_at str_at count start
  pub spelled : AreSpelled done bytes texts

with_none : {A : Type 0} (read : Result (List A × At) WireFault) → with_front [] read ≡ read
with_none (Ok x) = refl
with_none (Err f) = refl

pub taken_none : (count : ℕ) (start : At) (bytes : List ℕ) → bytes ≡ [] → Taken count 0 start start bytes
taken_none count start bytes none =
    let all : count - 0 ≡ count = omega arith in
    record {
      texts = [];
      read = rw all (with_none (many_at str_at count start));
      spelled = record { spelled = none; each = All-nil IsText; counted = refl };
    }

pub taken_more : (count i : ℕ) (start at after : At) (bytes new text : List ℕ) → i < count → IsText text → str_at at ≡ Ok (text, after)
    → new ≡ bytes ++ sized_bytes text → Taken count i start at bytes → Taken count (i + 1) start after new
taken_more count i start at after bytes new text lt is read put t =
    record {
      texts = t.texts ++ text ∷ [];
      read = many_goes_on str_at t.texts count i at after text (many_at str_at count start) lt read t.read;
      spelled = record {
        spelled = put ∙ ap (λ (l : List ℕ). l ++ sized_bytes text) t.spelled.spelled ∙ flat_map_more sized_bytes [] t.texts text;
        each = All-append IsText t.texts (text ∷ []) t.spelled.each (All-cons IsText text [] is (All-nil IsText));
        counted = omega (arith, length-append t.texts (text ∷ []), t.spelled.counted);
      };
    }

pub taken_fails : (e : WireFault) (count i : ℕ) (start at : At) (bytes : List ℕ) → i < count → Fails e (str_at at) → Taken count i start at bytes
    → Fails e (many_at str_at count start)
taken_fails e count i start at bytes lt fails t = many_ends str_at e t.texts count i at (many_at str_at count start) lt fails t.read

pub taken_spelled : (count i : ℕ) (start at : At) (bytes : List ℕ) → i ≡ count → (t : Taken count i start at bytes) → AreSpelled count bytes t.texts
taken_spelled count i start at bytes e t = subst (λ (n : ℕ). AreSpelled n bytes t.texts) e t.spelled

pub taken_read : (count i : ℕ) (start at : At) (bytes : List ℕ) → i ≡ count → Taken count i start at bytes
    → many_at str_at count start ≡ Ok (texts_in count bytes, at)
taken_read count i start at bytes e t =
    let le : count ≤ i = omega (arith, e) in
    many_done str_at t.texts count i at (many_at str_at count start) le t.read
    ∙ ap (λ (l : List (List ℕ)). Ok (l, at)) (sym (says count bytes t.texts (taken_spelled count i start at bytes e t)))

-- ---- the text in front

pub never_fails : {A : Type 0} (e : WireFault) (read : Result A WireFault) (x : A) → Fails e read → IsOfBytes e → read ≡ Ok x → ⊥
never_fails (Short p) read x f m r = absurd cc
never_fails (BadVarint p) read x f m r = absurd cc
never_fails (BadLength p) read x f m r = absurd cc
never_fails (NotUtf8 p) read x f m r = absurd cc
never_fails (Trailing p) read x f m r = absurd cc
never_fails NoMemory read x f m r = m

abbrev pub behind_number : List ℕ → List ℕ → At
behind_number text others = record { place = 0 + length (uvarint_bytes (length text + 1)); left = text ++ others }

-- where a text stands in front, so does its number
pub number_reads : (spelled text others : List ℕ) (at : At) → IsText text → spelled ≡ string.bytes text ++ others → at ≡ at_first spelled
    → uvarint_at at ≡ Ok (length text + 1, behind_number text others)
number_reads spelled text others at is parts here =
    let u = uvarint_bytes (length text + 1) in
    ap uvarint_at (here ∙ ap at_first (parts ∙ append_assoc u text others))
    ∙ uvarint_reads.gives u (text ++ others) 0 (length text + 1) (uvarint_spells (length text + 1) is.0)

pub text_reads : (text others : List ℕ) (place count : ℕ) → count ≡ length text
    → raw_at count (record { place = place; left = text ++ others }) ≡ Ok (text, record { place = place + count; left = others })
text_reads text others place count e =
    let long : ltb (length (text ++ others)) count ≡ false = le-ltb _ _ (omega (arith, length-append text others, e)) in
    rw (long, take_at text others count (sym e), drop_at text others count (sym e)) refl

-- the number that was read, and what stands behind it
pub record HasNumber (text others : List ℕ) (count : ℕ) (behind : At) : Type 0 where
  pub number : count ≡ length text
  pub at : behind ≡ behind_number text others

pub has_number : (spelled text others : List ℕ) (at : At) (number count : ℕ) (behind : At) → IsText text → spelled ≡ string.bytes text ++ others
    → at ≡ at_first spelled → uvarint_at at ≡ Ok (number, behind) → count ≡ number - 1 → HasNumber text others count behind
has_number spelled text others at number count behind is parts here read less =
    let same : (length text + 1, behind_number text others) ≡ (number, behind) =
    ok_is (length text + 1, behind_number text others) (number, behind) (sym (number_reads spelled text others at is parts here) ∙ read) in
    let n : length text + 1 ≡ number = ap (λ (p : ℕ × At). p.0) same in
    record { number = omega (arith, n, less); at = sym (ap (λ (p : ℕ × At). p.1) same) }

pub text_is_there : (text others : List ℕ) (count : ℕ) (behind : At) → HasNumber text others count behind
    → raw_at count behind ≡ Ok (text, record { place = (behind_number text others).place + count; left = others })
text_is_there text others count behind h =
    ap (raw_at count) h.at ∙ text_reads text others (behind_number text others).place count h.number

pub in_front : (spelled text others : List ℕ) (count n : ℕ) (behind after : At) (got front left : List ℕ) → spelled ≡ string.bytes text ++ others
    → HasNumber text others count behind → raw_at count behind ≡ Ok (got, after) → left ≡ after.left → n ≡ length spelled - length left
    → front ≡ take n spelled → (front ≡ string.bytes text) × (got ≡ text) × (left ≡ others)
in_front spelled text others count n behind after got front left parts h read rest cut split =
    let there : At = record { place = (behind_number text others).place + count; left = others } in
    let same : (text, there) ≡ (got, after) = ok_is (text, there) (got, after) (sym (text_is_there text others count behind h) ∙ read) in
    let tail : left ≡ others = rest ∙ sym (ap (λ (p : List ℕ × At). p.1.left) same) in
    let size : length spelled ≡ length (string.bytes text) + length others = ap length parts ∙ length-append (string.bytes text) others in
    let len : n ≡ length (string.bytes text) = omega (arith, cut, size, ap length tail) in (
      split ∙ ap (take n) parts ∙ take_at (string.bytes text) others n (sym len),
      sym (ap (λ (p : List ℕ × At). p.0) same),
      tail,
    )

-- ---- writing them

-- so many were written
pub record Written (count done : ℕ) (behind : List ℕ) (all : List (List ℕ)) (left start out : List ℕ) : Type 0 where
  pub others : List (List ℕ)
  pub each : All IsText others
  pub spelled : left ≡ flat_map string.bytes others
  pub counted : length others + done ≡ count
  pub written : out ++ spelled_before behind others ≡ start ++ spelled_before behind all

pub written_none : (count : ℕ) (behind bytes start : List ℕ) → AreKept count bytes → Written count 0 behind (texts_in count bytes) bytes start start
written_none count behind bytes start k = record {
  others = texts_in count bytes;
  each = k.0.each;
  spelled = k.0.spelled;
  counted = omega (arith, k.0.counted);
  written = refl;
}

-- what the text in front is split into
abbrev pub Splits : List ℕ → List ℕ → List ℕ → List ℕ → Type 0
Splits left front got rest = (text others : List ℕ) → IsText text → left ≡ string.bytes text ++ others
    → (front ≡ string.bytes text) × (got ≡ text) × (rest ≡ others)

written_next : (count i : ℕ) (behind : List ℕ) (all : List (List ℕ)) (left start out front got rest one two : List ℕ) (others : List (List ℕ))
    → i < count → All IsText others → left ≡ flat_map string.bytes others → length others + i ≡ count
    → out ++ spelled_before behind others ≡ start ++ spelled_before behind all
    → Splits left front got rest → one ≡ out ++ front → two ≡ one ++ behind → Written count (i + 1) behind all rest start two
written_next count i behind all left start out front got rest one two [] lt each spelled counted so_far splits first second = absurd (omega (arith, lt, counted))
written_next count i behind all left start out front got rest one two (text ∷ others) lt each spelled counted so_far splits first second =
    let is = All-head IsText text others each in
    let s = splits text (flat_map string.bytes others) is spelled in
    let b = string.bytes text in
    let more = spelled_before behind others in
    let put : two ≡ out ++ (b ++ behind) =
    second ∙ ap (λ (l : List ℕ). l ++ behind) (first ∙ ap (λ (l : List ℕ). out ++ l) s.0) ∙ append_assoc out b behind in
    record {
      others = others;
      each = All-tail IsText text others each;
      spelled = s.2;
      counted = omega (arith, counted);
      written = ap (λ (l : List ℕ). l ++ more) put ∙ append_assoc out (b ++ behind) more ∙ so_far;
    }

pub written_more : (count i : ℕ) (behind : List ℕ) (all : List (List ℕ)) (left start out front got rest one two : List ℕ) → i < count
    → Written count i behind all left start out → Splits left front got rest → one ≡ out ++ front → two ≡ one ++ behind
    → Written count (i + 1) behind all rest start two
written_more count i behind all left start out front got rest one two lt w splits first second =
    written_next count i behind all left start out front got rest one two w.others lt w.each w.spelled w.counted w.written splits first second

all_written : (behind out : List ℕ) (others : List (List ℕ)) → length others ≡ 0 → out ≡ out ++ spelled_before behind others
all_written behind out [] none = sym (append-nil out)
all_written behind out (text ∷ others) none = absurd (omega (arith, none))

pub written_done : (count i : ℕ) (behind : List ℕ) (all : List (List ℕ)) (left start out : List ℕ) → count ≤ i → Written count i behind all left start out
    → out ≡ start ++ spelled_before behind all
written_done count i behind all left start out le w =
    let none : length w.others ≡ 0 = omega (arith, le, w.counted) in
    all_written behind out w.others none ∙ w.written
