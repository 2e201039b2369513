-- A text is read as lines of events in one way.
use Rattle.std.proofs.Common.{◌≡◌, ◌<◌, ◌≤◌, ◌+◌, ◌^◌, ℕ, List, [], ◌∷◌, ◌++◌, length, length-append, codes, refl, sym, ap, ◌∙◌, subst, arith, append_assoc}
use Rattle.std.specs.List.{flat_map, AllByRecursion}
use Rattle.std.specs.Fmt.{decimal}
use Rattle.std.proofs.lemmas.Fmt.{decimal_injective}
use Rattle.hex.specs.Hex.{encode_lower, decode_of, IsBytes}
use Rattle.hex.proofs.HexLemmas.{decode_of-encode_lower}
use Rattle.edge_io.specs.declared.fault.FaultMode.{FaultMode}
use Rattle.edge_io.specs.declared.fault.FaultMode.TheVariants.{Once, Torn, Dead}
use Rattle.session_script.specs.declared.event.Event.{Event}
use Rattle.session_script.specs.declared.event.Event.TheVariants.{Open, Bytes, Close, Step, Expire, Tick, Arm, Power}
use Rattle.session_script.specs.Script.{words_of, mode_word, line_of, IsEvent, end_line, longest, HasNoEvent, HasOneReading, IsScript, IsMalformed}
use Rattle.session_script.proofs.Cuts.{one_cut, no_blank, topic_lacks, disk_lacks}
use Rattle.session_script.proofs.Sayings.{same_head, same_rest}
use Rattle.session_script.proofs.Refusals.{no_feed_words, line_then, end_no_event}

same_number : (c d : ℕ) → c < 2 ^ 64 → d < 2 ^ 64 → decimal c ≡ decimal d → c ≡ d
same_number c d p q e = decimal_injective c d p q e

same_bytes : (x y : List ℕ) → IsBytes x → IsBytes y → encode_lower x ≡ encode_lower y → x ≡ y
same_bytes x y p q e = cc (decode_of-encode_lower x p, decode_of-encode_lower y q, ap decode_of e)

same_numbered : (c d : ℕ) (x y : List ℕ) → c < 2 ^ 32 → d < 2 ^ 32 → decimal c ++ 32 ∷ x ≡ decimal d ++ 32 ∷ y → (c ≡ d) × (x ≡ y)
same_numbered c d x y p q e =
    let s = one_cut 32 (decimal c) (decimal d) x y (no_blank c (omega arith)) (no_blank d (omega arith)) e in
    (same_number c d (omega arith) (omega arith) s.0, s.1)

same_mode : (a b : FaultMode) → mode_word a ≡ mode_word b → a ≡ b
same_mode Once Once e = refl
same_mode Once Torn e = absurd (omega (arith, same_head _ _ _ _ e))
same_mode Once Dead e = absurd (omega (arith, same_head _ _ _ _ e))
same_mode Torn Once e = absurd (omega (arith, same_head _ _ _ _ e))
same_mode Torn Torn e = refl
same_mode Torn Dead e = absurd (omega (arith, same_head _ _ _ _ e))
same_mode Dead Once e = absurd (omega (arith, same_head _ _ _ _ e))
same_mode Dead Torn e = absurd (omega (arith, same_head _ _ _ _ e))
same_mode Dead Dead e = refl

same_event : (a b : Event) → IsEvent a → IsEvent b → words_of a ≡ words_of b → a ≡ b
same_event (Open c) (Open d) p q e = ap Open (same_number c d (omega arith) (omega arith) (same_rest (codes "open" ++ 32 ∷ []) _ _ e))
same_event (Bytes c x) (Bytes d y) p q e =
    let s = same_numbered c d (encode_lower x) (encode_lower y) p.0 q.0 (same_rest (codes "bytes" ++ 32 ∷ []) _ _ e) in
    let b = same_bytes x y p.3 q.3 s.1 in
    λ i. Bytes (s.0 i) (b i)
same_event (Close c) (Close d) p q e = ap Close (same_number c d (omega arith) (omega arith) (same_rest (codes "close" ++ 32 ∷ []) _ _ e))
same_event (Step c t) (Step d u) p q e =
    let s = same_numbered c d (decimal t) (decimal u) p.0 q.0 (same_rest (codes "step" ++ 32 ∷ []) _ _ e) in
    let b = same_number t u (omega (arith, p.1)) (omega (arith, q.1)) s.1 in
    λ i. Step (s.0 i) (b i)
same_event (Expire x n t) (Expire y o u) p q e =
    let s = one_cut 32 x y _ _ (topic_lacks 32 x refl p.0) (topic_lacks 32 y refl q.0) (same_rest (codes "expire" ++ 32 ∷ []) _ _ e) in
    let r = same_numbered n o (decimal t) (decimal u) (omega (arith, p.1)) (omega (arith, q.1)) s.1 in
    let b = same_number t u (omega (arith, p.2)) (omega (arith, q.2)) r.1 in
    λ i. Expire (s.0 i) (r.0 i) (b i)
same_event (Tick t) (Tick u) p q e =
    ap Tick (same_number t u (omega (arith, p)) (omega (arith, q)) (same_rest (codes "tick" ++ 32 ∷ []) _ _ e))
same_event (Arm k n m) (Arm l o w) p q e =
    let s = one_cut 32 k l _ _ (disk_lacks 32 k (λ g. omega (arith, g.0)) p.0) (disk_lacks 32 l (λ g. omega (arith, g.0)) q.0) (same_rest (codes "arm" ++ 32 ∷ []) _ _ e) in
    let r = one_cut 32 (decimal n) (decimal o) (mode_word m) (mode_word w) (no_blank n p.1) (no_blank o q.1) s.1 in
    let g = same_number n o p.1 q.1 r.0 in
    let f = same_mode m w r.1 in
    λ i. Arm (s.0 i) (g i) (f i)
same_event (Power c) (Power d) p q e = ap Power (same_number c d p q (same_rest (codes "power" ++ 32 ∷ []) _ _ e))
same_event a b p q e = absurd (omega (arith, same_head _ _ _ _ e))

same_line : (a b : Event) (x y : List ℕ) → IsEvent a → IsEvent b → line_of a ++ x ≡ line_of b ++ y → (a ≡ b) × (x ≡ y)
same_line a b x y p q e =
    let s = one_cut 10 (words_of a) (words_of b) x y (no_feed_words a p) (no_feed_words b q) (sym (line_then a x) ∙ e ∙ line_then b y) in
    (same_event a b p q s.0, s.1)

abbrev lines : List Event → List ℕ
lines events = flat_map line_of events

-- from a place on
read_from : (place : ℕ) (events others : List Event) (rest left : List ℕ) → AllByRecursion IsEvent events → AllByRecursion IsEvent others →
    place + length (lines events) ≤ longest → place + length (lines others) ≤ longest → HasNoEvent (place + length (lines events)) rest →
    HasNoEvent (place + length (lines others)) left →
    lines events ++ rest ≡ lines others ++ left → (events ≡ others) × (rest ≡ left)
read_from place [] [] rest left p q w v m n e = (refl, e)
read_from place [] (b ∷ others) rest left p q w v m n e =
    let far = m b (lines others ++ left) q.0 (e ∙ append_assoc (line_of b) (lines others) left) in
    let size = length-append (line_of b) (lines others) in
    absurd (omega (arith, far, size, v))
read_from place (a ∷ events) [] rest left p q w v m n e =
    let far = n a (lines events ++ rest) p.0 (sym e ∙ append_assoc (line_of a) (lines events) rest) in
    let size = length-append (line_of a) (lines events) in
    absurd (omega (arith, far, size, w))
read_from place (a ∷ events) (b ∷ others) rest left p q w v m n e =
    let s = same_line a b _ _ p.0 q.0 (sym (append_assoc (line_of a) (lines events) rest) ∙ e ∙ append_assoc (line_of b) (lines others) left) in
    let one = length-append (line_of a) (lines events) in
    let two = length-append (line_of b) (lines others) in
    let same : length (line_of b) ≡ length (line_of a) = ap (λ (x : Event). length (line_of x)) (sym s.0) in
    let at : place + length (lines (a ∷ events)) ≡ place + length (line_of a) + length (lines events) = omega (arith, one) in
    let also : place + length (lines (b ∷ others)) ≡ place + length (line_of a) + length (lines others) = omega (arith, two, same) in
    let t = read_from (place + length (line_of a)) events others rest left p.1 q.1 (omega (arith, w, at)) (omega (arith, v, also))
    (subst (λ (k : ℕ). HasNoEvent k rest) at m) (subst (λ (k : ℕ). HasNoEvent k left) also n) s.1 in
    let u : a ∷ events ≡ b ∷ others = cc (s.0, t.0) in
    (u, t.1)

pub one_reading : (text : List ℕ) → HasOneReading text
one_reading text events others rest left p m q n =
    let zero_at : (es : List Event) → length (lines es) ≡ 0 + length (lines es) =
    λ (es : List Event). (let r : length (lines es) ≡ 0 + length (lines es) = omega arith in r) in
    read_from 0 events others rest left p.each q.each (omega (arith, p.within)) (omega (arith, q.within))
    (subst (λ (k : ℕ). HasNoEvent k rest) (zero_at events) m) (subst (λ (k : ℕ). HasNoEvent k left) (zero_at others) n) (sym p.parts ∙ q.parts)

-- a text with a malformed line is no script
pub malformed_is_none : (text : List ℕ) (events others : List Event) (fault : ℕ) → IsMalformed text events fault → IsScript text others → ⊥
malformed_is_none text events others fault (rest, begins, refused) s =
    let one = one_reading text events others rest end_line begins refused.no_event s.0 (end_no_event _) in
    let size = ap length begins.parts ∙ length-append (lines events) rest in
    let four : length rest ≡ 4 = ap length one.1 in
    refused.no_end (one.1, (let r : length (lines events) + 4 ≤ longest = omega (arith, size, four, s.1) in r))
