-- The words of an event are read in one way.
use Rattle.std.proofs.Common.{◌≡◌, ◌≢◌, ◌<◌, ◌≤◌, ◌*◌, ◌^◌, ◌⊎◌, inl, inr, ℕ, List, [], ◌∷◌, ◌++◌, length, codes, refl, sym, ap, ◌∙◌, subst, arith, lit<}
use Rattle.std.proofs.Common.{Bool, true, ◌&&◌, nat_lt}
use Rattle.std.proofs.lemmas.Bool.{and_parts, ltb-true}
use Rattle.std.proofs.lemmas.Bool.Decides.{nat_tests}
use Rattle.std.proofs.lemmas.List.Elements.{All-weaker}
use Rattle.std.specs.Fmt.{decimal}
use Rattle.std.specs.Str.{IsAscii, IsUtf8}
use Rattle.std.proofs.lemmas.Str.{IsAscii-append, IsUtf8-from_ascii}
use Rattle.std.proofs.lemmas.Str.Ascii.{IsAscii-nil, IsAscii-cons, IsAscii-from_all}
use Rattle.std.proofs.lemmas.Fmt.{IsAscii-decimal}
use Rattle.hex.specs.Hex.{encode_lower, lower_digits}
use Rattle.hex.proofs.HexLemmas.{length-encode_with, IsAscii-encode_with}
use Rattle.edge_io.specs.Names.{is_topic_byte, IsTopicName, IsTextName}
use Rattle.edge_io.specs.declared.fault.FaultMode.{FaultMode}
use Rattle.edge_io.specs.declared.fault.FaultMode.TheVariants.{Once, Torn, Dead}
use Rattle.edge_io.proofs.Names.{name_is_ascii}
use Rattle.session_script.specs.declared.event.Event.{Event}
use Rattle.session_script.specs.declared.event.Event.TheVariants.{Open, Bytes, Close, Step, Expire, Tick, Arm, Power}
use Rattle.session_script.specs.Script.{words_of, mode_word, IsEvent}
use Rattle.session_script.specs.Lines.{HasNone, IsCut, HasNoCut, IsNoNumber, IsNumbered, IsNotNumbered, IsHex, IsNoHex}
use Rattle.session_script.specs.Lines.{IsNoTopicWord, IsNoMode, Says, SaysNothing}
use Rattle.session_script.proofs.Cuts.{one_cut, no_blank, lacks, lacks_none, topic_lacks, is_disk, disk_lacks}

pub same_head : (a b : ℕ) (x y : List ℕ) → a ∷ x ≡ b ∷ y → a ≡ b
same_head a b x y e = cc

pub same_rest : (word x y : List ℕ) → word ++ x ≡ word ++ y → x ≡ y
same_rest [] x y e = e
same_rest (w ∷ word) x y e = let t : word ++ x ≡ word ++ y = cc in same_rest word x y t

-- a connection's number, and what follows it, are one
pub numbered_same : (text : List ℕ) (c d : ℕ) (x y : List ℕ) → IsNumbered text c x → IsNumbered text d y → (decimal c ≡ decimal d) × (x ≡ y)
numbered_same text c d x y p q = one_cut 32 (decimal c) (decimal d) x y (no_blank c (omega arith)) (no_blank d (omega arith)) (sym p.1 ∙ q.1)

pub not_cut : (text : List ℕ) → HasNoCut text → IsNotNumbered text
not_cut text h conn rest p = h (decimal conn) rest (no_blank conn (omega arith), p.1)

pub not_number : (text word rest : List ℕ) → IsCut text word rest → IsNoNumber 4294967295 word → IsNotNumbered text
not_number text word rest p h conn more q =
    let s = one_cut 32 word (decimal conn) rest more p.0 (no_blank conn (omega arith)) (sym p.1 ∙ q.1) in
    h conn (omega (arith, q.0), s.0)

pub step_no_moment : (rest word : List ℕ) (conn : ℕ) → IsNumbered rest conn word → IsNoNumber (2 ^ 62) word → SaysNothing (codes "step" ++ 32 ∷ rest)
step_no_moment rest word conn p h (Step n now) s =
    let e : rest ≡ decimal n ++ 32 ∷ decimal now = same_rest (codes "step" ++ 32 ∷ []) _ _ s.1 in
    let t = numbered_same rest conn n word (decimal now) p (s.0.0, e) in
    h now (s.0.1, t.1)
step_no_moment rest word conn p h event s = absurd (omega (arith, same_head _ _ _ _ s.1))

-- the digits of a line of bytes
digits_of : (rest digits : List ℕ) (conn : ℕ) → IsNumbered rest conn digits →
    ((bytes : List ℕ) → 0 < length bytes → length bytes ≤ 65536 → IsHex digits bytes → ⊥) →
    SaysNothing (codes "bytes" ++ 32 ∷ rest)
digits_of rest digits conn p h (Bytes n bytes) s =
    let e : rest ≡ decimal n ++ 32 ∷ encode_lower bytes = same_rest (codes "bytes" ++ 32 ∷ []) _ _ s.1 in
    let t = numbered_same rest conn n digits (encode_lower bytes) p (s.0.0, e) in
    h bytes s.0.1 s.0.2 (s.0.3, t.1)
digits_of rest digits conn p h event s = absurd (omega (arith, same_head _ _ _ _ s.1))

hex_length : (digits bytes : List ℕ) → IsHex digits bytes → length digits ≡ 2 * length bytes
hex_length digits bytes p = ap length p.1 ∙ length-encode_with lower_digits bytes

pub bytes_too_few_or_many : (rest digits : List ℕ) (conn : ℕ) → IsNumbered rest conn digits → (length digits ≡ 0) ⊎ (2 * 65536 < length digits) →
    SaysNothing (codes "bytes" ++ 32 ∷ rest)
bytes_too_few_or_many rest digits conn p (inl none) =
    digits_of rest digits conn p (λ bytes some few q. let e = hex_length digits bytes q in absurd (omega (arith, e)))
bytes_too_few_or_many rest digits conn p (inr many) =
    digits_of rest digits conn p (λ bytes some few q. let e = hex_length digits bytes q in absurd (omega (arith, e)))

pub bytes_no_hex : (rest digits : List ℕ) (conn : ℕ) → IsNumbered rest conn digits → IsNoHex digits → SaysNothing (codes "bytes" ++ 32 ∷ rest)
bytes_no_hex rest digits conn p h = digits_of rest digits conn p (λ bytes some few q. h bytes q)

pub bytes_say : (rest digits bytes : List ℕ) (conn : ℕ) → IsNumbered rest conn digits → IsHex digits bytes → 0 < length digits →
    length digits ≤ 2 * 65536 → Says (codes "bytes" ++ 32 ∷ rest) (Bytes conn bytes)
bytes_say rest digits bytes conn p q some few =
    let e = hex_length digits bytes q in (
      (p.0, (let h : 0 < length bytes = omega (arith, e) in h), (let h : length bytes ≤ 65536 = omega (arith, e) in h), q.0),
      (let d : rest ≡ decimal conn ++ 32 ∷ encode_lower bytes =
          p.1 ∙ ap (λ (l : List ℕ). decimal conn ++ 32 ∷ l) q.1 in ap (λ (l : List ℕ). codes "bytes" ++ 32 ∷ l) d),
    )

-- the words of a line of an expiry
expire_of : (rest : List ℕ) → ((topic : List ℕ) (part now : ℕ) → IsEvent (Expire topic part now) →
    rest ≡ topic ++ 32 ∷ (decimal part ++ 32 ∷ decimal now) → ⊥) → SaysNothing (codes "expire" ++ 32 ∷ rest)
expire_of rest h (Expire topic part now) s = h topic part now s.0 (same_rest (codes "expire" ++ 32 ∷ []) _ _ s.1)
expire_of rest h event s = absurd (omega (arith, same_head _ _ _ _ s.1))

pub expire_not_cut : (rest : List ℕ) → HasNoCut rest → SaysNothing (codes "expire" ++ 32 ∷ rest)
expire_not_cut rest none =
    expire_of rest (λ topic part now is e. none topic (decimal part ++ 32 ∷ decimal now) (topic_lacks 32 topic refl is.0, e))

module _ (rest word more : List ℕ) (first : IsCut rest word more) where
  at_topic : (topic behind : List ℕ) → IsTopicName topic → rest ≡ topic ++ 32 ∷ behind → (word ≡ topic) × (more ≡ behind)
  at_topic topic behind is e = one_cut 32 word topic more behind first.0 (topic_lacks 32 topic refl is) (sym first.1 ∙ e)

  pub expire_cut_once : HasNoCut more → SaysNothing (codes "expire" ++ 32 ∷ rest)
  expire_cut_once none =
      expire_of rest (λ topic part now is e. none (decimal part) (decimal now) (no_blank part (omega (arith, is.1)), (at_topic topic _ is.0 e).1))

  pub expire_no_topic : IsNoTopicWord word → SaysNothing (codes "expire" ++ 32 ∷ rest)
  expire_no_topic none = expire_of rest (λ topic part now is e. none topic (is.0, (at_topic topic _ is.0 e).0))

  module _ (number last : List ℕ) (second : IsCut more number last) where
    at_part : (topic : List ℕ) (part now : ℕ) → IsEvent (Expire topic part now) → rest ≡ topic ++ 32 ∷ (decimal part ++ 32 ∷ decimal now) →
        (number ≡ decimal part) × (last ≡ decimal now)
    at_part topic part now is e =
        one_cut 32 number (decimal part) last (decimal now) second.0 (no_blank part (omega (arith, is.1)))
        (sym second.1 ∙ (at_topic topic _ is.0 e).1)

    pub expire_no_part : IsNoNumber 63 number → SaysNothing (codes "expire" ++ 32 ∷ rest)
    expire_no_part none = expire_of rest (λ topic part now is e. none part (omega (arith, is.1), (at_part topic part now is e).0))

    pub expire_no_moment : IsNoNumber (2 ^ 62) last → SaysNothing (codes "expire" ++ 32 ∷ rest)
    expire_no_moment none = expire_of rest (λ topic part now is e. none now (is.2, (at_part topic part now is e).1))

-- the words of a line that arms a disk
arm_of : (rest : List ℕ) → ((disk : List ℕ) (after : ℕ) (mode : FaultMode) → IsTextName disk → after < 2 ^ 64 →
    rest ≡ disk ++ 32 ∷ (decimal after ++ 32 ∷ mode_word mode) → ⊥) → SaysNothing (codes "arm" ++ 32 ∷ rest)
arm_of rest h (Arm disk after mode) s = h disk after mode s.0.0 s.0.1 (same_rest (codes "arm" ++ 32 ∷ []) _ _ s.1)
arm_of rest h event s = absurd (omega (arith, same_head _ _ _ _ s.1))

pub arm_not_cut : (rest : List ℕ) → HasNoCut rest → SaysNothing (codes "arm" ++ 32 ∷ rest)
arm_not_cut rest none = arm_of rest (λ disk after mode is few e. none disk (decimal after ++ 32 ∷ mode_word mode) (disk_lacks 32 disk (λ p. omega (arith, p.0)) is, e))

module _ (rest word more : List ℕ) (first : IsCut rest word more) where
  at_disk : (disk behind : List ℕ) → IsTextName disk → rest ≡ disk ++ 32 ∷ behind → (word ≡ disk) × (more ≡ behind)
  at_disk disk behind is e = one_cut 32 word disk more behind first.0 (disk_lacks 32 disk (λ p. omega (arith, p.0)) is) (sym first.1 ∙ e)

  pub arm_cut_once : HasNoCut more → SaysNothing (codes "arm" ++ 32 ∷ rest)
  arm_cut_once none = arm_of rest (λ disk after mode is few e. none (decimal after) (mode_word mode) (no_blank after few, (at_disk disk _ is e).1))

  pub arm_no_disk : (IsTextName word → ⊥) → SaysNothing (codes "arm" ++ 32 ∷ rest)
  arm_no_disk none = arm_of rest (λ disk after mode is few e. none (subst IsTextName (sym (at_disk disk _ is e).0) is))

  module _ (number last : List ℕ) (second : IsCut more number last) where
    at_number : (disk : List ℕ) (after : ℕ) (mode : FaultMode) → IsTextName disk → after < 2 ^ 64 → rest ≡ disk ++ 32 ∷ (decimal after ++ 32 ∷ mode_word mode) →
        (number ≡ decimal after) × (last ≡ mode_word mode)
    at_number disk after mode is few e =
        one_cut 32 number (decimal after) last (mode_word mode) second.0 (no_blank after few) (sym second.1 ∙ (at_disk disk _ is e).1)

    pub arm_no_number : IsNoNumber 18446744073709551615 number → SaysNothing (codes "arm" ++ 32 ∷ rest)
    arm_no_number none = arm_of rest (λ disk after mode is few e. none after (omega (arith, few), (at_number disk after mode is few e).0))

    pub arm_no_mode : IsNoMode last → SaysNothing (codes "arm" ++ 32 ∷ rest)
    arm_no_mode none = arm_of rest (λ disk after mode is few e. none mode (at_number disk after mode is few e).1)

-- the first words of events
abbrev IsFirstWord : List ℕ → Type 0
IsFirstWord word = (word ≡ codes "open") ⊎ ((word ≡ codes "bytes") ⊎ ((word ≡ codes "close") ⊎ ((word ≡ codes "step") ⊎
    ((word ≡ codes "expire") ⊎ ((word ≡ codes "tick") ⊎ ((word ≡ codes "arm") ⊎ (word ≡ codes "power")))))))

-- an event's first word, and the rest
record FirstWord (event : Event) : Type 0 where
  word : List ℕ
  rest : List ℕ
  parts : words_of event ≡ word ++ 32 ∷ rest
  whole : HasNone 32 word
  one : IsFirstWord word

first_is : (event : Event) (word rest : List ℕ) → words_of event ≡ word ++ 32 ∷ rest → lacks 32 word ≡ true → IsFirstWord word → FirstWord event
first_is event word rest parts whole one = record { word = word; rest = rest; parts = parts; whole = lacks_none 32 word whole; one = one }

first_word : (event : Event) → FirstWord event
first_word (Open conn) = first_is _ (codes "open") (decimal conn) refl refl (inl refl)
first_word (Bytes conn bytes) = first_is _ (codes "bytes") (decimal conn ++ 32 ∷ encode_lower bytes) refl refl (inr (inl refl))
first_word (Close conn) = first_is _ (codes "close") (decimal conn) refl refl (inr (inr (inl refl)))
first_word (Step conn now) = first_is _ (codes "step") (decimal conn ++ 32 ∷ decimal now) refl refl (inr (inr (inr (inl refl))))
first_word (Expire topic part now) =
    first_is _ (codes "expire") (topic ++ 32 ∷ (decimal part ++ 32 ∷ decimal now)) refl refl (inr (inr (inr (inr (inl refl)))))
first_word (Tick now) = first_is _ (codes "tick") (decimal now) refl refl (inr (inr (inr (inr (inr (inl refl))))))
first_word (Arm disk after mode) =
    first_is _ (codes "arm") (disk ++ 32 ∷ (decimal after ++ 32 ∷ mode_word mode)) refl refl (inr (inr (inr (inr (inr (inr (inl refl)))))))
first_word (Power choice) = first_is _ (codes "power") (decimal choice) refl refl (inr (inr (inr (inr (inr (inr (inr refl)))))))

abbrev all_small : List ℕ → Bool
all_small [] = true
all_small (b ∷ bs) = nat_lt b 128 && all_small bs

small_ascii : (bs : List ℕ) → all_small bs ≡ true → IsAscii bs
small_ascii [] h = IsAscii-nil
small_ascii (b ∷ bs) h =
    let p = and_parts (nat_lt b 128) (all_small bs) h in
    IsAscii-cons b bs (ltb-true b 128 p.0) (small_ascii bs p.1)

numbered_ascii : (n : ℕ) (rest : List ℕ) → n < 2 ^ 64 → IsAscii rest → IsAscii (decimal n ++ 32 ∷ rest)
numbered_ascii n rest lt h = IsAscii-append (decimal n) (32 ∷ rest) (IsAscii-decimal n lt) (IsAscii-cons 32 rest (lit< tt) h)

mode_ascii : (mode : FaultMode) → IsAscii (mode_word mode)
mode_ascii Once = small_ascii (codes "once") refl
mode_ascii Torn = small_ascii (codes "torn") refl
mode_ascii Dead = small_ascii (codes "dead") refl

small_topic_byte : (b : ℕ) → is_topic_byte b ≡ true → b < 128
small_topic_byte b h = grind (arith, nat_tests)

topic_ascii : (topic : List ℕ) → IsTopicName topic → IsAscii topic
topic_ascii topic is = IsAscii-from_all topic (All-weaker (λ b. is_topic_byte b ≡ true) (λ b. b < 128) small_topic_byte topic is.2)

ascii_words : (event : Event) → IsEvent event → IsAscii (words_of event)
ascii_words (Open conn) is =
    IsAscii-append (codes "open" ++ 32 ∷ []) (decimal conn) (small_ascii (codes "open" ++ 32 ∷ []) refl) (IsAscii-decimal conn (omega arith))
ascii_words (Bytes conn bytes) is =
    IsAscii-append (codes "bytes" ++ 32 ∷ []) (decimal conn ++ 32 ∷ encode_lower bytes) (small_ascii (codes "bytes" ++ 32 ∷ []) refl)
    (numbered_ascii conn (encode_lower bytes) (omega (arith, is.0)) (IsAscii-encode_with lower_digits bytes (small_ascii lower_digits refl)))
ascii_words (Close conn) is =
    IsAscii-append (codes "close" ++ 32 ∷ []) (decimal conn) (small_ascii (codes "close" ++ 32 ∷ []) refl) (IsAscii-decimal conn (omega arith))
ascii_words (Step conn now) is =
    IsAscii-append (codes "step" ++ 32 ∷ []) (decimal conn ++ 32 ∷ decimal now) (small_ascii (codes "step" ++ 32 ∷ []) refl)
    (numbered_ascii conn (decimal now) (omega (arith, is.0)) (IsAscii-decimal now (omega (arith, is.1))))
ascii_words (Expire topic part now) is =
    IsAscii-append (codes "expire" ++ 32 ∷ []) (topic ++ 32 ∷ (decimal part ++ 32 ∷ decimal now)) (small_ascii (codes "expire" ++ 32 ∷ []) refl)
    (IsAscii-append topic (32 ∷ (decimal part ++ 32 ∷ decimal now)) (topic_ascii topic is.0)
    (IsAscii-cons 32 (decimal part ++ 32 ∷ decimal now) (lit< tt)
    (numbered_ascii part (decimal now) (omega (arith, is.1)) (IsAscii-decimal now (omega (arith, is.2))))))
ascii_words (Tick now) is =
    IsAscii-append (codes "tick" ++ 32 ∷ []) (decimal now) (small_ascii (codes "tick" ++ 32 ∷ []) refl) (IsAscii-decimal now (omega (arith, is)))
ascii_words (Arm disk after mode) is =
    IsAscii-append (codes "arm" ++ 32 ∷ []) (disk ++ 32 ∷ (decimal after ++ 32 ∷ mode_word mode)) (small_ascii (codes "arm" ++ 32 ∷ []) refl)
    (IsAscii-append disk (32 ∷ (decimal after ++ 32 ∷ mode_word mode)) (name_is_ascii disk (is_disk disk is.0))
    (IsAscii-cons 32 (decimal after ++ 32 ∷ mode_word mode) (lit< tt) (numbered_ascii after (mode_word mode) is.1 (mode_ascii mode))))
ascii_words (Power choice) is =
    IsAscii-append (codes "power" ++ 32 ∷ []) (decimal choice) (small_ascii (codes "power" ++ 32 ∷ []) refl) (IsAscii-decimal choice is)

-- what isn't text, has no blank, or begins with another word, is no line of an event
pub not_text : (line : List ℕ) → (IsUtf8 line → ⊥) → SaysNothing line
not_text line h event s = h (rw (s.1) (IsUtf8-from_ascii (words_of event) (ascii_words event s.0)))

pub not_words : (line : List ℕ) → HasNoCut line → SaysNothing line
not_words line h event s = let f = first_word event in h f.word f.rest (f.whole, s.1 ∙ f.parts)

pub other_word : (line word rest : List ℕ) → IsCut line word rest → word ≢ codes "open" → word ≢ codes "bytes" → word ≢ codes "close" →
    word ≢ codes "step" → word ≢ codes "expire" → word ≢ codes "tick" → word ≢ codes "arm" → word ≢ codes "power" → SaysNothing line
other_word line word rest p opens bytes close step expire tick arm power event s =
    let f = first_word event in
    let e = one_cut 32 word f.word rest f.rest p.0 f.whole (sym p.1 ∙ s.1 ∙ f.parts) in
    none_of e.0 f.one
  where
    none_of : {first : List ℕ} → word ≡ first → IsFirstWord first → ⊥
    none_of e (inl is) = opens (e ∙ is)
    none_of e (inr (inl is)) = bytes (e ∙ is)
    none_of e (inr (inr (inl is))) = close (e ∙ is)
    none_of e (inr (inr (inr (inl is)))) = step (e ∙ is)
    none_of e (inr (inr (inr (inr (inl is))))) = expire (e ∙ is)
    none_of e (inr (inr (inr (inr (inr (inl is)))))) = tick (e ∙ is)
    none_of e (inr (inr (inr (inr (inr (inr (inl is))))))) = arm (e ∙ is)
    none_of e (inr (inr (inr (inr (inr (inr (inr is))))))) = power (e ∙ is)
