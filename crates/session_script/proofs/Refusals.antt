-- Where no line of an event stands, and neither does the end.
use Rattle.std.proofs.Common.{◌≡◌, ◌≢◌, ◌<◌, ◌≤◌, ◌+◌, ◌^◌, inl, inr, ℕ, suc, List, [], ◌∷◌, ◌++◌, Option, Some, None, IfSome, length, take}
use Rattle.std.proofs.Common.{drop, drop-cons, length-append, codes, refl, sym, ap, ◌∙◌, subst, arith, append_assoc, append-nil}
use Rattle.std.proofs.lemmas.List.{take-append-drop, length-take}
use Rattle.std.proofs.lemmas.Fmt.{length-decimal-le}
use Rattle.std.specs.Fmt.{decimal}
use Rattle.hex.specs.Hex.{encode_lower, lower_digits}
use Rattle.hex.proofs.HexLemmas.{length-encode_with}
use Rattle.edge_io.specs.declared.fault.FaultMode.{FaultMode}
use Rattle.edge_io.specs.declared.fault.FaultMode.TheVariants.{Once, Torn, Dead}
use Rattle.edge_io.proofs.Names.{name_short}
use Rattle.session_script.specs.declared.event.Event.{Event}
use Rattle.session_script.specs.declared.event.Event.TheVariants.{Open, Bytes, Close, Step, Expire, Tick, Arm, Power}
use Rattle.session_script.specs.Script.{words_of, mode_word, line_of, IsEvent, end_line, longest, longest_line, HasNoEvent, HasNoMalformed, IsRefused}
use Rattle.session_script.specs.Lines.{HasNone, IsLine, IsUnfinished, SaysNothing}
use Rattle.session_script.proofs.Cuts.{one_cut, none_append, no_feed, lacks_none, topic_lacks, is_disk, disk_lacks}
use Rattle.session_script.proofs.Sayings.{same_head, same_rest}
use Rattle.session_script.proofs.Hexes.{hex_no_feed}

then_none : (front rest : List ℕ) → HasNone 10 front → HasNone 10 rest → HasNone 10 (front ++ 32 ∷ rest)
then_none front rest p q = none_append 10 front (32 ∷ rest) p ((λ e. absurd (omega arith)), q)

numbered_none : (n : ℕ) (rest : List ℕ) → n < 2 ^ 64 → HasNone 10 rest → HasNone 10 (decimal n ++ 32 ∷ rest)
numbered_none n rest lt h = then_none (decimal n) rest (no_feed n lt) h

mode_none : (mode : FaultMode) → HasNone 10 (mode_word mode)
mode_none Once = lacks_none 10 (codes "once") refl
mode_none Torn = lacks_none 10 (codes "torn") refl
mode_none Dead = lacks_none 10 (codes "dead") refl

pub no_feed_words : (event : Event) → IsEvent event → HasNone 10 (words_of event)
no_feed_words (Open conn) is =
    none_append 10 (codes "open" ++ 32 ∷ []) (decimal conn) (lacks_none 10 (codes "open" ++ 32 ∷ []) refl) (no_feed conn (omega arith))
no_feed_words (Bytes conn bytes) is =
    none_append 10 (codes "bytes" ++ 32 ∷ []) (decimal conn ++ 32 ∷ encode_lower bytes) (lacks_none 10 (codes "bytes" ++ 32 ∷ []) refl)
    (numbered_none conn (encode_lower bytes) (omega (arith, is.0)) (hex_no_feed bytes is.3))
no_feed_words (Close conn) is =
    none_append 10 (codes "close" ++ 32 ∷ []) (decimal conn) (lacks_none 10 (codes "close" ++ 32 ∷ []) refl) (no_feed conn (omega arith))
no_feed_words (Step conn now) is =
    none_append 10 (codes "step" ++ 32 ∷ []) (decimal conn ++ 32 ∷ decimal now) (lacks_none 10 (codes "step" ++ 32 ∷ []) refl)
    (numbered_none conn (decimal now) (omega (arith, is.0)) (no_feed now (omega (arith, is.1))))
no_feed_words (Expire topic part now) is =
    none_append 10 (codes "expire" ++ 32 ∷ []) (topic ++ 32 ∷ (decimal part ++ 32 ∷ decimal now)) (lacks_none 10 (codes "expire" ++ 32 ∷ []) refl)
    (then_none topic (decimal part ++ 32 ∷ decimal now) (topic_lacks 10 topic refl is.0)
    (numbered_none part (decimal now) (omega (arith, is.1)) (no_feed now (omega (arith, is.2)))))
no_feed_words (Tick now) is =
    none_append 10 (codes "tick" ++ 32 ∷ []) (decimal now) (lacks_none 10 (codes "tick" ++ 32 ∷ []) refl) (no_feed now (omega (arith, is)))
no_feed_words (Arm disk after mode) is =
    none_append 10 (codes "arm" ++ 32 ∷ []) (disk ++ 32 ∷ (decimal after ++ 32 ∷ mode_word mode)) (lacks_none 10 (codes "arm" ++ 32 ∷ []) refl)
    (then_none disk (decimal after ++ 32 ∷ mode_word mode) (disk_lacks 10 disk (λ p. omega (arith, p.0)) is.0) (numbered_none after (mode_word mode) is.1 (mode_none mode)))
no_feed_words (Power choice) is =
    none_append 10 (codes "power" ++ 32 ∷ []) (decimal choice) (lacks_none 10 (codes "power" ++ 32 ∷ []) refl) (no_feed choice is)

not_in_front : (xs ys : List ℕ) → HasNone 10 (xs ++ 10 ∷ ys) → ⊥
not_in_front [] ys h = h.0 refl
not_in_front (x ∷ xs) ys h = not_in_front xs ys h.1

pub line_then : (event : Event) (more : List ℕ) → line_of event ++ more ≡ words_of event ++ 10 ∷ more
line_then event more = append_assoc (words_of event) (10 ∷ []) more

-- the line that stands at the front is that of the event
same_words : (line rest more : List ℕ) (event : Event) → HasNone 10 line → IsEvent event → line ++ 10 ∷ rest ≡ line_of event ++ more → line ≡ words_of event
same_words line rest more event h is e = (one_cut 10 line (words_of event) rest more h (no_feed_words event is) (e ∙ line_then event more)).0

pub line_parts : (bytes : List ℕ) (n : ℕ) → IsLine bytes n → bytes ≡ take n bytes ++ 10 ∷ drop (suc n) bytes
line_parts bytes n l =
    sym (take-append-drop n bytes) ∙ ap (λ (k : List ℕ). take n bytes ++ k) (drop-cons bytes n 0 l.within ∙ ap (λ (b : ℕ). b ∷ drop (suc n) bytes) l.feed)

at_line : (bytes more : List ℕ) (n : ℕ) → IsLine bytes n → bytes ++ more ≡ take n bytes ++ 10 ∷ (drop (suc n) bytes ++ more)
at_line bytes more n l = ap (λ (k : List ℕ). k ++ more) (line_parts bytes n l) ∙ append_assoc (take n bytes) (10 ∷ drop (suc n) bytes) more

abbrev end_word : List ℕ
end_word = codes "end"

end_has_none : HasNone 10 end_word
end_has_none = lacks_none 10 end_word refl

end_is_none : (event : Event) → end_word ≡ words_of event → ⊥
end_is_none (Expire topic part now) e = absurd (omega (arith, same_head _ _ _ _ (same_rest (codes "e") _ _ e)))
end_is_none event e = absurd (omega (arith, same_head _ _ _ _ e))

-- a line that is the last one's
same_end : (bytes more rest : List ℕ) (n : ℕ) → IsLine bytes n → bytes ++ more ≡ end_line ++ rest → take n bytes ≡ end_word
same_end bytes more rest n l e =
    (one_cut 10 (take n bytes) end_word (drop (suc n) bytes ++ more) rest l.before end_has_none
    (sym (at_line bytes more n l) ∙ e ∙ append_assoc end_word (10 ∷ []) rest)).0

end_alone : (rest : List ℕ) → rest ≡ end_line → rest ≡ end_line ++ []
end_alone rest e = e ∙ sym (append-nil end_line)

-- a line that says nothing and isn't the last
pub nothing_said : (place n : ℕ) (bytes more : List ℕ) → IsLine bytes n → SaysNothing (take n bytes) → take n bytes ≢ end_word →
    IsRefused place (bytes ++ more) place
nothing_said place n bytes more l h other = record {
  no_event = λ event rest is e. absurd (h event
      (is, same_words (take n bytes) (drop (suc n) bytes ++ more) rest event l.before is (sym (at_line bytes more n l) ∙ e)));
  no_end = λ end. other (same_end bytes more [] n l (end_alone (bytes ++ more) end.0));
  at = inr ((λ rest e. absurd (other (same_end bytes more rest n l e))), refl);
}

-- a line that isn't whole within the longest script
pub script_full : (place n : ℕ) (bytes more : List ℕ) → IsLine bytes n → longest ≤ place + n → IsRefused place (bytes ++ more) place
script_full place n bytes more l full =
    let len = length-take n bytes in
    let size : length (take n bytes) ≡ n = omega (arith, len, l.within) in
    let past : (rest : List ℕ) → bytes ++ more ≡ end_line ++ rest → longest < place + 4 =
    λ (rest : List ℕ) (e : bytes ++ more ≡ end_line ++ rest). (let s : length (take n bytes) ≡ 3 = ap length (same_end bytes more rest n l e) in
    let r : longest < place + 4 = omega (arith, size, s) in r) in
    record {
      no_event = λ event rest is e.
          (let same = same_words (take n bytes) (drop (suc n) bytes ++ more) rest event l.before is (sym (at_line bytes more n l) ∙ e) in
          let s : length (take n bytes) ≡ length (words_of event) = ap length same in
          let t = length-append (words_of event) (10 ∷ []) in
          omega (arith, size, s, t));
      no_end = λ end. (let p = past [] (end_alone (bytes ++ more) end.0) in omega (arith, end.1));
      at = inr (past, refl);
    }

decimal_short : (conn : ℕ) → conn < 2 ^ 32 → length (decimal conn) ≤ 10
decimal_short conn lt = length-decimal-le 10 conn (omega arith) (omega arith) (omega arith)

count_short : (n : ℕ) → n < 2 ^ 64 → length (decimal n) ≤ 20
count_short n lt = length-decimal-le 20 n (omega arith) (omega arith) (omega arith)

mode_short : (mode : FaultMode) → length (mode_word mode) ≤ 4
mode_short Once = omega arith
mode_short Torn = omega arith
mode_short Dead = omega arith

words_short : (event : Event) → IsEvent event → length (words_of event) < longest_line
words_short (Open conn) is = let d = decimal_short conn is in omega (arith, d)
words_short (Bytes conn bytes) is =
    let d = decimal_short conn is.0 in
    let h = length-encode_with lower_digits bytes in
    let a = length-append (decimal conn) (32 ∷ encode_lower bytes) in
    omega (arith, d, h, a, is.2)
words_short (Close conn) is = let d = decimal_short conn is in omega (arith, d)
words_short (Step conn now) is =
    let d = decimal_short conn is.0 in
    let n = length-decimal-le 19 now (omega arith) (omega (arith, is.1)) (omega (arith, is.1)) in
    let a = length-append (decimal conn) (32 ∷ decimal now) in
    omega (arith, d, n, a)
words_short (Expire topic part now) is =
    let n = count_short part (omega (arith, is.1)) in
    let m = count_short now (omega (arith, is.2)) in
    let a = length-append topic (32 ∷ (decimal part ++ 32 ∷ decimal now)) in
    let b = length-append (decimal part) (32 ∷ decimal now) in
    omega (arith, is.0.1, n, m, a, b)
words_short (Tick now) is = omega (arith, count_short now (omega (arith, is)))
words_short (Arm disk after mode) is =
    let d = name_short disk (is_disk disk is.0) in
    let n = count_short after is.1 in
    let a = length-append disk (32 ∷ (decimal after ++ 32 ∷ mode_word mode)) in
    let b = length-append (decimal after) (32 ∷ mode_word mode) in
    omega (arith, d, n, a, b, mode_short mode)
words_short (Power choice) is = omega (arith, count_short choice is)

-- the input ends within the line
cut_off : (place : ℕ) (bytes : List ℕ) → HasNone 10 bytes → IsRefused place bytes place
cut_off place bytes h =
    let no : (front rest : List ℕ) → bytes ≡ front ++ 10 ∷ rest → ⊥ =
    λ (front rest : List ℕ) (e : bytes ≡ front ++ 10 ∷ rest). not_in_front front rest (subst (HasNone 10) e h) in
    record {
      no_event = λ event rest is e. absurd (no (words_of event) rest (e ∙ line_then event rest));
      no_end = λ end. no end_word [] end.0;
      at = inr ((λ rest e. absurd (no end_word rest (e ∙ append_assoc end_word (10 ∷ []) rest))), refl);
    }

-- the line is longer than any
too_long : (place : ℕ) (bytes more : List ℕ) → HasNone 10 bytes → longest_line < length bytes → IsRefused place (bytes ++ more) place
too_long place bytes more h long =
    let no : (front rest : List ℕ) → length front < longest_line → bytes ++ more ≡ front ++ 10 ∷ rest → ⊥ =
    λ (front rest : List ℕ) (few : length front < longest_line) (e : bytes ++ more ≡ front ++ 10 ∷ rest). feed_within bytes more front rest h (omega arith) e in
    record {
      no_event = λ event rest is e. absurd (no (words_of event) rest (words_short event is) (e ∙ line_then event rest));
      no_end = λ end. no end_word [] (omega arith) end.0;
      at = inr ((λ rest e. absurd (no end_word rest (omega arith) (e ∙ append_assoc end_word (10 ∷ []) rest))), refl);
    }
  where
    feed_within : (bytes more front rest : List ℕ) → HasNone 10 bytes → length front < length bytes → bytes ++ more ≡ front ++ 10 ∷ rest → ⊥
    feed_within [] more front rest h lt e = absurd (omega arith)
    feed_within (b ∷ bytes) more [] rest h lt e = h.0 (cc)
    feed_within (b ∷ bytes) more (f ∷ front) rest h lt e =
        (let t : bytes ++ more ≡ front ++ 10 ∷ rest = cc in feed_within bytes more front rest h.1 (omega arith) t)

pub unfinished : (place : ℕ) (bytes : List ℕ) (left : Option (List ℕ)) → IsUnfinished bytes left → IfSome left (λ more. IsRefused place (bytes ++ more) place)
unfinished place bytes None u = tt
unfinished place bytes (Some more) (h, inl end) = rw (end, append-nil bytes) (cut_off place bytes h)
unfinished place bytes (Some more) (h, inr long) = too_long place bytes more h long

-- something stands behind the last line
pub behind_end : (place : ℕ) (b : ℕ) (bytes : List ℕ) → place + 4 ≤ longest → IsRefused place (end_line ++ b ∷ bytes) (place + 4)
behind_end place b bytes fits = record {
  no_event = λ event rest is e.
      (let same = one_cut 10 end_word (words_of event) (b ∷ bytes) rest end_has_none (no_feed_words event is)
      (sym (append_assoc end_word (10 ∷ []) (b ∷ bytes)) ∙ e ∙ line_then event rest) in
      absurd (end_is_none event same.0));
  no_end = λ end. (let s : length (end_line ++ b ∷ bytes) ≡ length end_line =
      ap length end.0 in let t = length-append end_line (b ∷ bytes) in absurd (omega arith));
  at = inl (b ∷ bytes, refl, fits, refl);
}

pub end_no_event : (place : ℕ) → HasNoEvent place end_line
end_no_event place event more is e =
    let same = one_cut 10 end_word (words_of event) [] more end_has_none (no_feed_words event is) (e ∙ line_then event more) in
    absurd (end_is_none event same.0)

-- the last line, and no byte more
pub end_unbroken : (place : ℕ) (bytes rest : List ℕ) → bytes ≡ end_line ++ rest → place + 4 ≤ longest → length bytes ≤ 4 → HasNoMalformed place bytes
end_unbroken place bytes [] e fits few = inr (e ∙ append-nil end_line, fits)
end_unbroken place bytes (b ∷ rest) e fits few = let s : length bytes ≡ length (end_line ++ b ∷ rest) = ap length e in absurd (omega (arith, s, few))

-- the same, whatever the source has left

pub full_refused : (place fault n : ℕ) (bytes : List ℕ) (left : Option (List ℕ)) → fault ≡ place → IsLine bytes n → longest ≤ place + n →
    IfSome left (λ more. IsRefused place (bytes ++ more) fault)
full_refused place fault n bytes None is l full = tt
full_refused place fault n bytes (Some more) is l full = rw is (script_full place n bytes more l full)

pub nothing_refused : (place fault n : ℕ) (bytes : List ℕ) (left : Option (List ℕ)) → fault ≡ place → IsLine bytes n → SaysNothing (take n bytes) →
    take n bytes ≢ end_word → IfSome left (λ more. IsRefused place (bytes ++ more) fault)
nothing_refused place fault n bytes None is l h other = tt
nothing_refused place fault n bytes (Some more) is l h other = rw is (nothing_said place n bytes more l h other)

behind : (place fault : ℕ) (bytes rest more : List ℕ) → fault ≡ place + 4 → bytes ≡ end_line ++ rest → place + 4 ≤ longest → 4 < length bytes →
    IsRefused place (bytes ++ more) fault
behind place fault bytes [] more is e fits many = let s : length bytes ≡ 4 = ap length e in absurd (omega arith)
behind place fault bytes (b ∷ rest) more is e fits many =
    let whole : bytes ++ more ≡ end_line ++ b ∷ (rest ++ more) = ap (λ (l : List ℕ). l ++ more) e ∙ append_assoc end_line (b ∷ rest) more in
    rw (whole, is) (behind_end place b (rest ++ more) fits)

pub behind_refused : (place fault : ℕ) (bytes rest : List ℕ) (left : Option (List ℕ)) → fault ≡ place + 4 → bytes ≡ end_line ++ rest →
    place + 4 ≤ longest → 4 < length bytes → IfSome left (λ more. IsRefused place (bytes ++ more) fault)
behind_refused place fault bytes rest None is e fits many = tt
behind_refused place fault bytes rest (Some more) is e fits many = behind place fault bytes rest more is e fits many

pub unfinished_refused : (place fault : ℕ) (bytes : List ℕ) (left : Option (List ℕ)) → fault ≡ place → IsUnfinished bytes left →
    IfSome left (λ more. IsRefused place (bytes ++ more) fault)
unfinished_refused place fault bytes left is u = rw is (unfinished place bytes left u)
