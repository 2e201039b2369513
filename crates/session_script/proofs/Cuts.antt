-- A text is cut in one way at its first blank, or at its first line feed.
use Rattle.std.proofs.Common.{◌≡◌, ◌≢◌, ◌<◌, ◌≤◌, ◌^◌, ℕ, zero, suc, List, [], ◌∷◌, ◌++◌, Option, Some, None, MatchOption, length, get_or}
use Rattle.std.proofs.Common.{inl, inr, refl, sym, ap, ◌∙◌, subst, arith, lit<}
use Rattle.std.proofs.Common.{Bool, true, false, not, ◌&&◌, ◌==◌}
use Rattle.std.proofs.lemmas.Bool.{and_parts, false≢true}
use Rattle.std.proofs.lemmas.Bool.Decides.{nat_tests}
use Rattle.std.specs.Fmt.{decimal}
use Rattle.std.specs.Char.{digit_value}
use Rattle.std.specs.Str.Parse.{AllDigits}
use Rattle.std.proofs.lemmas.Fmt.{decimal_is_IsNumeral}
use Rattle.std.proofs.lemmas.Str.Pattern.{IsSplitOnceResult, split_after, split_parts}
use denote.Ref.{Bor}
use Rattle.std.proofs.lemmas.List.Elements.{All-get_or}
use Rattle.edge_io.specs.Names.{is_topic_byte, IsTopicName, IsDiskName, IsTextName}
use Rattle.edge_io.proofs.Names.{IsNameByte, name_bytes}
use Rattle.session_script.specs.Lines.{HasNone, IsCut, HasNoCut}

pub none_at : (c : ℕ) (bs : List ℕ) → ((i : ℕ) → i < length bs → get_or bs i 0 ≢ c) → HasNone c bs
none_at c [] h = tt
none_at c (b ∷ bs) h = (h 0 (omega arith), none_at c bs (λ i lt. h (suc i) (omega arith)))

pub at_none : (c : ℕ) (bs : List ℕ) → HasNone c bs → (i : ℕ) → i < length bs → get_or bs i 0 ≢ c
at_none c [] h i lt = absurd (omega arith)
at_none c (b ∷ bs) h zero lt = h.0
at_none c (b ∷ bs) h (suc i) lt = at_none c bs h.1 i (omega arith)

pub none_append : (c : ℕ) (xs ys : List ℕ) → HasNone c xs → HasNone c ys → HasNone c (xs ++ ys)
none_append c [] ys p q = q
none_append c (x ∷ xs) ys p q = (p.0, none_append c xs ys p.1 q)

-- a byte that a text written out lacks, as a test that computes
abbrev pub lacks : ℕ → List ℕ → Bool
lacks c [] = true
lacks c (b ∷ bs) = not (b == c) && lacks c bs

is_other : (a b : ℕ) → not (a == b) ≡ true → a ≢ b
is_other a b h e = grind (arith, nat_tests)

pub lacks_none : (c : ℕ) (bs : List ℕ) → lacks c bs ≡ true → HasNone c bs
lacks_none c [] h = tt
lacks_none c (b ∷ bs) h = let p = and_parts (not (b == c)) (lacks c bs) h in (is_other b c p.0, lacks_none c bs p.1)

-- two cuts of one text are the same
pub one_cut : (c : ℕ) (a b x y : List ℕ) → HasNone c a → HasNone c b → a ++ c ∷ x ≡ b ++ c ∷ y → (a ≡ b) × (x ≡ y)
one_cut c [] [] x y p q e = (refl, cc)
one_cut c [] (b ∷ bs) x y p q e = absurd (q.0 (cc))
one_cut c (a ∷ front) [] x y p q e = absurd (p.0 (cc))
one_cut c (a ∷ front) (b ∷ bs) x y p q e =
    let t : front ++ c ∷ x ≡ bs ++ c ∷ y = cc in
    let h : a ≡ b = cc in
    let r = one_cut c front bs x y p.1 q.1 t in (cc (h, r.0), r.1)

no_digit : (c b : ℕ) → 36 ≤ digit_value c → digit_value b < 10 → b ≢ c
no_digit c b p q e = let s : digit_value b ≡ digit_value c = ap digit_value e in omega (arith, s)

pub none_digits : (c : ℕ) (ds : List ℕ) → 36 ≤ digit_value c → AllDigits 10 ds → HasNone c ds
none_digits c [] p h = tt
none_digits c (d ∷ ds) p h = (no_digit c d p h.0, none_digits c ds p h.1)

-- the text of a number has no blank and no line feed
pub no_blank : (n : ℕ) → n < 2 ^ 64 → HasNone 32 (decimal n)
no_blank n h = none_digits 32 (decimal n) (omega arith) (decimal_is_IsNumeral n h).0.1

pub no_feed : (n : ℕ) → n < 2 ^ 64 → HasNone 10 (decimal n)
no_feed n h = none_digits 10 (decimal n) (omega arith) (decimal_is_IsNumeral n h).0.1

-- nor has the name of a topic
pub topic_lacks : (c : ℕ) (name : List ℕ) → is_topic_byte c ≡ false → IsTopicName name → HasNone c name
topic_lacks c name other is = none_at c name (λ i lt e. false≢true (sym other ∙ subst (λ (b : ℕ). is_topic_byte b ≡ true) e (is.2 i 0 lt)))

-- what a text names is the name of a disk
pub is_disk : (name : List ℕ) → IsTextName name → IsDiskName name
is_disk name (inl h) = inl (h.0, h.1, h.2, h.3, h.4, h.5)
is_disk name (inr foreign) = inr foreign

-- nor has that of a disk
pub disk_lacks : (c : ℕ) (name : List ℕ) → (IsNameByte c → ⊥) → IsTextName name → HasNone c name
disk_lacks c name other is =
    none_at c name (λ i lt e. other (subst IsNameByte e (All-get_or IsNameByte name i 0 lt (name_bytes name (is_disk name is)))))

pub cut_of : (text : List ℕ) (r : Option (Bor (List ℕ) × Bor (List ℕ))) → IsSplitOnceResult 32 text r →
    MatchOption r (HasNoCut text) (λ x. IsCut text x.0.now x.1.now)
cut_of text None h = λ front rest p. split_after 32 text front rest None h (lit< tt) p.1 (at_none 32 front p.0)
cut_of text (Some x) h = let p = split_parts 32 text (Some x) h (lit< tt) in (none_at 32 x.0.now p.1, p.0)
