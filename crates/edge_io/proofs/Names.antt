-- Which bytes the name of a disk has, and where it is cut at its slashes.
use Rattle.std.proofs.Common.{◌≡◌, ◌≢◌, ◌<◌, ◌≤◌, ℕ, List, [], ◌∷◌, ◌++◌, All, Bool, true, inl, inr, codes, get_or, refl, sym, ap, ◌∙◌, subst, arith}
use Rattle.std.proofs.Common.{◌&&◌, nat_lt, Option, Some, None, MatchOption, IfSome, IsSome, ◌↔◌, length, length-append, lit<}
use Rattle.std.proofs.lemmas.Bool.{false≢true}
use Rattle.std.proofs.lemmas.Bool.Decides.{nat_tests}
use Rattle.std.proofs.lemmas.List.Elements.{All-append, All-cons, All-nil, All-weaker}
use Rattle.std.specs.Str.{IsAscii, IsUtf8}
use Rattle.std.proofs.lemmas.Str.{IsUtf8-from_ascii}
use Rattle.std.proofs.lemmas.Str.Ascii.{IsAscii-from_all}
use Rattle.std.proofs.lemmas.Str.Pattern.{IsSplitOnceResult, split_after, split_parts}
use Rattle.edge_io.specs.declared.name.DiskPlace.{DiskPlace}
use Rattle.edge_io.specs.declared.name.DiskPlace.TheVariants.{Log, LogB, StateA, StateB}
use Rattle.edge_io.specs.Names.{is_topic_byte, IsTopicName, number_word, disk_word, hosted_name, IsTextHosted, IsNotHosted, IsNoNumberWord, IsNoDiskWord, IsTextPlace, IsDiskName}
use denote.Ref.{Bor}

-- from '-' to 'z'
abbrev pub IsNameByte : ℕ → Type 0
IsNameByte b = (44 < b) × (b < 123)

topic_byte : (b : ℕ) → is_topic_byte b ≡ true → IsNameByte b
topic_byte b h = grind (arith, nat_tests)

abbrev are_name_bytes : List ℕ → Bool
are_name_bytes [] = true
are_name_bytes (b ∷ bs) = nat_lt 44 b && nat_lt b 123 && are_name_bytes bs

name_bytes_of : (bs : List ℕ) → are_name_bytes bs ≡ true → All IsNameByte bs
name_bytes_of [] h = All-nil IsNameByte
name_bytes_of (b ∷ bs) h = All-cons IsNameByte b bs (grind (arith, nat_tests)) (name_bytes_of bs (grind (arith, nat_tests)))

number_bytes : (n : ℕ) → n < 64 → All IsNameByte (number_word n)
number_bytes n lt = name_bytes_of (number_word n) (grind (arith, nat_tests))

place_bytes : (place : DiskPlace) → All IsNameByte (disk_word place)
place_bytes Log = name_bytes_of (codes "log") refl
place_bytes LogB = name_bytes_of (codes "log-b") refl
place_bytes StateA = name_bytes_of (codes "state-a") refl
place_bytes StateB = name_bytes_of (codes "state-b") refl

slash : (front rest : List ℕ) → All IsNameByte front → All IsNameByte rest → All IsNameByte (front ++ 47 ∷ rest)
slash front rest p q = All-append IsNameByte front (47 ∷ rest) p (All-cons IsNameByte 47 rest (lit< tt, lit< tt) q)

pub name_bytes : (name : List ℕ) → IsDiskName name → All IsNameByte name
name_bytes name (inl h) = rw (h.5)
    (slash h.0 _ (All-weaker _ IsNameByte topic_byte h.0 h.3.2) (slash (number_word h.1) _ (number_bytes h.1 h.4) (place_bytes h.2)))
name_bytes name (inr (inl e)) = rw e (name_bytes_of (codes "foreign/state-a") refl)
name_bytes name (inr (inr e)) = rw e (name_bytes_of (codes "foreign/state-b") refl)

pub name_is_ascii : (name : List ℕ) → IsDiskName name → IsAscii name
name_is_ascii name h = IsAscii-from_all name (All-weaker IsNameByte (λ b. b < 128) (λ b p. omega (arith, p.1)) name (name_bytes name h))

pub name_is_text : (name : List ℕ) → IsDiskName name → IsUtf8 name
name_is_text name h = IsUtf8-from_ascii name (name_is_ascii name h)

number_short : (n : ℕ) → n < 64 → length (number_word n) ≤ 2
number_short n lt = grind (arith, nat_tests)

place_short : (place : DiskPlace) → length (disk_word place) ≤ 7
place_short Log = omega arith
place_short LogB = omega arith
place_short StateA = omega arith
place_short StateB = omega arith

-- 249 bytes of a topic, two digits, `state-a`, and two slashes
pub name_short : (name : List ℕ) → IsDiskName name → length name ≤ 260
name_short name (inl h) =
    let all = ap length h.5 ∙ length-append h.0 (47 ∷ (number_word h.1 ++ 47 ∷ disk_word h.2)) in
    let rest = length-append (number_word h.1) (47 ∷ disk_word h.2) in
    omega (arith, all, rest, h.3.1, number_short h.1 h.4, place_short h.2)
name_short name (inr (inl e)) = omega (arith, ap length e)
name_short name (inr (inr e)) = omega (arith, ap length e)

no_slash : (topic : List ℕ) → IsTopicName topic → (i : ℕ) → i < length topic → get_or topic i 0 ≢ 47
no_slash topic h i lt e = false≢true (subst (λ (b : ℕ). is_topic_byte b ≡ true) e (h.2 i 0 lt))

number_no_slash : (n : ℕ) → n < 64 → (i : ℕ) → i < length (number_word n) → get_or (number_word n) i 0 ≢ 47
number_no_slash n few i lt e = grind (arith, nat_tests)

-- The name of a partition's disk is cut at its first two slashes.
module _ (name : List ℕ) (h : IsTextHosted name) where
  first_cut : (r : Option (Bor (List ℕ) × Bor (List ℕ))) → IsSplitOnceResult 47 name r →
      MatchOption r ⊥ (λ x. (x.0.now ≡ h.0) × (x.1.now ≡ number_word h.1 ++ 47 ∷ disk_word h.2))
  first_cut r s = split_after 47 name h.0 (number_word h.1 ++ 47 ∷ disk_word h.2) r s (lit< tt) h.5 (no_slash h.0 h.3)

  second_cut : (rest : List ℕ) (r : Option (Bor (List ℕ) × Bor (List ℕ))) → IsSplitOnceResult 47 rest r →
      rest ≡ number_word h.1 ++ 47 ∷ disk_word h.2 → MatchOption r ⊥ (λ x. (x.0.now ≡ number_word h.1) × (x.1.now ≡ disk_word h.2))
  second_cut rest r s e = split_after 47 rest (number_word h.1) (disk_word h.2) r s (lit< tt) e (number_no_slash h.1 h.4)

pub no_cut : (name : List ℕ) → IsSplitOnceResult 47 name None → IsNotHosted name
no_cut name s h = first_cut name h None s

module _ (name : List ℕ) (topic rest : Bor (List ℕ)) (cut : IsSplitOnceResult 47 name (Some (topic, rest))) where
  pub no_second_cut : IsSplitOnceResult 47 rest.now None → IsNotHosted name
  no_second_cut s h = second_cut name h rest.now None s (first_cut name h (Some (topic, rest)) cut).1

  module _ (number word : Bor (List ℕ)) (next : IsSplitOnceResult 47 rest.now (Some (number, word))) where
    same_parts : (h : IsTextHosted name) → (topic.now ≡ h.0) × (number.now ≡ number_word h.1) × (word.now ≡ disk_word h.2)
    same_parts h =
        let p = first_cut name h (Some (topic, rest)) cut in
        let q = second_cut name h rest.now (Some (number, word)) next p.1 in
        (p.0, q.0, q.1)

    pub other_number : IsNoNumberWord number.now → IsNotHosted name
    other_number none h = none h.1 h.4 (same_parts h).1

    pub other_place : IsNoDiskWord word.now → IsNotHosted name
    other_place none h = none h.2 h.6 (same_parts h).2

    -- what is cut so is the name of these parts
    parts_of : (n : ℕ) (place : DiskPlace) → number.now ≡ number_word n → word.now ≡ disk_word place → name ≡ hosted_name topic.now n place
    parts_of n place e f =
        let p = split_parts 47 name (Some (topic, rest)) cut (lit< tt) in
        let q = split_parts 47 rest.now (Some (number, word)) next (lit< tt) in
        p.0 ∙ ap (λ (l : List ℕ). topic.now ++ 47 ∷ l)
        (q.0 ∙ ap (λ (l : List ℕ). l ++ 47 ∷ word.now) e ∙ ap (λ (l : List ℕ). number_word n ++ 47 ∷ l) f)

    pub hosted_of : (n : ℕ) (place : DiskPlace) (r : Option (List ℕ)) → n < 64 → number.now ≡ number_word n → word.now ≡ disk_word place →
        IfSome r (λ x. x ≡ hosted_name topic.now n place) → (IsSome r ↔ (IsTopicName topic.now × (n < 64))) →
        MatchOption r (IsNotHosted name) (λ x. x ≡ name)
    hosted_of n place None few e f some exact = λ h. false≢true (exact.1 (subst IsTopicName (sym (same_parts h).0) h.3, few))
    hosted_of n place (Some x) few e f some exact = some ∙ sym (parts_of n place e f)

    pub named_of : (n : ℕ) (place : DiskPlace) (r : Option (List ℕ)) → n < 64 → IsTextPlace place → IfSome r (λ x. x ≡ hosted_name topic.now n place) →
        (IsSome r ↔ (IsTopicName topic.now × (n < 64))) → IfSome r IsTextHosted
    named_of n place None few is some exact = tt
    named_of n place (Some x) few is some exact = (topic.now, n, place, (exact.0 refl).0, few, some, is)
