-- The words of a share consumer are read in one way.
use Rattle.std.proofs.Common.{◌≡◌, ◌≢◌, ◌⊎◌, ◌<◌, ◌≤◌, ◌+◌, ℕ, List, [], ◌∷◌, ◌++◌, Option, Some, None, MatchOption, inl, inr, codes, length, refl, sym, ap, subst, ◌∙◌, arith}
use Rattle.std.specs.Fmt.{decimal}
use Rattle.std.proofs.lemmas.Fmt.{decimal_injective}
use Rattle.edge_io.specs.Names.{IsTopicName}
use Rattle.share_client.specs.declared.conf.ClientConf.{ClientConf}
use Rattle.share_top.specs.declared.words.address.Address.{Address}
use Rattle.share_top.specs.Words.{AreConsumeWords, GivesAddress, GivesCount, GivesName, GivesTopic, IsAddress, IsValue, address_word}
use Rattle.share_top.specs.WordReading.{IsNoNumberWithin, IsNumberWithin}
use Rattle.share_top.proofs.AddressWords.{one_address}
use Rattle.share_top.proofs.OneCommand.{first_word}

-- an option has one value
pub one_value : (option : List ℕ) (words : List (List ℕ)) (a b : List ℕ) → IsValue option words a → IsValue option words b → a ≡ b
one_value option [] a b p q = absurd p
one_value option (word ∷ []) a b p q = absurd p
one_value option (word ∷ (next ∷ words)) a b (inl p) (inl q) = p.1 ∙ sym q.1
one_value option (word ∷ (next ∷ words)) a b (inl p) (inr q) = absurd (q.0 p.0)
one_value option (word ∷ (next ∷ words)) a b (inr p) (inl q) = absurd (p.0 q.0)
one_value option (word ∷ (next ∷ words)) a b (inr p) (inr q) = one_value option words a b p.1 q.1

pub same_address : (words : List (List ℕ)) (a b : Address) → GivesAddress words a → GivesAddress words b → a ≡ b
same_address words a b p q =
    let e = one_address 0 a b p.0 q.0 (one_value (codes "--connect") words (address_word a) (address_word b) p.1 q.1) in
    λ i. record { host = e.0 i; port = e.1 i }

pub same_count : (words : List (List ℕ)) (m n : ℕ) → GivesCount words m → GivesCount words n → m ≡ n
same_count words m n p q =
    decimal_injective m n (omega (arith, p.1)) (omega (arith, q.1)) (one_value (codes "--count") words (decimal m) (decimal n) p.2 q.2)

pub one_consume : (words : List (List ℕ)) (a b : Address) (c d : ClientConf) → AreConsumeWords words a c → AreConsumeWords words b d
    → (a ≡ b) × (c ≡ d)
one_consume words a b c d p q =
    let e : q.behind ≡ p.behind = (first_word _ _ _ _ (sym q.words_are ∙ p.words_are)).1 in
    let connect = same_address p.behind a b p.connects (subst (λ (ws : List (List ℕ)). GivesAddress ws b) e q.connects) in
    let group = one_value (codes "--group") p.behind c.group d.group p.group.2 (subst (λ (ws : List (List ℕ)). IsValue (codes "--group") ws d.group) e q.group.2) in
    let member = one_value (codes "--member") p.behind c.member d.member p.member.2 (subst (λ (ws : List (List ℕ)). IsValue (codes "--member") ws d.member) e q.member.2) in
    let topic = one_value (codes "--topic") p.behind c.topic d.topic p.topic.1 (subst (λ (ws : List (List ℕ)). IsValue (codes "--topic") ws d.topic) e q.topic.1) in
    let count = same_count p.behind c.count d.count p.count (subst (λ (ws : List (List ℕ)). GivesCount ws d.count) e q.count) in
    (connect, λ i. record { group = group i; member = member i; topic = topic i; count = count i })

-- the topic is the value of its option
pub one_topic : (words : List (List ℕ)) (value name : List ℕ) → IsValue (codes "--topic") words value → GivesTopic words name → IsTopicName value
one_topic words value name is gives = subst IsTopicName (one_value (codes "--topic") words name value gives.1 is) gives.0

-- a name is as long as the value of its option
pub short_value : (option : List ℕ) (words : List (List ℕ)) (value name : List ℕ) → IsValue option words value → GivesName option words name
    → (1 ≤ length value) × (length value ≤ 255)
short_value option words value name is gives =
    let same = one_value option words name value gives.2 is in
    (subst (λ (v : List ℕ). 1 ≤ length v) same gives.0, subst (λ (v : List ℕ). length v ≤ 255) same gives.1)

-- ---- reading

-- the first two words aren't the option and its value
module _ (option text value : List ℕ) (words rest : List (List ℕ)) (e : words ≡ text ∷ (value ∷ rest)) where
  pub here_value : text ≡ option → IsValue option words value
  here_value same = subst (λ (ws : List (List ℕ)). IsValue option ws value) (sym e) (inl (same, refl))

  pub later_value : text ≢ option → (other : List ℕ) → IsValue option rest other → IsValue option words other
  later_value differs other is = subst (λ (ws : List (List ℕ)). IsValue option ws other) (sym e) (inr (differs, is))

  pub no_value : text ≢ option → (other : List ℕ) → IsValue option words other → IsValue option rest other
  no_value differs other is = go (subst (λ (ws : List (List ℕ)). IsValue option ws other) e is) where
    go : IsValue option (text ∷ (value ∷ rest)) other → IsValue option rest other
    go (inl d) = absurd (differs d.0)
    go (inr d) = d.1

pub value_on : {X : Type 0} (now : X → List ℕ) (option text value : List ℕ) (words rest : List (List ℕ)) → words ≡ text ∷ (value ∷ rest) → text ≢ option
    → (found : Option X) → MatchOption found ((v : List ℕ) → IsValue option rest v → ⊥) (λ v. IsValue option rest (now v))
    → MatchOption found ((v : List ℕ) → IsValue option words v → ⊥) (λ v. IsValue option words (now v))
value_on now option text value words rest e differs None none = λ v is. none v (no_value option text value words rest e differs v is)
value_on now option text value words rest e differs (Some v) is = later_value option text value words rest e differs (now v) is

module _ (words : List (List ℕ)) (value : List ℕ) where
  pub address_on : IsValue (codes "--connect") words value → (found : Option Address)
      → MatchOption found ((a : Address) → IsAddress 0 a → value ≡ address_word a → ⊥) (λ a. IsAddress 0 a × (value ≡ address_word a))
      → MatchOption found ((a : Address) → GivesAddress words a → ⊥) (GivesAddress words)
  address_on is None none = λ a g. none a g.0 (one_value (codes "--connect") words value (address_word a) is g.1)
  address_on is (Some a) h = (h.0, subst (IsValue (codes "--connect") words) h.1 is)

  pub count_on : IsValue (codes "--count") words value → (found : Option ℕ)
      → MatchOption found (IsNoNumberWithin 1 4294967295 value) (IsNumberWithin 1 4294967295 value)
      → MatchOption found ((n : ℕ) → GivesCount words n → ⊥) (GivesCount words)
  count_on is None none = λ n g. none n (g.0, (g.1, one_value (codes "--count") words value (decimal n) is g.2))
  count_on is (Some n) h = (h.0, h.1.0, subst (IsValue (codes "--count") words) h.1.1 is)
