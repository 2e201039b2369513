-- No two disks of a broker have one name, and how its partitions are listed.
use Rattle.std.proofs.Common.{◌≡◌, ◌≢◌, ◌<◌, ◌≤◌, ◌+◌, ◌-◌, ◌/◌, ◌%◌, inl, inr, refl, sym, ap, ◌∙◌, subst, arith, ℕ, zero, suc, List, [], ◌∷◌, ◌++◌, length, length-append, append_assoc, append-nil, Bool, true, false, cond, nat_lt, codes, All, AllPairs}
use Rattle.std.proofs.lemmas.Bool.Decides.{nat_tests}
use Rattle.std.proofs.lemmas.List.Elements.{recursion_from_All}
use Rattle.std.specs.List.{AllByRecursion}
use Rattle.edge_io.specs.Names.{IsDiskName, IsTopicName, disk_word, hosted_name, is_topic_byte, most_partitions, number_word}
use Rattle.edge_io.specs.declared.name.DiskPlace.{DiskPlace}
use Rattle.edge_io.specs.declared.name.DiskPlace.TheVariants.{Log, StateA, StateB}
use Rattle.share_part.specs.Hosting.{PartConfParts}
use Rattle.topic_conf.specs.Configs.{ConfigParts}
use Rattle.topic_conf.specs.declared.topic.Topic.{Topic}
use Rattle.topic_conf.specs.Topics.{AreApart as ApartTopics, IsTopic, IsTopicList, partitions}
use Rattle.topic_conf.proofs.Lists.{all_front, all_others, pairs_front, pairs_others, partitions_cons}
use Rattle.broker_model.specs.Hosted.{Hosted, IsOneOf, disks_of, hosted_from, hosted_in, hosted_of, part_conf, part_disks, same_name, state_a, state_b}
use Rattle.broker_hosts.specs.Hosts.{AreDistinct, AreNamed, IsNamed, NotIn, all_names, HostsParts, IsWhole, hosted_slots}
use Rattle.broker_hosts.specs.declared.slot.PartSlot.{PartSlot}
use Rattle.broker_hosts.proofs.Places.{same_self}

-- ---- texts without a slash

abbrev NoSlash : List ℕ → Type 0
NoSlash text = AllByRecursion (λ b. b ≢ 47) text

topic_byte : (b : ℕ) → is_topic_byte b ≡ true → b ≢ 47
topic_byte b is e = let bad : is_topic_byte 47 ≡ true = subst (λ (n : ℕ). is_topic_byte n ≡ true) e is in cc

no_slash : (text : List ℕ) → AllByRecursion (λ b. is_topic_byte b ≡ true) text → NoSlash text
no_slash [] all = tt
no_slash (b ∷ text) all = (topic_byte b all.0, no_slash text all.1)

topic_no_slash : (name : List ℕ) → IsTopicName name → NoSlash name
topic_no_slash name is = no_slash name (recursion_from_All (λ b. is_topic_byte b ≡ true) name is.2)

-- what stands before the first slash, and behind it
front_same : (t u x y : List ℕ) → NoSlash t → NoSlash u → t ++ 47 ∷ x ≡ u ++ 47 ∷ y → (t ≡ u) × (x ≡ y)
front_same [] [] x y p q e = (refl, cc)
front_same [] (b ∷ u) x y p q e = absurd (q.0 (let h : b ≡ 47 = cc in h))
front_same (a ∷ t) [] x y p q e = absurd (p.0 (let h : a ≡ 47 = cc in h))
front_same (a ∷ t) (b ∷ u) x y p q e =
    let h : a ≡ b = cc in
    let rest : t ++ 47 ∷ x ≡ u ++ 47 ∷ y = cc in
    let r = front_same t u x y p.1 q.1 rest in
    (λ i. h i ∷ r.0 i, r.1)

-- ---- numbers

digits : (b : Bool) → ℕ → List ℕ
digits true n = (48 + n) ∷ []
digits false n = (48 + n / 10) ∷ (48 + n % 10) ∷ []

word_is : (n : ℕ) → number_word n ≡ digits (nat_lt n 10) n
unfolding digits
word_is n = go (nat_lt n 10) where
  go : (b : Bool) → cond b ((48 + n) ∷ []) ((48 + n / 10) ∷ (48 + n % 10) ∷ []) ≡ digits b n
  go true = refl
  go false = refl

one_digit : (n : ℕ) → 48 + n ≢ 47
one_digit n e = omega (arith, e)

digits_no_slash : (b : Bool) (n : ℕ) → NoSlash (digits b n)
unfolding digits
digits_no_slash true n = (one_digit n, tt)
digits_no_slash false n = (one_digit (n / 10), (one_digit (n % 10), tt))

word_no_slash : (n : ℕ) → NoSlash (number_word n)
word_no_slash n = subst NoSlash (sym (word_is n)) (digits_no_slash (nat_lt n 10) n)

below : (n : ℕ) → nat_lt n 10 ≡ true → n < 10
below n is = grind (arith, nat_tests)

above : (n : ℕ) → nat_lt n 10 ≡ false → 10 ≤ n
above n is = grind (arith, nat_tests)

two_digits : (m n : ℕ) → 48 + m / 10 ≡ 48 + n / 10 → 48 + m % 10 ≡ 48 + n % 10 → m ≡ n
two_digits m n e f = omega (arith, e, f)

digits_same : (b c : Bool) (m n : ℕ) → digits b m ≡ digits c n → m ≡ n
unfolding digits
digits_same true true m n e = let h : 48 + m ≡ 48 + n = cc in omega (arith, h)
digits_same true false m n e = absurd (let h : [] ≡ (48 + n % 10) ∷ [] = cc in let bad : ⊥ = cc in bad)
digits_same false true m n e = absurd (let h : (48 + m % 10) ∷ [] ≡ [] = cc in let bad : ⊥ = cc in bad)
digits_same false false m n e =
    let h : 48 + m / 10 ≡ 48 + n / 10 = cc in
    let t : 48 + m % 10 ≡ 48 + n % 10 = cc in
    two_digits m n h t

word_same : (m n : ℕ) → number_word m ≡ number_word n → m ≡ n
word_same m n e = digits_same (nat_lt m 10) (nat_lt n 10) m n (sym (word_is m) ∙ e ∙ word_is n)

-- ---- names of hosted disks

differ : (a b : List ℕ) → same_name a b ≡ false → a ≢ b
differ a b away e = let bad : true ≡ false = sym (subst (λ (c : List ℕ). same_name a c ≡ true) e (same_self a)) ∙ away in cc

pub words_differ : (disk_word Log ≢ disk_word StateA) × (disk_word Log ≢ disk_word StateB) × (disk_word StateA ≢ disk_word StateB)
words_differ = (
  differ (disk_word Log) (disk_word StateA) refl,
  differ (disk_word Log) (disk_word StateB) refl,
  differ (disk_word StateA) (disk_word StateB) refl,
)

record IsSameName (t u : List ℕ) (m n : ℕ) (p q : DiskPlace) : Type 0 where
  topic : t ≡ u
  number : m ≡ n
  word : disk_word p ≡ disk_word q

name_same : (t u : List ℕ) (m n : ℕ) (p q : DiskPlace) → NoSlash t → NoSlash u → hosted_name t m p ≡ hosted_name u n q → IsSameName t u m n p q
name_same t u m n p q one other e =
    let r = front_same t u (number_word m ++ (47 ∷ disk_word p)) (number_word n ++ (47 ∷ disk_word q)) one other e in
    let s = front_same (number_word m) (number_word n) (disk_word p) (disk_word q) (word_no_slash m) (word_no_slash n) r.1 in
    record { topic = r.0; number = word_same m n s.0; word = s.1 }

starts_s : (b : Bool) (n : ℕ) (x y : List ℕ) → n < most_partitions → digits b n ++ x ≡ 115 ∷ y → (b ≡ true → n < 10) → ⊥
unfolding digits
starts_s true n x y few e small = let h : 48 + n ≡ 115 = cc in let lt = small refl in omega (arith, h, lt)
starts_s false n x y few e small = let h : 48 + n / 10 ≡ 115 = cc in omega (arith, h, few)

foreign_no_slash : NoSlash (codes "foreign")
foreign_no_slash = no_slash (codes "foreign") (refl, (refl, (refl, (refl, (refl, (refl, (refl, tt)))))))

no_state : (t x : List ℕ) (n : ℕ) (p : DiskPlace) → NoSlash t → n < most_partitions → hosted_name t n p ≢ codes "foreign" ++ 47 ∷ 115 ∷ x
no_state t x n p bare few e =
    let r = front_same t (codes "foreign") (number_word n ++ (47 ∷ disk_word p)) (115 ∷ x) bare foreign_no_slash e in
    starts_s (nat_lt n 10) n (47 ∷ disk_word p) x few (ap (λ (w : List ℕ). w ++ (47 ∷ disk_word p)) (sym (word_is n)) ∙ r.1) (below n)

pub states_apart : state_a ≢ state_b
states_apart = differ state_a state_b refl

-- the disks of a partition have three names
pub parts_apart : (h : Hosted) → IsNamed h → AreDistinct (disks_of h)
parts_apart h is = ((λ e. words_differ.0 (same Log StateA e), (λ e. words_differ.1 (same Log StateB e), tt)), ((λ e. words_differ.2 (same StateA StateB e), tt), (tt, tt)))
  where
    same : (p q : DiskPlace) → hosted_name h.topic h.conf.part p ≡ hosted_name h.topic h.conf.part q → disk_word p ≡ disk_word q
    same p q e = (name_same h.topic h.topic h.conf.part h.conf.part p q (topic_no_slash h.topic is.topic) (topic_no_slash h.topic is.topic) e).word

-- ---- partitions

-- not one partition of one topic
abbrev IsApart : Hosted → Hosted → Type 0
IsApart h k = h.topic ≡ k.topic → h.conf.part ≡ k.conf.part → ⊥

abbrev AllApart : List Hosted → Type 0
AllApart [] = Unit {0}
AllApart (h ∷ hosted) = AllByRecursion (IsApart h) hosted × AllApart hosted

-- a disk of a partition is none of another one, and none of foreign state
not_in_parts : (h : Hosted) (p : DiskPlace) (hosted : List Hosted) → IsNamed h → AreNamed hosted → AllByRecursion (IsApart h) hosted
    → NotIn (all_names hosted) (hosted_name h.topic h.conf.part p)
not_in_parts h p [] is each apart =
    (no_state h.topic (codes "tate-a") h.conf.part p bare is.part, (no_state h.topic (codes "tate-b") h.conf.part p bare is.part, tt))
  where
    bare : NoSlash h.topic
    bare = topic_no_slash h.topic is.topic
not_in_parts h p (k ∷ hosted) is each apart = (other Log, (other StateA, (other StateB, not_in_parts h p hosted is each.1 apart.1))) where
  other : (q : DiskPlace) → hosted_name h.topic h.conf.part p ≢ hosted_name k.topic k.conf.part q
  other q e =
      let s = name_same h.topic k.topic h.conf.part k.conf.part p q (topic_no_slash h.topic is.topic) (topic_no_slash k.topic each.0.topic) e in
      apart.0 s.topic s.number

distinct_all : (hosted : List Hosted) → AreNamed hosted → AllApart hosted → AreDistinct (all_names hosted)
distinct_all [] each apart = ((states_apart, tt), (tt, tt))
distinct_all (h ∷ hosted) each apart =
    let own = parts_apart h each.0 in
    let rest : (p : DiskPlace) → NotIn (all_names hosted) (hosted_name h.topic h.conf.part p) = λ p. not_in_parts h p hosted each.0 each.1 apart.0 in
    ((own.0.0, (own.0.1.0, rest Log)), ((own.1.0.0, rest StateA), (rest StateB, distinct_all hosted each.1 apart.1)))

-- ---- those of a configuration

all_append : {A : Type 0} (P : A → Type 0) (xs ys : List A) → AllByRecursion P xs → AllByRecursion P ys → AllByRecursion P (xs ++ ys)
all_append P [] ys p q = q
all_append P (x ∷ xs) ys p q = (p.0, all_append P xs ys p.1 q)

apart_append : (xs ys : List Hosted) → AllApart xs → AllApart ys → AllByRecursion (λ x. AllByRecursion (IsApart x) ys) xs → AllApart (xs ++ ys)
apart_append [] ys p q both = q
apart_append (x ∷ xs) ys p q both = (all_append (IsApart x) xs ys p.0 both.0, apart_append xs ys p.1 q both.1)

abbrev one_at : ConfigParts → Topic → ℕ → Hosted
one_at conf t part = record { topic = t.name; conf = part_conf conf t part }

named_from : (conf : ConfigParts) (t : Topic) (part more : ℕ) → IsTopicName t.name → part + more ≤ most_partitions → AreNamed (hosted_from conf t part more)
named_from conf t part zero is few = tt
named_from conf t part (suc more) is few =
    (record { topic = is; part = omega (arith, few) }, named_from conf t (suc part) more is (omega (arith, few)))

named_in : (conf : ConfigParts) (topics : List Topic) → All IsTopic topics → partitions topics ≤ most_partitions → AreNamed (hosted_in conf topics)
named_in conf [] each few = tt
named_in conf (t ∷ topics) each few =
    let is = all_front IsTopic t topics each in
    let sum = partitions_cons t topics in
    all_append IsNamed (hosted_from conf t 0 t.parts) (hosted_in conf topics)
    (named_from conf t 0 t.parts is.name (omega (arith, few, sum)))
    (named_in conf topics (all_others IsTopic t topics each) (omega (arith, few, sum)))

pub named_of : (conf : ConfigParts) → IsTopicList conf.topics → AreNamed (hosted_of conf)
named_of conf list = named_in conf conf.topics list.each list.few

later_apart : (conf : ConfigParts) (t : Topic) (m part more : ℕ) → m < part → AllByRecursion (IsApart (one_at conf t m)) (hosted_from conf t part more)
later_apart conf t m part zero lt = tt
later_apart conf t m part (suc more) lt = (λ e f. (let n : m ≡ part = f in omega (arith, n, lt)), later_apart conf t m (suc part) more (omega (arith, lt)))

from_apart : (conf : ConfigParts) (t : Topic) (part more : ℕ) → AllApart (hosted_from conf t part more)
from_apart conf t part zero = tt
from_apart conf t part (suc more) = (later_apart conf t part (suc part) more (omega arith), from_apart conf t (suc part) more)

other_from : (conf : ConfigParts) (h : Hosted) (u : Topic) (part more : ℕ) → h.topic ≢ u.name → AllByRecursion (IsApart h) (hosted_from conf u part more)
other_from conf h u part zero ne = tt
other_from conf h u part (suc more) ne = (λ e f. ne e, other_from conf h u (suc part) more ne)

other_in : (conf : ConfigParts) (h : Hosted) (topics : List Topic) → AllByRecursion (λ (u : Topic). h.topic ≢ u.name) topics
    → AllByRecursion (IsApart h) (hosted_in conf topics)
other_in conf h [] apart = tt
other_in conf h (u ∷ topics) apart =
    all_append (IsApart h) (hosted_from conf u 0 u.parts) (hosted_in conf topics) (other_from conf h u 0 u.parts apart.0) (other_in conf h topics apart.1)

each_other : (conf : ConfigParts) (t : Topic) (part more : ℕ) (topics : List Topic) → AllByRecursion (λ (u : Topic). t.name ≢ u.name) topics
    → AllByRecursion (λ x. AllByRecursion (IsApart x) (hosted_in conf topics)) (hosted_from conf t part more)
each_other conf t part zero topics apart = tt
each_other conf t part (suc more) topics apart = (other_in conf (one_at conf t part) topics apart, each_other conf t (suc part) more topics apart)

in_apart : (conf : ConfigParts) (topics : List Topic) → AllPairs ApartTopics topics → AllApart (hosted_in conf topics)
in_apart conf [] apart = tt
in_apart conf (t ∷ topics) apart =
    let front = pairs_front ApartTopics t topics apart in
    apart_append (hosted_from conf t 0 t.parts) (hosted_in conf topics) (from_apart conf t 0 t.parts)
    (in_apart conf topics (pairs_others ApartTopics t topics apart))
    (each_other conf t 0 t.parts topics (names_apart topics (recursion_from_All (ApartTopics t) topics front)))
  where
    names_apart : (us : List Topic) → AllByRecursion (ApartTopics t) us → AllByRecursion (λ (u : Topic). t.name ≢ u.name) us
    names_apart [] all = tt
    names_apart (u ∷ us) all = (all.0.names, names_apart us all.1)

pub distinct_names : (conf : ConfigParts) → IsTopicList conf.topics → AreDistinct (all_names (hosted_of conf))
distinct_names conf list = distinct_all (hosted_of conf) (named_of conf list) (in_apart conf conf.topics list.apart)

-- their names are names of disks
pub are_disk_names : (hosted : List Hosted) → AreNamed hosted → (name : List ℕ) → IsOneOf (part_disks hosted) name → IsDiskName name
are_disk_names [] each name one = absurd one
are_disk_names (h ∷ hosted) each name (inl e) = inl (h.topic, h.conf.part, Log, each.0.topic, each.0.part, e)
are_disk_names (h ∷ hosted) each name (inr (inl e)) = inl (h.topic, h.conf.part, StateA, each.0.topic, each.0.part, e)
are_disk_names (h ∷ hosted) each name (inr (inr (inl e))) = inl (h.topic, h.conf.part, StateB, each.0.topic, each.0.part, e)
are_disk_names (h ∷ hosted) each name (inr (inr (inr one))) = are_disk_names hosted each.1 name one

-- ---- lists of names

pub not_in_both : (xs ys : List (List ℕ)) (name : List ℕ) → NotIn xs name → NotIn ys name → NotIn (xs ++ ys) name
not_in_both [] ys name p q = q
not_in_both (x ∷ xs) ys name p q = (p.0, not_in_both xs ys name p.1 q)

-- ---- how partitions are listed

pub hosted_next : (conf : ConfigParts) (t : Topic) (part n : ℕ) → part < n
    → hosted_from conf t part (n - part) ≡ one_at conf t part ∷ hosted_from conf t (part + 1) (n - (part + 1))
hosted_next conf t part n lt =
    let e : n - part ≡ suc (n - (part + 1)) = omega (arith, lt) in
    let f : suc part ≡ part + 1 = omega arith in
    ap (hosted_from conf t part) e ∙ ap (λ (k : ℕ). one_at conf t part ∷ hosted_from conf t k (n - (part + 1))) f

-- one partition more is listed
pub hosted_on : (conf : ConfigParts) (t : Topic) (part n : ℕ) (items all next : List Hosted) (k : PartConfParts) → part < n → k ≡ part_conf conf t part
    → next ≡ items ++ record { topic = t.name; conf = k } ∷ [] → items ++ hosted_from conf t part (n - part) ≡ all → next ++ hosted_from conf t (part + 1) (n - (part + 1)) ≡ all
hosted_on conf t part n items all next k lt is pushed so_far =
    ap (λ (l : List Hosted). l ++ hosted_from conf t (part + 1) (n - (part + 1)))
    (pushed ∙ ap (λ (c : PartConfParts). items ++ record { topic = t.name; conf = c } ∷ []) is)
    ∙ append_assoc items (one_at conf t part ∷ []) (hosted_from conf t (part + 1) (n - (part + 1)))
    ∙ ap (λ (l : List Hosted). items ++ l) (sym (hosted_next conf t part n lt))
    ∙ so_far

pub hosted_end : (conf : ConfigParts) (t : Topic) (part n : ℕ) (items all : List Hosted) → (part < n → ⊥)
    → items ++ hosted_from conf t part (n - part) ≡ all → items ≡ all
hosted_end conf t part n items all not so_far =
    let e : n - part ≡ 0 = omega (arith, not) in
    sym (append-nil items) ∙ ap (λ (k : ℕ). items ++ hosted_from conf t part k) (sym e) ∙ so_far

-- ---- how many partitions there are

-- as many as the topics have together
from_many : (conf : ConfigParts) (topic : Topic) (part more : ℕ) → length (hosted_from conf topic part more) ≡ more
from_many conf topic part zero = refl
from_many conf topic part (suc more) = ap suc (from_many conf topic (suc part) more)

pub hosted_many : (conf : ConfigParts) (topics : List Topic) → length (hosted_in conf topics) ≡ partitions topics
hosted_many conf [] = refl
hosted_many conf (topic ∷ topics) =
    length-append (hosted_from conf topic 0 topic.parts) (hosted_in conf topics)
    ∙ (λ i. from_many conf topic 0 topic.parts i + hosted_many conf topics i)
    ∙ sym (partitions_cons topic topics)

slots_many : {D : Type 0} (slots : List (PartSlot D)) → length slots ≡ length (hosted_slots slots)
slots_many [] = refl
slots_many (s ∷ slots) = ap suc (slots_many slots)

pub parts_many : {D : Type 0} (conf : ConfigParts) (hosts : HostsParts D) → IsWhole conf hosts → length hosts.parts ≡ partitions conf.topics
parts_many conf hosts whole = slots_many hosts.parts ∙ ap length whole.hosts ∙ hosted_many conf conf.topics
