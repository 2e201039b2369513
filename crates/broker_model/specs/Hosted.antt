-- The hosted partitions of a broker, the disks of a broker by their names, and lists of which one entry changes. This project's own.
-- For example a broker of two partitions of `orders` takes `orders/0/log`, `orders/0/state-a`, `orders/0/state-b`, the same of
-- `orders/1`, `foreign/state-a` and `foreign/state-b`, in this order, and a batch for shard 1 changes the second partition alone.
use Rattle.std.specs.Prelude.{◌≡◌, ◌⊎◌, ◌+◌, ◌&&◌, ◌||◌, ℕ, zero, suc, List, [], ◌∷◌, ◌++◌, Bool, false, nat_eq, codes, Contains}
use Rattle.std.specs.List.{flat_map}
use Rattle.std.specs.Cmp.Lexicographic.{pointwise}
use Rattle.edge_io.specs.Names.{hosted_name}
use Rattle.edge_io.specs.declared.name.DiskPlace.TheVariants.{Log, StateA, StateB}
use Rattle.topic_conf.specs.declared.topic.Topic.{Topic}
use Rattle.topic_conf.specs.Configs.{ConfigParts}
use Rattle.share_part.specs.Hosting.{PartConfParts}

-- ---- hosted partitions

-- its topic's name, and what its shard is configured with
pub record Hosted : Type 0 where
  pub topic : List ℕ
  pub conf : PartConfParts

-- what the shard of a topic's partition is configured with
abbrev pub part_conf : ConfigParts → Topic → ℕ → PartConfParts
part_conf conf topic part = record { topic = topic.id; part = part; reset = conf.reset; lock_ms = conf.lock_ms; limit = conf.limit }

-- so many partitions of a topic, from this one on
abbrev pub hosted_from : ConfigParts → Topic → ℕ → ℕ → List Hosted
hosted_from conf topic part zero = []
hosted_from conf topic part (suc more) = record { topic = topic.name; conf = part_conf conf topic part } ∷ hosted_from conf topic (suc part) more

-- those of these topics, in the order of their shards: topic by topic and partition by partition
abbrev pub hosted_in : ConfigParts → List Topic → List Hosted
hosted_in conf [] = []
hosted_in conf (topic ∷ topics) = hosted_from conf topic 0 topic.parts ++ hosted_in conf topics

abbrev pub hosted_of : ConfigParts → List Hosted
hosted_of conf = hosted_in conf conf.topics

-- ---- names of disks

abbrev pub log_of : Hosted → List ℕ
log_of h = hosted_name h.topic h.conf.part Log

abbrev pub first_of : Hosted → List ℕ
first_of h = hosted_name h.topic h.conf.part StateA

abbrev pub second_of : Hosted → List ℕ
second_of h = hosted_name h.topic h.conf.part StateB

-- the three disks of a partition: that of its log, and the two of its states
abbrev pub disks_of : Hosted → List (List ℕ)
disks_of h = log_of h ∷ first_of h ∷ second_of h ∷ []

abbrev pub part_disks : List Hosted → List (List ℕ)
part_disks hosted = flat_map disks_of hosted

abbrev pub state_a : List ℕ
state_a = codes "foreign/state-a"

abbrev pub state_b : List ℕ
state_b = codes "foreign/state-b"

abbrev pub same_name : List ℕ → List ℕ → Bool
same_name a b = pointwise nat_eq a b

abbrev pub IsOneOf : List (List ℕ) → List ℕ → Type 0
IsOneOf [] name = ⊥
IsOneOf (n ∷ names) name = (name ≡ n) ⊎ IsOneOf names name

-- the broker takes the disk of this name
abbrev pub IsTaken : ConfigParts → List ℕ → Type 0
IsTaken conf name = IsOneOf (part_disks (hosted_of conf)) name ⊎ ((name ≡ state_a) ⊎ (name ≡ state_b))

-- the disk of this name has the log of a partition
abbrev pub IsLogName : List ℕ → Type 0
IsLogName name = (topic : List ℕ) × (number : ℕ) × (name ≡ hosted_name topic number Log)

-- ---- stores

-- a store by the names of its disks: a log has one, and states have two
pub data StoreDisks : Type 0 where
  OnOne : (disk : List ℕ) → StoreDisks
  OnTwo : (first second : List ℕ) → StoreDisks

abbrev pub log_store : Hosted → StoreDisks
log_store h = OnOne (log_of h)

abbrev pub state_store : Hosted → StoreDisks
state_store h = OnTwo (first_of h) (second_of h)

abbrev pub foreign_store : StoreDisks
foreign_store = OnTwo state_a state_b

-- it is one of the broker's
abbrev pub IsStore : ConfigParts → StoreDisks → Type 0
IsStore conf store = ((h : Hosted) × Contains (hosted_of conf) h × ((store ≡ log_store h) ⊎ (store ≡ state_store h)))
    ⊎ (store ≡ foreign_store)

abbrev pub same_store : StoreDisks → StoreDisks → Bool
same_store (OnOne a) (OnOne b) = same_name a b
same_store (OnTwo a b) (OnTwo c d) = same_name a c && same_name b d
same_store (OnOne a) (OnTwo c d) = false
same_store (OnTwo a b) (OnOne c) = false

-- one of its disks has this name
abbrev pub has_disk : StoreDisks → List ℕ → Bool
has_disk (OnOne disk) name = same_name name disk
has_disk (OnTwo first second) name = same_name name first || same_name name second

-- what is counted of its disks in all
abbrev pub sum_on : (List ℕ → ℕ) → StoreDisks → ℕ
sum_on count (OnOne disk) = count disk
sum_on count (OnTwo first second) = count first + count second

-- ---- lists

-- the entry with this number, counted from 0, goes by `Goes` from the one list to the other, and each other entry stays
abbrev pub ChangesAt : {A : Type 0} → ℕ → (A → A → Type 0) → List A → List A → Type 0
ChangesAt n Goes [] new = ⊥
ChangesAt n Goes (x ∷ xs) [] = ⊥
ChangesAt zero Goes (x ∷ xs) (y ∷ ys) = Goes x y × (ys ≡ xs)
ChangesAt (suc n) Goes (x ∷ xs) (y ∷ ys) = (y ≡ x) × ChangesAt n Goes xs ys

-- this holds of the entry with this number
abbrev pub HoldsAt : {A : Type 0} → ℕ → (A → Type 0) → List A → Type 0
HoldsAt n Holds [] = ⊥
HoldsAt zero Holds (x ∷ xs) = Holds x
HoldsAt (suc n) Holds (x ∷ xs) = HoldsAt n Holds xs
