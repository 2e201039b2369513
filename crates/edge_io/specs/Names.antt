-- The names of disks: `TOPIC/N/log`, `TOPIC/N/log-b`, `TOPIC/N/state-a` and `TOPIC/N/state-b` for the partitions that a
-- broker hosts, and `foreign/state-a` and `foreign/state-b` for the states of those that it doesn't. They are also the
-- paths of their files. What a topic may be named is Kafka's rule; the names of disks and the limit of 64 partitions are
-- this project's own. Worked example: `orders/0/state-a`; `..` is no topic's name, no topic has a partition 64, and no
-- text is read as `orders/0/log-b`.
use Rattle.std.specs.Prelude.{◌≡◌, ◌≢◌, ◌⊎◌, ◌<◌, ◌≤◌, ◌+◌, ◌/◌, ◌%◌, ◌==◌, ◌&&◌, ◌||◌, nat_le, nat_lt}
use Rattle.std.specs.Prelude.{if◌then◌else◌, ℕ, Bool, true, List, [], ⊤, ◌∷◌, ◌++◌, length, All, codes}
use Rattle.edge_io.specs.declared.name.DiskPlace.{DiskPlace}
use Rattle.edge_io.specs.declared.name.DiskPlace.TheVariants.{Log, LogB, StateA, StateB}

-- a letter, a digit, '.', '_' or '-', in ASCII
abbrev pub is_topic_byte : ℕ → Bool
is_topic_byte b = (nat_le 48 b && nat_le b 57) || (nat_le 65 b && nat_le b 90) || (nat_le 97 b && nat_le b 122) || (b == 46) || (b == 95) || (b == 45)

-- the name of a topic: 1 to 249 such bytes, and neither '.' nor '..'
abbrev pub IsTopicName : List ℕ → Type 0
IsTopicName name = (0 < length name) × (length name ≤ 249) × All (λ b. is_topic_byte b ≡ true) name × (name ≢ codes ".") × (name ≢ codes "..")

-- the greatest number of partitions that a broker hosts, and so of one topic
abbrev pub most_partitions : ℕ
most_partitions = 64

-- a number below 100 in decimal digits
abbrev pub number_word : ℕ → List ℕ
number_word n = if nat_lt n 10 then (48 + n) ∷ [] else (48 + n / 10) ∷ (48 + n % 10) ∷ []

-- no number of a partition is written so
abbrev pub IsNoNumberWord : List ℕ → Type 0
IsNoNumberWord word = (n : ℕ) → n < most_partitions → word ≢ number_word n

abbrev pub disk_word : DiskPlace → List ℕ
disk_word Log = codes "log"
disk_word LogB = codes "log-b"
disk_word StateA = codes "state-a"
disk_word StateB = codes "state-b"

-- a text may name the disk of this place: it names each but a log's second one
abbrev pub IsTextPlace : DiskPlace → Type 0
IsTextPlace LogB = ⊥
IsTextPlace Log = ⊤
IsTextPlace StateA = ⊤
IsTextPlace StateB = ⊤

abbrev pub IsNoDiskWord : List ℕ → Type 0
IsNoDiskWord word = (place : DiskPlace) → IsTextPlace place → word ≢ disk_word place

abbrev pub hosted_name : List ℕ → ℕ → DiskPlace → List ℕ
hosted_name topic number place = topic ++ (codes "/" ++ (number_word number ++ (codes "/" ++ disk_word place)))

-- the name of a disk of a partition that a broker hosts
abbrev pub IsHostedName : List ℕ → Type 0
IsHostedName name = (topic : List ℕ) × (number : ℕ) × (place : DiskPlace) ×
    IsTopicName topic × (number < most_partitions) × (name ≡ hosted_name topic number place)

-- such a name that a text is read as
abbrev pub IsTextHosted : List ℕ → Type 0
IsTextHosted name = (topic : List ℕ) × (number : ℕ) × (place : DiskPlace) ×
    IsTopicName topic × (number < most_partitions) × (name ≡ hosted_name topic number place) × IsTextPlace place

abbrev pub IsNotHosted : List ℕ → Type 0
IsNotHosted name = IsTextHosted name → ⊥

-- one of these names
abbrev pub IsDiskName : List ℕ → Type 0
IsDiskName name = IsHostedName name
    ⊎ ((name ≡ codes "foreign/state-a") ⊎ (name ≡ codes "foreign/state-b"))

-- one of these names that a text is read as
abbrev pub IsTextName : List ℕ → Type 0
IsTextName name = IsTextHosted name
    ⊎ ((name ≡ codes "foreign/state-a") ⊎ (name ≡ codes "foreign/state-b"))
