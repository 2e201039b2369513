-- What the front topic adds to what is said of the others.
use Rattle.std.proofs.Common.{◌≡◌, ◌⊎◌, ◌≤◌, ◌<◌, ◌+◌, ◌-◌, inl, inr, refl, ℕ, zero, suc, List, [], ◌∷◌, All, AllPairs, length, arith}
use Rattle.std.proofs.lemmas.Grind.{common_steps}
use Rattle.edge_io.specs.Names.{IsDiskName, hosted_name}
use Rattle.edge_io.specs.declared.name.DiskPlace.{DiskPlace}
use Rattle.topic_conf.specs.declared.topic.Topic.{Topic}
use Rattle.edge_io.specs.Names.{most_partitions}
use Rattle.topic_conf.specs.Topics.{partitions, IsTopicList}

-- each has a partition, and together they have no more than there is room for
abbrev pub FitInto : ℕ → List Topic → Type 0
FitInto room topics = All (λ topic. 1 ≤ topic.parts) topics × (partitions topics ≤ room)

pub partitions_cons : (topic : Topic) (topics : List Topic) → partitions (topic ∷ topics) ≡ topic.parts + partitions topics
partitions_cons topic topics = grind (arith, common_steps)

pub all_front : {X : Type 0} (P : X → Type 0) (x : X) (xs : List X) → All P (x ∷ xs) → P x
all_front P x xs all = all 0 x (omega arith)

pub all_others : {X : Type 0} (P : X → Type 0) (x : X) (xs : List X) → All P (x ∷ xs) → All P xs
all_others P x xs all = λ k d lt. all (suc k) d (omega arith)

pub all_cons : {X : Type 0} (P : X → Type 0) (x : X) (xs : List X) → P x → All P xs → All P (x ∷ xs)
all_cons P x xs here there zero d lt = here
all_cons P x xs here there (suc k) d lt = there k d (omega arith)

pub fit_down : (room : ℕ) (topic : Topic) (topics : List Topic) → FitInto room (topic ∷ topics) → (1 ≤ topic.parts) × (topic.parts ≤ room) × FitInto (room - topic.parts) topics
fit_down room topic topics fit = (
  all_front (λ (topic : Topic). 1 ≤ topic.parts) topic topics fit.0,
  omega (arith, fit.1, partitions_cons topic topics),
  (all_others (λ (topic : Topic). 1 ≤ topic.parts) topic topics fit.0, omega (arith, fit.1, partitions_cons topic topics)),
)

-- where the front topic doesn't fit, neither do all
pub fit_not : (room : ℕ) (topic : Topic) (topics rest : List Topic) → rest ≡ topic ∷ topics → (topic.parts ≡ 0) ⊎ (room < topic.parts) → FitInto room rest → ⊥
fit_not room topic topics rest split (inl none) fit = omega (arith, none, (fit_down room topic topics (rw split at fit)).0)
fit_not room topic topics rest split (inr many) fit = omega (arith, many, (fit_down room topic topics (rw split at fit)).1)

pub fit_up : (room : ℕ) (topic : Topic) (topics : List Topic) → 1 ≤ topic.parts → topic.parts ≤ room → FitInto (room - topic.parts) topics → FitInto room (topic ∷ topics)
fit_up room topic topics some few fit =
    (all_cons (λ (topic : Topic). 1 ≤ topic.parts) topic topics some fit.0, omega (arith, fit.1, partitions_cons topic topics))

pub pairs_front : {X : Type 0} (R : X → X → Type 0) (x : X) (xs : List X) → AllPairs R (x ∷ xs) → All (R x) xs
pairs_front R x xs pairs = λ k d lt. pairs 0 (suc k) d (omega arith) (omega arith)

pub pairs_others : {X : Type 0} (R : X → X → Type 0) (x : X) (xs : List X) → AllPairs R (x ∷ xs) → AllPairs R xs
pairs_others R x xs pairs = λ i j d lt within. pairs (suc i) (suc j) d (omega arith) (omega arith)

-- there are no more topics than partitions
pub topics_few : (topics : List Topic) → All (λ topic. 1 ≤ topic.parts) topics → length topics ≤ partitions topics
topics_few [] all = omega arith
topics_few (topic ∷ topics) all =
    let few = topics_few topics (all_others (λ (topic : Topic). 1 ≤ topic.parts) topic topics all) in
    omega (arith, few, partitions_cons topic topics, all_front (λ (topic : Topic). 1 ≤ topic.parts) topic topics all)

pub list_few : (topics : List Topic) → IsTopicList topics → length topics ≤ most_partitions
list_few topics list = omega (arith, topics_few topics (λ k d lt. (list.each k d lt).parts), list.few)

-- no topic has more partitions than all together
parts_few : (topics : List Topic) → All (λ topic. topic.parts ≤ partitions topics) topics
parts_few [] = λ k d lt. absurd (omega arith)
parts_few (topic ∷ topics) = all_cons (λ (t : Topic). t.parts ≤ partitions (topic ∷ topics)) topic topics
    (omega (arith, partitions_cons topic topics))
    (λ k d lt. omega (arith, parts_few topics k d lt, partitions_cons topic topics))

pub have_disks : (topics : List Topic) → IsTopicList topics
    → All (λ topic. (number : ℕ) → number < topic.parts → (disk : DiskPlace) → IsDiskName (hosted_name topic.name number disk)) topics
have_disks topics list = λ k d lt. λ number below disk.
    inl (_, number, disk, (list.each k d lt).name, omega (arith, below, parts_few topics k d lt, list.few), refl)
