-- What is told of writes that failed, and by which parts.
use Rattle.std.proofs.Common.{◌≡◌, ◌<◌, sym, ap, subst, ℕ, List, Some, None}
use Rattle.std.specs.List.{AllByRecursion}
use Rattle.std.specs.Prelude.{All}
use Rattle.std.proofs.lemmas.List.Elements.{All-from_recursion}
use Rattle.share_model.specs.declared.visit.Then.{Then}
use Rattle.share_model.specs.declared.visit.Then.TheVariants.{Nothing, Release, Fetch}
use Rattle.share_model.specs.declared.visit.ThenOutcome.{ThenOutcome}
use Rattle.share_model.specs.declared.visit.ThenOutcome.TheVariants.{Done, Store}
use Rattle.share_model.specs.declared.visit.ExpireAnswer.{ExpireAnswer}
use Rattle.share_model.specs.declared.visit.ExpireAnswer.TheVariants.{Done as all_freed, Store as not_freed}
use Rattle.session_script.specs.declared.event.Outcome.{Outcome}
use Rattle.session_script.specs.Output.{IsTold}
use Rattle.topic_conf.specs.declared.topic.Topic.{Topic}
use Rattle.topic_conf.specs.Topics.{partitions}
use Rattle.call_fold.specs.declared.part.Part.{Part}
use Rattle.call_fold.specs.declared.part.Part.TheVariants.{Foreign, Produce, Delete as PartDelete, Visit as PartVisit, Look, Heartbeat}
use Rattle.call_fold.specs.declared.part.PartAnswer.{PartAnswer}
use Rattle.call_fold.specs.declared.part.PartAnswer.TheVariants.{Foreign as AnswerForeign, Produce as AnswerProduce, Delete as AnswerDelete, Visit as AnswerVisit, Look as AnswerLook, Heartbeat as AnswerHeartbeat}
use Rattle.broker_model.specs.Shards.{Answered, ShardCall, answered_by, fault_of_expiry, fault_of_release, faults_told}
use Rattle.broker_model.specs.Shards.ShardCall.{CallForeign, CallPart, CallMembers}
use Rattle.broker_model.specs.Shards.PartCall.{Visits, Produces, Looks, Expires, Deletes}
use Rattle.broker_model.specs.Shards.MembersCall.{Beats, Ticks}
use Rattle.broker_core.specs.Calls.{IsThere, faults_in, faults_of_visit}

some_same : {A : Type 0} (a b : A) → Some a ≡ Some b → a ≡ b
some_same a b e = cc

none_some : {A T : Type 0} (a : A) → None ≡ Some a → T
none_some a e = absurd (let bad : ⊥ = cc in bad)

abbrev faults_by : Answered → List Outcome
faults_by answered = faults_in answered.part answered.answer

-- the faults of a call are those of the part that it does
pub faults_are : (did : ShardCall) (part : Part) (answer : PartAnswer) → answered_by did ≡ Some (record { part = part; answer = answer })
    → faults_told did ≡ faults_in part answer
faults_are (CallForeign op told fault) part answer e =
    ap faults_by (some_same (record { part = Foreign op; answer = AnswerForeign told }) (record { part = part; answer = answer }) e)
faults_are (CallPart shard h (Visits visit told unread)) part answer e =
    ap faults_by (some_same (record { part = PartVisit shard visit; answer = AnswerVisit told }) (record { part = part; answer = answer }) e)
faults_are (CallPart shard h (Produces batch produced)) part answer e =
    ap faults_by (some_same (record { part = Produce shard batch; answer = AnswerProduce produced }) (record { part = part; answer = answer }) e)
faults_are (CallPart shard h (Looks group looked)) part answer e =
    ap faults_by (some_same (record { part = Look shard group; answer = AnswerLook looked }) (record { part = part; answer = answer }) e)
faults_are (CallPart shard h (Deletes to told)) part answer e =
    ap faults_by (some_same (record { part = PartDelete shard to; answer = AnswerDelete told }) (record { part = part; answer = answer }) e)
faults_are (CallPart shard h (Expires told)) part answer e = none_some (record { part = part; answer = answer }) e
faults_are (CallMembers (Beats request reply)) part answer e =
    ap faults_by (some_same (record { part = Heartbeat request; answer = AnswerHeartbeat reply }) (record { part = part; answer = answer }) e)
faults_are (CallMembers Ticks) part answer e = none_some (record { part = part; answer = answer }) e

-- ---- of a hosted partition

release_told : (topics : List Topic) (shard : ℕ) (asked : Then) (outcome : ThenOutcome) → shard < partitions topics
    → AllByRecursion (IsTold topics) (fault_of_release shard asked outcome)
release_told topics shard Nothing outcome lt = tt
release_told topics shard Release Done lt = tt
release_told topics shard Release (Store fault) lt = (lt, tt)
release_told topics shard (Fetch records bytes first) outcome lt = tt

visit_told : (topics : List Topic) (shard : ℕ) (asked : Then) (answer : PartAnswer) → shard < partitions topics
    → AllByRecursion (IsTold topics) (faults_of_visit (Some (shard, asked)) answer)
visit_told topics shard asked (AnswerForeign answer) lt = tt
visit_told topics shard asked (AnswerProduce produced) lt = tt
visit_told topics shard asked (AnswerDelete answer) lt = tt
visit_told topics shard asked (AnswerVisit answer) lt = release_told topics shard asked answer.then lt
visit_told topics shard asked (AnswerLook looked) lt = tt
visit_told topics shard asked (AnswerHeartbeat reply) lt = tt

pub part_told : (topics : List Topic) (part : Part) (answer : PartAnswer) → IsThere (partitions topics) part → AllByRecursion (IsTold topics) (faults_in part answer)
part_told topics (Foreign op) answer there = tt
part_told topics (Produce shard batch) answer there = tt
part_told topics (PartDelete shard to) answer there = tt
part_told topics (PartVisit shard visit) answer there = visit_told topics shard visit.then answer there
part_told topics (Look shard group) answer there = tt
part_told topics (Heartbeat request) answer there = tt

pub expiry_told : (topics : List Topic) (shard : ℕ) (answer : ExpireAnswer) → shard < partitions topics → AllByRecursion (IsTold topics) (fault_of_expiry shard answer)
expiry_told topics shard (all_freed freed) lt = tt
expiry_told topics shard (not_freed freed group fault) lt = (lt, tt)

pub all_told : (topics : List Topic) (outcomes : List Outcome) → AllByRecursion (IsTold topics) outcomes → All (IsTold topics) outcomes
all_told topics outcomes a = All-from_recursion (IsTold topics) outcomes a

pub expiries_told : (topics : List Topic) (shard count : ℕ) (answer : ExpireAnswer) (outcomes : List Outcome) → count ≡ partitions topics → shard < count
    → outcomes ≡ fault_of_expiry shard answer → All (IsTold topics) outcomes
expiries_told topics shard count answer outcomes few lt e =
    all_told topics outcomes (subst (λ (l : List Outcome). AllByRecursion (IsTold topics) l) (sym e)
    (expiry_told topics shard answer (subst (λ (n : ℕ). shard < n) few lt)))
