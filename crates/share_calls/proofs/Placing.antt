-- The partitions of a ShareAcknowledge, each with its row or its visit.
use Rattle.std.proofs.Common.{◌≡◌, ◌<◌, ◌+◌, ◌∙◌, ℕ, List, [], ◌∷◌, ◌++◌, Option, Some, None, length, drop, get_or, refl, sym, ap, append_assoc}
use Rattle.std.specs.List.{cons_option}
use Rattle.topic_conf.specs.declared.topic.Topic.{Topic}
use Rattle.msgs_share.specs.declared.share_topic.SharePartition.{SharePartition}
use Rattle.msgs_share.specs.declared.share_topic.ShareTopic.{ShareTopic}
use Rattle.share_session.specs.declared.step.PlanStep.{PlanStep}
use Rattle.share_session.specs.Requests.{topic_entries, entries}
use Rattle.share_session.proofs.Lists.{drop_item}
use Rattle.share_calls.specs.Acknowledge.{AckEntry, entry_at, steps_at, placed, steps_left}

pub cons_append : {A : Type 0} (o : Option A) (xs ys : List A) → cons_option o (xs ++ ys) ≡ cons_option o xs ++ ys
cons_append None xs ys = refl
cons_append (Some x) xs ys = refl

module _ (topics : List Topic) where
  placed_more : (steps : List PlanStep) (xs ys : List (List ℕ × SharePartition)) →
      placed topics steps (xs ++ ys) ≡ placed topics steps xs ++ placed topics (steps_left topics steps xs) ys
  placed_more steps [] ys = refl
  placed_more steps (e ∷ xs) ys =
      ap (cons_option (entry_at topics steps e)) (placed_more (steps_at topics steps e) xs ys)
      ∙ cons_append (entry_at topics steps e) (placed topics (steps_at topics steps e) xs) _

  -- a loop over topics, one topic on
  pub placed_group : (ts : List (ShareTopic SharePartition)) (i : ℕ) (t : ShareTopic SharePartition) (old new : List AckEntry) (before after : List PlanStep) (all : List AckEntry) →
      i < length ts → t ≡ get_or ts i t → new ≡ old ++ placed topics before (topic_entries t) → after ≡ steps_left topics before (topic_entries t) →
      old ++ placed topics before (entries (drop i ts)) ≡ all → new ++ placed topics after (entries (drop (i + 1) ts)) ≡ all
  placed_group ts i t old new before after all within is step left h =
      let rest = entries (drop (i + 1) ts) in
      ap (λ l. l ++ placed topics after rest) step
      ∙ append_assoc old (placed topics before (topic_entries t)) (placed topics after rest)
      ∙ ap (λ s. old ++ (placed topics before (topic_entries t) ++ placed topics s rest)) left
      ∙ ap (λ l. old ++ l) (sym (placed_more before (topic_entries t) rest))
      ∙ ap (λ l. old ++ placed topics before (entries l)) (sym (drop_item ts i t within is))
      ∙ h
