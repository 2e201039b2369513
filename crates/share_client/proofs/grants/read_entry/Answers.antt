use Rattle.std.proofs.Common.{◌≡◌, ◌++◌, ◌∙◌, ℕ, ℤ, List, false, map, ap, subst, rules, arith, to_z, of_z, w32}
use Rattle.std.proofs.Math.Facts.{to_z-of_z}
use Rattle.msgs_share.specs.declared.share_fetch_reply.AcquiredRecords.{AcquiredRecords}
use Rattle.msgs_share.specs.declared.share_topic.AcknowledgementBatch.{AcknowledgementBatch}
use Rattle.share_client.specs.declared.located.Located.{Located}
use Rattle.share_client.specs.Deliveries.{run_acknowledged, runs_deliveries, topic_acknowledged}
use Rattle.share_client.specs.Grants.{content_of, is_passed}
use Rattle.share_client.specs.Readers.{Adds}
use Rattle.share_client.specs.Records.{all_records}
use Rattle.share_client.proofs.Delivering.{hands_one}
use Rattle.share_client.proofs.grants.read_entry.Goals as goal

pub returns : goal.returns
returns c =
    let looked : is_passed (c.args.topic, c.args.located.now) ≡ false = search rules in
    let same : to_z w32 (of_z w32 c.args.located.now.item.partition_index) ≡ c.args.located.now.item.partition_index = grind (arith, to_z-of_z) in
    let batches : c.in_ok-batches.batches.items ≡ map (λ a. run_acknowledged (all_records (content_of c.args.located.now.item.records)) a.item) c.args.located.now.item.acquired_records =
    c.in_ok-batches.ensures.acknowledged
    ∙ (λ i. map (λ a. run_acknowledged (all_records (c.content_of-content.ensures i)) a.item) (c.as_slice-acquired.ensures.items i)) in
    hands_one (c.args.topic, c.args.located.now) c.args.handout.now _ looked
    (c.in_ok-put_topic.ensures
    ∙ (ap (λ (z : ℤ). c.args.handout.now.topics.items ++ topic_acknowledged (c.args.topic, z) c.in_ok-batches.batches.items) same
    ∙ ap (λ (b : List AcknowledgementBatch). c.args.handout.now.topics.items ++ topic_acknowledged (c.args.topic, c.args.located.now.item.partition_index) b) batches))
    (subst (λ (z : ℤ). Adds (runs_deliveries (c.args.topic, z) (all_records (content_of c.args.located.now.item.records)) c.args.located.now.item.acquired_records) c.args.handout.now.page c.read_runs.new.page)
    same
    (subst (λ (x : List ℕ). Adds (runs_deliveries (c.args.topic, to_z w32 (of_z w32 c.args.located.now.item.partition_index)) (all_records x) c.args.located.now.item.acquired_records) c.args.handout.now.page c.read_runs.new.page)
    c.content_of-content.ensures
    (subst (λ (l : List (Located AcquiredRecords)). Adds (runs_deliveries (c.args.topic, to_z w32 (of_z w32 c.args.located.now.item.partition_index)) (all_records c.content_of-content.result.now) l) c.args.handout.now.page c.read_runs.new.page)
    c.as_slice-acquired.ensures.items c.in_ok-batches.ensures.added)))
