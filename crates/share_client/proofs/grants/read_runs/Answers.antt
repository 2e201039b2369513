use Rattle.std.proofs.Common.{List, sym, subst, [], ◌∷◌}
use Rattle.msgs_share.specs.declared.share_fetch_reply.AcquiredRecords.{AcquiredRecords}
use Rattle.msgs_share.specs.declared.share_topic.AcknowledgementBatch.{AcknowledgementBatch}
use Rattle.share_client.specs.declared.located.Located.{Located}
use Rattle.share_client.specs.Records.{all_records}
use Rattle.share_client.proofs.Delivering.{Runs, left_all, none_left, run_left, runs_adds, runs_on, runs_start}
use Rattle.share_client.proofs.grants.read_runs.Goals as goal

pub loop-located-init : goal.loop-located-init
loop-located-init c =
    subst (λ (b : List AcknowledgementBatch). Runs (c.args.name.now.topic, c.args.name.now.partition) (all_records c.args.content.now) c.args.acquired.now c.args.page.now c.args.acquired.now c.new-reader.result b c.args.page.now)
    (sym c.new-batches.ensures.items)
    (runs_start (c.args.name.now.topic, c.args.name.now.partition) (all_records c.args.content.now) c.args.acquired.now c.args.page.now c.new-reader.result
    (left_all c.args.content.now c.requires.stored.0 c.new-reader.result c.requires.stored.1 c.new-reader.ensures) c.requires.rise)

pub loop-located-preserved : goal.loop-located-preserved
loop-located-preserved c =
    let s = subst (λ (l : List (Located AcquiredRecords)). Runs (c.args.name.now.topic, c.args.name.now.partition) (all_records c.args.content.now) c.args.acquired.now c.args.page.now l c.loop-located.reader c.loop-located.batches.items c.loop-located.page)
    c.in-Some.ensures.cases.0 c.loop-located.invariant in
    let l = run_left (c.args.name.now.topic, c.args.name.now.partition) (all_records c.args.content.now) c.args.acquired.now c.args.page.now c.in-Some.located.now c.in-Some.others.now c.loop-located.reader c.loop-located.batches.items c.loop-located.page s in
    subst (λ (b : List AcknowledgementBatch). Runs (c.args.name.now.topic, c.args.name.now.partition) (all_records c.args.content.now) c.args.acquired.now c.args.page.now c.in-Some.others.now c.in_ok-batch.after b c.read_run.new.page)
    (sym c.in_ok-push.ensures.items)
    (runs_on (c.args.name.now.topic, c.args.name.now.partition) (all_records c.args.content.now) c.args.acquired.now c.args.page.now c.in-Some.located.now c.in-Some.others.now c.loop-located.reader c.loop-located.batches.items c.loop-located.page s
    c.in_ok-batch.batch c.in_ok-batch.after c.read_run.new.page
    (c.in_ok-batch.ensures.acknowledged (all_records c.args.content.now) l) (c.in_ok-batch.ensures.left (all_records c.args.content.now) l) (c.in_ok-batch.ensures.added (all_records c.args.content.now) l))

pub returns-clause-added : goal.returns-clause-added
returns-clause-added c =
    runs_adds (c.args.name.now.topic, c.args.name.now.partition) (all_records c.args.content.now) c.args.acquired.now c.args.page.now c.loop-located.reader c.loop-located.batches.items c.loop-located.page
    (subst (λ (l : List (Located AcquiredRecords)). Runs (c.args.name.now.topic, c.args.name.now.partition) (all_records c.args.content.now) c.args.acquired.now c.args.page.now l c.loop-located.reader c.loop-located.batches.items c.loop-located.page)
    (none_left c.loop-located.rest.now c.in_default.ensures.cases) c.loop-located.invariant)
