use Rattle.std.proofs.Common.{◌≤◌, ◌<◌, All, rules}
use Rattle.edge_io.specs.Names.{most_partitions}
use Rattle.topic_conf.specs.Topics.{IsTopic, partitions}
use Rattle.share_top.proofs.PartitionWords.{few_others}
use Rattle.share_top.proofs.LoadBays.{here, later, each_others}
use Rattle.share_top.proofs.load.+log_disk.Goals as goal

pub returns-then-shard-topic : goal.returns-then-shard-topic
returns-then-shard-topic t c =
    let each : All IsTopic c.args.topics.now = search rules in
    let few : partitions c.args.topics.now ≤ most_partitions = search rules in
    let lt : c.args.shard < c.in-Some.topic.now.parts = search rules in
    here c.args.topics.now c.in-Some.topic.now c.in-Some.others.now c.args.shard c.in-Some.ensures.cases.0 c.as_bytes.result.now c.hosted.result (search rules)
    c.hosted.ensures.some c.hosted.ensures.exact each few lt

pub log_disk-requires : goal.log_disk-requires
log_disk-requires t c =
    let split = c.in-Some.ensures.cases.0 in
    let each : All IsTopic c.args.topics.now = search rules in
    let few : partitions c.args.topics.now ≤ most_partitions = search rules in (
      search rules,
      (
        each_others c.args.topics.now c.in-Some.topic.now c.in-Some.others.now c.args.shard split each,
        few_others c.args.topics.now c.in-Some.topic.now c.in-Some.others.now most_partitions split few,
      ),
    )

pub returns : goal.returns
returns t c =
    let many : c.in-Some.topic.now.parts ≤ c.args.shard = search rules in
    later c.args.topics.now c.in-Some.topic.now c.in-Some.others.now c.args.shard c.in-Some.ensures.cases.0 c.log_disk.result many c.log_disk.ensures
