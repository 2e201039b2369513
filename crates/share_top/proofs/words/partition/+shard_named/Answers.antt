use Rattle.std.proofs.Common.{◌≡◌, ◌≢◌, ◌≤◌, ◌<◌, AllPairs, rules}
use Rattle.edge_io.specs.Names.{most_partitions}
use Rattle.topic_conf.specs.Topics.{AreApart, partitions}
use Rattle.share_top.proofs.PartitionWords.{here_named, here_none, later_named, later_none, few_others, apart_others}
use Rattle.share_top.proofs.words.partition.+shard_named.Goals as goal

pub returns-then-number-topic-clause-found : goal.returns-then-number-topic-clause-found
returns-then-number-topic-clause-found t c =
    let named : c.in-Some.topic.now.name ≡ c.args.name.now = search rules in
    let lt : c.args.number < c.in-Some.topic.now.parts = search rules in
    here_named c.args.topics.now c.in-Some.topic.now c.in-Some.others.now c.args.name.now c.args.number c.in-Some.ensures.cases.0 named lt

pub returns-else-number-topic-clause-found : goal.returns-else-number-topic-clause-found
returns-else-number-topic-clause-found t c =
    let named : c.in-Some.topic.now.name ≡ c.args.name.now = search rules in
    let many : c.in-Some.topic.now.parts ≤ c.args.number = search rules in
    let apart : AllPairs AreApart c.args.topics.now = search rules in
    here_none c.args.topics.now c.in-Some.topic.now c.in-Some.others.now c.args.name.now c.args.number c.in-Some.ensures.cases.0 apart named many

pub shard_named-requires : goal.shard_named-requires
shard_named-requires t c =
    let split = c.in-Some.ensures.cases.0 in
    let few : partitions c.args.topics.now ≤ most_partitions = search rules in
    let apart : AllPairs AreApart c.args.topics.now = search rules in (
      search rules,
      (
        few_others c.args.topics.now c.in-Some.topic.now c.in-Some.others.now most_partitions split few,
        apart_others c.args.topics.now c.in-Some.topic.now c.in-Some.others.now split apart,
      ),
    )

pub returns-in-Some-shard_named-clause-found : goal.returns-in-Some-shard_named-clause-found
returns-in-Some-shard_named-clause-found t c =
    let split = c.in-Some.ensures.cases.0 in
    later_named c.args.topics.now c.in-Some.topic.now c.in-Some.others.now c.args.name.now c.args.number split _ c.in-Some-shard_named.ensures.found

pub returns-in-None-clause-found : goal.returns-in-None-clause-found
returns-in-None-clause-found t c =
    let split = c.in-Some.ensures.cases.0 in
    let other : c.in-Some.topic.now.name ≢ c.args.name.now = search rules in
    later_none c.args.topics.now c.in-Some.topic.now c.in-Some.others.now c.args.name.now c.args.number split other c.in-None.ensures.found
