use Rattle.std.proofs.Common.{rules, ◌≡◌, ◌∷◌, All}
use Rattle.std.proofs.lemmas.List.Kept.{AllPairs-cons}
use Rattle.topic_conf.specs.Topics.{AreApart}
use Rattle.topic_conf.proofs.Lists.{pairs_front, pairs_others}
use Rattle.topic_conf.proofs.topic.are_apart.Goals as goal

pub loop-topic-preserved : goal.loop-topic-preserved
loop-topic-preserved c =
    let split : c.loop-topic.rest.now ≡ c.in-Some.topic.now ∷ c.in-Some.others.now = search rules in
    let apart : All (AreApart c.in-Some.topic.now) c.in-Some.others.now = search rules in
    record {
      down = λ pairs. pairs_others AreApart _ _ (rw split at (c.loop-topic.invariant.down pairs));
      up = λ pairs. c.loop-topic.invariant.up (rw split (AllPairs-cons AreApart _ _ apart pairs));
    }

pub returns-then-not-is_apart : goal.returns-then-not-is_apart
returns-then-not-is_apart c =
    let split : c.loop-topic.rest.now ≡ c.in-Some.topic.now ∷ c.in-Some.others.now = search rules in (
      λ e. absurd (cc),
      λ pairs.
          let apart = pairs_front AreApart _ _ (rw split at (c.loop-topic.invariant.down pairs)) in
          let is = c.is_apart.ensures.1 apart in
          cc,
    )
