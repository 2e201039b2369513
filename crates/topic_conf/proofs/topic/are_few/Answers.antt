use Rattle.std.proofs.Common.{◌≡◌, ◌⊎◌, ◌<◌, ◌≤◌, ◌∷◌, arith, inl, inr}
use Rattle.topic_conf.proofs.Lists.{fit_down, fit_not, fit_up}
use Rattle.topic_conf.proofs.topic.are_few.Goals.{then-topic-eq0-via-then-topic-eq0, then-topic-eq0-via-else-topic-eq0+then-topic-room}
use Rattle.topic_conf.proofs.topic.are_few.Goals as goal

pub returns-then-topic-eq0 : goal.returns-then-topic-eq0
returns-then-topic-eq0 c =
    let how : (c.in-Some.topic.now.parts ≡ 0) ⊎ (c.loop-topic.room < c.in-Some.topic.now.parts) = elim c.then-topic-eq0.branch [
      | then-topic-eq0-via-then-topic-eq0 w ↦ inl w.if-topic-eq0.true
      | then-topic-eq0-via-else-topic-eq0+then-topic-room w ↦ inr w.if-topic-room.true
    ] in (
      λ e. absurd (cc),
      λ fit. absurd (fit_not c.loop-topic.room _ _ _ c.in-Some.ensures.cases.0 how (c.loop-topic.invariant.down fit)),
    )

pub loop-topic-preserved : goal.loop-topic-preserved
loop-topic-preserved c =
    let split : c.loop-topic.rest.now ≡ c.in-Some.topic.now ∷ c.in-Some.others.now = c.in-Some.ensures.cases.0 in
    let some : 1 ≤ c.in-Some.topic.now.parts = omega (arith, c.if-topic-eq0.false) in
    record {
      down = λ fit. (fit_down c.loop-topic.room _ _ (rw split at (c.loop-topic.invariant.down fit))).2;
      up = λ fit. c.loop-topic.invariant.up (rw split (fit_up c.loop-topic.room _ _ some c.if-topic-room.false fit));
    }
