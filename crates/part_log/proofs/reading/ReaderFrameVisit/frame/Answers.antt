use Rattle.part_log.proofs.Noting.{bad_batch, behind, order, reads_mark, reads_more}
use Rattle.part_log.proofs.reading.ReaderFrameVisit.frame.Goals as goal

pub invariant_of-self-in_default-next_entry : goal.invariant_of-self-in_default-next_entry
invariant_of-self-in_default-next_entry c =
    bad_batch c.self.inside.seen.frames c.self.inside.index c.self.inside.start c.self.inside.end c.self.inside.bad c.self.invariant c.in_default.is _ _ _ c.with-seen.ensures c.in_default-mark_in.ensures c.in_default-next_entry.ensures

pub push-requires-clause-order : goal.push-requires-clause-order
push-requires-clause-order c =
    let said = c.in-Some-next_entry.ensures in
    order c.self.inside.seen.frames c.self.inside.index c.self.inside.start c.self.inside.end c.self.inside.bad c.self.invariant c.in_default.is _ _ _ said.0 said.1 said.2

pub push-requires-clause-behind : goal.push-requires-clause-behind
push-requires-clause-behind c =
    let said = c.in-Some-next_entry.ensures in
    behind c.self.inside.seen.frames c.self.inside.index c.self.inside.start c.self.inside.end c.self.inside.bad c.self.invariant c.in_default.is _ _ _ said.0 said.1 said.2

pub invariant_of-self-2 : goal.invariant_of-self-2
invariant_of-self-2 c =
    let said = c.in-Some-next_entry.ensures in
    reads_more c.self.inside.seen.frames c.self.inside.index c.self.inside.start c.self.inside.end c.self.inside.bad c.self.invariant c.in_default.is _ _ _ said.0 said.1 said.2
    _ _ c.with-seen.ensures c.in_ok-push.ensures.ok c.push.ensures.cached

pub invariant_of-self-then-start-self : goal.invariant_of-self-then-start-self
invariant_of-self-then-start-self c =
    let said = c.in-Some-mark_in.ensures in
    reads_mark c.self.inside.seen.frames c.self.inside.index c.self.inside.start c.self.inside.end c.self.inside.bad c.self.invariant c.in_default.is _ _ _ c.with-seen.ensures
    c.in-Some-mark_in.start said.0 c.if-self-start.true c.if-start-self.true
