use Rattle.std.proofs.Common.{◌≡◌, subst, arith, rules, true, Bool}
use Rattle.share_part.specs.Collecting.{Goes}
use Rattle.share_part.specs.Slots.{batch_at}
use Rattle.share_part.specs.Walks.{with_batch_of}
use Rattle.share_part.proofs.Gathering.{goes_over, newest_slot}
use Rattle.share_part.proofs.Slotting.{slot_below}
use Rattle.share_part.proofs.collector.Collector.take.Goals as goal

pub returns-clause-goes : goal.returns-clause-goes
returns-clause-goes g c = λ table walk go h.
    let log = c.args.log.now.batches in
    let slot = c.args.slot in
    let to = c.last_taken-to.result in
    let P : Bool → Type 0 = λ b. Goes log c.include.new.self walk b (with_batch_of walk slot (batch_at log slot)) in
    let on = subst P (let e : c.in_ok-include.field-0 ≡ true = search rules in e) (c.in_ok-include.ensures.goes walk h) in
    let below = slot_below log to c.requires.sound.stored
    (newest_slot log c.include.new.self.newest on.0.newest to on.2.of_log on.2.newest (c.last_taken-to.ensures.covered to c.last_taken-to.ensures.order (omega arith))) in
    goes_over log c.include.new.self c.add.new.self table walk on.0 slot to c.args.count _ on.1
    (omega (arith, h.records, c.if-self-eq0.false)) on.2 c.last_taken-to.ensures.order c.last_taken-to.ensures.covered
    (λ o lo hi. go o lo (omega (arith, hi, c.last_taken-to.ensures.upto)))
    (omega (arith, c.last_taken-to.ensures.records, on.2.records)) (omega (arith, c.last_taken-to.ensures.order))
    (c.in_ok-add.ensures.takes log on.0 below on.2)
