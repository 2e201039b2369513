use Rattle.std.proofs.Common.{IfOk, ◌≡◌, subst, sym}
use Rattle.conn_core.specs.Hands.{hand_stage_after}
use Rattle.conn_core.proofs.hand.Hand.answer.Goals as goal

pub returns-in-Produce : goal.returns-in-Produce
returns-in-Produce c = subst (λ hand. IfOk c.next_under_name.result (λ stage. stage ≡ hand_stage_after hand c.args.answer)) (sym c.in-Produce.is)
    (c.next_under_name.ensures _ c.take_kept.ensures)

pub returns-in-DeleteRecords : goal.returns-in-DeleteRecords
returns-in-DeleteRecords c = subst (λ hand. IfOk c.next_under_name-in-DeleteRecords.result (λ stage. stage ≡ hand_stage_after hand c.args.answer)) (sym c.in-DeleteRecords.is)
    (c.next_under_name-in-DeleteRecords.ensures _ c.take_kept-in-DeleteRecords.ensures)

pub returns-in-Fetch : goal.returns-in-Fetch
returns-in-Fetch c = subst (λ hand. IfOk c.next_under_name-in-Fetch.result (λ stage. stage ≡ hand_stage_after hand c.args.answer)) (sym c.in-Fetch.is)
    (c.next_under_name-in-Fetch.ensures _ c.take_kept-in-Fetch.ensures)

pub returns-in-Acknowledge : goal.returns-in-Acknowledge
returns-in-Acknowledge c = subst (λ hand. IfOk c.next_under_name-in-Acknowledge.result (λ stage. stage ≡ hand_stage_after hand c.args.answer)) (sym c.in-Acknowledge.is)
    (c.next_under_name-in-Acknowledge.ensures _ c.take_kept-in-Acknowledge.ensures)

pub returns-in-Heartbeat : goal.returns-in-Heartbeat
returns-in-Heartbeat c = subst (λ hand. IfOk c.next_under_name-in-Heartbeat.result (λ stage. stage ≡ hand_stage_after hand c.args.answer)) (sym c.in-Heartbeat.is)
    (c.next_under_name-in-Heartbeat.ensures _ c.take_kept-in-Heartbeat.ensures)

pub returns-in-Initialize : goal.returns-in-Initialize
returns-in-Initialize c = subst (λ hand. IfOk c.next_under_name-in-Initialize.result (λ stage. stage ≡ hand_stage_after hand c.args.answer)) (sym c.in-Initialize.is)
    (c.next_under_name-in-Initialize.ensures _ c.take_kept-in-Initialize.ensures)

pub returns-in-Read : goal.returns-in-Read
returns-in-Read c = subst (λ hand. IfOk c.next_under_name-in-Read.result (λ stage. stage ≡ hand_stage_after hand c.args.answer)) (sym c.in-Read.is)
    (c.next_under_name-in-Read.ensures _ c.take_kept-in-Read.ensures)

pub returns-in-Write : goal.returns-in-Write
returns-in-Write c = subst (λ hand. IfOk c.next_under_name-in-Write.result (λ stage. stage ≡ hand_stage_after hand c.args.answer)) (sym c.in-Write.is)
    (c.next_under_name-in-Write.ensures _ c.take_kept-in-Write.ensures)

pub returns-in-Delete : goal.returns-in-Delete
returns-in-Delete c = subst (λ hand. IfOk c.next_under_name-in-Delete.result (λ stage. stage ≡ hand_stage_after hand c.args.answer)) (sym c.in-Delete.is)
    (c.next_under_name-in-Delete.ensures _ c.take_kept-in-Delete.ensures)
