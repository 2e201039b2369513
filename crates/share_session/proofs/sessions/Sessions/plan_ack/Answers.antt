use Rattle.std.proofs.Common.{◌≡◌, ◌≤◌, ◌∙◌, false, None, List, length, ap, subst, sym}
use Rattle.share_session.specs.SessionParts.{SessionParts, most_sessions}
use Rattle.share_session.specs.declared.change.SessionChange.{SessionChange}
use Rattle.share_session.specs.Sessions.{applied}
use Rattle.share_session.specs.Requests.{wanted_in}
use Rattle.share_session.specs.Plans.{caller_of, ack_plan, ack_refusal}
use Rattle.share_session.proofs.Few.{ack_few}
use Rattle.share_session.proofs.sessions.Sessions.plan_ack.Goals as goal

pub returns-clause-few : goal.returns-clause-few
returns-clause-few c =
    let r = c.args.request.now in
    let ss = c.args.self.now in
    let topics = c.args.conf.now.topics in
    let list : c.deref.result.now ≡ ss = c.deref.ensures.value ∙ c.self.view_is in
    let few : length ss ≤ most_sessions = subst (λ (l : List SessionParts). length l ≤ most_sessions) c.self.view_is c.self.invariant in
    let granted : ack_refusal ss r ≡ None = ap (λ l. ack_refusal l r) (sym list) ∙ c.in_ok-plan.ensures.granted in
    let change : c.in_ok-plan.plan.change ≡ (ack_plan ss topics r).change = ap (λ p. p.change) (c.in_ok-plan.ensures.plan ∙ ap (λ l. ack_plan l topics r) list) in
    subst (λ (x : SessionChange). length (applied x ss) ≤ most_sessions) (sym change)
    (ack_few false ss (caller_of r.group_id r.member_id) r.share_session_epoch r.topics few granted (wanted_in topics r.topics))
