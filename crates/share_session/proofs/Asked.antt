-- On the plan of a request.
use Rattle.std.proofs.Common.{◌≡◌, ℕ, ℤ, List, Option, ap, ◌∙◌}
use Rattle.share_model.specs.declared.ack.AckBatch.{AckBatch}
use Rattle.topic_conf.specs.declared.topic.Topic.{Topic}
use Rattle.msgs_share.specs.declared.share_fetch_request.ShareFetchRequest.{ShareFetchRequest}
use Rattle.share_session.specs.SessionParts.{SessionParts}
use Rattle.share_session.specs.declared.step.Caller.{Caller}
use Rattle.share_session.specs.Sessions.{session_of}
use Rattle.share_session.specs.Requests.{wanted_in, forgotten_in}
use Rattle.share_session.specs.Plans.{caller_of, fetch_by_epoch, fetch_plan}

-- a fetch is planned from its parts
pub fetch_is : (sessions : List SessionParts) (topics : List Topic) (r : ShareFetchRequest)
    (caller : Caller) (session : Option SessionParts) (epoch : ℤ) (wanted : List (ℕ × List AckBatch)) (forgotten : List ℕ) →
    caller ≡ caller_of r.group_id r.member_id → session ≡ session_of caller.group caller.member sessions → epoch ≡ r.share_session_epoch →
    wanted ≡ wanted_in topics r.topics → forgotten ≡ forgotten_in topics r.forgotten_topics_data →
    fetch_by_epoch caller session epoch wanted forgotten ≡ fetch_plan sessions topics r
fetch_is sessions topics r caller session epoch wanted forgotten c s e w f =
    let own = s ∙ ap (λ (x : Caller). session_of x.group x.member sessions) c in
    (λ j. fetch_by_epoch (c j) (own j) (e j) (w j) (f j))
