use Rattle.std.proofs.Common.{◌≡◌, ◌∙◌, ℕ, pos, Bool, true, false, List, map, refl, ap, subst, if◌then◌else◌}
use Rattle.std.specs.Prelude.{IfOk}
use Rattle.std.specs.Ordering.{int_eq}
use Rattle.topic_conf.specs.Configs.{ConfigParts}
use Rattle.msgs_base.specs.declared.coordinator_of_all.CoordinatorOfAll.{CoordinatorOfAll}
use Rattle.msgs_base.specs.declared.find_coordinator_request.FindCoordinatorRequest.{FindCoordinatorRequest}
use Rattle.msgs_base.specs.declared.find_coordinator_reply.FindCoordinatorReply.{FindCoordinatorReply}
use Rattle.msgs_base.specs.FindCoordinatorReply.{find_coordinator_reply}
use Rattle.msgs_base.specs.CoordinatorOfAll.{all_have}
use Rattle.conn_core.specs.Coordinators.{this_broker, no_broker, told_alike, coordinator_of, no_coordinator, coordinator_answer}
use Rattle.conn_core.proofs.coordinators.coordinator_body.Goals as goal

alike : (conf : ConfigParts) (request : FindCoordinatorRequest) → all_have (told_alike conf request.key_type) request.coordinator_keys ≡ coordinator_answer conf request
alike conf request = go (int_eq request.key_type (pos 0))
  where
    go : (b : Bool) → all_have (if b then this_broker conf else no_broker) request.coordinator_keys ≡ record {
      throttle_time_ms = pos 0;
      coordinators = map (λ key. if b then coordinator_of conf key else no_coordinator key) request.coordinator_keys;
    }
    go true = refl
    go false = refl

pub returns : goal.returns
returns c =
    subst (λ (reply : FindCoordinatorReply). IfOk c.write_coordinator_of_all.result (λ (body : List ℕ). body ≡ find_coordinator_reply.bytes reply))
    (ap (λ (told : CoordinatorOfAll). all_have told c.args.request.now.coordinator_keys) c.in_ok-told.ensures ∙ alike c.args.conf.now c.args.request.now)
    c.write_coordinator_of_all.ensures
