use Rattle.std.proofs.Common.{◌≡◌, ◌<◌, ◌≤◌, ◌++◌, ◌∷◌, [], ◌∙◌, ℤ, List, length, get_or, map, take, sym, ap, arith, rules, if◌then◌else◌, w32}
use Rattle.std.proofs.lemmas.Int.{to_z-of_z}
use Rattle.std.proofs.lemmas.List.{map_more, take_all}
use mir.Val.{SFits}
use Rattle.share_model.specs.declared.ack.AckBatch.{AckBatch}
use Rattle.share_session.specs.declared.step.Purpose.{Purpose}
use Rattle.share_session.specs.declared.step.Purpose.TheVariants.{Nothing, Fetch}
use Rattle.share_session.specs.declared.step.PlanStep.{PlanStep}
use Rattle.share_session.specs.Requests.{has}
use Rattle.share_session.specs.Plans.{visit, turned, fetch_visit}
use Rattle.share_session.proofs.Left.{still_there, left_later}
use Rattle.share_session.proofs.visits.fetch_visits.Goals as goal

pub loop-shard-preserved : goal.loop-shard-preserved
loop-shard-preserved c =
    let list = c.args.list.now in
    let i = c.loop-shard.shard-index in
    let x = get_or list i 0 in
    let within : i < length list = omega arith in
    let left = c.loop-shard.invariant.left in
    let caller = c.args.caller.now in
    let forgotten = c.args.forgotten.now.keys in
    let f = fetch_visit caller c.args.wanted.entries forgotten in
    let same : c.visit.result ≡ f x =
    c.visit.ensures
    ∙ ap (λ (p : Purpose). visit caller p c.take_acks-acks.result x) c.fetch_purpose.ensures
    ∙ ap (λ (a : List AckBatch). visit caller (if has forgotten x then Nothing else Fetch) a x)
    (c.take_acks-acks.ensures.taken ∙ still_there list i within c.loop-shard.wanted.entries c.args.wanted.entries left) in
    record {
      plan =
          c.in_ok-push.ensures.items
          ∙ ap (λ (l : List PlanStep). l ++ c.visit.result ∷ []) c.loop-shard.invariant.plan
          ∙ ap (λ (v : PlanStep). map f (take i list) ++ v ∷ []) same
          ∙ sym (map_more f list i 0 within);
      left = left_later list i within c.loop-shard.wanted.entries c.args.wanted.entries left c.requires c.take_acks-acks.new.wanted.entries c.take_acks-acks.ensures.others;
    }

pub returns : goal.returns
returns c =
    let list = c.args.list.now in
    let f = fetch_visit c.args.caller.now c.args.wanted.entries c.args.forgotten.now.keys in
    let whole : length list ≤ c.loop-shard.shard-index = omega arith in
    let fits : SFits w32 c.args.epoch = search rules in
    c.turn.ensures
    ∙ ap (λ (e : ℤ). turned e c.loop-shard.plan.items) (to_z-of_z w32 c.args.epoch fits)
    ∙ ap (turned c.args.epoch) (c.loop-shard.invariant.plan ∙ ap (map f) (take_all c.loop-shard.shard-index list whole))
