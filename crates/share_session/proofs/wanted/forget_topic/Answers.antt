use Rattle.std.proofs.Common.{◌≡◌, ◌+◌, ◌∙◌, ◌<◌, ℕ, ℤ, pos, [], Option, length, map, drop, nat_eq, fold, get_or, ap, sym, arith, rules, w32}
use Rattle.std.specs.List.{cons_option, filter_map}
use Rattle.std.proofs.lemmas.Int.{to_z-of_z}
use Rattle.std.proofs.lemmas.List.{get_or_default}
use mir.Val.{SFits}
use Rattle.topic_conf.specs.Topics.{shard_at}
use Rattle.indexmap.specs.IndexSet as key_set
use Rattle.share_session.specs.Requests.{forgotten_of}
use Rattle.share_session.proofs.Lists.{fold_item}
use Rattle.share_session.proofs.wanted.forget_topic.Goals as goal
use Rattle.share_session.proofs.wanted.forget_topic.Goals.{in-Some+in_ok-insert, in_default}

pub loop-partition-preserved : goal.loop-partition-preserved
loop-partition-preserved c =
    let put = key_set.insert_key nat_eq in
    let parts = c.as_slice-partition-items.result.now in
    let i = c.loop-partition.partition-index in
    let x = get_or parts i (pos 0) in
    let within : i < length parts = omega arith in
    let fits : SFits w32 x = search rules in
    let id = c.args.topic.now.topic_id in
    let topics = c.args.conf.now.topics in
    let found : c.find.result ≡ forgotten_of topics (id, x) = c.find.ensures ∙ ap (λ (z : ℤ). shard_at id z topics) (to_z-of_z w32 x fits) in
    let old = c.loop-partition.forgotten.keys in
    let step : c.match-find.forgotten.keys ≡ fold put old (cons_option (forgotten_of topics (id, x)) []) =
    elim c.match-find.branch [
      | in-Some+in_ok-insert w ↦
          ap (λ s. s.keys) w.forgotten-is ∙ w.in_ok-insert.ensures.keys
          ∙ ap (λ (o : Option ℕ). fold put old (cons_option o [])) (sym w.in-Some.is ∙ found)
      | in_default w ↦
          ap (λ s. s.keys) w.forgotten-is ∙ ap (λ (o : Option ℕ). fold put old (cons_option o [])) (sym w.in_default.is ∙ found)
    ] in
    let left = ap (λ l. fold put old (filter_map (forgotten_of topics) (map (λ (p : ℤ). (id, p)) (drop i l)))) c.as_slice-partition-items.ensures.items ∙ c.loop-partition.invariant in
    let whole = fold_item put (forgotten_of topics) (λ (p : ℤ). (id, p)) parts i x old c.match-find.forgotten.keys _ within (get_or_default parts i (pos 0) x within) step left in
    ap (λ l. fold put c.match-find.forgotten.keys (filter_map (forgotten_of topics) (map (λ (p : ℤ). (id, p)) (drop (i + 1) l)))) (sym c.as_slice-partition-items.ensures.items) ∙ whole
