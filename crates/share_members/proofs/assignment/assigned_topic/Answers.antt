use Rattle.std.proofs.Common.{◌≡◌, ℕ, ◌+◌, pos, map, Bool, cond, ap, sym, ◌∙◌, arith}
use Rattle.std.specs.Cmp.Lexicographic.{nat_list_cmp_total}
use Rattle.std.proofs.lemmas.Map.Lookups.{exact_bytes}
use Rattle.share_members.specs.Groups.{id_cmp, with_member}
use Rattle.share_members.specs.Assignments.{share, subscribes, subscribers, number}
use Rattle.share_members.proofs.Maps.{before_insert, count_insert}
use Rattle.share_members.proofs.assignment.assigned_topic.Goals as goal

pub returns : goal.returns
returns c = λ member there.
    let es = c.args.members.now.entries in
    let id = c.args.id.now in
    let place = c.args.place in
    let others = c.count_others-others in
    let sorted = others.ensures.ordered in
    let one = ap (λ (b : Bool). cond {A = ℕ} b 1 0) there in
    let all : others.result.before + others.result.behind + 1 ≡ subscribers place (with_member id member es) =
    omega (arith, count_insert id_cmp nat_list_cmp_total (subscribes place) id member exact_bytes es sorted, one, others.ensures.before, others.ensures.behind) in
    let first : others.result.before ≡ number place id (with_member id member es) =
    others.ensures.before ∙ sym (before_insert id_cmp nat_list_cmp_total (subscribes place) id member exact_bytes es sorted) in
    let parts : c.in_ok-partitions.partitions ≡ map pos (share c.args.topic.now.parts (subscribers place (with_member id member es)) (number place id (with_member id member es))) =
    c.in_ok-partitions.ensures ∙ (λ i. map pos (share c.args.topic.now.parts (all i) (first i))) in
    λ i. record { topic_id = c.args.topic.now.id; partitions = parts i }
