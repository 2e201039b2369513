use Rattle.std.proofs.Common.{◌≡◌, ◌∙◌, ◌++◌, ◌∷◌, [], ℤ, List, true, false, not, sym, subst, arith, to_z, of_z, w32}
use Rattle.std.specs.Prelude.{filter}
use Rattle.std.proofs.Math.Facts.{to_z-of_z}
use Rattle.share_client.specs.Partitions.{is_named}
use Rattle.share_client.proofs.Outsiding.{passed_end, passed_on}
use Rattle.share_client.proofs.partitions.partitions_outside.Goals as goal

pub loop-partition-preserved-in_ok-push : goal.loop-partition-preserved-in_ok-push
loop-partition-preserved-in_ok-push c = λ named k.
    let p = λ (n : ℤ). not (is_named named (c.args.topic.now.topic_id, n)) in
    let same : to_z w32 (of_z w32 c.in-Some.partition.now) ≡ c.in-Some.partition.now = grind (arith, to_z-of_z) in
    subst (λ (l : List ℤ). l ++ filter p c.in-Some.others.now ≡ filter p c.args.topic.now.partitions) (sym c.in_ok-push.ensures.items)
    (subst (λ (z : ℤ). (c.loop-partition.partitions.items ++ z ∷ []) ++ filter p c.in-Some.others.now ≡ filter p c.args.topic.now.partitions) (sym same)
    (passed_on p c.loop-partition.partitions.items c.in-Some.partition.now c.in-Some.others.now (filter p c.args.topic.now.partitions) true
    (subst (λ (z : ℤ). p z ≡ true) same (sym (c.is_outside.ensures named k) ∙ c.if-is_outside.true))
    (subst (λ (l : List ℤ). c.loop-partition.partitions.items ++ filter p l ≡ filter p c.args.topic.now.partitions) c.in-Some.ensures.cases.0 (c.loop-partition.invariant named k))))

pub loop-partition-preserved : goal.loop-partition-preserved
loop-partition-preserved c = λ named k.
    let p = λ (n : ℤ). not (is_named named (c.args.topic.now.topic_id, n)) in
    let same : to_z w32 (of_z w32 c.in-Some.partition.now) ≡ c.in-Some.partition.now = grind (arith, to_z-of_z) in
    passed_on p c.loop-partition.partitions.items c.in-Some.partition.now c.in-Some.others.now (filter p c.args.topic.now.partitions) false
    (subst (λ (z : ℤ). p z ≡ false) same (sym (c.is_outside.ensures named k) ∙ c.if-is_outside.false))
    (subst (λ (l : List ℤ). c.loop-partition.partitions.items ++ filter p l ≡ filter p c.args.topic.now.partitions) c.in-Some.ensures.cases.0 (c.loop-partition.invariant named k))

pub returns : goal.returns
returns c = λ named k.
    passed_end (λ n. not (is_named named (c.args.topic.now.topic_id, n))) c.loop-partition.partitions.items c.loop-partition.rest.now _ c.in_default.ensures.cases (c.loop-partition.invariant named k)
