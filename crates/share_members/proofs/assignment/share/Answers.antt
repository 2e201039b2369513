use Rattle.std.proofs.Common.{◌≡◌, ℤ, pos, ◌++◌, [], ◌∷◌, true, false, ap, ◌∙◌, arith, to_z, w32, rules, vec_len, Vec, Global}
use Rattle.std.proofs.lemmas.Int.{ints}
use Rattle.share_members.specs.Assignments.{owns}
use Rattle.share_members.proofs.Lists.{passing_yes, passing_no}
use Rattle.share_members.proofs.assignment.share.Goals as goal
use Rattle.share_members.proofs.assignment.share.Goals.{then-owns+in_ok-push, else-owns}

pub loop-partition-preserved : goal.loop-partition-preserved
loop-partition-preserved c =
    let n = c.loop-partition.partition in
    let old = c.loop-partition.list.items in
    let passes = owns c.args.parts c.args.subscribers c.args.number in
    elim c.if-owns.branch [
      | then-owns+in_ok-push w ↦
          let cast : to_z w32 n ≡ pos n = omega (arith, ints) in
          let here : passes n ≡ true = search rules in
          let len = ap vec_len w.list-is in
          let items = ap (λ (v : Vec ℤ Global). v.items) w.list-is ∙ w.in_ok-push.ensures.items ∙ ap (λ z. old ++ z ∷ []) cast in
          record {
            so_far = passing_yes passes n old c.if-owns.list.items c.loop-partition.invariant.so_far here items;
            few = omega (arith, w.in_ok-push.ensures.len, len);
          }
      | else-owns w ↦
          let here : passes n ≡ false = search rules in
          let len = ap vec_len w.list-is in
          let items = ap (λ (v : Vec ℤ Global). v.items) w.list-is in
          record {
            so_far = passing_no passes n old c.if-owns.list.items c.loop-partition.invariant.so_far here items;
            few = omega (arith, len);
          }
    ]
