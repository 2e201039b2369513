use Rattle.std.proofs.Common.{rules, ◌≡◌, ◌∷◌, ◌++◌, [], List, subst, sym}
use Rattle.std.specs.List.{AllByRecursion}
use Rattle.shard_lock.specs.Passes.{PassParts}
use Rattle.broker_shards.specs.declared.foreign.ForeignEvent.{ForeignEvent}
use Rattle.broker_shards.specs.declared.foreign.ForeignHost.{ForeignHost}
use Rattle.broker_shards.specs.declared.members.MembersEvent.{MembersEvent}
use Rattle.broker_shards.specs.declared.members.MembersHost.{MembersHost}
use Rattle.broker_locks.specs.Rows.{IsNew, RowOf}
use Rattle.broker_locks.specs.Shared.{MembersAnswer, StateAnswer}
use Rattle.broker_locks.proofs.Lines.{all_front, all_last, all_snoc, popped_pushed, popped_same, row_alone}
use Rattle.broker_locks.proofs.rows.make_rows.Goals as goal

pub loop-member-preserved : goal.loop-member-preserved
loop-member-preserved g c =
    let i = c.loop-member.invariant in
    let D : Type 0 = g.row.D.Denot in
    let ps : List (PassParts MembersHost MembersEvent MembersAnswer) = c.pop.new.self.items in
    let os : List (PassParts (ForeignHost D) ForeignEvent StateAnswer) = c.pop-in-Some.new.self.items in
    let popped : c.loop-member.member_passes.items ≡ ps ++ c.in-Some.member ∷ [] = search rules in
    let other_popped : c.loop-member.foreign_passes.items ≡ os ++ c.in-Some-pop.other ∷ [] = search rules in
    let all : AllByRecursion (IsNew c.args.members.now) (ps ++ c.in-Some.member ∷ []) = subst (λ l. AllByRecursion (IsNew c.args.members.now) l) popped i.0 in
    let others : AllByRecursion (IsNew c.args.foreign.now) (os ++ c.in-Some-pop.other ∷ []) =
    subst (λ l. AllByRecursion (IsNew c.args.foreign.now) l) other_popped i.1 in
    let row : RowOf [] c.args.members.now c.args.foreign.now c.alone.result = row_alone c.args.members.now c.args.foreign.now c.alone.result c.in-Some.member c.in-Some-pop.other
    c.alone.ensures.parts c.alone.ensures.members c.alone.ensures.foreign (all_last (IsNew c.args.members.now) ps c.in-Some.member all)
    (all_last (IsNew c.args.foreign.now) os c.in-Some-pop.other others) in
    let pushed : c.push.new.self.items ≡ c.loop-member.rows.items ++ c.alone.result ∷ [] = search rules in (
      all_front (IsNew c.args.members.now) ps c.in-Some.member all,
      all_front (IsNew c.args.foreign.now) os c.in-Some-pop.other others,
      popped_same c.loop-member.member_passes.items ps c.loop-member.foreign_passes.items os c.in-Some.member c.in-Some-pop.other popped other_popped i.2,
      subst (λ l. AllByRecursion (RowOf [] c.args.members.now c.args.foreign.now) l) (sym pushed)
          (all_snoc (RowOf [] c.args.members.now c.args.foreign.now) c.loop-member.rows.items c.alone.result i.3 row),
      popped_pushed c.loop-member.member_passes.items ps c.loop-member.rows.items c.push.new.self.items c.in-Some.member c.alone.result _ popped pushed i.4,
    )
