use Rattle.std.proofs.Common.{◌≡◌, ◌-◌, ℕ, suc, List, sym, ap, ◌∙◌, subst, rules, arith}
use mathlib.Core.Option.{some, some-injective}
use lib.ListN.{get_elem?}
use Rattle.shard_lock.specs.declared.shard.Entry.{Entry}
use Rattle.shard_lock.specs.Passes.{Account, passes_of, PassParts}
use Rattle.turn_lock.specs.Turns.{IsTurn, Leaves}
use Rattle.std.specs.Slots.{slots_items, slots_filled}
use Rattle.std.specs.Slots.Ownership.{Filled}
use Rattle.turn_lock.specs.declared.board.Cell.TheVariants.{Home, Empty}
use Rattle.turn_lock.specs.Rule.{inner}
use Rattle.turn_lock.proofs.Seats.{closes}
use Rattle.turn_lock.proofs.Taken.{taken}
use Rattle.turn_lock.proofs.Tops.{same_desk}
use Rattle.turn_lock.proofs.lock.TurnLock.close.Goals as goal

pub unreachable-requires : goal.unreachable-requires
unreachable-requires g c = let f = c.close_with-closed.ensures.values.2 in let p = c.pass.view_is in let l = c.self.view_is in let i = c.pass.invariant in
    let k = closes (IsTurn g.S.Shard.acts g.S.Shard.together) _ _ _ _ f.0 f.1.0 f.1.1 i.idle.0 i.lives (ap (λ x. x.stands) p ∙ (c.requires.all ∙ sym (ap (λ x. x.seats) l))) in
    let at = f.4 0 (Home k.desk) k.home in c.in_default.not-Home k.desk (some-injective _ _ (sym c.take-cell.ensures.value ∙ at))

pub returns-clause-account : goal.returns-clause-account
returns-clause-account g c = let f = c.close_with-closed.ensures.values.2 in let p = c.pass.view_is in let l = c.self.view_is in let i = c.pass.invariant in
    let k = closes (IsTurn g.S.Shard.acts g.S.Shard.together) _ _ _ _ f.0 f.1.0 f.1.1 i.idle.0 i.lives (ap (λ x. x.stands) p ∙ (c.requires.all ∙ sym (ap (λ x. x.seats) l))) in
    subst (λ (x : ℕ × PassParts g.row.S.Denot g.row.S-Event.Denot g.row.S-Answer.Denot). Account x.0 (passes_of x.1) x.1.seen) (λ j. (ap (λ x. x.seats) l j, p j)) k.account

pub returns-clause-left : goal.returns-clause-left
returns-clause-left g c = let f = c.close_with-closed.ensures.values.2 in let p = c.pass.view_is in let l = c.self.view_is in let i = c.pass.invariant in
    let k = closes (IsTurn g.S.Shard.acts g.S.Shard.together) _ _ _ _ f.0 f.1.0 f.1.1 i.idle.0 i.lives (ap (λ x. x.stands) p ∙ (c.requires.all ∙ sym (ap (λ x. x.seats) l))) in
    let at = f.4 0 (Home k.desk) k.home in let is : Home k.desk ≡ c.take-cell.result = some-injective _ _ (sym at ∙ c.take-cell.ensures.value) in
    let S : Type 0 = g.row.S.Denot in let L : Type 0 = List (Entry g.row.S-Event.Denot g.row.S-Answer.Denot) in
    let desk : k.desk ≡ c.in-Home.desk = same_desk c.take-cell.result k.desk c.in-Home.desk (sym is) c.in-Home.is in
    subst (λ (x : S × L × S). Leaves (IsTurn g.S.Shard.acts g.S.Shard.together) x.0 x.1 x.2) (λ j. (ap (λ x. x.first) l j, ap (λ x. x.seen) p j, (ap inner desk ∙ sym c.into_inner.ensures) j)) k.left

pub loop-slot-init : goal.loop-slot-init
loop-slot-init g c = let f = c.close_with-closed.ensures.values.2 in let p = c.pass.view_is in let l = c.self.view_is in let i = c.pass.invariant in
    let k = closes (IsTurn g.S.Shard.acts g.S.Shard.together) _ _ _ _ f.0 f.1.0 f.1.1 i.idle.0 i.lives (ap (λ x. x.stands) p ∙ (c.requires.all ∙ sym (ap (λ x. x.seats) l))) in
    let kept = c.take-cell.ensures.others.0 in let counts = c.self.invariant in
    let full : Filled (slots_filled c.close_with-closed.result.slots) 0 c.self.inside.words = subst (λ h. Filled (slots_filled c.close_with-closed.result.slots) 0 h)
    (c.close_with-closed.ensures.counts.1 ∙ counts.2) c.close_with-closed.ensures.values.1 in
    let t = taken (slots_filled c.close_with-closed.result.slots) (slots_filled c.take-cell.new.self.slots) 0 c.self.inside.words c.take-cell.ensures.others.1 full (λ k low. absurd (omega arith)) in (
      t.0,
      t.1,
      search rules,
      λ m pos low. let n : ℕ = m - 1 in let back : suc n ≡ m = omega arith in
          subst (λ (q : ℕ). get_elem? (slots_items c.take-cell.new.self.slots) q ≡ some Empty) back (ap (λ z. get_elem? z (suc n)) kept ∙ f.4 (suc n) Empty (k.bare n (let w = counts.1 in omega arith))),
    )

pub loop-slot-preserved : goal.loop-slot-preserved
loop-slot-preserved g c = let i = c.loop-slot.invariant in
    let t = taken (slots_filled c.loop-slot.closed.slots) (slots_filled c.take.new.self.slots) c.loop-slot.slot c.self.inside.words c.take.ensures.others.1 i.0 i.1 in
    (t.0, t.1, search rules, λ m pos low. ap (λ z. get_elem? z m) c.take.ensures.others.0 ∙ i.3 m pos low)
