use Rattle.std.proofs.Common.{◌≡◌, ◌+◌, ◌≤◌, ◌<◌, ◌++◌, ◌∷◌, [], ℤ, List, arith, ◌∙◌, ap, sym, subst, refl, to_z, of_z, w8}
use Rattle.std.proofs.Math.Facts.{to_z-of_z}
use Rattle.share_client.specs.Readers.{LeftFrom}
use Rattle.share_client.specs.Records.{OffsetRecord}
use Rattle.share_client.proofs.Delivering.{Slotted, left_later, slotted_adds, slotted_on, slotted_starts, slotted_types}
use Rattle.share_client.proofs.grants.read_slots.Goals as goal

pub loop-offset-init : goal.loop-offset-init
loop-offset-init c = record {
  upto = omega (arith, c.requires.order);
  slotted = λ records l. subst (λ (t : List ℤ). Slotted (c.args.name.now.topic, c.args.name.now.partition) c.args.acquired.now.delivery_count c.args.first c.args.last records c.args.page.now c.args.first c.args.reader t c.args.page.now)
      (sym c.new-types.ensures.items)
      (slotted_starts (c.args.name.now.topic, c.args.name.now.partition) c.args.acquired.now.delivery_count c.args.first c.args.last records c.args.page.now c.args.reader l);
}

pub find-requires : goal.find-requires
find-requires c =
    let r = c.requires.reader in
    let s = c.loop-offset.invariant.slotted r.0 r.1 in
    (s.left.0, s.left.1)

pub loop-offset-preserved : goal.loop-offset-preserved
loop-offset-preserved c =
    let same : to_z w8 (of_z w8 c.in_ok-put_slot.field-0) ≡ c.in_ok-put_slot.field-0 = grind (arith, to_z-of_z) in
    record {
      upto = omega (arith, c.loop-offset-test.true);
      slotted = λ records l.
          subst (λ (t : List ℤ). Slotted (c.args.name.now.topic, c.args.name.now.partition) c.args.acquired.now.delivery_count c.args.first c.args.last records c.args.page.now (c.loop-offset.offset + 1) c.find.result.1 t c.put_slot.new.page)
          (sym (c.in_ok-push.ensures.items ∙ ap (λ (z : ℤ). c.loop-offset.types.items ++ z ∷ []) same))
          (slotted_on (c.args.name.now.topic, c.args.name.now.partition) c.args.acquired.now.delivery_count c.args.first c.args.last records c.args.page.now c.loop-offset.offset c.loop-offset.reader c.loop-offset.types.items c.loop-offset.page
          (c.loop-offset.invariant.slotted records l) c.loop-offset-test.true _ c.find.ensures.found c.find.result.1 c.find.ensures.left _ c.in_ok-put_slot.ensures.acknowledged c.put_slot.new.page c.in_ok-put_slot.ensures.added);
    }

pub returns-clause-acknowledged : goal.returns-clause-acknowledged
returns-clause-acknowledged c = λ records l.
    slotted_types (c.args.name.now.topic, c.args.name.now.partition) c.args.acquired.now.delivery_count c.args.first c.args.last records c.args.page.now c.loop-offset.offset c.loop-offset.reader c.loop-offset.types.items c.loop-offset.page
    (c.loop-offset.invariant.slotted records l) c.loop-offset-test.false

pub returns-clause-added : goal.returns-clause-added
returns-clause-added c = λ records l.
    slotted_adds (c.args.name.now.topic, c.args.name.now.partition) c.args.acquired.now.delivery_count c.args.first c.args.last records c.args.page.now c.loop-offset.offset c.loop-offset.reader c.loop-offset.types.items c.loop-offset.page
    (c.loop-offset.invariant.slotted records l) c.loop-offset-test.false

pub returns-clause-left : goal.returns-clause-left
returns-clause-left c = λ records l.
    left_later c.loop-offset.offset (c.args.last + 1) records c.loop-offset.reader c.loop-offset.invariant.upto (c.loop-offset.invariant.slotted records l).left
