use Rattle.std.proofs.Common.{inl, inr, refl, sym, ◌∙◌}
use Rattle.std.specs.Cmp.Lexicographic.{same_text, other_text}
use Rattle.broker_core.proofs.arms.arm_foreign.Goals as goal

pub returns-then-eq : goal.returns-then-eq
returns-then-eq g c =
    let same = same_text c.as_bytes.result.now c.as_bytes-in-Open.result.now c.if-eq.ensures in
    let a = c.arm.ensures.first refl in
    record {
      was = c.in-Open.shard;
      is = c.arm.new.self;
      old_is = c.in-Open.is;
      new_is = refl;
      either = inl (sym c.as_bytes.ensures.same ∙ same ∙ c.as_bytes-in-Open.ensures.same ∙ c.foreign_state_a.ensures, a.0, a.1);
      end = c.arm.ensures.end;
      stays = c.arm.ensures.stays;
    }

pub returns-then-eq-2 : goal.returns-then-eq-2
returns-then-eq-2 g c =
    let same = same_text c.as_bytes-else-eq.result.now c.as_bytes-else-eq-2.result.now c.if-eq-2.ensures in
    let a = c.arm-then-eq-2.ensures.second refl in
    record {
      was = c.in-Open.shard;
      is = c.arm-then-eq-2.new.self;
      old_is = c.in-Open.is;
      new_is = refl;
      either = inr (inl (sym c.as_bytes-else-eq.ensures.same ∙ same ∙ c.as_bytes-else-eq-2.ensures.same ∙ c.foreign_state_b.ensures, a.0, a.1));
      end = c.arm-then-eq-2.ensures.end;
      stays = c.arm-then-eq-2.ensures.stays;
    }

pub returns-else-eq-2 : goal.returns-else-eq-2
returns-else-eq-2 g c = record {
  was = c.in-Open.shard;
  is = c.in-Open.shard;
  old_is = c.in-Open.is;
  new_is = refl;
  either = inr (inr (
    λ e. other_text c.as_bytes.result.now c.as_bytes-in-Open.result.now c.if-eq.ensures (c.as_bytes.ensures.same ∙ e ∙ sym c.foreign_state_a.ensures ∙ sym c.as_bytes-in-Open.ensures.same),
    λ e. other_text c.as_bytes-else-eq.result.now c.as_bytes-else-eq-2.result.now c.if-eq-2.ensures
        (c.as_bytes-else-eq.ensures.same ∙ e ∙ sym c.foreign_state_b.ensures ∙ sym c.as_bytes-else-eq-2.ensures.same),
    refl,
  ));
  end = refl;
  stays = λ s k. k;
}
