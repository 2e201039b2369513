use Rattle.std.proofs.Common.{◌≡◌, ◌+◌, ◌++◌, ◌∙◌, ℕ, pos, length, sym, ap, subst}
use Rattle.std.specs.Int.{w32}
use Rattle.flex_fields.specs.Writing.{int_bytes, uvarint_bytes}
use Rattle.msgs_base.proofs.Alike.{TellsBehind, whole_reply}
use Rattle.msgs_base.proofs.coordinator_of_all.write_coordinator_of_all.Goals as goal

pub returns : goal.returns
returns c =
    let tells : TellsBehind c.args.told.now c.as_slice-behind.result.now =
    subst (TellsBehind c.args.told.now) (sym c.as_slice-behind.ensures) c.in_ok-behind.ensures in
    let front : c.reserve_exact.new.self.items ≡ int_bytes w32 (pos 0) ++ uvarint_bytes (length c.args.keys.now + 1) =
    c.in_ok-reserve_exact.ensures.items ∙ c.in_ok-body.ensures ∙ ap (λ (n : ℕ). int_bytes w32 (pos 0) ++ uvarint_bytes (n + 1)) c.len.ensures.count in
    c.new.ensures
    ∙ whole_reply c.args.told.now c.as_slice-behind.result.now c.args.keys.now c.push.new.self.items c.reserve_exact.new.self.items
    c.put_before.new.out.items tells front c.in_ok-put_before.ensures c.in_ok-push.ensures.items
