-- What is written of a structure's mark and of the structure is written of both.
use Rattle.std.proofs.Common.{◌≡◌, pos, List, ℕ, ◌++◌, refl, ap, subst, sym, ◌∙◌, append_assoc}
use Rattle.std.specs.Prelude.{Option, Some, Result, Ok, Err, OnOk}
use Rattle.std.specs.Int.{w8}
use Rattle.flex_fields.specs.Writing.{int_bytes}
use Rattle.flex_fields.specs.Formats.{Format, Writes, int8}
use Rattle.msgs_group.specs.HeartbeatReply.{optional}

pub some_put : {A X E : Type 0} (f : Format A) (a b c : List ℕ) (x : A) (value : Option A) (result : Result X E) → value ≡ Some x
    → Writes int8 a b (pos 1) → OnOk result (Writes f b c x) → OnOk result (Writes (optional f) a c value)
some_put f a b c x value (Ok y) is p q = subst (λ v. Writes (optional f) a c v) (sym is) (record {
  appended = q.appended ∙ ap (λ (l : List ℕ). l ++ f.bytes x) p.appended ∙ append_assoc a (int_bytes w8 (pos 1)) (f.bytes x);
  stands = (int_bytes w8 (pos 1), f.bytes x, p.stands, q.stands, refl);
})
some_put f a b c x value (Err e) is p q = tt
