use Rattle.std.proofs.Common.{inl, inr, sym, ◌∙◌}
use Rattle.session_script.proofs.Hexes.{hex_of, upper_is_none, refused_is_none}
use Rattle.session_script.proofs.word.hexadecimal.Goals as goal

pub returns-then-has_uppercase : goal.returns-then-has_uppercase
returns-then-has_uppercase c = upper_is_none c.args.digits.now (sym c.has_uppercase.ensures ∙ c.if-has_uppercase.true)

pub returns-in-Ok : goal.returns-in-Ok
returns-in-Ok c = hex_of c.args.digits.now c.in-Ok.bytes.items c.in-Ok.ensures.ok (sym c.has_uppercase.ensures ∙ c.if-has_uppercase.false)

pub returns-in_default : goal.returns-in_default
returns-in_default c = elim c.in-Err.ensures.err [
  | inl e ↦ absurd (c.in_default.not-OutOfMemory e)
  | inr e ↦ refused_is_none c.args.digits.now c.in-Err.fault e
]
