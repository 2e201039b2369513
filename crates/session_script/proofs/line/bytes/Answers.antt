use Rattle.std.proofs.Common.{inl, inr, arith, rules}
use Rattle.session_script.proofs.Sayings.{bytes_too_few_or_many, bytes_no_hex, bytes_say}
use Rattle.session_script.proofs.line.bytes.Goals as goal
use Rattle.session_script.proofs.line.bytes.Goals.{then-is_empty-via-then-is_empty, then-is_empty-via-else-is_empty+then-digits}

pub returns-then-is_empty : goal.returns-then-is_empty
returns-then-is_empty c = bytes_too_few_or_many c.args.rest.now c.in-Some.digits.now c.in-Some.conn c.in-Some.ensures
    (elim c.then-is_empty.branch [
      | then-is_empty-via-then-is_empty w ↦ inl (search rules)
      | then-is_empty-via-else-is_empty+then-digits w ↦ inr
          (omega (arith, w.if-digits.true))
    ])

pub returns-in-Some-2 : goal.returns-in-Some-2
returns-in-Some-2 c = bytes_say c.args.rest.now c.in-Some.digits.now c.new.result c.in-Some.conn c.in-Some.ensures (search rules) (search rules)
    (omega (arith, c.if-digits.false))

pub returns-in-None : goal.returns-in-None
returns-in-None c = bytes_no_hex c.args.rest.now c.in-Some.digits.now c.in-Some.conn c.in-Some.ensures (search rules)
