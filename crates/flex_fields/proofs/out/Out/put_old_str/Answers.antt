use Rattle.std.proofs.Common.{rules, arith}
use Rattle.flex_fields.proofs.Olds.{string_writes}
use Rattle.flex_fields.proofs.out.Out.put_old_str.Goals as goal

pub returns-clause-ok : goal.returns-clause-ok
returns-clause-ok c =
    string_writes c.args.text.now c.as_bytes.result.now c.in_ok-put_i16.ensures.ok
    (grind arith) (search rules) c.as_bytes.ensures.value c.utf8.text
