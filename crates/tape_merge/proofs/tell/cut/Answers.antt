use Rattle.std.proofs.Common.{◌<◌, ◌≤◌, ◌∙◌, length, arith, refl}
use Rattle.tape_merge.proofs.Tellings.{few_left, few_taken}
use Rattle.tape_merge.proofs.tell.cut.Goals as goal

pub returns-then-few-clause-some : goal.returns-then-few-clause-some
returns-then-few-clause-some c =
    let some : 0 < length c.args.bytes.now = omega arith in
    let few : length c.args.bytes.now ≤ 65536 = omega arith in (
      some,
      c.split_at-all.ensures.front ∙ few_taken c.args.bytes.now (length c.args.bytes.now) refl few,
      c.split_at-all.ensures.back ∙ few_left c.args.bytes.now (length c.args.bytes.now) refl few,
    )

pub returns-clause-some : goal.returns-clause-some
returns-clause-some c =
    let some : 0 < length c.args.bytes.now = omega arith in
    (some, c.split_at-parts.ensures.front, c.split_at-parts.ensures.back)
