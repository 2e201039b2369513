use Rattle.std.proofs.Common.{◌≡◌, ◌+◌, ◌++◌, [], length, sym, ap, ◌∙◌, append-nil, length-append, arith}
use Rattle.rec_batch.specs.Written.{record_bytes, records_bytes}
use Rattle.rec_batch.proofs.WrittenSizes.{no_length, part_small, parts_more, records-nil, records_many}
use Rattle.rec_batch.proofs.write.put_records.Goals as goal

pub put_record-requires : goal.put_record-requires
put_record-requires c =
    let all = records_bytes 0 c.args.records.now in
    record {
      few = omega (arith, c.loop-first.invariant.number, records_many 0 c.args.records.now, c.in-Some.ensures.cases.1);
      small =
          let part = part_small c.loop-first.out c.args.out.now all c.loop-first.delta c.loop-first.rest.now c.in-Some.others.now
          c.in-Some.first.now c.in-Some.ensures.cases.0 c.loop-first.invariant.whole c.loop-first.invariant.grown in
          omega (arith, part);
    }

pub overflow_add-delta : goal.overflow_add-delta
overflow_add-delta c = omega (arith, c.loop-first.invariant.number, records_many 0 c.args.records.now, c.in-Some.ensures.cases.1)

pub loop-first-preserved : goal.loop-first-preserved
loop-first-preserved c =
    let all = records_bytes 0 c.args.records.now in
    let out = c.in_ok-put_record.ensures in
    record {
      whole = ap (λ l. l ++ records_bytes (c.loop-first.delta + 1) c.in-Some.others.now) out
          ∙ parts_more c.loop-first.out c.args.out.now all c.loop-first.delta c.loop-first.rest.now c.in-Some.others.now c.in-Some.first.now c.in-Some.ensures.cases.0 c.loop-first.invariant.whole;
      grown = omega (arith, ap length out, length-append c.loop-first.out (record_bytes c.loop-first.delta c.in-Some.first.now), c.loop-first.invariant.grown);
      number = omega (arith, c.loop-first.invariant.number, c.in-Some.ensures.cases.1);
    }

pub returns : goal.returns
returns c =
    let none : c.loop-first.rest.now ≡ [] = no_length c.loop-first.rest.now c.in_default.ensures.cases in
    sym (ap (λ l. c.loop-first.out ++ l) (ap (records_bytes c.loop-first.delta) none ∙ records-nil c.loop-first.delta) ∙ append-nil c.loop-first.out) ∙ c.loop-first.invariant.whole
