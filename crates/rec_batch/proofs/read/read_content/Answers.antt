use Rattle.std.proofs.Common.{pos, refl, sym, ap, subst, ◌∙◌}
use Rattle.std.proofs.lemmas.Bool.{iff_false}
use Rattle.rec_batch.specs.Fields.{last_offset_delta, records_part}
use Rattle.rec_batch.specs.Verdicts.{Walks}
use Rattle.rec_batch.proofs.Contented.{all_good, deltas_bad, header_bad, last_delta_is, record_bad}
use Rattle.rec_batch.proofs.read.read_content.Goals as goal

pub returns-in-Err-clause-refused : goal.returns-in-Err-clause-refused
returns-in-Err-clause-refused c = record_bad c.args.form c.args.bytes.now c.in-Some.count c.in-Err.index c.requires.size c.requires.fields c.in-Some.ensures c.in-Err.ensures.err

pub returns-then-not-follow-clause-refused : goal.returns-then-not-follow-clause-refused
returns-then-not-follow-clause-refused c =
    deltas_bad c.args.form c.args.bytes.now c.in-Some.count c.requires.size c.requires.fields c.in-Some.ensures
    (subst (λ b. Walks c.args.form (last_offset_delta c.args.bytes.now) (records_part c.args.bytes.now) c.in-Some.count b) c.if-not-follow.true c.in-Ok.ensures.ok)

pub returns-then-not-offsets_agree-clause-refused : goal.returns-then-not-offsets_agree-clause-refused
returns-then-not-offsets_agree-clause-refused c =
    header_bad c.args.form c.args.bytes.now c.in-Some.count c.in-Ok.follow c.requires.size c.requires.fields c.in-Some.ensures c.in-Ok.ensures.ok
    (iff_false c.offsets_agree.ensures c.if-not-offsets_agree.true)

pub returns-clause-accepted : goal.returns-clause-accepted
returns-clause-accepted c =
    let agree = c.offsets_agree.ensures.0 c.if-not-offsets_agree.false in
    all_good c.args.form c.args.bytes.now c.in-Some.count _ c.requires.size c.requires.fields c.in-Some.ensures
    (subst (λ b. Walks c.args.form (last_offset_delta c.args.bytes.now) (records_part c.args.bytes.now) c.in-Some.count b) c.if-not-follow.false c.in-Ok.ensures.ok)
    agree
    (record {
      base = c.base_of.ensures;
      last_delta = ap (λ n. pos n) c.last_delta_of.ensures
          ∙ last_delta_is c.args.form c.args.bytes.now c.in-Some.count agree;
      count = sym c.in-Some.ensures;
      size = refl;
    })
