use Rattle.std.proofs.Common.{ap, subst, ◌∙◌, arith}
use Rattle.state_records.specs.Reading.{Gives, record_at}
use Rattle.state_records.proofs.Whole.{is_found, record_again}
use Rattle.state_records.proofs.reading.read_record.Goals as goal

pub returns-clause-found : goal.returns-clause-found
returns-clause-found c = is_found c.args.bytes.now c.read_whole.result (λ i. omega (arith, c.type_inv.bytes i)) c.read_whole.ensures

pub returns-clause-only : goal.returns-clause-only
returns-clause-only c = λ r good e. subst (λ f. Gives (λ x. x) c.read_whole.result f) (ap record_at e ∙ record_again r good) c.read_whole.ensures
