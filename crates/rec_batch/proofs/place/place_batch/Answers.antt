use Rattle.std.proofs.Common.{sym, subst}
use Rattle.rec_batch.specs.Batches.{IsBatch}
use Rattle.rec_batch.specs.declared.form.Form.TheVariants.{Stored}
use Rattle.rec_batch.proofs.Placed.{placed_batch}
use Rattle.rec_batch.proofs.place.place_batch.Goals as goal

pub returns-clause-stands : goal.returns-clause-stands
returns-clause-stands c = λ form records b end. subst (λ l. IsBatch Stored l records) (sym c.set_place.ensures) (placed_batch form c.args.base c.args.bytes.now records c.requires.below b end)
