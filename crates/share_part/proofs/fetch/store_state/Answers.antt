use Rattle.std.proofs.Common.{◌≡◌, refl, rules, subst, sym, to_z, w64}
use Rattle.std.specs.Prelude.{pos, Ok, Err}
use Rattle.coord_checkpoint.specs.Disks.{HasFailed}
use Rattle.share_coord.specs.declared.fault.CoordFault.{CoordFault}
use Rattle.share_model.specs.declared.visit.ThenOutcome.TheVariants.{Store as store_outcome}
use Rattle.share_part.specs.Making.{Tells}
use Rattle.share_part.proofs.Planning.{made_of}
use Rattle.share_part.proofs.fetch.store_state.Goals as goal

pub returns-in-Ok-clause-absent : goal.returns-in-Ok-clause-absent
returns-in-Ok-clause-absent g c = let number : to_z w64 c.args.start ≡ pos c.args.start = search rules in
    λ none. made_of g.D.Disk.seen (HasFailed g.D.Disk.seen) _ _ _ _ _ c.args.start number _ refl c.in-Ok.ensures.once c.in-Ok.ensures.stored

pub returns-in-Err-Store-clause-absent : goal.returns-in-Err-Store-clause-absent
returns-in-Err-Store-clause-absent g c = let number : to_z w64 c.args.start ≡ pos c.args.start = search rules in
    λ none. made_of g.D.Disk.seen (HasFailed g.D.Disk.seen) _ _ _ _ _ c.args.start number _
    (subst (λ (e : CoordFault). Tells {T = Unit {0}} (Err e) (Ok (store_outcome c.in-Err-Store.fault))) (sym c.in-Err-Store.field-0-is) refl) c.in-Err-Store.ensures.once c.in-Err-Store.ensures.stored
