use Rattle.std.proofs.Common.{◌≡◌, ◌∙◌, refl, arith, to_z, of_z, w64}
use Rattle.std.specs.Prelude.{Ok, Err, Some, None}
use Rattle.std.proofs.lemmas.Int.{to_z-of_z}
use Rattle.share_part.proofs.Keeping.{granted_own, moments_own, stored_own}
use Rattle.share_part.proofs.storing.store_alone.Goals as goal

pub write_reserved-requires : goal.write_reserved-requires
write_reserved-requires g c =
    let same : to_z w64 (of_z w64 c.start_number.result) ≡ c.start_number.result = grind (arith, to_z-of_z) in
    granted_own c.args.states.now.entries c.args.key.now c.args.start _ c.args.runs.now c.args.states.now.room (same ∙ c.start_number.ensures) c.requires.reserved c.requires.granted

pub returns-in-Ok-clause-once : goal.returns-in-Ok-clause-once
returns-in-Ok-clause-once g c =
    let same : to_z w64 (of_z w64 c.start_number.result) ≡ c.start_number.result = grind (arith, to_z-of_z) in
    stored_own c.args.states.now.entries c.args.key.now c.args.start _ c.args.runs.now c.args.states.now.room (same ∙ c.start_number.ensures) c.requires.reserved
    g.D.Disk.seen c.args.states.now c.write_reserved.new.self (Ok c.in-Ok.field-0) None refl c.in-Ok.ensures.once c.in-Ok.ensures.stored

pub returns-in-Err-clause-once : goal.returns-in-Err-clause-once
returns-in-Err-clause-once g c =
    let same : to_z w64 (of_z w64 c.start_number.result) ≡ c.start_number.result = grind (arith, to_z-of_z) in
    stored_own c.args.states.now.entries c.args.key.now c.args.start _ c.args.runs.now c.args.states.now.room (same ∙ c.start_number.ensures) c.requires.reserved
    g.D.Disk.seen c.args.states.now c.write_reserved.new.self (Err c.in-Err.fault) (Some c.in-Err.fault) refl c.in-Err.ensures.once c.in-Err.ensures.stored

pub returns-in-Ok-clause-moments : goal.returns-in-Ok-clause-moments
returns-in-Ok-clause-moments g c =
    let same : to_z w64 (of_z w64 c.start_number.result) ≡ c.start_number.result = grind (arith, to_z-of_z) in
    moments_own c.args.states.now.entries c.args.key.now c.args.start _ c.args.runs.now c.args.states.now.room (same ∙ c.start_number.ensures) c.requires.reserved
    g.D.Disk.seen c.args.states.now c.write_reserved.new.self (Ok c.in-Ok.field-0) c.in-Ok.ensures.once

pub returns-in-Err-clause-moments : goal.returns-in-Err-clause-moments
returns-in-Err-clause-moments g c =
    let same : to_z w64 (of_z w64 c.start_number.result) ≡ c.start_number.result = grind (arith, to_z-of_z) in
    moments_own c.args.states.now.entries c.args.key.now c.args.start _ c.args.runs.now c.args.states.now.room (same ∙ c.start_number.ensures) c.requires.reserved
    g.D.Disk.seen c.args.states.now c.write_reserved.new.self (Err c.in-Err.fault) c.in-Err.ensures.once

pub returns-in-Ok-clause-alone : goal.returns-in-Ok-clause-alone
returns-in-Ok-clause-alone g c = let a = c.in-Ok.ensures.alone in record { same = a.same; other = a.other; quiet = a.quiet }

pub returns-in-Err-clause-alone : goal.returns-in-Err-clause-alone
returns-in-Err-clause-alone g c = let a = c.in-Err.ensures.alone in record { same = a.same; other = a.other; quiet = tt }
