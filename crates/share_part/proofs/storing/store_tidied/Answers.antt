use Rattle.std.proofs.Common.{◌≡◌, ◌∙◌, refl, arith, to_z, of_z, w64}
use Rattle.std.specs.Prelude.{Ok, Err, Some, None}
use Rattle.std.proofs.lemmas.Int.{to_z-of_z}
use Rattle.share_part.proofs.Failing.{run_then}
use Rattle.share_part.proofs.Keeping.{granted_behind, stored_behind}
use Rattle.share_part.proofs.storing.store_tidied.Goals as goal

pub write_reserved-requires : goal.write_reserved-requires
write_reserved-requires g c =
    let same : to_z w64 (of_z w64 c.start_number.result) ≡ c.start_number.result = grind (arith, to_z-of_z) in
    granted_behind g.D.Disk.seen
    c.args.states.now c.tidy.new.self c.tidy.new.self c.args.key.now c.args.start _ c.args.runs.now (same ∙ c.start_number.ensures) c.requires.reserved c.requires.granted
    c.tidy.ensures.tidies

pub returns-in-Ok-clause-once : goal.returns-in-Ok-clause-once
returns-in-Ok-clause-once g c =
    let same : to_z w64 (of_z w64 c.start_number.result) ≡ c.start_number.result = grind (arith, to_z-of_z) in
    stored_behind g.D.Disk.seen
    c.args.states.now c.tidy.new.self c.write_reserved.new.self c.args.key.now c.args.start _ c.args.runs.now (same ∙ c.start_number.ensures) c.requires.reserved c.requires.granted
    c.tidy.ensures.tidies c.known.ensures (Ok c.in-Ok.field-0) c.in-Ok.ensures.alone c.in-Ok.ensures.once c.in-Ok.ensures.stored None refl

pub returns-in-Err-clause-once : goal.returns-in-Err-clause-once
returns-in-Err-clause-once g c =
    let same : to_z w64 (of_z w64 c.start_number.result) ≡ c.start_number.result = grind (arith, to_z-of_z) in
    stored_behind g.D.Disk.seen
    c.args.states.now c.tidy.new.self c.write_reserved.new.self c.args.key.now c.args.start _ c.args.runs.now (same ∙ c.start_number.ensures) c.requires.reserved c.requires.granted
    c.tidy.ensures.tidies c.known.ensures (Err c.in-Err.fault) c.in-Err.ensures.alone c.in-Err.ensures.once c.in-Err.ensures.stored (Some c.in-Err.fault) refl

pub returns-in-Ok-clause-room : goal.returns-in-Ok-clause-room
returns-in-Ok-clause-room g c = c.in-Ok.ensures.room ∙ c.tidy.ensures.room

pub returns-in-Err-clause-room : goal.returns-in-Err-clause-room
returns-in-Err-clause-room g c = c.in-Err.ensures.room ∙ c.tidy.ensures.room

pub returns-in-Ok-clause-runs : goal.returns-in-Ok-clause-runs
returns-in-Ok-clause-runs g c = run_then g.D.Disk.seen c.args.states.now c.tidy.new.self c.write_reserved.new.self c.tidy.ensures.tidies.journal.runs c.in-Ok.ensures.runs

pub returns-in-Err-clause-runs : goal.returns-in-Err-clause-runs
returns-in-Err-clause-runs g c = run_then g.D.Disk.seen c.args.states.now c.tidy.new.self c.write_reserved.new.self c.tidy.ensures.tidies.journal.runs c.in-Err.ensures.runs
