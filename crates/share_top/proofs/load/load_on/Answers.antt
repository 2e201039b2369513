use Rattle.std.proofs.Common.{inl, inr, refl, sym, ap, ◌∙◌, subst, is_some}
use Rattle.edge_io.specs.Armed.{RunsOn}
use Rattle.share_top.specs.Changes.{bay_change, input_change, output_change}
use Rattle.share_top.specs.Loading.{StoresIn, DamagesIn, FailsWithMemory, HasNoRoomIn}
use Rattle.share_top.specs.Loads.{FailsFed, IsGrown, LacksRoom}
use Rattle.edge_io.proofs.Runs.{runs_then}
use Rattle.share_top.proofs.Apart.{runs_back, slot_then}
use Rattle.share_top.proofs.LoadBays.{weakens, stores, lacks, stays, damages, none_starved, fed_as, rises, rose_on, not_loaded, with_memory}
use Rattle.share_top.proofs.load.load_on.Goals as goal

pub returns-in-Ok-open-clause-loads : goal.returns-in-Ok-open-clause-loads
returns-in-Ok-open-clause-loads g c =
    let last = c.load_into-status.new.log.journal.disk in
    let opened = c.in-Ok-open.ensures.runs in
    let run = c.load_into-status.ensures.runs in
    let given = c.in-Ok.ensures.given in
    inl (weakens (input_change g.I.Source.left g.I.Source.ended g.I.Source.faults c.args.input.now c.load_into-status.new.input)
    (output_change g.O.Sink.held g.O.Sink.faults c.args.output.now c.load_into-status.new.output)
    (IsGrown g.B.D.Disk.seen c.in-Ok-open.log c.load_into-status.new.log)
    (StoresIn (bay_change g.B.Bay.seen g.B.D.Disk.seen c.args.bay.now c.put_back.new.self) c.args.name.now)
    (LacksRoom c.in-Ok-open.log) (HasNoRoomIn (bay_change g.B.Bay.seen g.B.D.Disk.seen c.args.bay.now c.put_back.new.self) c.args.name.now)
    (FailsFed g.B.D.Disk.seen c.starved-starved.result c.in-Ok-open.log.journal.disk last)
    (FailsWithMemory (bay_change g.B.Bay.seen g.B.D.Disk.seen c.args.bay.now c.put_back.new.self) c.args.name.now)
    (stores g.B.Bay.seen g.B.D.Disk.seen c.args.name.now c.args.bay.now c.take.new.self c.put_back.new.self
    c.in-Ok.disk c.into_disk.result given c.in-Ok.ensures.told c.put_back.ensures.there
    (ap (λ (d : g.row.B-D.Denot). is_some (g.B.D.Disk.seen d).content) c.into_disk.ensures ∙ run.told ∙ opened.told)
    (λ d x e. (g.met.B.D.Disk.read_is_image d x e).0) c.in-Ok-open.log c.load_into-status.new.log c.into_disk.ensures c.in-Ok-open.ensures.opens)
    (lacks g.B.Bay.seen g.B.D.Disk.seen c.args.name.now c.args.bay.now c.take.new.self c.put_back.new.self
    c.in-Ok.disk c.into_disk.result given c.in-Ok.ensures.told c.put_back.ensures.there
    (ap (λ (d : g.row.B-D.Denot). is_some (g.B.D.Disk.seen d).content) c.into_disk.ensures ∙ run.told ∙ opened.told)
    c.in-Ok-open.log c.in-Ok-open.ensures.kept c.in-Ok-open.ensures.opens c.in-Ok-open.ensures.ends)
    (λ fails. with_memory g.B.Bay.seen g.B.D.Disk.seen c.args.name.now c.args.bay.now c.take.new.self c.put_back.new.self
    c.into_disk.result c.starved-starved.result c.in-Ok.ensures.told c.put_back.ensures.there
    (rises g.B.Bay.seen g.B.D.Disk.seen c.args.name.now c.args.bay.now c.take.new.self c.put_back.new.self
    c.in-Ok.disk ((g.B.Bay.seen c.take.new.self).taken c.args.name.now) (g.B.D.Disk.seen last).faults c.put_back.ensures.taken c.in-Ok.ensures.is_out.1 c.in-Ok.ensures.cause.later
    (rw (← c.into_disk.ensures) c.put_back.ensures.counts) (rose_on _ _ _ opened.later fails.rose))
    (ap (λ (d : g.row.B-D.Denot). (g.B.D.Disk.seen d).starved) c.into_disk.ensures ∙ fails.disk) fails.bay
    (c.put_back.ensures.starved ∙ sym c.starved-starved.ensures))
    c.load_into-status.result c.load_into-status.ensures.loaded)

pub returns-in-Err-clause-loads : goal.returns-in-Err-clause-loads
returns-in-Err-clause-loads g c =
    let given = c.in-Ok.ensures.given in
    let runs = c.in-Err.ensures.runs in
    inr (
      refl,
      stays g.B.Bay.seen g.B.D.Disk.seen c.args.name.now c.args.bay.now c.take.new.self c.put_back-in-Err.new.self
          c.in-Ok.disk c.in-Err.disk given c.in-Ok.ensures.told c.put_back-in-Err.ensures.there runs.told g.met.B.D.Disk.counts_now
          c.in-Err.ensures.any_moment,
      not_loaded (output_change g.O.Sink.held g.O.Sink.faults c.args.output.now c.refuse_log.new.output) c.args.name.now c.in-Err.fault
          (DamagesIn (bay_change g.B.Bay.seen g.B.D.Disk.seen c.args.bay.now c.put_back-in-Err.new.self) c.args.name.now)
          (FailsWithMemory (bay_change g.B.Bay.seen g.B.D.Disk.seen c.args.bay.now c.put_back-in-Err.new.self) c.args.name.now)
          (damages g.B.Bay.seen g.B.D.Disk.seen c.args.name.now c.args.bay.now c.take.new.self c.put_back-in-Err.new.self
          c.in-Ok.disk given c.in-Err.fault c.in-Err.ensures.damaged)
          c.refuse_log.result
          (λ told is.
          let fed = none_starved c.starved-starved.result (g.B.D.Disk.seen c.in-Err.disk).starved (fed_as c.starved-starved.result _ _ c.starved-in-Err.ensures (c.refuse_log.ensures.fed told)) in
          with_memory g.B.Bay.seen g.B.D.Disk.seen c.args.name.now c.args.bay.now c.take.new.self c.put_back-in-Err.new.self
          c.in-Err.disk c.starved-starved.result c.in-Ok.ensures.told c.put_back-in-Err.ensures.there
          (rises g.B.Bay.seen g.B.D.Disk.seen c.args.name.now c.args.bay.now c.take.new.self c.put_back-in-Err.new.self
          c.in-Ok.disk ((g.B.Bay.seen c.take.new.self).taken c.args.name.now) (g.B.D.Disk.seen c.in-Err.disk).faults c.put_back-in-Err.ensures.taken c.in-Ok.ensures.is_out.1 c.in-Ok.ensures.cause.later
          c.put_back-in-Err.ensures.counts (c.in-Err.ensures.device is).0) fed.1 fed.0 (c.put_back-in-Err.ensures.starved ∙ sym c.starved-starved.ensures))
          c.refuse_log.result refl c.refuse_log.ensures.refusal,
    )

-- ---- other disks, and arms of this one

pub returns-in-Ok-open-clause-others : goal.returns-in-Ok-open-clause-others
returns-in-Ok-open-clause-others g c = λ m not.
    slot_then g.B.Bay.seen m c.args.bay.now c.take.new.self c.put_back.new.self (c.take.ensures.others m not) (c.put_back.ensures.others m not)

pub returns-in-Err-clause-others : goal.returns-in-Err-clause-others
returns-in-Err-clause-others g c = λ m not.
    slot_then g.B.Bay.seen m c.args.bay.now c.take.new.self c.put_back-in-Err.new.self (c.take.ensures.others m not)
    (c.put_back-in-Err.ensures.others m not)

pub returns-in-Ok-open-clause-runs : goal.returns-in-Ok-open-clause-runs
returns-in-Ok-open-clause-runs g c =
    runs_back g.B.Bay.seen g.B.D.Disk.seen c.args.name.now
    c.args.bay.now c.put_back.new.self c.take.new.self c.in-Ok.disk c.into_disk.result c.in-Ok.ensures.given c.take.ensures.told c.put_back.ensures.there
    (subst (λ (d : g.row.B-D.Denot). RunsOn g.B.D.Disk.seen c.in-Ok.disk d)
    (sym c.into_disk.ensures)
    (runs_then g.B.D.Disk.seen c.in-Ok.disk
    c.in-Ok-open.log.journal.disk c.load_into-status.new.log.journal.disk c.in-Ok-open.ensures.runs c.load_into-status.ensures.runs))

pub returns-in-Err-clause-runs : goal.returns-in-Err-clause-runs
returns-in-Err-clause-runs g c =
    runs_back g.B.Bay.seen g.B.D.Disk.seen c.args.name.now
    c.args.bay.now c.put_back-in-Err.new.self c.take.new.self c.in-Ok.disk c.in-Err.disk c.in-Ok.ensures.given c.take.ensures.told
    c.put_back-in-Err.ensures.there c.in-Err.ensures.runs
