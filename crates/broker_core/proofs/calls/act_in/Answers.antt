use Rattle.std.proofs.Common.{◌≡◌, false}
use Rattle.broker_shards.specs.Acts.{asked_by}
use Rattle.broker_shards.specs.Acts.PartDeed.{Calls}
use Rattle.broker_core.proofs.Parting.{act_leads, act_refused, act_whole, done, slot_halts, slot_leads}
use Rattle.broker_hosts.proofs.OpeningParts.{fed_three}
use Rattle.broker_core.proofs.Stepping.{on_err}
use Rattle.broker_core.proofs.calls.act_in.Goals as goal

pub returns-in_err-told-in-Open-clause-stopped : goal.returns-in_err-told-in-Open-clause-stopped
returns-in_err-told-in-Open-clause-stopped g c =
    let goes = c.act_on_part.ensures.goes_on in
    on_err c.from_residual.result
    (slot_halts g.D.Disk.seen c.args.now (λ did. c.args.ask.now ≡ asked_by (Calls did)) c.args.slot.now c.in-Open.part c.act_on_part.new.part c.in-Open.is goes
    (act_refused g.D.Disk.seen c.in-Open.part c.act_on_part.new.part goes c.args.now c.args.ask.now c.in_err-told-in-Open.ensures.acts.1))

pub returns-then-starved-clause-stopped : goal.returns-then-starved-clause-stopped
returns-then-starved-clause-stopped g c =
    let goes = c.act_on_part.ensures.goes_on in
    slot_halts g.D.Disk.seen c.args.now (λ did. c.args.ask.now ≡ asked_by (Calls did)) c.args.slot.now c.in-Open.part c.act_on_part.new.part c.in-Open.is goes
    (act_whole g.D.Disk.seen c.in-Open.part c.act_on_part.new.part goes c.args.now c.args.ask.now c.in_ok-told-in-Open.told
    (done g.D.Disk.seen c.in-Open.part c.act_on_part.new.part goes c.args.now c.args.ask.now c.in_ok-told-in-Open.told c.requires.call c.in_ok-told-in-Open.ensures.acts))

pub returns-clause-ok : goal.returns-clause-ok
returns-clause-ok g c =
    let goes = c.act_on_part.ensures.goes_on in
    let no : c.starved.result ≡ false = c.if-starved.false in
    let d = done g.D.Disk.seen c.in-Open.part c.act_on_part.new.part goes c.args.now c.args.ask.now c.in_ok-told-in-Open.told c.requires.call c.in_ok-told-in-Open.ensures.acts in (
      d.did,
      d.is,
      slot_leads g.D.Disk.seen c.args.now d.did c.args.slot.now c.in-Open.part c.act_on_part.new.part c.in-Open.is goes
          (act_leads g.D.Disk.seen c.in-Open.part c.act_on_part.new.part goes c.args.now c.args.ask.now c.in_ok-told-in-Open.told d
          c.act_on_part.ensures.unused (fed_three c.starved.result _ _ _ no c.starved.ensures)),
    )
