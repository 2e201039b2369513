use Rattle.std.proofs.Common.{◌≡◌, refl, sym, ◌∙◌, rules}
use Rattle.broker_hosts.specs.declared.slot.PartState.TheVariants.{Open}
use Rattle.broker_hosts.specs.declared.fault.CoreOpen.TheVariants.{Device}
use Rattle.broker_core.proofs.power.lose_part.Goals as goal

pub returns-in-Ok-clause-ok : goal.returns-in-Ok-clause-ok
returns-in-Ok-clause-ok g c =
    let is : c.args.slot.now.state ≡ Open c.in-Open.part = search rules in
    record {
      was = c.in-Open.part;
      is = c.in-Ok.part;
      old_is = is;
      new_is = refl;
      topic = refl;
      conf = refl;
      goes = record { log = c.in-Ok.ensures.log; first = c.in-Ok.ensures.first; second = c.in-Ok.ensures.second };
      images = c.in-Ok.ensures.images;
      reopens = c.in-Ok.ensures.ok;
    }

pub returns-in-Err-clause-stopped : goal.returns-in-Err-clause-stopped
returns-in-Err-clause-stopped g c =
    let is : c.args.slot.now.state ≡ Open c.in-Open.part = search rules in
    record {
      was = c.in-Open.part;
      log = c.in-Err.disks.0;
      first = c.in-Err.disks.1;
      second = c.in-Err.disks.2;
      old_is = is;
      new_is = refl;
      topic = refl;
      conf = refl;
      on_log = c.in-Err.ensures.log;
      on_first = c.in-Err.ensures.first;
      on_second = c.in-Err.ensures.second;
      images = c.in-Err.ensures.images;
      shuts = λ s k. (let v = c.in-Err.ensures.err s k in (v.0, c.told.ensures.memory v.1));
      device = λ e. c.in-Err.ensures.device (sym (c.told.ensures.reopen Device e).0);
      never = λ f e. (let r = c.told.ensures.reopen f e in (λ b. c.in-Err.ensures.no_bay (sym r.0 ∙ b), r.1));
    }
