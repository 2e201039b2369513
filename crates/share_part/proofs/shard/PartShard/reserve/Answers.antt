use Rattle.std.proofs.Common.{◌≡◌, ap, arith, subst, sym}
use Rattle.std.proofs.lemmas.Result.{on_err_weaker, on_ok_weaker}
use Rattle.part_log.specs.Logs.{log_in}
use Rattle.share_coord.specs.Parts.{StoreParts}
use Rattle.share_coord.specs.States.{states_of}
use Rattle.share_coord.specs.Stored.{Entries}
use Rattle.share_model.specs.ForeignRules.{share_state_at}
use Rattle.share_part.specs.Hosting.{AreHosted, KeepsHolds, key_of}
use Rattle.share_part.specs.Shards.{held_in}
use Rattle.share_part.proofs.Spares.{spare_enough, spare_stays, with_states}
use Rattle.share_part.proofs.shard.PartShard.reserve.Goals as goal

pub invariant_of-self : goal.invariant_of-self
invariant_of-self g c =
    let same : c.reserve.new.self.entries ≡ c.self.inside.states.entries = ap (λ (s : StoreParts g.row.D.Denot). s.entries) c.reserve.ensures.same in
    record {
      log_is = c.self.invariant.log_is;
      within = c.self.invariant.within;
      hosted = subst (λ (e : Entries). AreHosted c.self.inside.conf (log_in c.self.inside.log) (states_of e)) (sym same) c.self.invariant.hosted;
      holds = λ group. subst (λ (e : Entries). KeepsHolds c.self.inside.log.batches (share_state_at (states_of e) (key_of c.self.inside.conf group))
          (held_in g.W.Window.held c.self.inside.windows.entries group)) (sym same) (c.self.invariant.holds group);
      moment = c.self.invariant.moment;
      scratch = c.self.invariant.scratch;
      room = (let enough = c.self.invariant.room in let kept = c.reserve.ensures.kept in omega (arith, enough, kept));
    }

pub returns-clause-ok : goal.returns-clause-ok
returns-clause-ok g c = on_ok_weaker c.reserve.result (λ enough. spare_enough c.reserve.new.self.room c.args.n enough (omega (arith, c.ranges.n))) c.reserve.ensures.ok

pub returns-clause-err : goal.returns-clause-err
returns-clause-err g c = rw (← c.self.view_is) (on_err_weaker c.reserve.result
    (λ same. ap (with_states (record { conf = c.self.inside.conf; log = c.self.inside.log; states = c.self.inside.states; windows = c.self.inside.windows.entries; clock = c.self.inside.clock })) same)
    c.reserve.ensures.err)

pub returns-clause-same : goal.returns-clause-same
returns-clause-same g c = rw (← c.self.view_is)
    (ap (with_states (record { conf = c.self.inside.conf; log = c.self.inside.log; states = c.self.inside.states; windows = c.self.inside.windows.entries; clock = c.self.inside.clock })) c.reserve.ensures.same)

pub returns-clause-kept : goal.returns-clause-kept
returns-clause-kept g c = rw (← c.self.view_is) (spare_stays c.self.inside.states.room c.reserve.new.self.room c.self.invariant.room c.reserve.ensures.kept)

pub returns-clause-spared : goal.returns-clause-spared
returns-clause-spared g c = λ few. c.reserve.ensures.spared c.self.invariant.room
