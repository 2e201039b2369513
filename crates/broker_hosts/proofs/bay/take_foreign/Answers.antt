use Rattle.std.proofs.Common.{◌≡◌, ◌∷◌, [], refl, subst, List, ℕ, Err, rules}
use Rattle.broker_hosts.specs.Taking.{GetsNone, RefusesForeign}
use Rattle.broker_hosts.proofs.Pairs.{gets_states, none_both, put_state, refused_both, taken_both}
use Rattle.broker_hosts.proofs.Taking.{err_at}
use Rattle.broker_hosts.proofs.bay.take_foreign.Goals as goal

pub returns-in_err-first-clause-err : goal.returns-in_err-first-clause-err
returns-in_err-first-clause-err g c =
    let err : c.from_residual.result ≡ Err c.in_err-first.field-0.0 = search rules in
    err_at (λ e. RefusesForeign g.B.Bay.seen g.D.Disk.seen
    e c.args.bay.now c.take_two.new.bay) c.from_residual.result c.in_err-first.field-0.0 err
    (none_both g.B.Bay.seen g.D.Disk.seen
    c.args.bay.now c.take_two.new.bay c.in_err-first.field-0.0
    (subst (λ (names : List (List ℕ)). GetsNone g.B.Bay.seen names c.in_err-first.field-0.0
    c.args.bay.now c.take_two.new.bay) (λ i. c.foreign_state_a-first_name.ensures i ∷ c.foreign_state_b-second_name.ensures i ∷ []) c.in_err-first.ensures.err))

pub returns-in-Ok-clause-ok : goal.returns-in-Ok-clause-ok
returns-in-Ok-clause-ok g c = taken_both g.B.Bay.seen g.D.Disk.seen
    c.in_ok-first.first c.in_ok-first.second c.args.bay.now c.take_two.new.bay c.in-Ok.shard
    (gets_states g.B.Bay.seen g.D.Disk.seen
    c.in_ok-first.first c.in_ok-first.second c.foreign_state_a-first_name.result c.foreign_state_b-second_name.result c.args.bay.now c.take_two.new.bay
    c.foreign_state_a-first_name.ensures c.foreign_state_b-second_name.ensures c.in_ok-first.ensures.ok)
    c.in-Ok.ensures.first.later c.in-Ok.ensures.second.later c.in-Ok.ensures.opens c.in-Ok.ensures.fresh

pub returns-in-Err-clause-err : goal.returns-in-Err-clause-err
returns-in-Err-clause-err g c = refused_both g.B.Bay.seen g.D.Disk.seen
    c.in_ok-first.first c.in_ok-first.second c.args.bay.now c.take_two.new.bay c.put_back-in-Err.new.self c.in-Err.first c.in-Err.second c.in-Err.fault
    (gets_states g.B.Bay.seen g.D.Disk.seen
    c.in_ok-first.first c.in_ok-first.second c.foreign_state_a-first_name.result c.foreign_state_b-second_name.result c.args.bay.now c.take_two.new.bay
    c.foreign_state_a-first_name.ensures c.foreign_state_b-second_name.ensures c.in_ok-first.ensures.ok) (
      c.in-Err.first,
      c.put_back.new.self,
      refl,
      put_state g.B.Bay.seen g.D.Disk.seen
          c.in_ok-first.first c.in_ok-first.second c.foreign_state_a-first_name.result _ c.in-Err.first c.take_two.new.bay c.put_back.new.self c.foreign_state_a-first_name.ensures
          (record {
            there = c.put_back.ensures.there;
            is_in = c.put_back.ensures.is_in;
            others = c.put_back.ensures.others;
            taken = c.put_back.ensures.taken;
            counts = c.put_back.ensures.counts;
            later = c.put_back.ensures.later;
            steadies = c.put_back.ensures.steady;
          }),
      (
        c.in-Err.second,
        c.put_back-in-Err.new.self,
        refl,
        put_state g.B.Bay.seen g.D.Disk.seen
            c.in_ok-first.first c.in_ok-first.second c.foreign_state_b-second_name.result _ c.in-Err.second c.put_back.new.self c.put_back-in-Err.new.self
            c.foreign_state_b-second_name.ensures
            (record {
              there = c.put_back-in-Err.ensures.there;
              is_in = c.put_back-in-Err.ensures.is_in;
              others = c.put_back-in-Err.ensures.others;
              taken = c.put_back-in-Err.ensures.taken;
              counts = c.put_back-in-Err.ensures.counts;
              later = c.put_back-in-Err.ensures.later;
              steadies = c.put_back-in-Err.ensures.steady;
            }),
        refl,
      ),
    )
    c.in-Err.ensures.recovers c.in-Err.ensures.sound c.in-Err.ensures.damaged c.in-Err.ensures.device c.in-Err.ensures.no_bay c.in-Err.ensures.images
    c.in-Err.ensures.runs.0 c.in-Err.ensures.runs.1 c.in-Err.ensures.fed
