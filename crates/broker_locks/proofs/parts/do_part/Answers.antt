use Rattle.std.proofs.Common.{ℤ, OnErr, rules, subst, w64}
use Rattle.std.proofs.lemmas.Int.{to_z-of_z}
use mir.Val.{SFits}
use Rattle.broker_shards.specs.declared.part.PartAsk.TheVariants as asks
use Rattle.broker_locks.specs.Acting.{FailsByPart}
use Rattle.broker_locks.proofs.parts.do_part.Goals as goal

pub returns-in-Produce-clause-err : goal.returns-in-Produce-clause-err
returns-in-Produce-clause-err g c = rw c.in-Produce.is c.ask_part.ensures.err

pub returns-in-Delete-clause-err : goal.returns-in-Delete-clause-err
returns-in-Delete-clause-err g c =
    let fits : SFits w64 c.in-Delete.to = search rules in
    rw c.in-Delete.is (subst (λ (to : ℤ). OnErr c.ask_part-in-Delete.result (FailsByPart g.D.Disk.seen c.args.shared.now c.in-Delete.shard
    (record { now = c.args.now; ask = asks.Delete to }) c.args.passes.now c.ask_part-in-Delete.new.passes))
    (to_z-of_z w64 c.in-Delete.to fits) c.ask_part-in-Delete.ensures.err)

pub returns-in-Visit-clause-err : goal.returns-in-Visit-clause-err
returns-in-Visit-clause-err g c = rw c.in-Visit.is c.ask_part-in-Visit.ensures.err

pub returns-in-Look-clause-err : goal.returns-in-Look-clause-err
returns-in-Look-clause-err g c = rw c.in-Look.is c.ask_part-in-Look.ensures.err
