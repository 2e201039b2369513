use Rattle.std.proofs.Common.{inl, inr, refl}
use Rattle.broker_run.specs.Working.{HasWorked}
use Rattle.share_top.specs.Changes.{bay_change, input_change, listener_change, no_server, output_change, spawner_change}
use Rattle.share_top.proofs.Commands.{counted_by, does_beside, promises}
use Rattle.share_top.proofs.Consumers.{does_consume, none_unlinked}
use Rattle.share_top.proofs.top.run_unserved.Goals as goal

pub returns-in-Ok-Some-clause-does : goal.returns-in-Ok-Some-clause-does
returns-in-Ok-Some-clause-does g c =
    let found = rw c.in-Ok-Some.field-0-is at c.in-Ok-Some.ensures in
    does_consume (record {
      words = c.args.words.now;
      number = c.number.result;
      bay = bay_change g.B.Bay.seen g.D.Disk.seen c.args.bay.now c.args.bay.now;
      input = input_change g.I.Source.left g.I.Source.ended g.I.Source.faults c.args.input.now c.args.input.now;
      output = output_change g.O.Sink.held g.O.Sink.faults c.args.output.now c.consume_records-status.new.output;
      server = record {
        listener = listener_change g.L.Listener.given g.L.Listener.done g.L.Listener.faults c.args.listener.now c.consume_records-status.new.listener;
        spawner = spawner_change g.P.Spawner.faults c.args.spawner.now c.consume_records-status.new.spawner;
        Worked = HasWorked g.D.Disk.seen g.L.L.Link.left g.L.L.Link.held g.C.Clock.told;
      };
    }) _ c.in-Ok-Some.conf found c.consume_records-status.result c.number.ensures refl refl c.consume_records-status.ensures.records

pub returns-in-Ok-Some-clause-promises : goal.returns-in-Ok-Some-clause-promises
returns-in-Ok-Some-clause-promises g c = promises (bay_change g.B.Bay.seen g.D.Disk.seen c.args.bay.now c.args.bay.now)

pub returns-in-Ok-Some-clause-counted : goal.returns-in-Ok-Some-clause-counted
returns-in-Ok-Some-clause-counted g c = counted_by _ _ _ c.consume_records-status.result c.number.ensures c.consume_records-status.ensures.counted

pub returns-in-Ok-Some-clause-alone : goal.returns-in-Ok-Some-clause-alone
returns-in-Ok-Some-clause-alone g c =
    let found = rw c.in-Ok-Some.field-0-is at c.in-Ok-Some.ensures in
    none_unlinked c.args.words.now _ c.in-Ok-Some.conf found

pub returns-in-Ok-None-clause-does : goal.returns-in-Ok-None-clause-does
returns-in-Ok-None-clause-does g c =
    let none = rw c.in-Ok-None.field-0-is at c.in-Ok-None.ensures in
    does_beside c.args.words.now c.run_alone.result (bay_change g.B.Bay.seen g.D.Disk.seen c.args.bay.now c.run_alone.new.bay)
    (input_change g.I.Source.left g.I.Source.ended g.I.Source.faults c.args.input.now c.run_alone.new.input)
    (output_change g.O.Sink.held g.O.Sink.faults c.args.output.now c.run_alone.new.output)
    no_server (record {
      listener = listener_change g.L.Listener.given g.L.Listener.done g.L.Listener.faults c.args.listener.now c.args.listener.now;
      spawner = spawner_change g.P.Spawner.faults c.args.spawner.now c.args.spawner.now;
      Worked = HasWorked g.D.Disk.seen g.L.L.Link.left g.L.L.Link.held g.C.Clock.told;
    }) c.requires.unserved none refl refl c.run_alone.ensures.does

pub returns-in-Err-clause-does : goal.returns-in-Err-clause-does
returns-in-Err-clause-does g c = inl (record {
  why = inr c.number-in-Err.ensures;
  untouched = (refl, refl, refl);
  unserved = (refl, refl);
})

pub returns-in-Err-clause-promises : goal.returns-in-Err-clause-promises
returns-in-Err-clause-promises g c = promises (bay_change g.B.Bay.seen g.D.Disk.seen c.args.bay.now c.args.bay.now)
