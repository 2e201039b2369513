use Rattle.std.proofs.Common.{refl}
use Rattle.broker_run.specs.Working.{HasWorked}
use Rattle.share_top.specs.Changes.{listener_change, output_change, spawner_change}
use Rattle.share_top.proofs.Servers.{is_none_out, none_is_out, not_damaged, not_device, served, unserved, unserved_back, unserved_sound, unserved_whole}
use Rattle.share_top.proofs.serve.serve.Goals as goal

pub serve-requires-clause-out : goal.serve-requires-clause-out
serve-requires-clause-out g c κs within = is_none_out g.B.Bay.seen c.args.bay.now c.requires.home

pub returns-in-Refused-clause-serve : goal.returns-in-Refused-clause-serve
returns-in-Refused-clause-serve g c =
    unserved g.B.Bay.seen g.D.Disk.seen c.args.bay.now c.serve.new.bay c.args.words
    (output_change g.O.Sink.held g.O.Sink.faults c.args.output.now c.refuse.new.output)
    (record {
      listener = listener_change g.L.Listener.given g.L.Listener.done g.L.Listener.faults c.args.listener.now c.serve.new.listener;
      spawner = spawner_change g.P.Spawner.faults c.args.spawner.now c.serve.new.spawner;
      Worked = HasWorked g.D.Disk.seen g.L.L.Link.left g.L.L.Link.held g.C.Clock.told;
    }) c.refuse.result
    c.in-Refused.fault c.in-Refused.ensures.serves c.refuse.ensures.refusal c.serve.ensures.told c.in-Refused.ensures.unserved.0 c.in-Refused.ensures.unserved.1

pub returns-in-Refused-clause-back : goal.returns-in-Refused-clause-back
returns-in-Refused-clause-back g c =
    unserved_back g.B.Bay.seen g.D.Disk.seen c.args.bay.now c.serve.new.bay c.args.words
    (output_change g.O.Sink.held g.O.Sink.faults c.args.output.now c.refuse.new.output)
    (record {
      listener = listener_change g.L.Listener.given g.L.Listener.done g.L.Listener.faults c.args.listener.now c.serve.new.listener;
      spawner = spawner_change g.P.Spawner.faults c.args.spawner.now c.serve.new.spawner;
      Worked = HasWorked g.D.Disk.seen g.L.L.Link.left g.L.L.Link.held g.C.Clock.told;
    }) c.refuse.result
    c.in-Refused.fault c.in-Refused.ensures.serves c.refuse.ensures.refusal

pub returns-in-Refused-clause-recovers : goal.returns-in-Refused-clause-recovers
returns-in-Refused-clause-recovers g c =
    unserved_whole g.B.Bay.seen g.D.Disk.seen c.args.bay.now c.serve.new.bay c.args.words
    (output_change g.O.Sink.held g.O.Sink.faults c.args.output.now c.refuse.new.output)
    (record {
      listener = listener_change g.L.Listener.given g.L.Listener.done g.L.Listener.faults c.args.listener.now c.serve.new.listener;
      spawner = spawner_change g.P.Spawner.faults c.args.spawner.now c.serve.new.spawner;
      Worked = HasWorked g.D.Disk.seen g.L.L.Link.left g.L.L.Link.held g.C.Clock.told;
    }) c.refuse.result
    c.in-Refused.fault c.in-Refused.ensures.serves c.refuse.ensures.refusal

pub returns-in-Refused-clause-sound : goal.returns-in-Refused-clause-sound
returns-in-Refused-clause-sound g c =
    unserved_sound g.B.Bay.seen g.D.Disk.seen c.args.bay.now c.serve.new.bay c.args.words
    (output_change g.O.Sink.held g.O.Sink.faults c.args.output.now c.refuse.new.output)
    (record {
      listener = listener_change g.L.Listener.given g.L.Listener.done g.L.Listener.faults c.args.listener.now c.serve.new.listener;
      spawner = spawner_change g.P.Spawner.faults c.args.spawner.now c.serve.new.spawner;
      Worked = HasWorked g.D.Disk.seen g.L.L.Link.left g.L.L.Link.held g.C.Clock.told;
    }) c.refuse.result
    c.in-Refused.fault c.in-Refused.ensures.serves c.refuse.ensures.refusal

pub returns-in-Ended-clause-serve : goal.returns-in-Ended-clause-serve
returns-in-Ended-clause-serve g c =
    served g.B.Bay.seen g.D.Disk.seen c.args.bay.now c.serve.new.bay c.args.words
    (output_change g.O.Sink.held g.O.Sink.faults c.args.output.now c.args.output.now)
    (record {
      listener = listener_change g.L.Listener.given g.L.Listener.done g.L.Listener.faults c.args.listener.now c.serve.new.listener;
      spawner = spawner_change g.P.Spawner.faults c.args.spawner.now c.serve.new.spawner;
      Worked = HasWorked g.D.Disk.seen g.L.L.Link.left g.L.L.Link.held g.C.Clock.told;
    }) c.status_of.result
    c.in-Ended.end refl c.in-Ended.ensures.serves.0 c.in-Ended.ensures.serves.1 c.status_of.ensures

pub returns-in-Ended-clause-back : goal.returns-in-Ended-clause-back
returns-in-Ended-clause-back g c = λ known. none_is_out g.B.Bay.seen c.serve.new.bay c.in-Ended.ensures.serves.0.back

pub returns-in-Ended-clause-recovers : goal.returns-in-Ended-clause-recovers
returns-in-Ended-clause-recovers g c = λ told. not_damaged c.in-Ended.end c.status_of.result c.status_of.ensures

pub returns-in-Ended-clause-sound : goal.returns-in-Ended-clause-sound
returns-in-Ended-clause-sound g c = λ sound. not_device c.in-Ended.end c.status_of.result c.status_of.ensures
