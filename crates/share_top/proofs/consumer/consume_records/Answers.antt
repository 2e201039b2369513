use Rattle.share_top.specs.Changes.{listener_change, output_change, spawner_change}
use Rattle.share_top.proofs.Consumers.{consumer_counted, consumes_records}
use Rattle.share_top.proofs.consumer.consume_records.Goals as goal

pub returns-clause-records : goal.returns-clause-records
returns-clause-records g c =
    consumes_records (output_change g.O.Sink.held g.O.Sink.faults c.args.output.now c.consume-end.new.output)
    (listener_change g.L.Listener.given g.L.Listener.done g.L.Listener.faults c.args.listener.now c.consume-end.new.listener)
    (spawner_change g.P.Spawner.faults c.args.spawner.now c.consume-end.new.spawner) c.args.conf c.consume-end.result c.status_of.result c.status_of.ensures (record {
      consumes = c.consume-end.ensures.consumes;
      links = c.consume-end.ensures.links;
      writes = c.consume-end.ensures.output;
      jobs = c.consume-end.ensures.jobs;
    })

pub returns-clause-counted : goal.returns-clause-counted
returns-clause-counted g c =
    consumer_counted _ _ c.consume-end.result c.status_of.result c.status_of.ensures c.consume-end.ensures.output
