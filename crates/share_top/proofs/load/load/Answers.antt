use Rattle.std.proofs.Common.{subst, List}
use Rattle.topic_conf.specs.declared.topic.Topic.{Topic}
use Rattle.share_top.specs.Changes.{bay_change, input_change, output_change}
use Rattle.share_top.specs.Loading.{IsLogDisk}
use Rattle.share_top.proofs.LoadEnds.{loads_segment}
use Rattle.share_top.proofs.load.load.Goals as goal

pub returns-clause-loads : goal.returns-clause-loads
returns-clause-loads g c =
    let at : IsLogDisk c.args.conf.now.topics c.args.shard c.in-Some.name =
    subst (λ (ts : List Topic). IsLogDisk ts c.args.shard c.in-Some.name) c.topics.ensures.same c.in-Some.ensures in
    loads_segment (bay_change g.B.Bay.seen g.B.D.Disk.seen c.args.bay.now c.load_on.new.bay)
    (input_change g.I.Source.left g.I.Source.ended g.I.Source.faults c.args.input.now c.load_on.new.input)
    (output_change g.O.Sink.held g.O.Sink.faults c.args.output.now c.load_on.new.output)
    c.args.conf.now c.args.shard c.load_on.result c.in-Some.name at c.load_on.ensures.loads c.load_on.ensures.runs c.load_on.ensures.others
