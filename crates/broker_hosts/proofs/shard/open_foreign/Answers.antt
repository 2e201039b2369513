use Rattle.std.proofs.Common.{◌≡◌, false, rules}
use Rattle.broker_hosts.proofs.Images.{reopened_images}
use Rattle.broker_hosts.proofs.Opening.{fed_both}
use Rattle.broker_hosts.proofs.Opening.{opened}
use Rattle.broker_hosts.proofs.shard.open_foreign.Goals as goal

pub returns-else-starved-clause-opens : goal.returns-else-starved-clause-opens
returns-else-starved-clause-opens g c = λ a b is is_second.
    (let no : c.starved.result ≡ false = search rules in
    let fed = fed_both c.starved.result _ _ no c.starved.ensures in
    opened g.D.Disk.seen
    c.args.first c.args.second a b c.in-Ok.shard is is_second c.in-Ok.ensures.opened.opens c.in-Ok.ensures.opened.only c.in-Ok.ensures.carries
    c.in-Ok.ensures.both.one.runs c.in-Ok.ensures.both.two.runs fed.0 fed.1)

pub returns-else-starved-clause-fresh : goal.returns-else-starved-clause-fresh
returns-else-starved-clause-fresh g c = c.in-Ok.ensures.carries

pub returns-else-starved-3-clause-recovers : goal.returns-else-starved-3-clause-recovers
returns-else-starved-3-clause-recovers g c = λ a b states is is_second stands name place damaged.
    (let why = c.fault_of_open.ensures.damaged name place damaged in
    c.in-Err.ensures.refused.sound a b stands.0 is is_second stands.1 why.0 place why.1)

pub returns-else-starved-3-clause-damaged : goal.returns-else-starved-3-clause-damaged
returns-else-starved-3-clause-damaged g c = λ name place damaged a b is is_second.
    (let why = c.fault_of_open.ensures.damaged name place damaged in
    (why.0, why.2, c.in-Err.ensures.refused.damaged why.0 place why.1 a b is is_second))

pub returns-then-starved-2-clause-images : goal.returns-then-starved-2-clause-images
returns-then-starved-2-clause-images g c = record {
  on_first = reopened_images g.D.Disk.seen g.met.D.Disk.counts_now _ _ c.in-Err.ensures.both.one.any_moment;
  on_second = reopened_images g.D.Disk.seen g.met.D.Disk.counts_now _ _ c.in-Err.ensures.both.two.any_moment;
}

pub returns-else-starved-3-clause-images : goal.returns-else-starved-3-clause-images
returns-else-starved-3-clause-images g c = record {
  on_first = reopened_images g.D.Disk.seen g.met.D.Disk.counts_now _ _ c.in-Err.ensures.both.one.any_moment;
  on_second = reopened_images g.D.Disk.seen g.met.D.Disk.counts_now _ _ c.in-Err.ensures.both.two.any_moment;
}
