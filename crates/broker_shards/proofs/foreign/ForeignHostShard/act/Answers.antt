use Rattle.broker_shards.proofs.foreign.ForeignHostShard.act.Goals as goal

pub returns : goal.returns
returns g c =
    let did = c.act_on_foreign.ensures in
    record { acts = did.acts; first = did.first; second = did.second; within = did.within }
