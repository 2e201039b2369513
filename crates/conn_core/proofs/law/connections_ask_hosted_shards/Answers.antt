use Rattle.conn_core.proofs.HostedTurns.{asks_hosted_shards}
use Rattle.conn_core.proofs.law.connections_ask_hosted_shards.Goals as goal

pub returns : goal.returns
returns c = λ conf. asks_hosted_shards conf
