use Rattle.std.proofs.Common.{List, nat_eq, ◌∙◌}
use Rattle.share_model.specs.declared.ack.AckBatch.{AckBatch}
use Rattle.share_session.proofs.Lists.{is_some_lookup}
use Rattle.share_session.proofs.visits.is_wanted.Goals as goal

pub returns : goal.returns
returns c = c.contains_key.ensures ∙ is_some_lookup {W = List AckBatch} (nat_eq c.args.shard) c.args.wanted.now.entries
