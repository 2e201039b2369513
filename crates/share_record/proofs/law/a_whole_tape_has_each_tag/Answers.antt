use Rattle.share_record.proofs.Recorded.{records}
use Rattle.share_record.proofs.law.a_whole_tape_has_each_tag.Goals as goal

pub returns : goal.returns
returns g c = records g.S.Shard.acts
