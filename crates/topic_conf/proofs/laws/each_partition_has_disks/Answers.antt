use Rattle.topic_conf.proofs.Lists.{have_disks}
use Rattle.topic_conf.proofs.laws.each_partition_has_disks.Goals as goal

pub returns : goal.returns
returns c = have_disks
