use Rattle.std.proofs.Common.{◌∙◌}
use Rattle.share_session.proofs.Once.{each_once}
use Rattle.share_session.proofs.wanted.wanted_once.Goals as goal

pub returns : goal.returns
returns c = c.in_ok-wanted.ensures ∙ each_once c.args.conf.now.topics c.args.topics.now c.requires
