use Rattle.share_client.proofs.Standing.{stands_new}
use Rattle.share_client.proofs.client.ClientCore.new.Goals as goal

pub returns : goal.returns
returns c = rw (c.new.ensures, c.new-2.ensures) (stands_new c.args.conf)
