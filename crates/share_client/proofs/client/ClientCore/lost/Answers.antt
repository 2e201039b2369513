use Rattle.share_client.proofs.Standing.{stands_lost}
use Rattle.share_client.proofs.client.ClientCore.lost.Goals as goal

pub returns : goal.returns
returns c = λ conf trace s. stands_lost conf c.args.self.now trace s c.lose_on.new.group c.lose_on.new.fetches c.args.self.now.parting 0 c.args.on c.lose_on.ensures
