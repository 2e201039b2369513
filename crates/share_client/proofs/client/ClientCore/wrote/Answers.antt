use Rattle.share_client.proofs.Standing.{stands_wrote}
use Rattle.share_client.proofs.client.ClientCore.wrote.Goals as goal

pub returns : goal.returns
returns c = λ conf trace s w. stands_wrote conf c.args.self.now trace s c.args.self.now.group c.wrote.new.self c.args.self.now.parting 0 w c.wrote.ensures
