use Rattle.share_client.proofs.Standing.{stands_step}
use Rattle.share_client.proofs.client.ClientCore.next.Goals as goal

pub returns : goal.returns
returns c = λ conf trace s. stands_step conf c.args.self.now trace s c.step-next.new.group c.step-next.new.fetches c.parts_with-self.result c.args.now c.step-next.result c.parts_with-self.ensures c.step-next.ensures
