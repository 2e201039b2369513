use Rattle.share_client.proofs.Standing.{stands_reply}
use Rattle.share_client.proofs.client.ClientCore.reply.Goals as goal

pub returns : goal.returns
returns c = λ conf trace s. stands_reply conf c.args.self.now trace s c.args.frame.now c.reply_on-took.new.group c.reply_on-took.new.fetches c.ends-self.result c.args.on c.reply_on-took.result c.ends-self.ensures c.reply_on-took.ensures
