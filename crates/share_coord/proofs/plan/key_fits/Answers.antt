use Rattle.std.proofs.Common.{subst}
use Rattle.share_model.specs.Keys.{KeyParts}
use Rattle.state_records.specs.States.{IsKey}
use Rattle.share_coord.proofs.plan.key_fits.Goals as goal

pub returns : goal.returns
returns c = subst (λ (k : KeyParts). IsKey k) c.key.view_is (record { group = c.as_bytes-group.ensures.name; topic = c.topic_fits.ensures; part = c.key.invariant })
