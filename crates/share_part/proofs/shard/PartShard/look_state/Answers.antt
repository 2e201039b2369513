use Rattle.std.proofs.Common.{◌∙◌, sym, ap}
use Rattle.std.specs.Option.{option_map}
use Rattle.share_model.specs.Keys.{KeyParts}
use Rattle.share_coord.specs.Stored.{kept_at}
use Rattle.share_part.specs.Hosting.{key_of}
use Rattle.share_part.proofs.Seeing.{state_seen, view_of}
use Rattle.share_part.proofs.shard.PartShard.look_state.Goals as goal

pub returns : goal.returns
returns g c = rw (← c.self.view_is) (c.look.ensures ∙ (ap (λ (k : KeyParts). option_map view_of (kept_at c.self.inside.states.entries k)) c.key.ensures
    ∙ sym (state_seen c.self.inside.states.entries (key_of c.self.inside.conf c.args.group.now))))
