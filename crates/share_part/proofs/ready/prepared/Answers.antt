use Rattle.std.proofs.Common.{sym, subst}
use Rattle.share_coord.specs.States.{states_of}
use Rattle.share_model.specs.ForeignRules.{share_state_at}
use Rattle.share_model.specs.Held.{Held}
use Rattle.share_part.specs.Hosting.{HoldsWell, key_of}
use Rattle.share_part.proofs.ready.prepared.Goals as goal

pub planned-requires-clause-well : goal.planned-requires-clause-well
planned-requires-clause-well g c = subst (λ (h : Held). HoldsWell c.args.log.now.batches (share_state_at (states_of c.args.states.now.entries) (key_of c.args.conf.now c.args.group.now)) h)
    (sym (c.in_ok-add_window.ensures.held c.args.group.now)) c.requires.well
