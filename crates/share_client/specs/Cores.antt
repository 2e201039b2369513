-- A consumer stands for a trace: its fields are what the rules say of the trace. This project's own.
-- For example a new consumer stands for the empty trace.
use Rattle.std.specs.Prelude.{◌≡◌, Bool, true, false}
use Rattle.share_client.specs.declared.client.ClientCore.{ClientCore}
use Rattle.share_client.specs.declared.conf.ClientConf.{ClientConf}
use Rattle.share_client.specs.declared.group.GroupLink.{GroupLink}
use Rattle.share_client.specs.declared.step.LinkKind.TheVariants.{Group, Data}
use Rattle.share_client.specs.Heartbeats.{assigned, awaited, due_from, member_epoch}
use Rattle.share_client.specs.Kept.{is_done, is_parting, kept}
use Rattle.share_client.specs.Rules.{AreAllowed}
use Rattle.share_client.specs.Traces.{Trace, correlation, requests}

pub record GroupStands (group : GroupLink) (trace : Trace) : Type 0 where
  pub asked : group.asked ≡ awaited trace
  pub number : group.number ≡ correlation (requests Group trace)
  pub due : group.due ≡ due_from trace
  pub epoch : group.epoch ≡ member_epoch trace
  pub assigned : group.assigned ≡ assigned trace

-- The consumer was made with these words, each of its answers is one that the rules allow, and it keeps what they say. Behind its
-- end it keeps no more of the group link.
pub record StandsFor (conf : ClientConf) (core : ClientCore) (trace : Trace) : Type 0 where
  pub made : core.conf ≡ conf
  pub allowed : AreAllowed conf trace
  pub ended : core.ended ≡ is_done conf trace
  pub parting : core.parting ≡ is_parting conf trace
  pub keeps : core.fetches ≡ kept conf trace
  pub group : core.ended ≡ false → GroupStands core.group trace
