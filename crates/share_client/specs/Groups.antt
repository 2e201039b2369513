-- What the code of the group link keeps, and what becomes of it. The clauses of private functions cite it, and no public one does.
-- For example a link that is lost while a heartbeat awaits its reply has a heartbeat due at once.
use Rattle.std.specs.Prelude.{◌≡◌, ◌+◌, ◌^◌, ℕ, ℤ, pos, Bool, true, false, ◌&&◌, ◌||◌, List, Option, Some, None, is_none, is_some, Result, Ok, Err, nat_le}
use Rattle.std.specs.Option.{option_map_or, option_or, unwrap_or}
use Rattle.flex_fields.specs.declared.fault.NoMemory.{NoMemory}
use Rattle.msgs_group.specs.declared.heartbeat_reply.HeartbeatReply.{HeartbeatReply}
use Rattle.rec_batch.specs.Batches.{at_least_zero}
use Rattle.share_session.specs.Sessions.{next_epoch}
use Rattle.share_client.specs.declared.conf.ClientConf.{ClientConf}
use Rattle.share_client.specs.declared.data_link.DataLink.{DataLink}
use Rattle.share_client.specs.declared.fault.ClientFault.{ClientFault}
use Rattle.share_client.specs.declared.group.GroupLink.{GroupLink}
use Rattle.share_client.specs.declared.step.ClientStep.{ClientStep}
use Rattle.share_client.specs.declared.step.ClientStep.TheVariants.{Heartbeat, Fetch, Write, Wait, Done}
use Rattle.share_client.specs.declared.step.LinkKind.{LinkKind}
use Rattle.share_client.specs.declared.step.LinkKind.TheVariants.{Group, Data}
use Rattle.share_client.specs.declared.step.Took.{Took}
use Rattle.share_client.specs.declared.step.Took.TheVariants.{Taken, Stray}
use Rattle.share_client.specs.DataLinks.{TakesData, behind_loss, behind_request, data_frame, lines_text, sends}
use Rattle.share_client.specs.Frames.{IsAnswer, has_correlation}
use Rattle.share_client.specs.Kept.{beat_epoch}
use Rattle.share_client.specs.Heartbeats.{epoch_of, heard, heartbeat_frame}

abbrev pub new_group : GroupLink
new_group = record { asked = None; number = pos 0; due = 0; epoch = pos 0; assigned = None }

abbrev pub asks_now : GroupLink → Bool → ℕ → Bool
asks_now g leaving now = is_none g.asked && (leaving || nat_le g.due now)

abbrev pub wait_end : GroupLink → ℕ
wait_end g = option_map_or (λ now. 2 ^ 62) g.asked g.due

-- a heartbeat was sent at this moment
pub record IsAsked (now : ℕ) (old new : GroupLink) : Type 0 where
  pub asked : new.asked ≡ Some now
  pub number : new.number ≡ next_epoch old.number
  pub due : new.due ≡ old.due
  pub epoch : new.epoch ≡ old.epoch
  pub assigned : new.assigned ≡ old.assigned

-- the link was lost
pub record IsLost (old new : GroupLink) : Type 0 where
  pub asked : new.asked ≡ None
  pub number : new.number ≡ old.number
  pub due : new.due ≡ 0
  pub epoch : new.epoch ≡ old.epoch
  pub assigned : new.assigned ≡ old.assigned

-- a reply was taken, behind which a heartbeat is due from this moment on
pub record IsTold (due : ℕ) (reply : HeartbeatReply) (old new : GroupLink) : Type 0 where
  pub asked : new.asked ≡ None
  pub number : new.number ≡ old.number
  pub due_is : new.due ≡ due
  pub epoch : new.epoch ≡ epoch_of reply.error_code reply.member_epoch
  pub assigned : new.assigned ≡ option_or reply.assignment old.assigned

-- the moment of the request, and the interval behind it
abbrev pub due_behind : Option ℕ → ℤ → ℕ
due_behind asked interval = unwrap_or asked 0 + at_least_zero interval

-- a request awaits its reply, and the frame has its correlation id
abbrev pub group_awaits : List ℕ → GroupLink → Bool
group_awaits frame g = is_some g.asked && has_correlation frame g.number

-- what an awaited reply does to the link
abbrev pub HearsReply : List ℕ → GroupLink → Result Took ClientFault → GroupLink → Type 0
HearsReply frame old (Ok Stray) new = ⊥
HearsReply frame old (Ok Taken) new = (reply : HeartbeatReply) × (heard frame ≡ Ok reply)
    × IsTold (due_behind old.asked reply.heartbeat_interval_ms) reply old new
HearsReply frame old (Err fault) new = IsAnswer (Err fault) (heard frame)

-- what a frame does to the link
pub record TakesFrame (frame : List ℕ) (old : GroupLink) (result : Result Took ClientFault) (new : GroupLink) : Type 0 where
  pub stray : group_awaits frame old ≡ false → (result ≡ Ok Stray) × (new ≡ old)
  pub awaited : group_awaits frame old ≡ true → HearsReply frame old result new

-- what a frame on either link does to the links
abbrev pub TakesOn : LinkKind → List ℕ → GroupLink → DataLink → Result Took ClientFault → GroupLink → DataLink → Type 0
TakesOn Group frame g d result g' d' = TakesFrame frame g result g' × (d' ≡ d)
TakesOn Data frame g d result g' d' = TakesData frame d result d' × (g' ≡ g)

-- what a loss of either link does to them
abbrev pub LosesOn : LinkKind → GroupLink → DataLink → GroupLink → DataLink → Type 0
LosesOn Group g d g' d' = IsLost g g' × (d' ≡ d)
LosesOn Data g d g' d' = (g' ≡ g) × (d' ≡ behind_loss d)

-- where no heartbeat is to be sent: a request on the data link, or to wait
abbrev pub GoesOnBy : ClientConf → GroupLink → DataLink → Result ClientStep NoMemory → DataLink → Type 0
GoesOnBy conf g d (Err none) d' = d' ≡ d
GoesOnBy conf g d (Ok (Fetch frame)) d' = (sends d g.assigned ≡ true) × (frame ≡ data_frame conf d g.assigned) × (d' ≡ behind_request d g.assigned)
GoesOnBy conf g d (Ok (Wait until)) d' = (sends d g.assigned ≡ false) × (until ≡ wait_end g) × (d' ≡ d)
GoesOnBy conf g d (Ok (Heartbeat frame)) d' = ⊥
GoesOnBy conf g d (Ok (Write lines)) d' = ⊥
GoesOnBy conf g d (Ok Done) d' = ⊥

-- where nothing is to be written: a heartbeat, or what is to be done else
abbrev pub BeatsBy : ClientConf → ℕ → GroupLink → DataLink → Result ClientStep NoMemory → GroupLink → DataLink → Type 0
BeatsBy conf now g d (Ok (Heartbeat frame)) g' d' = (asks_now g d.left now ≡ true)
    × (frame ≡ heartbeat_frame conf (next_epoch g.number) (beat_epoch d.left g.epoch)) × IsAsked now g g' × (d' ≡ d)
BeatsBy conf now g d (Ok (Fetch frame)) g' d' = (asks_now g d.left now ≡ false) × (g' ≡ g) × GoesOnBy conf g d (Ok (Fetch frame)) d'
BeatsBy conf now g d (Ok (Wait until)) g' d' = (asks_now g d.left now ≡ false) × (g' ≡ g) × GoesOnBy conf g d (Ok (Wait until)) d'
BeatsBy conf now g d (Err none) g' d' = (g' ≡ g) × (d' ≡ d)
BeatsBy conf now g d (Ok (Write lines)) g' d' = ⊥
BeatsBy conf now g d (Ok Done) g' d' = ⊥

-- what is to be done, by what the links keep, and what becomes of that
abbrev pub StepsBy : ClientConf → (ended : Bool) → ℕ → GroupLink → DataLink → Result ClientStep NoMemory → GroupLink → DataLink → Type 0
StepsBy conf ended now g d (Ok Done) g' d' = (ended ≡ true) × (g' ≡ g) × (d' ≡ d)
StepsBy conf ended now g d (Ok (Write lines)) g' d' = (ended ≡ false) × (is_some d.lines ≡ true) × (lines ≡ lines_text d.lines) × (g' ≡ g) × (d' ≡ d)
StepsBy conf ended now g d (Ok (Heartbeat frame)) g' d' = (ended ≡ false) × (is_some d.lines ≡ false) × BeatsBy conf now g d (Ok (Heartbeat frame)) g' d'
StepsBy conf ended now g d (Ok (Fetch frame)) g' d' = (ended ≡ false) × (is_some d.lines ≡ false) × BeatsBy conf now g d (Ok (Fetch frame)) g' d'
StepsBy conf ended now g d (Ok (Wait until)) g' d' = (ended ≡ false) × (is_some d.lines ≡ false) × BeatsBy conf now g d (Ok (Wait until)) g' d'
StepsBy conf ended now g d (Err none) g' d' = (g' ≡ g) × (d' ≡ d)

-- a frame came on a link: behind the end nothing is done
abbrev pub RepliesBy : (ended : Bool) → LinkKind → List ℕ → GroupLink → DataLink → Result Took ClientFault → GroupLink → DataLink → Type 0
RepliesBy true on frame g d result g' d' = (result ≡ Ok Stray) × (g' ≡ g) × (d' ≡ d)
RepliesBy false on frame g d result g' d' = TakesOn on frame g d result g' d'

-- whether an answer to a frame ends the consumer
abbrev pub ends_with : LinkKind → (parting : Bool) → Result Took ClientFault → Bool
ends_with on parting (Err fault) = true
ends_with Group parting (Ok Taken) = parting
ends_with Data parting (Ok Taken) = false
ends_with on parting (Ok Stray) = false

-- whether the last heartbeat leaves the group, behind an answer
abbrev pub parts_with : (leaving parting : Bool) → Result ClientStep NoMemory → Bool
parts_with leaving parting (Ok (Heartbeat frame)) = leaving
parts_with leaving parting (Ok Done) = parting
parts_with leaving parting (Ok (Write lines)) = parting
parts_with leaving parting (Ok (Fetch frame)) = parting
parts_with leaving parting (Ok (Wait until)) = parting
parts_with leaving parting (Err none) = parting
