-- Which answers the rules allow on a trace. This project's own.
-- For example a heartbeat on an empty trace has the correlation id 1 and the epoch 0.
use Rattle.std.specs.Prelude.{◌≡◌, ℕ, ℤ, suc, Bool, true, false, not, ◌&&◌, List, [], ◌∷◌, is_some, Result, Ok, Err}
use Rattle.std.specs.Bool.{MatchBool}
use Rattle.share_client.specs.declared.conf.ClientConf.{ClientConf}
use Rattle.share_client.specs.declared.fault.ClientFault.{ClientFault}
use Rattle.share_client.specs.declared.step.ClientStep.{ClientStep}
use Rattle.share_client.specs.declared.step.ClientStep.TheVariants.{Heartbeat, Fetch, Write, Wait, Done}
use Rattle.share_client.specs.declared.step.LinkKind.{LinkKind}
use Rattle.share_client.specs.declared.step.LinkKind.TheVariants.{Group, Data}
use Rattle.share_client.specs.declared.step.Took.{Took}
use Rattle.share_client.specs.declared.step.Took.TheVariants.{Taken, Stray}
use Rattle.share_client.specs.Frames.{IsAnswer, has_correlation}
use Rattle.share_client.specs.DataLinks.{TakesReply, data_awaits, data_frame, lines_text, sends}
use Rattle.share_client.specs.Heartbeats.{assigned, awaited, heard, heartbeat_frame, member_epoch, waits_until}
use Rattle.share_client.specs.Kept.{beat_epoch, is_done, is_due, is_leaving, is_pending, kept}
use Rattle.share_client.specs.Traces.{Call, Trace, correlation, is_writing, requests}
use Rattle.share_client.specs.Traces.Call.{Asked, Got, Lost, Wrote}

-- The first that applies: nothing more behind the end, lines to write, a heartbeat where one is due and none awaits its reply, a request
-- on the data link where one is to be sent, and else to wait.
abbrev pub AllowsStep : ClientConf → Trace → ℕ → ClientStep → Type 0
AllowsStep conf before now Done = is_done conf before ≡ true
AllowsStep conf before now (Write lines) = (is_done conf before ≡ false) × (is_pending conf before ≡ true) × (lines ≡ lines_text (kept conf before).lines)
AllowsStep conf before now (Heartbeat frame) = (is_done conf before ≡ false) × (is_pending conf before ≡ false) × (is_due conf before now ≡ true)
    × (frame ≡ heartbeat_frame conf (correlation (suc (requests Group before))) (beat_epoch (is_leaving conf before) (member_epoch before)))
AllowsStep conf before now (Fetch frame) = (is_done conf before ≡ false) × (is_pending conf before ≡ false) × (is_due conf before now ≡ false)
    × (sends (kept conf before) (assigned before) ≡ true) × (frame ≡ data_frame conf (kept conf before) (assigned before))
AllowsStep conf before now (Wait until) = (is_done conf before ≡ false) × (is_pending conf before ≡ false) × (is_due conf before now ≡ false)
    × (sends (kept conf before) (assigned before) ≡ false) × (until ≡ waits_until before)

-- A request on the link awaits its reply, and the frame has its correlation id. Behind the end none does.
abbrev pub awaits : ClientConf → Trace → LinkKind → List ℕ → Bool
awaits conf before Group frame = not (is_done conf before) && (is_some (awaited before) && has_correlation frame (correlation (requests Group before)))
awaits conf before Data frame = not (is_done conf before) && data_awaits frame (kept conf before)

abbrev pub taken_where : {A : Type 0} → Result A ClientFault → Result Took ClientFault
taken_where (Ok reply) = Ok Taken
taken_where (Err fault) = Err fault

-- what may be said of an awaited reply
abbrev pub Judges : ClientConf → Trace → LinkKind → List ℕ → Result Took ClientFault → Type 0
Judges conf before Group frame answer = IsAnswer answer (taken_where (heard frame))
Judges conf before Data frame answer = TakesReply frame (kept conf before).asked answer

abbrev pub AllowsReply : ClientConf → Trace → LinkKind → List ℕ → Result Took ClientFault → Type 0
AllowsReply conf before on frame answer = MatchBool (awaits conf before on frame) (Judges conf before on frame answer) (answer ≡ Ok Stray)

abbrev pub Allows : ClientConf → Trace → Call → Type 0
Allows conf before (Asked now (Ok step)) = AllowsStep conf before now step
Allows conf before (Asked now (Err none)) = Unit {0}
Allows conf before (Got on frame answer) = AllowsReply conf before on frame answer
Allows conf before (Lost on) = Unit {0}
Allows conf before Wrote = is_writing before ≡ true

-- each call of the trace has an answer that the rules allow on the trace before it
abbrev pub AreAllowed : ClientConf → Trace → Type 0
AreAllowed conf [] = Unit {0}
AreAllowed conf (call ∷ before) = Allows conf before call × AreAllowed conf before
