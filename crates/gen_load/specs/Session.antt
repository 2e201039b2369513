-- The session of a number (this project's own): a producer on connection 1 and the members `a` and `b` of the share
-- group `g` on connections 2 and 3 go over partition 0 of `orders` in rounds. In a round a batch is produced and one
-- member fetches it; in each third round it releases it and fetches again, in each seventh its lock expires and it
-- fetches again; then it rejects it in each fifth round, and else accepts it; and behind each round whose number 250
-- divides power is lost.
-- For example round 7 is Produce, Fetch, Expire, Fetch, Settle accept.
use Rattle.std.specs.Prelude.{ℕ, zero, suc, ◌+◌, ◌-◌, ◌*◌, ◌%◌, nat_eq, if◌then◌else◌, List, [], ◌∷◌, ◌++◌, codes}
use Rattle.session_script.specs.declared.event.Event.{Event}
use Rattle.session_script.specs.declared.event.Event.TheVariants.{Open, Bytes, Step, Expire, Power}
use Rattle.msgs_base.specs.ProduceRequest.{produce_request}
use Rattle.msgs_base.specs.Versions.{produce_version}
use Rattle.msgs_share.specs.ShareFetchRequest.{share_fetch_request}
use Rattle.msgs_share.specs.ShareAckRequest.{share_ack_request}
use Rattle.share_model.specs.declared.ack.AckKind.{AckKind}
use Rattle.share_model.specs.declared.ack.AckKind.TheVariants.{Accept, Release, Reject}
use Rattle.gen_load.specs.declared.counts.Counts.{Counts}
use Rattle.gen_load.specs.declared.counts.Member.{Member}
use Rattle.gen_load.specs.declared.counts.Member.TheVariants.{A, B}
use Rattle.gen_load.specs.Frames.{frame_of, head_of, batch_size, produce_message, fetch_message, ack_message}

-- what is done in a round of this number
pub data Act : Type 0 where
  produces : ℕ → Act
  fetches : ℕ → Act
  settles : ℕ → AckKind → Act
  expires : ℕ → Act
  restarts : Act

-- what is done where the number divides the round's, and nothing else
abbrev pub each : ℕ → ℕ → List Act → List Act
each number round acts = if nat_eq (round % number) 0 then acts else []

abbrev pub verdict_of : ℕ → AckKind
verdict_of round = if nat_eq (round % 5) 0 then Reject else Accept

abbrev pub round_acts : ℕ → List Act
round_acts round = produces round ∷ fetches round
    ∷ (each 3 round (settles round Release ∷ fetches round ∷ [])
    ++ (each 7 round (expires round ∷ fetches round ∷ [])
    ++ (settles round (verdict_of round)
    ∷ each 250 round (restarts ∷ []))))

-- so many rounds from this one on
abbrev pub rounds_from : ℕ → ℕ → List Act
rounds_from round zero = []
rounds_from round (suc more) = round_acts round ++ rounds_from (round + 1) more

-- the member of a round
abbrev pub member_of : ℕ → Member
member_of round = if nat_eq (round % 2) 1 then A else B

abbrev pub conn_of : Member → ℕ
conn_of A = 2
conn_of B = 3

-- the moment of a round
abbrev pub moment_of : ℕ → ℕ
moment_of round = 40000 * round

-- ---- what is counted over the acts

-- before the first one
abbrev pub none_yet : Counts
none_yet = record { frames = 0; first = 0; end = 0; asked_a = 0; asked_b = 0 }

-- the requests of this member since its connection was opened, which is the next one's session epoch
abbrev pub asked_by : Member → Counts → ℕ
asked_by A counts = counts.asked_a
asked_by B counts = counts.asked_b

-- one frame of this member more
abbrev pub asked_again : Member → Counts → Counts
asked_again A counts = record {
  frames = counts.frames + 1;
  first = counts.first;
  end = counts.end;
  asked_a = counts.asked_a + 1;
  asked_b = counts.asked_b;
}
asked_again B counts = record {
  frames = counts.frames + 1;
  first = counts.first;
  end = counts.end;
  asked_a = counts.asked_a;
  asked_b = counts.asked_b + 1;
}

abbrev pub counted : Counts → Act → Counts
counted counts (produces round) = record {
  frames = counts.frames + 1;
  first = counts.end;
  end = counts.end + batch_size round;
  asked_a = counts.asked_a;
  asked_b = counts.asked_b;
}
counted counts (fetches round) = asked_again (member_of round) counts
counted counts (settles round kind) = asked_again (member_of round) counts
counted counts (expires round) = counts
counted counts restarts = record {
  frames = counts.frames;
  first = counts.first;
  end = counts.end;
  asked_a = 0;
  asked_b = 0;
}

-- ---- the events

abbrev pub opened : List Event
opened = Open 1 ∷ Open 2 ∷ Open 3 ∷ []

-- a frame comes, and the broker does one step
abbrev pub sent : ℕ → ℕ → List ℕ → List Event
sent conn round frame = Bytes conn frame ∷ Step conn (moment_of round) ∷ []

-- the events of an act behind those that these counts tell of; frames are numbered from 1 on
abbrev pub events_of : Counts → Act → List Event
events_of counts (produces round) =
    sent 1 round (frame_of (head_of 0 9 (counts.frames + 1)) ((produce_request (produce_version 9)).format.bytes (produce_message round)))
events_of counts (fetches round) = sent (conn_of (member_of round)) round (frame_of (head_of 78 1 (counts.frames + 1))
    (share_fetch_request.bytes (fetch_message (member_of round) (asked_by (member_of round) counts))))
events_of counts (settles round kind) = sent (conn_of (member_of round)) round
    (frame_of (head_of 79 1 (counts.frames + 1))
    (share_ack_request.bytes
    (ack_message (member_of round) (asked_by (member_of round) counts) kind counts.first (counts.end - 1))))
events_of counts (expires round) = Expire (codes "orders") 0 (moment_of round + 30000) ∷ []
events_of counts restarts = Power 0 ∷ opened
