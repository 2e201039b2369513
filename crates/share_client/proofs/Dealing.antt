-- What the data link does with a frame, path by path.
use Rattle.std.proofs.Common.{◌≡◌, ◌∙◌, Bool, Result, Ok, Err, ap}
use Rattle.std.specs.Prelude.{if◌then◌else◌}
use Rattle.msgs_share.specs.declared.share_ack_reply.ShareAckReply.{ShareAckReply}
use Rattle.share_client.specs.declared.fault.ClientFault.{ClientFault}
use Rattle.share_client.specs.declared.fault.ClientFault.TheVariants.{Refused, Strange, NoMemory}
use Rattle.share_client.specs.Fetches.{ends_consumer}
use Rattle.share_client.specs.Frames.{IsAnswer}
use Rattle.share_client.specs.DataLinks.{unless_ended}

pub hears_fault : (fault : ClientFault) (told : Result ShareAckReply ClientFault) → IsAnswer (Err fault) told → IsAnswer (Err fault) (unless_ended told)
hears_fault (Refused code) told h = ap (λ (r : Result ShareAckReply ClientFault). unless_ended r) h
hears_fault (Strange place) told h = ap (λ (r : Result ShareAckReply ClientFault). unless_ended r) h
hears_fault NoMemory told h = tt

abbrev by_code : ShareAckReply → Bool → Result ShareAckReply ClientFault
by_code reply b = if b then Err (Refused reply.error_code) else Ok reply

pub hears_code : (reply : ShareAckReply) (b : Bool) (told : Result ShareAckReply ClientFault) → told ≡ Ok reply → ends_consumer reply.error_code ≡ b
    → unless_ended told ≡ by_code reply b
hears_code reply b told h is = ap (λ (r : Result ShareAckReply ClientFault). unless_ended r) h ∙ ap (λ (c : Bool). by_code reply c) is
