-- What the link does with a frame, path by path.
use Rattle.std.proofs.Common.{◌≡◌, ◌∙◌, ℕ, ℤ, Bool, false, List, Result, Ok, Err, sym, ap}
use Rattle.std.specs.Prelude.{if◌then◌else◌}
use Rattle.std.specs.Option.{option_map_or}
use Rattle.std.specs.Ordering.{int_eq}
use Rattle.std.specs.Result.{result_ok}
use Rattle.flex_fields.specs.declared.fault.WireFault.{WireFault}
use Rattle.flex_fields.specs.declared.fault.WireFault.TheVariants.{Short, BadVarint, BadLength, NotUtf8, Trailing, NoMemory as no_memory}
use Rattle.flex_fields.specs.Cursors.{Fails, Reads, TakesNoMemory}
use Rattle.flex_fields.specs.Reading.{At}
use Rattle.msgs_group.specs.declared.heartbeat_reply.HeartbeatReply.{HeartbeatReply}
use Rattle.share_client.specs.declared.fault.ClientFault.{ClientFault}
use Rattle.share_client.specs.declared.fault.ClientFault.TheVariants.{Refused, Strange, NoMemory}
use Rattle.share_client.specs.Frames.{IsAnswer, fault_of, said}
use Rattle.share_client.specs.Heartbeats.{is_refusal, unless_refused}

-- ---- reading

pub number_read : (number n : ℤ) (old new : At) (read : Result (ℤ × At) WireFault) → Reads old new (Ok n) read
    → int_eq n number ≡ option_map_or (λ x. int_eq x.0 number) (result_ok read) false
number_read number n old new read h = ap (λ (r : Result (ℤ × At) WireFault). option_map_or (λ x. int_eq x.0 number) (result_ok r) false) (sym h)

no_number : (number : ℤ) (read : Result (ℤ × At) WireFault) (e : WireFault) → read ≡ Err e → false ≡ option_map_or (λ x. int_eq x.0 number) (result_ok read) false
no_number number read e h = ap (λ (r : Result (ℤ × At) WireFault). option_map_or (λ x. int_eq x.0 number) (result_ok r) false) (sym h)

pub number_unread : (number : ℤ) (e : WireFault) (old new : At) (read : Result (ℤ × At) WireFault) → Reads {X = ℤ} old new (Err e) read → TakesNoMemory {X = ℤ} (Err e)
    → false ≡ option_map_or (λ x. int_eq x.0 number) (result_ok read) false
number_unread number (Short p) old new read h m = no_number number read (Short p) h.0
number_unread number (BadVarint p) old new read h m = no_number number read (BadVarint p) h.0
number_unread number (BadLength p) old new read h m = no_number number read (BadLength p) h.0
number_unread number (NotUtf8 p) old new read h m = no_number number read (NotUtf8 p) h.0
number_unread number (Trailing p) old new read h m = no_number number read (Trailing p) h.0
number_unread number no_memory old new read h m = absurd m

pub body_said : {A : Type 0} (x : ℤ × A) (read : Result (ℤ × A) WireFault) → read ≡ Ok x → IsAnswer (Ok x.1) (said read)
body_said {A} x read h = ap (λ (r : Result (ℤ × A) WireFault). said r) h

pub fault_said : {A : Type 0} (e : WireFault) (read : Result (ℤ × A) WireFault) → Fails e read → IsAnswer {A = A} (Err (fault_of e)) (said read)
fault_said {A} (Short p) read h = ap (λ (r : Result (ℤ × A) WireFault). said r) h
fault_said {A} (BadVarint p) read h = ap (λ (r : Result (ℤ × A) WireFault). said r) h
fault_said {A} (BadLength p) read h = ap (λ (r : Result (ℤ × A) WireFault). said r) h
fault_said {A} (NotUtf8 p) read h = ap (λ (r : Result (ℤ × A) WireFault). said r) h
fault_said {A} (Trailing p) read h = ap (λ (r : Result (ℤ × A) WireFault). said r) h
fault_said no_memory read h = tt

-- ---- hearing

pub hears_fault : (fault : ClientFault) (told : Result HeartbeatReply ClientFault) → IsAnswer (Err fault) told → IsAnswer (Err fault) (unless_refused told)
hears_fault (Refused code) told h = ap (λ (r : Result HeartbeatReply ClientFault). unless_refused r) h
hears_fault (Strange place) told h = ap (λ (r : Result HeartbeatReply ClientFault). unless_refused r) h
hears_fault NoMemory told h = tt

abbrev by_code : HeartbeatReply → Bool → Result HeartbeatReply ClientFault
by_code reply b = if b then Err (Refused reply.error_code) else Ok reply

pub hears_code : (reply : HeartbeatReply) (b : Bool) (told : Result HeartbeatReply ClientFault) → told ≡ Ok reply → is_refusal reply.error_code ≡ b
    → unless_refused told ≡ by_code reply b
hears_code reply b told h is = ap (λ (r : Result HeartbeatReply ClientFault). unless_refused r) h ∙ ap (λ (c : Bool). by_code reply c) is
