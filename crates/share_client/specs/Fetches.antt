-- What is heard by a frame that is the reply to a ShareFetch (KIP-932): a reply that can be so, the code that ends the consumer, or the
-- place at which it can't be. What can't be is told before a code.
-- For example a reply with the code 29 in which nothing stands is refused with 29, and one without its last byte is strange.
use Rattle.std.specs.Prelude.{◌≡◌, ℕ, ℤ, pos, Bool, true, false, not, ◌&&◌, ◌||◌, List, [], drop, flat_map, Option, Some, None, Result, Ok, Err, ◌⊎◌}
use Rattle.std.specs.Ordering.{int_eq}
use Rattle.flex_fields.specs.declared.fault.WireFault.{WireFault}
use Rattle.flex_fields.specs.Reading.{then_at, whole_at}
use Rattle.req_head.specs.Heads.{reply_head}
use Rattle.share_model.specs.ErrorCodes.{INVALID_SHARE_SESSION_EPOCH, SHARE_SESSION_NOT_FOUND}
use Rattle.share_client.specs.declared.fault.ClientFault.{ClientFault}
use Rattle.share_client.specs.declared.fault.ClientFault.TheVariants.{Refused, Strange, NoMemory}
use Rattle.share_client.specs.declared.fetched.LocatedFetch.{LocatedFetch}
use Rattle.share_client.specs.Frames.{said, within}
use Rattle.share_client.specs.Grants.{AreFetched, entries_of}
use Rattle.share_client.specs.Locating.{located_fetch_at}

-- the reply of a frame, with places, or why it isn't one
abbrev pub located_in : List ℕ → Result (ℤ × LocatedFetch) WireFault
located_in frame = whole_at (then_at (reply_head true).read located_fetch_at) (drop 4 frame)

-- what the partitions of a reply say where it may grant so many offsets: nothing, or the place of what can't be
abbrev pub Tells : LocatedFetch → ℕ → Option ℕ → Type 0
Tells reply most told = AreFetched [] most (flat_map entries_of reply.responses) told

-- whether the partitions can be so
abbrev pub IsJudged : LocatedFetch → ℕ → Result (Unit {0}) ClientFault → Type 0
IsJudged reply most (Ok done) = Tells reply most None
IsJudged reply most (Err NoMemory) = Unit {0}
IsJudged reply most (Err (Refused code)) = ⊥
IsJudged reply most (Err (Strange place)) = (at : ℕ) × Tells reply most (Some at) × (place ≡ within at)

-- with these codes the session is to start anew
abbrev pub starts_anew : ℤ → Bool
starts_anew code = int_eq code SHARE_SESSION_NOT_FOUND.0 || int_eq code INVALID_SHARE_SESSION_EPOCH.0

-- a code that ends the consumer
abbrev pub ends_consumer : ℤ → Bool
ends_consumer code = not (int_eq code (pos 0)) && not (starts_anew code)

-- what is heard where the request allows so many offsets
abbrev pub HearsFetch : List ℕ → ℕ → Result LocatedFetch ClientFault → Type 0
HearsFetch frame most (Ok reply) = (said (located_in frame) ≡ Ok reply) × Tells reply most None × (ends_consumer reply.error_code ≡ false)
HearsFetch frame most (Err NoMemory) = Unit {0}
HearsFetch frame most (Err (Strange place)) = (said (located_in frame) ≡ Err (Strange place))
    ⊎ ((reply : LocatedFetch) × (at : ℕ) × (said (located_in frame) ≡ Ok reply) × Tells reply most (Some at) × (place ≡ within at))
HearsFetch frame most (Err (Refused code)) = (reply : LocatedFetch) × (said (located_in frame) ≡ Ok reply) × Tells reply most None
    × (code ≡ reply.error_code) × (ends_consumer code ≡ true)
