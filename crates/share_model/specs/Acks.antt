-- Acknowledgement batches: what a consumer says of the records that it acquired (KIP-932 and Kafka's schemas ShareFetchRequest and
-- ShareAcknowledgeRequest, AcknowledgeTypes: 0 gap, 1 accept, 2 release, 3 reject).
-- For example the type 2 is a release, and 4, the renewal of a lock, is none of the four.
use Rattle.std.specs.Prelude.{◌+◌, ℕ, List, [], ◌∷◌, length, Option, Some, None, nat_eq, if◌then◌else◌}
use Rattle.share_model.specs.declared.ack.AckBatch.{AckBatch}
use Rattle.share_model.specs.declared.ack.AckKind.{AckKind}
use Rattle.share_model.specs.declared.ack.AckKind.TheVariants.{Gap, Accept, Release, Reject}

-- the kind with this number, where there is one
abbrev pub kind_of : ℕ → Option AckKind
kind_of n =
    if nat_eq n 0 then Some Gap
    else if nat_eq n 1 then Some Accept
    else if nat_eq n 2 then Some Release
    else if nat_eq n 3 then Some Reject
    else None

-- how many types the batches have in all
abbrev pub types_in : List AckBatch → ℕ
types_in [] = 0
types_in (batch ∷ batches) = length batch.types + types_in batches
