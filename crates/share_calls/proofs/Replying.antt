-- The reply to ShareFetch, written from its fields.
use Rattle.std.proofs.Common.{◌≡◌, ◌∙◌, ℕ, ℤ, pos, List, [], ◌++◌, None, ap}
use Rattle.flex_fields.specs.Formats.{Writes, WritesNoTags, ◌▹◌, array, null_string, int16, int32}
use Rattle.flex_fields.proofs.Puts.{structure_writes}
use Rattle.msgs_share.specs.declared.nodes.NodeEndpoint.{NodeEndpoint}
use Rattle.msgs_share.specs.declared.share_fetch_reply.FetchedPartition.{FetchedPartition}
use Rattle.msgs_share.specs.declared.share_fetch_reply.ShareFetchReply.{ShareFetchReply}
use Rattle.msgs_share.specs.declared.share_topic.ShareTopic.{ShareTopic}
use Rattle.msgs_share.specs.Nodes.{node_endpoint}
use Rattle.msgs_share.specs.ShareTopic.{share_topic}
use Rattle.msgs_share.specs.ShareFetchReply.{fetched_partition, share_fetch_reply_shape, share_fetch_reply}
use Rattle.share_calls.specs.Fetch.{fetch_reply}

-- with any node endpoints
abbrev reply_with : ℤ → ℤ → List (ShareTopic FetchedPartition) → List NodeEndpoint → ShareFetchReply
reply_with lock_ms code responses nodes = record {
  throttle_time_ms = pos 0;
  error_code = code;
  error_message = None;
  acquisition_lock_timeout_ms = lock_ms;
  responses = responses;
  node_endpoints = nodes;
}

pub replies : (lock_ms code : ℤ) (responses : List (ShareTopic FetchedPartition)) (nodes : List NodeEndpoint) (start between out body : List ℕ) →
    start ≡ [] → nodes ≡ [] → body ≡ out →
    Writes (int32 ▹ int16 ▹ null_string ▹ int32 ▹ array (share_topic fetched_partition) ▹ array node_endpoint) start between
    (pos 0, (code, (None, (lock_ms, (responses, nodes))))) → WritesNoTags between out → body ≡ fetch_reply lock_ms code responses
unfolding share_fetch_reply
replies lock_ms code responses nodes start between out body none no_nodes whole fields tags =
    let written = structure_writes share_fetch_reply_shape {s = reply_with lock_ms code responses nodes} fields tags in
    whole ∙ written.appended
    ∙ ap (λ (l : List ℕ). l ++ share_fetch_reply.bytes (reply_with lock_ms code responses nodes)) none
    ∙ ap (λ (l : List NodeEndpoint). share_fetch_reply.bytes (reply_with lock_ms code responses l)) no_nodes
