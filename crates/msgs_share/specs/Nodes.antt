-- Brokers, as the replies of ShareFetch and ShareAcknowledge name them (KIP-932, ShareFetchResponse.json and
-- ShareAcknowledgeResponse.json).
-- For example the leader 1 with epoch 0 is `00000001 00000000 00`.
use Rattle.std.specs.Prelude.{ℕ, ℤ, List, Option, refl}
use Rattle.flex_fields.specs.Formats.{Format, Shape, structure, ◌▹◌, string, null_string, int32}
use Rattle.msgs_share.specs.declared.nodes.CurrentLeader.{CurrentLeader}
use Rattle.msgs_share.specs.declared.nodes.NodeEndpoint.{NodeEndpoint}

abbrev pub current_leader_shape : Shape CurrentLeader (ℤ × ℤ)
current_leader_shape = record {
  make = λ x. record { leader_id = x.0; leader_epoch = x.1 };
  parts = λ s. (s.leader_id, s.leader_epoch);
  back = λ _. refl;
  there = λ _. refl;
}

unfoldable pub current_leader : Format CurrentLeader
current_leader = structure current_leader_shape (int32 ▹ int32)

abbrev pub node_endpoint_shape : Shape NodeEndpoint (ℤ × (List ℕ × (ℤ × Option (List ℕ))))
node_endpoint_shape = record {
  make = λ x. record { node_id = x.0; host = x.1.0; port = x.1.1.0; rack = x.1.1.1 };
  parts = λ s. (s.node_id, (s.host, (s.port, s.rack)));
  back = λ _. refl;
  there = λ _. refl;
}

unfoldable pub node_endpoint : Format NodeEndpoint
node_endpoint = structure node_endpoint_shape (int32 ▹ string ▹ int32 ▹ null_string)
