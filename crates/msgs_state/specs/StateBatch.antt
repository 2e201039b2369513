-- A batch of records in one delivery state (KIP-932), as the replies to ReadShareGroupState and the requests of
-- WriteShareGroupState have them.
-- For example offsets 0 to 4, acknowledged and delivered once, are `0000000000000000 0000000000000004 02 0001 00`.
use Rattle.std.specs.Prelude.{ℤ, refl}
use Rattle.flex_fields.specs.Formats.{Format, Shape, structure, ◌▹◌, int8, int16, int64}
use Rattle.msgs_state.specs.declared.state_batch.StateBatch.{StateBatch}

abbrev pub state_batch_shape : Shape StateBatch (ℤ × (ℤ × (ℤ × ℤ)))
state_batch_shape = record {
  make = λ x. record { first_offset = x.0; last_offset = x.1.0; delivery_state = x.1.1.0; delivery_count = x.1.1.1 };
  parts = λ s. (s.first_offset, (s.last_offset, (s.delivery_state, s.delivery_count)));
  back = λ _. refl;
  there = λ _. refl;
}

unfoldable pub state_batch : Format StateBatch
state_batch = structure state_batch_shape (int64 ▹ int64 ▹ int8 ▹ int16)
