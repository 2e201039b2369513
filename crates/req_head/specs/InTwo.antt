-- A request header in two parts (KIP-482, RequestHeader.json): what a header of each version begins with, and what stands behind
-- that in the versions 2 and 1.
-- For example `0053 0000 00000001` and `ffff 00` are the parts of a header of key 83, version 0 and correlation id 1 without a
-- client id; in version 1 the second one is `ffff`.
use Rattle.std.specs.Prelude.{ℕ, ℤ, Bool, true, false, List, Option, refl}
use Rattle.flex_fields.specs.Formats.{Format, Shape, structure, ◌▹◌, int16, int32}
use Rattle.req_head.specs.Heads.{client_id}

-- the key, the version and the correlation id, in eight bytes
abbrev pub head_start : Format (ℤ × (ℤ × ℤ))
head_start = int16 ▹ int16 ▹ int32

abbrev pub client_alone : Shape (Option (List ℕ)) (Option (List ℕ))
client_alone = record { make = λ x. x; parts = λ x. x; back = λ _. refl; there = λ _. refl }

unfoldable pub tagged_rest : Format (Option (List ℕ))
tagged_rest = structure client_alone client_id

-- the client id, with tags behind it in version 2 and nothing in version 1
abbrev pub head_rest : Bool → Format (Option (List ℕ))
head_rest true = tagged_rest
head_rest false = client_id
