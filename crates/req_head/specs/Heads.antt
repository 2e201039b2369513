-- The headers of requests and replies: request header versions 2 and 1, and response header versions 1 and 0 (KIP-482,
-- RequestHeader.json and ResponseHeader.json).
-- For example `0053 0000 00000001 ffff 00` is the header of key 83, version 0 and correlation id 1; of header version 1 it is
-- `0053 0000 00000001 ffff`.
use Rattle.std.specs.Prelude.{ℕ, ℤ, Bool, true, false, List, Option, refl}
use Rattle.flex_fields.specs.Formats.{Format, Shape, structure, ◌▹◌, int16, int32}
use Rattle.req_head.specs.Client.{IsClient, client_at, client_bytes}
use Rattle.req_head.specs.ClientRead.{client_reads}

-- What a request header says: 00 53 00 00 00 00 00 01 ff ff 00 has api key 83, version 0, correlation id 1 and no
-- client id.
pub record HeadParts : Type 0 where
  pub key : ℤ
  pub version : ℤ
  pub correlation : ℤ
  pub client : Option (List ℕ)

abbrev pub client_id : Format (Option (List ℕ))
client_id = record { is = IsClient; read = client_at; bytes = client_bytes; sound = client_reads }

abbrev pub head_shape : Shape HeadParts (ℤ × (ℤ × (ℤ × Option (List ℕ))))
head_shape = record {
  make = λ x. record { key = x.0; version = x.1.0; correlation = x.1.1.0; client = x.1.1.1 };
  parts = λ h. (h.key, (h.version, (h.correlation, h.client)));
  back = λ _. refl;
  there = λ _. refl;
}

abbrev pub head_fields : Format (ℤ × (ℤ × (ℤ × Option (List ℕ))))
head_fields = int16 ▹ int16 ▹ int32 ▹ client_id

unfoldable pub request_head : Format HeadParts
request_head = structure head_shape head_fields

-- the bytes are such a header, of version 2 where `tags` is true and else of version 1, which has the same fields and no tags
abbrev pub IsHead : Bool → List ℕ → HeadParts → Type 0
IsHead true bytes head = request_head.is bytes head
IsHead false bytes head = head_fields.is bytes (head_shape.parts head)

abbrev pub number_alone : Shape ℤ ℤ
number_alone = record { make = λ x. x; parts = λ x. x; back = λ _. refl; there = λ _. refl }

-- the correlation id, with tags behind it in version 1 and nothing in version 0: 00 00 00 01 00 and 00 00 00 01
abbrev pub reply_head : Bool → Format ℤ
reply_head true = structure number_alone int32
reply_head false = int32
