-- The ApiVersions request of version 3 (KIP-511, ApiVersionsRequest.json).
-- For example `02 61 02 31 00` is that of the software `a`, version `1`.
use Rattle.std.specs.Prelude.{ℕ, List, refl}
use Rattle.flex_fields.specs.Formats.{Format, Shape, structure, ◌▹◌, string}
use Rattle.msgs_base.specs.declared.api_versions_request.ApiVersionsRequest.{ApiVersionsRequest}

abbrev pub api_versions_request_shape : Shape ApiVersionsRequest (List ℕ × List ℕ)
api_versions_request_shape = record {
  make = λ x. record { client_software_name = x.0; client_software_version = x.1 };
  parts = λ s. (s.client_software_name, s.client_software_version);
  back = λ _. refl;
  there = λ _. refl;
}

unfoldable pub api_versions_request : Format ApiVersionsRequest
api_versions_request = structure api_versions_request_shape (string ▹ string)
