-- The reply to ApiVersions of the versions 0 to 3 (KIP-511, ApiVersionsResponse.json).
-- For example `0000 02 0003 000c 000c 00 00000000 00` tells api key 3 at version 12, in version 3, and a client whose version
-- isn't served gets `0023 00000001 0012 0003 0003`, in version 0.
use Rattle.std.specs.Prelude.{ℤ, pos, List, refl}
use Rattle.flex_fields.specs.declared.version.Version.{Version}
use Rattle.flex_fields.specs.Formats.{Shape, int16, int32}
use Rattle.flex_fields.specs.Versions.{Schema, structure_of, always, since, simply, array_of, ◌▷◌}
use Rattle.msgs_base.specs.declared.api_versions_reply.ApiVersion.{ApiVersion}
use Rattle.msgs_base.specs.declared.api_versions_reply.ApiVersionsReply.{ApiVersionsReply}

abbrev pub api_version_shape : Shape ApiVersion (ℤ × (ℤ × ℤ))
api_version_shape = record {
  make = λ x. record { api_key = x.0; min_version = x.1.0; max_version = x.1.1 };
  parts = λ s. (s.api_key, (s.min_version, s.max_version));
  back = λ _. refl;
  there = λ _. refl;
}

unfoldable pub api_version : Version → Schema ApiVersion
api_version v = structure_of v api_version_shape (
    always (simply int16)
    ▷ always (simply int16)
    ▷ always (simply int16)
    ) refl

abbrev pub api_versions_reply_shape : Shape ApiVersionsReply (ℤ × (List ApiVersion × ℤ))
api_versions_reply_shape = record {
  make = λ x. record { error_code = x.0; api_keys = x.1.0; throttle_time_ms = x.1.1 };
  parts = λ s. (s.error_code, (s.api_keys, s.throttle_time_ms));
  back = λ _. refl;
  there = λ _. refl;
}

unfoldable pub api_versions_reply : Version → Schema ApiVersionsReply
api_versions_reply v = structure_of v api_versions_reply_shape (
    always (simply int16)
    ▷ always (array_of v (api_version v))
    ▷ since 1 v (pos 0) (simply int32)
    ) refl
