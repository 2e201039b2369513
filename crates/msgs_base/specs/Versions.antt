-- Which versions of these calls have the flexible encoding ("flexibleVersions" of Kafka's message schemas).
-- For example version 9 of Metadata has it, and version 8 hasn't.
use Rattle.std.specs.Prelude.{ℕ, nat_le}
use Rattle.flex_fields.specs.declared.version.Version.{Version}

abbrev flexible_from : ℕ → ℕ → Version
flexible_from first number = record { number = number; flexible = nat_le first number }

abbrev pub api_versions_version : ℕ → Version
api_versions_version number = flexible_from 3 number

abbrev pub metadata_version : ℕ → Version
metadata_version number = flexible_from 9 number

abbrev pub produce_version : ℕ → Version
produce_version number = flexible_from 9 number
