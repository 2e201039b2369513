-- The Metadata request of the versions 0 to 12 (MetadataRequest.json).
-- For example `00 01 00 00` asks for all topics, and allows that topics are made, in version 12; in version 1 `ffffffff` asks for
-- all topics, and `00000000` for none.
use Rattle.std.specs.Prelude.{ℕ, Bool, true, false, List, Option, refl}
use Rattle.flex_fields.specs.declared.version.Version.{Version}
use Rattle.flex_fields.specs.Formats.{Shape, uuid, boolean}
use Rattle.flex_fields.specs.Versions.{Schema, structure_of, always, since, between, simply, ◌▷◌}
use Rattle.uuid.specs.Parts.{zero_bytes}
use Rattle.msgs_base.specs.Nullable.{null_array_since, null_text_since}
use Rattle.msgs_base.specs.declared.metadata_request.MetadataRequestTopic.{MetadataRequestTopic}
use Rattle.msgs_base.specs.declared.metadata_request.MetadataRequest.{MetadataRequest}

abbrev pub metadata_request_topic_shape : Shape MetadataRequestTopic (List ℕ × Option (List ℕ))
metadata_request_topic_shape = record {
  make = λ x. record { topic_id = x.0; name = x.1 };
  parts = λ s. (s.topic_id, s.name);
  back = λ _. refl;
  there = λ _. refl;
}

unfoldable pub metadata_request_topic : Version → Schema MetadataRequestTopic
metadata_request_topic v = structure_of v metadata_request_topic_shape (
    since 10 v zero_bytes (simply uuid)
    ▷ always (null_text_since 10 v)
    ) refl

abbrev pub metadata_request_shape : Shape MetadataRequest (Option (List MetadataRequestTopic) × (Bool × (Bool × Bool)))
metadata_request_shape = record {
  make = λ x. record {
    topics = x.0;
    allow_auto_topic_creation = x.1.0;
    include_cluster_authorized_operations = x.1.1.0;
    include_topic_authorized_operations = x.1.1.1;
  };
  parts = λ s. (s.topics, (s.allow_auto_topic_creation, (s.include_cluster_authorized_operations, s.include_topic_authorized_operations)));
  back = λ _. refl;
  there = λ _. refl;
}

unfoldable pub metadata_request : Version → Schema MetadataRequest
metadata_request v = structure_of v metadata_request_shape (
    always (null_array_since 1 v (metadata_request_topic v))
    ▷ since 4 v true (simply boolean)
    ▷ between 8 10 v false (simply boolean)
    ▷ since 8 v false (simply boolean)
    ) refl
