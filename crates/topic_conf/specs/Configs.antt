-- What a broker is configured with (this project's own).
-- For example a lock time of 30000 and a limit of 5 are told as they were given.
use Rattle.std.specs.Prelude.{◌≤◌, ℕ, List}
use Rattle.share_model.specs.declared.reset.Reset.{Reset}
use Rattle.topic_conf.specs.declared.topic.Topic.{Topic}
use Rattle.topic_conf.specs.declared.versions.Versions.{Versions}

-- The hosted topics; where a new group begins; how long an acquisition lock lasts, in milliseconds; at which delivery
-- count a released record is archived; the host and port that clients are told; and which versions of the calls are served.
pub record ConfigParts : Type 0 where
  pub topics : List Topic
  pub reset : Reset
  pub lock_ms : ℕ
  pub limit : ℕ
  pub host : List ℕ
  pub port : ℕ
  pub versions : Versions

-- the range of an acquisition lock: up to an hour
pub record IsLockTime (ms : ℕ) : Type 0 where
  pub some : 1 ≤ ms
  pub few : ms ≤ 3600000

-- the range of the delivery limit
pub record IsLimit (limit : ℕ) : Type 0 where
  pub some : 2 ≤ limit
  pub few : limit ≤ 10
