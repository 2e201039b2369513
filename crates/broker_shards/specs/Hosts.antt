-- What contracts see of a hosted partition behind a lock: the name of its topic, what its shard is configured with, and the shard in memory.
-- This project's own. For example partition 0 of `orders` is the name `orders` with the configuration of its number 0.
use Rattle.std.specs.Prelude.{ℕ, List}
use Rattle.share_model.specs.Held.{Held}
use Rattle.share_part.specs.Hosting.{PartConfParts}
use Rattle.share_part.specs.Shards.{PartParts}
use Rattle.lock_index.specs.Windows.{WindowParts}

-- the window of a group, and what it holds
abbrev pub Window : Type 0
Window = WindowParts

abbrev pub holding : Window → Held
holding window = window.held

pub record Host (D : Type 0) : Type 0 where
  pub topic : List ℕ
  pub conf : PartConfParts
  pub part : PartParts D Window
