-- What a call of the program does: nothing, or what the command of its words does (this project's own).
-- For example a `replay` over a first disk that isn't store text has status 6, and each disk of the bay is
-- as it was; and `replay` with no topic has status 2.
use Rattle.std.specs.Prelude.{◌≡◌, ◌⊎◌}
use Rattle.share_top.specs.declared.status.Status.{Status}
use Rattle.share_top.specs.declared.words.Words.{Words}
use Rattle.share_top.specs.declared.words.Words.TheVariants.{Replay, Load, DumpState, Gen, Serve, Consume}
use Rattle.share_top.specs.Changes.{Call}
use Rattle.share_top.specs.Consumers.{ConsumesRecords}
use Rattle.share_top.specs.Dumping.{DumpsState}
use Rattle.share_top.specs.Generating.{Generates}
use Rattle.share_top.specs.Loading.{LoadsSegment}
use Rattle.share_top.specs.Replaying.{ReplaysScript}
use Rattle.share_top.specs.Servers.{ServesLinks}
use Rattle.share_top.specs.Statuses.{status_number}
use Rattle.share_top.specs.Words.{AreOfCommand, HasNoCommand}

-- What a command does, and with which status it ends. Only a replay and a load read the input, and
-- `gen` and a consumer take no disk.
abbrev pub DoesWords : {B D : Type 0} → Call B D → Words → Status → Type 0
DoesWords call (Replay conf summary) status =
    ReplaysScript call.bay call.input call.output conf summary status
DoesWords call (Load conf shard) status =
    LoadsSegment call.bay call.input call.output conf shard status
DoesWords call (DumpState conf) status =
    call.input.Same × DumpsState call.bay call.output conf status
DoesWords call (Gen n) status =
    call.input.Same × (call.bay.new ≡ call.bay.old) × Generates call.output n status
DoesWords call (Serve listen serve) status =
    call.input.Same × ServesLinks call.bay call.output call.server serve status
DoesWords call (Consume connect conf) status =
    call.input.Same × (call.bay.new ≡ call.bay.old)
    × ConsumesRecords call.output call.server.listener call.server.spawner conf status

-- The words are no command, or no memory was found for them. Nothing that was handed over was
-- touched.
pub record DoesNothing {B D : Type 0} (call : Call B D) : Type 0 where
  pub why : ((call.number ≡ 2) × HasNoCommand call.words) ⊎ (call.number ≡ 8)
  pub untouched : (call.bay.new ≡ call.bay.old) × call.input.Same × call.output.Same
  pub unserved : call.server.listener.Same × call.server.spawner.Same

-- It does nothing, or what the command of its words does, and gives the number of its status.
abbrev pub Does : {B D : Type 0} → Call B D → Type 0
Does call = DoesNothing call
    ⊎ ((command : Words) × (status : Status) × AreOfCommand call.words command
    × (call.number ≡ status_number status) × DoesWords call command status)
