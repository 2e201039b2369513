-- No image of a journal's disk is shorter than where the journal ends.
use Rattle.std.proofs.Common.{◌≤◌, ap, arith, ℕ, List, [], ◌∷◌, length, length-append, Option}
use Rattle.std.specs.Option.{option_map}
use Rattle.gate_journal.specs.Frames.{blocks, framed}
use Rattle.gate_journal.specs.Journals.{Mends, Stands}
use Rattle.gate_journal.specs.declared.writer.Writer.{Writer}
use Rattle.gate_journal.specs.declared.writer.Mending.{Mending}
use Rattle.gate_journal.specs.declared.writer.Mending.TheVariants.{Nothing, Behind, Gate}
use Rattle.part_log.specs.Logs.{frame_of, frames_of}
use Rattle.share_model.specs.Held.{Held}
use Rattle.share_part.specs.Shards.{Carries, PartParts, PartShardState}
use Rattle.edge_io.specs.Views.{DiskView}

module _ {D : Type 0} (seen : D → DiskView) (writer : Writer D) (frames : List (List ℕ)) (pending : Option (List ℕ)) where
  long_by : (m : Mending) → Mends seen writer m frames pending → (c : List ℕ) → (seen writer.disk).image c → writer.end ≤ length c
  long_by Nothing h c now =
      let s = h.1.each c now in omega (arith, h.1.end, ap length s.2, length-append (blocks frames) (s.0 ∷ []))
  long_by Behind h c now =
      let s = h.each c now in omega (arith, h.end, ap length s.3, length-append (blocks frames) (s.0 ∷ s.1))
  long_by Gate h c now =
      let s = h.3.each c now in omega (arith, h.3.end, ap length s.1, length-append (blocks frames) (s.0 ∷ framed h.0))

  -- each image of the disk reaches to where the journal ends
  pub long : Stands seen writer frames pending → (c : List ℕ) → (seen writer.disk).image c → writer.end ≤ length c
  long stands = long_by writer.mending stands.mends

module _ {D W : Type 0} (seen : D → DiskView) (holding : W → Held) (parts : PartParts D W) (shard : PartShardState)
    (carries : Carries seen holding parts shard) where
  -- each image of the log's disk reaches to where the log's journal ends
  pub log_long : (c : List ℕ) → (seen parts.log.journal.disk).image c → parts.log.journal.end ≤ length c
  log_long = long seen parts.log.journal (frames_of carries.log.keeps.writes) (option_map frame_of shard.log.pending) carries.log.keeps.stands
