-- A log is opened over the frames that were handed over.
use Rattle.std.proofs.Common.{◌≡◌, ◌+◌, ℕ, List, [], length, ap, sym, subst, ◌∙◌, refl, inr, Some, None}
use Rattle.edge_io.specs.Views.{DiskView}
use Rattle.gate_journal.specs.Frames.{StandsFor, blocks}
use Rattle.gate_journal.proofs.Once.{once}
use Rattle.part_log.proofs.Ending.{end_of_stands}
use Rattle.gate_journal.specs.Journals.{Stands}
use Rattle.gate_journal.specs.Visits.{OpensEach, placed}
use Rattle.gate_journal.specs.declared.writer.Writer.{Writer}
use Rattle.part_log.specs.Starts.{Log, LogWrite}
use Rattle.log_index.specs.Indexes.{IndexParts}
use Rattle.part_log.specs.Holding.{HasBadFrame, HoldsLog, IsIndexed, batches_of, bytes_in, log_of}
use Rattle.part_log.specs.Logs.{IsLogText, IsNoLogText, Keeps, Lead, frames_of, no_log}
use Rattle.part_log.specs.declared.fault.OpenFault.{OpenFault}
use Rattle.part_log.specs.declared.fault.OpenFault.TheVariants.{Damaged}
use Rattle.part_log.proofs.FrameReads.{bad_none}
use Rattle.part_log.proofs.Holding.{bad_frames, bytes_placed, opened_holds}
use Rattle.part_log.proofs.Keeping.{keeps_by}
use Rattle.part_log.proofs.Rising.{sound_none}
use Rattle.part_log.proofs.Writes.{lead_once}

module _ {D : Type 0} (seen : D → DiskView) (disk : D) (w : Writer D) (frames : List (ℕ × List ℕ)) (opens : OpensEach seen disk w [] frames) where
  same : bytes_in frames ≡ opens.frames
  same = ap bytes_in opens.visits ∙ bytes_placed 0 opens.frames

  module _ (index : IndexParts) (start end : ℕ) (indexed : IsIndexed frames index start end) where
    are : opens.frames ≡ frames_of indexed.writes
    are = sym same ∙ indexed.are

    pub holds : index.cached ≡ [] → HoldsLog seen frames index w start end
    holds nothing = opened_holds seen opens.frames frames index w start end opens.visits indexed nothing opens.opens.rests.stands

    pub keeps : Keeps seen (record { batches = batches_of frames; start = start; journal = w }) None
    keeps = keeps_by seen (record { batches = batches_of frames; start = start; journal = w }) None indexed.writes indexed.leads tt
        (subst (λ (l : List (List ℕ)). Stands seen w l None) are opens.opens.rests.stands)

    pub text : (c : List ℕ) → (seen disk).content ≡ Some c → IsLogText c (log_of frames start)
    text c told = record { writes = indexed.writes; frames = subst (StandsFor c) are (opens.opens.stands c told); leads = indexed.leads }

    pub recovers : (writes : List LogWrite) (log : Log) → Lead no_log writes log → frames ≡ placed 0 (frames_of writes) → log_of frames start ≡ log
    recovers writes log leads is = lead_once no_log sound_none indexed.writes writes (log_of frames start) log indexed.leads leads
        (sym indexed.are ∙ ap bytes_in is ∙ bytes_placed 0 (frames_of writes))

  pub ends : (c : List ℕ) (its : List (List ℕ)) → (seen disk).content ≡ Some c → StandsFor c its → w.end ≡ length (blocks its) + 1
  ends c its told stands = end_of_stands seen w opens.frames None opens.opens.rests.stands
      ∙ ap (λ (l : List (List ℕ)). length (blocks l) + 1) (once c opens.frames its (opens.opens.stands c told) stands)

  pub damaged : (place : ℕ) → HasBadFrame frames place → (c : List ℕ) → (seen disk).content ≡ Some c → IsNoLogText c place
  damaged place bad c told = inr (opens.frames, opens.opens.stands c told, bad_frames opens.frames frames place opens.visits bad)

pub never_damaged : (frames : List (ℕ × List ℕ)) (place : ℕ) (writes : List LogWrite) (log : Log) → HasBadFrame frames place → Lead no_log writes log
    → frames ≡ placed 0 (frames_of writes) → ⊥
never_damaged frames place writes log bad leads is =
    bad_none (frames_of writes) place writes log (bad_frames (frames_of writes) frames place is bad) leads refl

place_of : OpenFault → ℕ
place_of (Damaged place) = place
place_of other = 0

pub place_is : (p q : ℕ) → ◌≡◌ {A = OpenFault} (Damaged p) (Damaged q) → p ≡ q
unfolding place_of
place_is p q e = ap place_of e
