-- What a crash leaves at a moment of a write of states.
use Rattle.std.proofs.Common.{◌≡◌, ⊎_elim, inl, inr, subst, arith, ℕ, List}
use Rattle.ack_ranges.specs.Batches.{IsWellFormed}
use Rattle.edge_io.specs.Views.{DiskView}
use Rattle.share_coord.specs.Parts.{StoreParts}
use Rattle.share_coord.specs.States.{states_of}
use Rattle.share_coord.specs.Stored.{Entries}
use Rattle.share_model.specs.ForeignRules.{share_state_at}
use Rattle.share_model.specs.Held.{Held}
use Rattle.share_model.specs.Keys.{KeyParts}
use Rattle.share_model.specs.declared.ack.AckBatch.{AckBatch}
use Rattle.share_model.specs.declared.run.Run.{Run}
use Rattle.part_log.specs.Starts.{Log}
use Rattle.share_part.specs.Foreseeing.{HasChange}
use Rattle.share_part.specs.Hosting.{PartConfParts, key_of}
use Rattle.share_part.specs.Named.{named_from}
use Rattle.share_part.specs.Settling.{AreHeldBy, Change}
use Rattle.share_part.specs.Storing.{IsAcksWritten, IsStored, WritesWithin}

-- no call was made
pub still_within : {D : Type 0} (seen : D → DiskView) (only_now : (d : D) (c : List ℕ) → (seen d).since (seen d).moment c → (seen d).image c)
    (Written : Entries → Type 0) (store : StoreParts D) → WritesWithin seen Written store store
still_within seen only_now Written store pending held = record {
  later_a = omega arith;
  later_b = omega arith;
  each = λ a b left right. inl (held.images a b (only_now store.journal.first.disk a left) (only_now store.journal.second.disk b right));
}

-- what may be written is said otherwise
pub within_as : {D : Type 0} (seen : D → DiskView) (P Q : Entries → Type 0) (old new : StoreParts D) → ((es : Entries) → P es → Q es)
    → WritesWithin seen P old new → WritesWithin seen Q old new
within_as seen P Q old new f within pending held =
    let m = within pending held in record {
      later_a = m.later_a;
      later_b = m.later_b;
      each = λ a b left right. ⊎_elim (λ x. inl x) (λ x. inr (x.0, f x.0 x.1, x.2)) (m.each a b left right);
    }

-- the write of acknowledgements
pub acks_within : {D : Type 0} (seen : D → DiskView) (conf : PartConfParts) (log : Log) (group member : List ℕ) (acks : List AckBatch)
    (held : Held) (old new : StoreParts D) (change : Change) → IsWellFormed acks → AreHeldBy member (named_from log.start acks) held
    → HasChange conf.limit (named_from log.start acks) log.batches held (share_state_at (states_of old.entries) (key_of conf group)) change
    → (key : KeyParts) (runs : List Run) → key ≡ key_of conf group → runs ≡ change.runs
    → WritesWithin seen (IsStored old.entries key change.start runs) old new
    → WritesWithin seen (IsAcksWritten conf log group member acks held old.entries) old new
acks_within seen conf log group member acks held old new change formed theirs found key runs key_is runs_are =
    within_as seen (IsStored old.entries key change.start runs) (IsAcksWritten conf log group member acks held old.entries) old new
    (λ es stored. record {
      formed = formed;
      theirs = theirs;
      state = found.0;
      change = change;
      known = found.1;
      is = found.2;
      stored = subst (λ (r : List Run). IsStored old.entries (key_of conf group) change.start r es) runs_are
          (subst (λ (k : KeyParts). IsStored old.entries k change.start runs es) key_is stored);
    })
