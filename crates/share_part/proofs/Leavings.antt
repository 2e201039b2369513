-- What a crash leaves of a shard.
use Rattle.std.proofs.Common.{◌≡◌, ◌≤◌, ⊎_elim, ◌∙◌, inl, inr, refl, ap, arith, ℕ, List, Option, Some, None}
use Rattle.std.specs.Option.{IfSome, option_map}
use Rattle.edge_io.specs.Views.{DiskView}
use Rattle.share_model.specs.ForeignRules.{ShareStates}
use Rattle.share_model.specs.Held.{Held}
use Rattle.share_model.specs.Logs.{IsLog, end_of}
use Rattle.share_model.specs.Pending.{WithPending}
use Rattle.part_log.specs.Logs.{IsAllowed, IsLogText, IsStoredLog, and_pending, log_in}
use Rattle.part_log.specs.Starts.{Log, LogWrite, with_write}
use Rattle.part_log.specs.Starts.LogWrite.{Adds, Marks}
use Rattle.part_log.proofs.Keeping.{keeps_sound, keeps_start}
use Rattle.part_log.proofs.Rising.{sound_more}
use Rattle.share_coord.specs.Holding.{StandWith}
use Rattle.share_coord.specs.Raising.{raised_states}
use Rattle.share_coord.specs.States.{AreStates, states_of}
use Rattle.share_coord.specs.Stored.{Entries}
use Rattle.share_coord.specs.Unwritten.{AreLevel}
use Rattle.share_coord.proofs.Recovered.{recovers, states_twice}
use Rattle.share_part.specs.Hosting.{PartConfParts, AreHosted}
use Rattle.share_part.specs.Leaving.{IsLeftOf, IsDoneOr}
use Rattle.share_part.specs.Shards.{PartParts, PartShardState, Carries, IsPendingHosted}
use Rattle.share_part.proofs.Producing.{end_later, hosted_later}
use Rattle.share_part.proofs.Raised.{hosted_raised}
use Rattle.share_part.proofs.Visiting.{carried}

-- a log that is left: it is one of the two, and starts at the same offset or behind
record LeftLog (log : Log) (pending : Option LogWrite) (content : List ℕ) : Type 0 where
  its : Log
  is : IsDoneOr log (and_pending log pending) its
  text : IsLogText content its
  later : log.start ≤ its.start
  keeps : (conf : PartConfParts) (states : ShareStates) → AreHosted conf log states → AreHosted conf its (raised_states its.start states)

-- the log as it was
same_log : (log : Log) (pending : Option LogWrite) (content : List ℕ) → IsLog log.batches → log.start ≤ end_of log.batches → IsLogText content log → LeftLog log pending content
same_log log pending content is_log within text = record {
  its = log;
  is = inl refl;
  text = text;
  later = omega arith;
  keeps = λ conf states h. hosted_raised conf log log.start states is_log (omega arith) within h;
}

log_left : (log : Log) (pending : Option LogWrite) (content : List ℕ) → IsStoredLog log.batches → log.start ≤ end_of log.batches → IfSome pending (IsAllowed log)
    → WithPending (IsLogText content) log (and_pending log pending) → LeftLog log pending content
log_left log None content sound within follows w = same_log log None content sound.rises within w
log_left log (Some (Adds b)) content sound within follows w = ⊎_elim
    (λ t. same_log log (Some (Adds b)) content sound.rises within t)
    (λ t. record {
      its = with_write log (Adds b);
      is = inr refl;
      text = t;
      later = omega arith;
      keeps = λ conf states h. hosted_raised conf (with_write log (Adds b)) log.start states (sound_more log.batches b sound follows).rises (omega arith)
          (let later = end_later log.batches b follows in omega (arith, within, later)) (hosted_later conf log b states follows h);
    }) w
log_left log (Some (Marks n)) content sound within follows w = ⊎_elim
    (λ t. same_log log (Some (Marks n)) content sound.rises within t)
    (λ t. record {
      its = with_write log (Marks n);
      is = inr refl;
      text = t;
      later = (let above = follows.above in omega (arith, above));
      keeps = λ conf states h. hosted_raised conf log n states sound.rises (let above = follows.above in omega (arith, above)) follows.within h;
    }) w

-- states that are left: one of the two, and what contents give, raised to the log's start
record LeftStates (conf : PartConfParts) (log : Log) (states : ShareStates) (pending : Option ShareStates) (first second : List ℕ) : Type 0 where
  its : ShareStates
  is : IsDoneOr states pending its
  written : ShareStates
  text : AreStates first second written
  raised_is : its ≡ raised_states log.start written
  hosted : AreHosted conf log its

states_left : (conf : PartConfParts) (log : Log) (entries : Entries) (pending : Option Entries) (first second : List ℕ)
    → AreHosted conf log (states_of entries) → IsPendingHosted conf log (option_map states_of pending)
    → AreLevel log.start entries → IfSome pending (AreLevel log.start) → StandWith first second entries pending
    → LeftStates conf log (states_of entries) (option_map states_of pending) first second
states_left conf log entries None first second h p level pending_level w =
    let r = recovers first second log.start entries w level in
    record { its = states_of entries; is = inl refl; written = r.0; text = r.1; raised_is = r.2; hosted = h }
states_left conf log entries (Some lost) first second h p level pending_level w = ⊎_elim
    (λ x. let r = recovers first second log.start entries x level in
    record { its = states_of entries; is = inl refl; written = r.0; text = r.1; raised_is = r.2; hosted = h })
    (λ x. let r = recovers first second log.start lost x pending_level in
    record { its = states_of lost; is = inr refl; written = r.0; text = r.1; raised_is = r.2; hosted = p }) w

module _ {D W : Type 0} (seen : D → DiskView) (holding : W → Held) (parts : PartParts D W) (log first second : List ℕ)
    (at_log : (seen parts.log.journal.disk).image log) (at_first : (seen parts.states.journal.first.disk).image first) (at_second : (seen parts.states.journal.second.disk).image second) where
  pub left_of : (shard : PartShardState) → Carries seen holding parts shard → IsLeftOf parts.conf shard log first second
  left_of = carried seen holding parts (λ shard. IsLeftOf parts.conf shard log first second) (λ write pending k.
      let keeps = k.log.keeps in
      let l = log_left (log_in parts.log) write log (keeps_sound seen parts.log write keeps) (keeps_start seen parts.log write keeps) keeps.follows (keeps.images log at_log) in
      let s = states_left parts.conf (log_in parts.log) parts.states.entries pending first second k.hosted k.pending_hosted k.level k.pending_level (k.holds.images first second at_first at_second) in
      record {
        is = l.its;
        states = s.its;
        log_is = l.is;
        later = l.later;
        states_are = s.is;
        text = record {
          log_is = l.text;
          written = s.written;
          states_are = s.text;
          raised_is = ap (raised_states l.its.start) s.raised_is ∙ states_twice parts.log.start l.its.start s.written l.later;
          hosted = l.keeps parts.conf s.its s.hosted;
        };
      })
