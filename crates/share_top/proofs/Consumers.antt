-- What a share consumer does, as one record.
use Rattle.std.proofs.Common.{◌≡◌, ◌≢◌, ◌⊎◌, inl, inr, refl, sym, subst, ap, ◌∙◌, ℕ, List, Bool, true, false}
use Rattle.std.proofs.lemmas.Bool.{false≢true}
use Rattle.std.specs.Prelude.{String}
use Rattle.std.specs.declared.alloc.Global.{Global}
use Rattle.edge_io.specs.Causes.{Rose}
use Rattle.share_client.specs.declared.conf.ClientConf.{ClientConf}
use Rattle.consume_run.specs.declared.end.ConsumeEnd.{ConsumeEnd}
use Rattle.consume_run.specs.declared.end.ConsumeEnd.TheVariants as end
use Rattle.consume_run.specs.Consuming.{ComesByJobs, ComesByLinks, ComesByOutput, GoesWell, IsCalm}
use Rattle.consume_run.proofs.Smooth.{calm}
use Rattle.share_top.specs.declared.status.Status.{Status}
use Rattle.share_top.specs.declared.status.Status.TheVariants.{Done, WriteFault, NoMemory}
use Rattle.share_top.specs.declared.words.address.Address.{Address}
use Rattle.share_top.specs.declared.words.Words.TheVariants.{Consume}
use Rattle.share_top.specs.Changes.{Call, ListenerChange, OutputChange, SpawnerChange}
use Rattle.share_top.specs.Commands.{Does}
use Rattle.share_top.specs.Consumers.{ConsumesRecords, EndsConsuming, IsServedWell, consume_status}
use Rattle.share_top.specs.Statuses.{status_number}
use Rattle.share_top.specs.Words.{AreConsumeWords, AreOfConsume, texts}

module _ (output : OutputChange) (listener : ListenerChange) (spawner : SpawnerChange) (conf : ClientConf) where
  -- a calm end that no count and no listener brings
  all_done : IsServedWell output listener spawner → (result : ConsumeEnd) → IsCalm result
      → ComesByLinks result listener.done listener.faults listener.faults_after → ComesByOutput result output.faults output.faults_after
      → ComesByJobs result spawner.faults spawner.faults_after → (consume_status result ≡ Done) ⊎ (consume_status result ≡ NoMemory)
  all_done well end.Done is links out jobs = inl refl
  all_done well end.NoMemory is links out jobs = inr refl
  all_done well end.NoLink is links out jobs = absurd (false≢true (sym well.more_links ∙ links))
  all_done well end.Output is links out jobs = absurd (well.no_write_fault out)
  all_done well end.Listener is links out jobs = absurd (well.no_link_fault links)
  all_done well end.Spawner is links out jobs = absurd (well.no_job_fault jobs)
  all_done well (end.Refused code) is links out jobs = absurd is
  all_done well (end.Strange place) is links out jobs = absurd is
  all_done well end.Unacknowledged is links out jobs = absurd is

  pub consumes_records : (result : ConsumeEnd) (status : Status) → status ≡ consume_status result → EndsConsuming output listener spawner conf result
      → ConsumesRecords output listener spawner conf status
  consumes_records result status is ends = record {
    end = result;
    status_is = is;
    ends = ends;
    complete = λ well goes. subst (λ (s : Status). (s ≡ Done) ⊎ (s ≡ NoMemory)) (sym is)
        (all_done well result (calm conf ends.consumes.trace result goes ends.consumes.ends) ends.links ends.writes ends.jobs);
  }

-- with another status the output's count is as it was
pub consumer_counted : (before after : ℕ) (result : ConsumeEnd) (status : Status) → status ≡ consume_status result → ComesByOutput result before after
    → status ≢ WriteFault → after ≡ before
consumer_counted before after end.Output status is out other = absurd (other is)
consumer_counted before after end.Done status is out other = out
consumer_counted before after end.NoMemory status is out other = out
consumer_counted before after end.NoLink status is out other = out
consumer_counted before after end.Listener status is out other = out
consumer_counted before after end.Spawner status is out other = out
consumer_counted before after (end.Refused code) status is out other = out
consumer_counted before after (end.Strange place) status is out other = out
consumer_counted before after end.Unacknowledged status is out other = out

-- the words are those of a share consumer
pub does_consume : {B D : Type 0} (call : Call B D) (connect : Address) (conf : ClientConf) → AreConsumeWords (texts call.words) connect conf → (status : Status)
    → call.number ≡ status_number status → call.input.Same → call.bay.new ≡ call.bay.old
    → ConsumesRecords call.output call.server.listener call.server.spawner conf status → Does call
does_consume call connect conf found status is unread untaken consumes = inr (Consume connect conf, status, found, is, (unread, untaken, consumes))

pub none_unlinked : {X : Type 0} (words : List (String Global)) (connect : Address) (conf : ClientConf) → AreConsumeWords (texts words) connect conf
    → (AreOfConsume words → ⊥) → X
none_unlinked words connect conf found none = absurd (none (connect, conf, found))
