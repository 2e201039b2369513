-- A history of a partition behind a lock is one of the machine's steps on it, so its locks are exclusive.
use Rattle.std.proofs.Common.{◌≡◌, ◌+◌, refl, sym, ap, ◌∙◌, subst, arith, ℕ, List, [], ◌∷◌, ◌++◌, length, Bool, cond, Ok, Err}
use Rattle.std.proofs.lemmas.List.{append_cancel_left}
use Rattle.std.specs.Prelude.{is_some, codes, slice_index_or}
use Rattle.edge_io.specs.Causes.{Rose}
use Rattle.edge_io.specs.Names.{disk_word, hosted_name, number_word}
use Rattle.edge_io.specs.declared.name.DiskPlace.{DiskPlace}
use Rattle.edge_io.specs.declared.name.DiskPlace.TheVariants.{Log, StateA, StateB}
use Rattle.edge_io.specs.Views.{DiskView}
use Rattle.share_part.specs.Expiring.{StepsExpire}
use Rattle.share_part.specs.Failures.{failures_of}
use Rattle.share_part.specs.Hosting.{PartConfParts}
use Rattle.share_model.specs.declared.visit.Visit.{Visit}
use Rattle.share_model.specs.declared.visit.VisitAnswer.{VisitAnswer}
use Rattle.share_part.specs.Shards.{PartShardState}
use Rattle.share_part.specs.Visits.{StepsVisit}
use Rattle.shard_lock.specs.History.{Leads}
use Rattle.shard_lock.specs.declared.shard.Entry.{Entry}
use Rattle.broker_model.specs.Acting.{TakesStep}
use Rattle.broker_hosts.proofs.Places.{differs, same_self}
use Rattle.broker_model.specs.Hosted.{Hosted, first_of, log_of, same_name, second_of, state_store}
use Rattle.broker_model.specs.Locks.{IsAboveStart}
use Rattle.broker_model.specs.PartHistory.{IsPartHistory, StepsAlone}
use Rattle.broker_model.specs.PartHistory.PartAct.{Called}
use Rattle.broker_model.specs.Shards.{Counts, Ends, PartCall, faults_before, faults_behind}
use Rattle.broker_model.specs.Shards.PartCall.{Visits, Produces, Looks, Expires, Deletes}
use Rattle.broker_model.proofs.PartLocks.{exclusive_alone}
use Rattle.broker_model.proofs.Ungranted.{ungranted}
use Rattle.broker_shards.specs.Acts.{PartDeed, StepsBy}
use Rattle.broker_shards.specs.Acts.PartDeed.{Calls, Offers}
use Rattle.broker_shards.specs.Hosts.{Host}
use Rattle.broker_shards.specs.declared.part.PartEvent.{PartEvent}
use Rattle.broker_locks.specs.Histories.{IsHistory, MovesPart, StepsPart, act_of, call_in, steps_of}
use Rattle.broker_locks.specs.Shared.{PartAnswer}

-- the three disks of a partition have three names
same_word : (topic : List ℕ) (part : ℕ) (p q : DiskPlace) → hosted_name topic part p ≡ hosted_name topic part q → disk_word p ≡ disk_word q
same_word topic part p q e = append_cancel_left (codes "/") (disk_word p) (disk_word q)
    (append_cancel_left (number_word part) (codes "/" ++ disk_word p) (codes "/" ++ disk_word q)
    (append_cancel_left (codes "/") (number_word part ++ (codes "/" ++ disk_word p)) (number_word part ++ (codes "/" ++ disk_word q))
    (append_cancel_left topic (codes "/" ++ (number_word part ++ (codes "/" ++ disk_word p)))
    (codes "/" ++ (number_word part ++ (codes "/" ++ disk_word q))) e)))

first_apart : (topic : List ℕ) (part : ℕ) → hosted_name topic part StateA ≡ hosted_name topic part Log → ⊥
first_apart topic part e = let bad : 7 ≡ 3 = ap length (same_word topic part StateA Log e) in omega (arith, bad)

second_apart : (topic : List ℕ) (part : ℕ) → hosted_name topic part StateB ≡ hosted_name topic part Log → ⊥
second_apart topic part e = let bad : 7 ≡ 3 = ap length (same_word topic part StateB Log e) in omega (arith, bad)

states_apart : (topic : List ℕ) (part : ℕ) → hosted_name topic part StateB ≡ hosted_name topic part StateA → ⊥
states_apart topic part e =
    let bad : 98 ≡ 97 = ap (λ (l : List ℕ). slice_index_or l 6 0) (same_word topic part StateB StateA e) in omega (arith, bad)

module _ {D : Type 0} (seen : D → DiskView) where
  -- the partition of this shard
  abbrev of_host : List ℕ → Host D → Hosted
  of_host topic h = record { topic = topic; conf = h.part.conf }

  module _ (topic : List ℕ) (old new : Host D) where
    -- whether the disk of the log tells its content, what it and those of the states count, and where their journals end
    abbrev told : Bool
    told = is_some (seen old.part.log.journal.disk).content

    abbrev log_counts : Counts
    log_counts name = ((seen old.part.log.journal.disk).faults, (seen new.part.log.journal.disk).faults)

    abbrev log_ends : Ends
    log_ends name = (old.part.log.journal.end, new.part.log.journal.end)

    abbrev first_counts : Counts
    first_counts name = ((seen old.part.states.journal.first.disk).faults, (seen new.part.states.journal.first.disk).faults)

    abbrev second_counts : Counts
    second_counts name = ((seen old.part.states.journal.second.disk).faults, (seen new.part.states.journal.second.disk).faults)

    abbrev ends : Ends
    ends name = (old.part.states.journal.end, new.part.states.journal.end)

    -- of all three by their names
    abbrev counts : Counts
    counts name = cond (same_name name (log_of (of_host topic old))) (log_counts name)
        (cond (same_name name (first_of (of_host topic old))) (first_counts name) (second_counts name))

    by_log : counts (log_of (of_host topic old)) ≡ log_counts []
    by_log = ap (λ (b : Bool). cond b (log_counts []) (cond (same_name (log_of (of_host topic old)) (first_of (of_host topic old))) (first_counts []) (second_counts [])))
        (same_self (log_of (of_host topic old)))

    by_first : counts (first_of (of_host topic old)) ≡ first_counts []
    by_first = ap (λ (b : Bool). cond b (log_counts []) (cond (same_name (first_of (of_host topic old)) (first_of (of_host topic old))) (first_counts []) (second_counts [])))
        (differs (first_of (of_host topic old)) (log_of (of_host topic old)) (λ e. first_apart topic old.part.conf.part e))
        ∙ ap (λ (b : Bool). cond b (first_counts []) (second_counts [])) (same_self (first_of (of_host topic old)))

    by_second : counts (second_of (of_host topic old)) ≡ second_counts []
    by_second = ap (λ (b : Bool). cond b (log_counts []) (cond (same_name (second_of (of_host topic old)) (first_of (of_host topic old))) (first_counts []) (second_counts [])))
        (differs (second_of (of_host topic old)) (log_of (of_host topic old)) (λ e. second_apart topic old.part.conf.part e))
        ∙ ap (λ (b : Bool). cond b (first_counts []) (second_counts []))
        (differs (second_of (of_host topic old)) (first_of (of_host topic old)) (λ e. states_apart topic old.part.conf.part e))

    -- those of both disks of the states, taken together
    before : faults_before counts (state_store (of_host topic old)) ≡ failures_of seen old.part.states
    before = λ i. (by_first i).0 + (by_second i).0

    behind : faults_behind counts (state_store (of_host topic old)) ≡ failures_of seen new.part.states
    behind = λ i. (by_first i).1 + (by_second i).1

    visit_alone : (now : ℕ) (s : PartShardState) (visit : Visit) (answer : VisitAnswer) (unread : Bool) (t : PartShardState)
        → TakesStep seen old.part.conf old.part new.part now s (Visits visit answer unread) t
        → StepsAlone (of_host topic old) s (Called (Visits visit answer unread)) t
    visit_alone now s visit answer unread t p = (
      told,
      counts,
      ends,
      now,
      subst (λ (n : ℕ × ℕ). StepsVisit old.part.conf
          (record { told = told; rose = Rose (counts (log_of (of_host topic old))).0 (counts (log_of (of_host topic old))).1; failed = unread })
          n.0 n.1 (ends []).0 (ends []).1 s now visit answer t) (λ i. (sym before i, sym behind i))
          (subst (λ (c : ℕ × ℕ). StepsVisit old.part.conf (record { told = told; rose = Rose c.0 c.1; failed = unread })
          (failures_of seen old.part.states) (failures_of seen new.part.states) (ends []).0 (ends []).1 s now visit answer t) (sym by_log) p),
    )

    call_alone : (now : ℕ) (s : PartShardState) (did : PartCall) (t : PartShardState) → TakesStep seen old.part.conf old.part new.part now s did t
        → StepsAlone (of_host topic old) s (Called did) t
    call_alone now s (Visits visit answer unread) t p = visit_alone now s visit answer unread t p
    call_alone now s (Produces batch produced) t p = (told, log_counts, log_ends, now, p)
    call_alone now s (Deletes to answer) t p = (told, log_counts, log_ends, now, p)
    call_alone now s (Looks group looked) t p = (told, counts, ends, now, p)
    call_alone now s (Expires answer) t p = (
      told,
      counts,
      ends,
      now,
      subst (λ (n : ℕ × ℕ). StepsExpire old.part.conf n.0 n.1 (ends []).0 (ends []).1 s now answer t) (λ i. (sym before i, sym behind i)) p,
    )

    deed_alone : (now : ℕ) (s : PartShardState) (did : PartDeed) (t : PartShardState) → StepsBy seen old.part new.part now s did t
        → StepsAlone (of_host topic old) s (call_in did) t
    deed_alone now s (Calls call) t p = call_alone now s call t p.step
    deed_alone now s (Offers group offer) t p = p.1

    act_alone : (event : PartEvent) (answer : PartAnswer) (s t : PartShardState) (p : MovesPart seen old new event answer s t)
        → StepsAlone (of_host topic old) s (act_of seen old new event answer s t p) t
    act_alone event (Ok answered) s t p = deed_alone event.now s p.0 t p.3
    act_alone event (Err fault) s t same = same

  module _ (topic : List ℕ) (conf : PartConfParts) where
    abbrev its : Hosted
    its = record { topic = topic; conf = conf }

    part_history : (old new : Host D × PartShardState) (entries : List (Entry PartEvent PartAnswer)) (leads : Leads (StepsPart seen) old entries new)
        → old.0.part.conf ≡ conf → IsPartHistory its old.1 (steps_of seen old new entries leads) new.1
    part_history old new [] leads same = ap (λ (x : Host D × PartShardState). x.1) (sym leads)
    part_history old new (e ∷ entries) leads same = (
      refl,
      subst (λ (c : PartConfParts). StepsAlone (record { topic = topic; conf = c }) old.1
          (act_of seen old.0 leads.0.0 e.event e.answer old.1 leads.0.1 leads.1.moves) leads.0.1) same
          (act_alone topic old.0 leads.0.0 e.event e.answer old.1 leads.0.1 leads.1.moves),
      part_history leads.0 new entries leads.2 (leads.1.acts.goes_on.conf ∙ same),
    )

  pub is_history : (old new : Host D × PartShardState) (entries : List (Entry PartEvent PartAnswer)) → Leads (StepsPart seen) old entries new
      → IsAboveStart old.1 → IsHistory seen old entries new
  is_history old new entries leads above = record {
    leads = leads;
    exclusive = exclusive_alone (its [] old.0.part.conf) old.1 new.1 (steps_of seen old new entries leads)
        (part_history [] old.0.part.conf old new entries leads refl);
    deleted = ungranted (its [] old.0.part.conf) old.1 new.1 (steps_of seen old new entries leads)
        (part_history [] old.0.part.conf old new entries leads refl) above;
  }
