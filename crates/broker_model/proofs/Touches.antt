-- What a step leaves alone: the other connections, the shards that it doesn't call, and their disks.
use Rattle.std.proofs.Common.{◌≡◌, ◌≢◌, ⊎_elim, refl, sym, ap, ◌∙◌, subst, ℕ, List, Bool, true, false, cond, if◌then◌else◌, Option, Some, None}
use Rattle.std.proofs.lemmas.Map.Lookups.{exact_unsigned}
use Rattle.std.specs.Ordering.{nat_cmp}
use Rattle.std.specs.Cmp.{nat_cmp_total}
use Rattle.std.specs.Map.{remove_entry}
use Rattle.session_script.specs.declared.event.Event.{Event}
use Rattle.session_script.specs.declared.event.Event.TheVariants.{Open, Bytes, Close, Step, Expire, Tick, Arm, Power}
use Rattle.session_script.specs.declared.event.Outcome.{Outcome}
use Rattle.topic_conf.specs.Configs.{ConfigParts}
use Rattle.topic_conf.specs.Topics.{shard_named}
use Rattle.conn_core.specs.Conns.{ConnParts, new_conn, conn_after_bytes, conn_after_end, is_gone}
use Rattle.broker_model.specs.Shards.{Counts, HostedPart, ShardCall, StepsHosted, StepsShards, calls, Ends}
use Rattle.broker_model.specs.Shards.ShardCall.{CallForeign, CallPart, CallMembers}
use Rattle.broker_model.specs.Machine.{Machine, named, conn_at, opened_at, at_connection, left, ended_in}
use Rattle.broker_model.specs.Steps.{ExpiresAt, Serves, StepsTo}
use Rattle.broker_model.specs.States.{counts_of, ends_of}
use Rattle.broker_model.specs.Disks.{Facts, OnCalled, OnDisk, with_arm}
use Rattle.broker_model.specs.Cutting.{Spares}
use Rattle.broker_model.specs.Laws.{NoPower, NoArm}
use Rattle.broker_model.specs.Touching.{KeepsOthers, StepsTouchTheirOwn}
use Rattle.broker_model.proofs.Lists.{changes_so}
use Rattle.broker_model.proofs.Acts.{step_acts}
use Rattle.broker_model.proofs.Maps.{set_other, removed_other}
use Rattle.broker_model.proofs.Others.{conn_other}

-- ---- connections

module _ (conn id : ℕ) (ne : conn ≢ id) where
  differ : id ≢ conn
  differ e = ne (sym e)

  opened_apart : (c : Option ConnParts) (es : List (ℕ × ConnParts)) → conn_at id (opened_at conn c es) ≡ conn_at id es
  opened_apart (Some c) es = refl
  opened_apart None es = set_other nat_cmp nat_cmp_total exact_unsigned conn new_conn id differ es

  left_apart : (c : ConnParts) (es : List (ℕ × ConnParts)) → conn_at id (left conn c es) ≡ conn_at id es
  left_apart c es = go (is_gone c) where
    go : (gone : Bool) → conn_at id (cond gone (remove_entry (named conn) es) (at_connection conn (λ d. c) es)) ≡ conn_at id es
    go true = removed_other nat_cmp nat_cmp_total exact_unsigned conn id differ es
    go false = conn_other conn id differ (λ d. c) es

  ended_apart : (c : Option ConnParts) (es : List (ℕ × ConnParts)) → conn_at id (ended_in conn c es) ≡ conn_at id es
  ended_apart None es = refl
  ended_apart (Some c) es = left_apart (conn_after_end c) es

  served_apart : (conf : ConfigParts) (counts : Counts) (ends : Ends) (now : ℕ) (old : Machine) (c : Option ConnParts) (call : Option ShardCall)
      (outcomes : List Outcome) (new : Machine) → Serves conf counts ends old conn now c call outcomes new
      → conn_at id new.connections ≡ conn_at id old.connections
  served_apart conf counts ends now old None call outcomes new does = ap (λ (m : Machine). conn_at id m.connections) does.same
  served_apart conf counts ends now old (Some c) call outcomes new takes = ap (conn_at id) takes.leaves ∙ left_apart takes.after old.connections

module _ (conf : ConfigParts) (counts : Counts) (ends : Ends) (old new : Machine) (call : Option ShardCall) (outcomes : List Outcome) where
  expiry_apart : (now : ℕ) (shard : Option ℕ) → ExpiresAt counts ends now old shard call outcomes new → new.connections ≡ old.connections
  expiry_apart now None does = ap (λ (m : Machine). m.connections) does.same
  expiry_apart now (Some shard) does = does.connections

  connections_apart : (id : ℕ) (event : Event) → Spares id event → StepsTo conf counts ends old event call outcomes new
      → conn_at id new.connections ≡ conn_at id old.connections
  connections_apart id (Open conn) ne does =
      ap (λ (m : Machine). conn_at id m.connections) does.same ∙ opened_apart conn id ne (conn_at conn old.connections) old.connections
  connections_apart id (Bytes conn bytes) ne does =
      ap (λ (m : Machine). conn_at id m.connections) does.same ∙ conn_other conn id (differ conn id ne) (conn_after_bytes bytes) old.connections
  connections_apart id (Close conn) ne does =
      ap (λ (m : Machine). conn_at id m.connections) does.same ∙ ended_apart conn id ne (conn_at conn old.connections) old.connections
  connections_apart id (Step conn now) ne does =
      served_apart conn id ne conf counts ends now old (conn_at conn old.connections) call outcomes new does
  connections_apart id (Expire topic part now) ne does = ap (conn_at id) (expiry_apart now (shard_named topic part conf.topics) does)
  connections_apart id (Tick now) ne does = ap (conn_at id) does.connections
  connections_apart id (Arm disk after mode) ne does = ap (λ (m : Machine). conn_at id m.connections) does.same
  connections_apart id (Power choice) ne does = absurd ne

  -- ---- shards

  some_none : (did : ShardCall) → call ≡ Some did → call ≡ None → ⊥
  some_none did is none = cc

  shards_apart : (event : Event) → NoPower event → call ≡ None → StepsTo conf counts ends old event call outcomes new → new.shards ≡ old.shards
  shards_apart event free none does = ⊎_elim
      (λ quiet. quiet.same) (λ d. absurd (some_none d.did d.is none)) (step_acts counts ends conf old new call outcomes event free does)

  same_did : (did done : ShardCall) → call ≡ Some did → call ≡ Some done → did ≡ done
  same_did did done is also_is = let e : Some did ≡ Some done = sym is ∙ also_is in cc

  did_apart : (now : ℕ) (did : ShardCall) → StepsShards counts ends now old.shards did new.shards → KeepsOthers did old.shards new.shards
  did_apart now (CallForeign op answer fault) step = (step.1, step.2)
  did_apart now (CallPart shard hosted did) step = (
    changes_so shard (StepsHosted counts ends now hosted did) (λ (p q : HostedPart). q.hosted ≡ p.hosted) (λ p q s. s.is ∙ sym s.was)
        old.shards.parts new.shards.parts step.0,
    step.1,
    step.2,
  )
  did_apart now (CallMembers did) step = (step.1, step.2)

  others_apart : (event : Event) → NoPower event → (did : ShardCall) → call ≡ Some did → StepsTo conf counts ends old event call outcomes new
      → KeepsOthers did old.shards new.shards
  others_apart event free did is does = ⊎_elim
      (λ quiet. absurd (some_none did is quiet.none))
      (λ d. subst (λ (c : ShardCall). KeepsOthers c old.shards new.shards) (same_did d.did did d.is is) (did_apart d.now d.did d.step))
      (step_acts counts ends conf old new call outcomes event free does)

-- ---- disks

pub disk_apart : (name : List ℕ) (event : Event) (call : Option ShardCall) (old new : Facts) → NoPower event → NoArm name event → calls call name ≡ false
    → OnDisk name event call old new → new ≡ old
disk_apart name (Open conn) call old new free unarmed away d = d
disk_apart name (Bytes conn bytes) call old new free unarmed away d = d
disk_apart name (Close conn) call old new free unarmed away d = d
disk_apart name (Step conn now) call old new free unarmed away d = subst (λ (b : Bool). OnCalled b old new) away d
disk_apart name (Expire topic part now) call old new free unarmed away d = subst (λ (b : Bool). OnCalled b old new) away d
disk_apart name (Tick now) call old new free unarmed away d = d
disk_apart name (Arm disk after mode) call old new free unarmed away d = d ∙ ap (λ (t : Bool). if t then with_arm after mode old else old) unarmed
disk_apart name (Power choice) call old new free unarmed away d = absurd free

pub touches : (conf : ConfigParts) → StepsTouchTheirOwn conf
touches conf old new event call outcomes step = record {
  connections = λ id spares. connections_apart conf (counts_of old new) (ends_of old new) old.machine new.machine call outcomes id event spares step.machine;
  shards = λ free none. shards_apart conf (counts_of old new) (ends_of old new) old.machine new.machine call outcomes event free none step.machine;
  others = λ free did is. others_apart conf (counts_of old new) (ends_of old new) old.machine new.machine call outcomes event free did is step.machine;
  disks = λ name taken free unarmed away. disk_apart name event call (old.disks name) (new.disks name) free unarmed away (step.disks name taken);
}
