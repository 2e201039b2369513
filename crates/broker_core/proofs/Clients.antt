-- What a client's step means to the broker's shards.
use Rattle.std.proofs.Common.{◌≡◌, ◌∷◌, ◌++◌, [], refl, sym, ap, ◌∙◌, subst, ℕ, List, map, Option, Some, None}
use Rattle.std.specs.List.{AllByRecursion}
use Rattle.std.specs.Prelude.{All}
use Rattle.session_script.specs.declared.event.Outcome.{Outcome}
use Rattle.session_script.specs.declared.event.Outcome.TheVariants.{Reply}
use Rattle.session_script.specs.Output.{IsTold}
use Rattle.topic_conf.specs.declared.topic.Topic.{Topic}
use Rattle.topic_conf.specs.Topics.{partitions}
use Rattle.call_fold.specs.declared.part.Part.{Part}
use Rattle.call_fold.specs.declared.part.PartAnswer.{PartAnswer}
use Rattle.conn_core.specs.declared.next.Next.{Next}
use Rattle.conn_core.specs.declared.next.Next.TheVariants.{Ask}
use Rattle.conn_core.specs.Conns.{ConnParts, without_replies}
use Rattle.conn_core.specs.Turning.{Turn, Tells, conn_after_answer}
use Rattle.broker_model.specs.Shards.{Counts, Ends, Shards, ShardCall}
use Rattle.broker_model.specs.Shards.ShardCall.{CallPart}
use Rattle.broker_model.specs.Shards.PartCall.{Expires}
use Rattle.broker_model.specs.Steps.{Does, DoesTurn, ExpiresAt, replies_to}
use Rattle.broker_core.specs.Calls.{Did, ExpiresShard, IsThere, faults_in}
use Rattle.broker_core.proofs.Flats.{all_append}
use Rattle.broker_core.proofs.Telling.{all_told, faults_are, part_told}

-- the part that a connection asks was done
pub part_done : (counts : Counts) (ends : Ends) (id now : ℕ) (part : Part) (answer : PartAnswer) (conn after : ConnParts) (outcomes : List Outcome)
    → outcomes ≡ faults_in part answer ++ replies_to id (conn_after_answer answer conn) → after ≡ without_replies (conn_after_answer answer conn)
    → (a : Shards) (call : Option ShardCall) (b : Shards) → Did counts ends now part answer a call b
    → Does counts ends id now (Ask part) conn a b call outcomes after
part_done counts ends id now part answer conn after outcomes told left a call b d = record {
  did = d.0;
  answer = answer;
  is = d.1;
  does = d.2;
  shard = d.3;
  tells = told ∙ ap (λ (l : List Outcome). l ++ replies_to id (conn_after_answer answer conn)) (sym (faults_are d.0 part answer d.2));
  leaves = left;
}

-- what was told is done
pub does_turn : (counts : Counts) (ends : Ends) (id now : ℕ) (t : Turn) (next : Next) (conn after : ConnParts) (outcomes : List Outcome)
    → Tells t next conn → (a : Shards) (call : Option ShardCall) (b : Shards) → Does counts ends id now next conn a b call outcomes after
    → DoesTurn counts ends id now t a b call outcomes after
does_turn counts ends id now t next conn after outcomes told a call b does =
    subst (λ (n : Next). Does counts ends id now n t.conn a b call outcomes after) told.0
    (subst (λ (c : ConnParts). Does counts ends id now next c a b call outcomes after) told.1 does)

pub asks_next : (counts : Counts) (ends : Ends) (id now : ℕ) (part : Part) (turn : Next) (conn after : ConnParts) (outcomes : List Outcome)
    → turn ≡ Ask part → (a : Shards) (call : Option ShardCall) (b : Shards) → Does counts ends id now (Ask part) conn a b call outcomes after
    → Does counts ends id now turn conn a b call outcomes after
asks_next counts ends id now part turn conn after outcomes is a call b does =
    subst (λ (n : Next). Does counts ends id now n conn a b call outcomes after) (sym is) does

-- ---- what is told

each_reply : (topics : List Topic) (id : ℕ) (frames : List (List ℕ)) → AllByRecursion (IsTold topics) (map (λ frame. Reply id frame) frames)
each_reply topics id [] = tt
each_reply topics id (frame ∷ frames) = (tt, each_reply topics id frames)

pub replies_told : (topics : List Topic) (id : ℕ) (conn : ConnParts) (outcomes : List Outcome) → outcomes ≡ replies_to id conn → All (IsTold topics) outcomes
replies_told topics id conn outcomes e =
    all_told topics outcomes (subst (λ (l : List Outcome). AllByRecursion (IsTold topics) l) (sym e) (each_reply topics id conn.replies))

pub step_told : (topics : List Topic) (id count : ℕ) (part : Part) (answer : PartAnswer) (conn : ConnParts) (outcomes : List Outcome) → count ≡ partitions topics
    → IsThere count part → outcomes ≡ faults_in part answer ++ replies_to id conn → All (IsTold topics) outcomes
step_told topics id count part answer conn outcomes few there e =
    all_told topics outcomes (subst (λ (l : List Outcome). AllByRecursion (IsTold topics) l) (sym e)
    (all_append (IsTold topics) (faults_in part answer) (replies_to id conn)
    (part_told topics part answer (subst (λ (n : ℕ). IsThere n part) few there)) (each_reply topics id conn.replies)))

-- ---- expiries

-- a partition that is hosted was expired
pub expired_at : (counts : Counts) (ends : Ends) (now shard : ℕ) (outcomes : List Outcome) (found : Option ℕ) → found ≡ Some shard → (a : Shards)
    (call : Option ShardCall) (b : Shards) → ExpiresShard counts ends now shard outcomes a call b → (connections : List (ℕ × ConnParts))
    → ExpiresAt counts ends now (record { connections = connections; shards = a }) found call outcomes (record { connections = connections; shards = b })
expired_at counts ends now shard outcomes found is a call b d connections =
    subst (λ (o : Option ℕ). ExpiresAt counts ends now (record { connections = connections; shards = a }) o call outcomes
    (record { connections = connections; shards = b })) (sym is)
    (record { did = CallPart shard d.0 (Expires d.1); is = d.2; kind = (d.0, d.1, refl); shards = d.3; tells = d.4; connections = refl })

-- one that isn't was not
pub not_expired : (counts : Counts) (ends : Ends) (now : ℕ) (outcomes : List Outcome) (found : Option ℕ) → found ≡ None → outcomes ≡ [] → (a : Shards)
    (connections : List (ℕ × ConnParts))
    → ExpiresAt counts ends now (record { connections = connections; shards = a }) found None outcomes (record { connections = connections; shards = a })
not_expired counts ends now outcomes found is told a connections =
    subst (λ (o : Option ℕ). ExpiresAt counts ends now (record { connections = connections; shards = a }) o None outcomes
    (record { connections = connections; shards = a })) (sym is) (record { none = refl; tells = told; same = refl })

pub none_told : (topics : List Topic) (outcomes : List Outcome) → outcomes ≡ [] → All (IsTold topics) outcomes
none_told topics outcomes e = all_told topics outcomes (subst (λ (l : List Outcome). AllByRecursion (IsTold topics) l) (sym e) tt)
