-- The visits of a plan are at shards of hosted partitions, where those of the sessions are.
use Rattle.std.proofs.Common.{◌≡◌, ◌<◌, ◌%◌, ℕ, ℤ, pos, nat_abs, Bool, true, false, not, List, [], ◌∷◌, ◌++◌, Option, Some, None, All, length, map, find, take, drop}
use Rattle.std.proofs.Common.{refl, if◌then◌else◌}
use Rattle.std.specs.List.{filter_map, cons_option}
use Rattle.std.specs.Option.{option_map}
use Rattle.std.proofs.lemmas.List.Elements.{All-nil, All-cons, All-head, All-tail, All-append, All-push, All-take, All-drop, All-map, All-filter}
use Rattle.share_model.specs.declared.ack.AckBatch.{AckBatch}
use Rattle.topic_conf.specs.declared.topic.Topic.{Topic}
use Rattle.topic_conf.specs.Topics.{shard_at, partitions}
use Rattle.topic_conf.proofs.Shards.{shard_below}
use Rattle.msgs_share.specs.declared.share_topic.SharePartition.{SharePartition}
use Rattle.share_session.specs.declared.change.SessionChange.{SessionChange}
use Rattle.share_session.specs.declared.change.SessionChange.TheVariants.{Leave, Put, Open}
use Rattle.share_session.specs.declared.session.Session.{Session}
use Rattle.share_session.specs.declared.step.Caller.{Caller}
use Rattle.share_session.specs.declared.step.PlanStep.{PlanStep}
use Rattle.share_session.specs.PlanParts.{PlanParts}
use Rattle.share_session.specs.SessionParts.{SessionParts}
use Rattle.share_session.specs.Sessions.{is_of, without, with_session, applied}
use Rattle.share_session.specs.Requests.{ack_batch, wanted_of, has, join, joined}
use Rattle.share_session.specs.Refusals.{opens, closes}
use Rattle.share_session.specs.Plans.{release, shards_of, visit_list, fetch_visit, fetch_visits, partitions_of, visit, without_shards}
use Rattle.share_session.specs.Plans.{opening, fetching, acknowledging, closing, fetch_by_epoch, ack_by_epoch, session_releases, releases_of}
use Rattle.share_session.specs.declared.step.Purpose.TheVariants.{Nothing, Release}
use Rattle.conn_core.specs.HostedShards.{HasHosted}

module _ (n : ℕ) where
  abbrev pub Below : ℕ → Type 0
  Below shard = shard < n

  abbrev pub StepBelow : PlanStep → Type 0
  StepBelow step = step.shard < n

  abbrev pub WantedBelow : ℕ × List AckBatch → Type 0
  WantedBelow w = w.0 < n

  -- ---- lists of shards

  joined_below : (list shards : List ℕ) → All Below list → All Below shards → All Below (joined list shards)
  joined_below list [] h g = h
  joined_below list (s ∷ shards) h g = joined_below (join list s) shards (one (has list s)) (All-tail Below s shards g)
    where
      one : (b : Bool) → All Below (if b then list else list ++ s ∷ [])
      one true = h
      one false = All-push Below list s h (All-head Below s shards g)

  found_below : (p : SessionParts → Bool) (ss : List SessionParts) → All (HasHosted n) ss → All Below (partitions_of (find p ss))
  found_below p [] h = All-nil Below
  found_below p (s ∷ ss) h = go (p s) (found_below p ss (All-tail (HasHosted n) s ss h))
    where
      go : (b : Bool) → All Below (partitions_of (find p ss)) → All Below (partitions_of (if b then Some s else find p ss))
      go true later = All-head (HasHosted n) s ss h
      go false later = later

  listed_below : (list : List ℕ) (wanted : List (ℕ × List AckBatch)) → All Below list → All WantedBelow wanted → All Below (visit_list list wanted)
  listed_below list wanted h w = joined_below list (shards_of wanted) h (All-map Below (λ (x : ℕ × List AckBatch). x.0) wanted w)

  left_below : (others list : List ℕ) → All Below list → All Below (without_shards others list)
  left_below others list h = All-filter (λ (shard : ℕ). not (has others shard)) Below list h

  -- ---- plans

  turned_below : (caller : Caller) (epoch : ℤ) (wanted : List (ℕ × List AckBatch)) (forgotten list : List ℕ) → All Below list →
      All StepBelow (fetch_visits caller epoch wanted forgotten list)
  turned_below caller epoch wanted forgotten list h =
      let steps = map (fetch_visit caller wanted forgotten) list in
      let all : All StepBelow steps = All-map StepBelow (fetch_visit caller wanted forgotten) list h in
      let k = nat_abs epoch % length steps in
      All-append StepBelow (drop k steps) (take k steps) (All-drop StepBelow k steps all) (All-take StepBelow k steps all)

  abbrev pub ChangeBelow : SessionChange → Type 0
  ChangeBelow (Leave group member) = Unit {0}
  ChangeBelow (Put s) = HasHosted n s
  ChangeBelow (Open s) = HasHosted n s

  pub record PlanBelow (plan : PlanParts) : Type 0 where
    pub released : All StepBelow plan.released
    pub told : All StepBelow plan.told
    pub closed : All StepBelow plan.closed
    pub change : ChangeBelow plan.change

  released_below : (caller : Caller) (list : List ℕ) → All Below list → All StepBelow (map (release caller) list)
  released_below caller list h = All-map StepBelow (release caller) list h

  module _ (caller : Caller) (session : Option Session) (epoch : ℤ) (wanted : List (ℕ × List AckBatch)) (own : All Below (partitions_of session)) (w : All WantedBelow wanted) where
    closing_below : PlanBelow (closing caller session wanted)
    closing_below = record {
      released = All-nil StepBelow;
      told = All-map StepBelow (λ (x : ℕ × List AckBatch). visit caller Release x.1 x.0) wanted w;
      closed = released_below caller (without_shards (shards_of wanted) (partitions_of session)) (left_below (shards_of wanted) (partitions_of session) own);
      change = tt;
    }

    opening_below : (forgotten : List ℕ) → PlanBelow (opening caller session wanted forgotten)
    opening_below forgotten =
        let list = listed_below [] wanted (All-nil Below) w in record {
          released = released_below caller (partitions_of session) own;
          told = turned_below caller (pos 0) wanted forgotten (visit_list [] wanted) list;
          closed = All-nil StepBelow;
          change = left_below forgotten (visit_list [] wanted) list;
        }

    fetching_below : (forgotten : List ℕ) → PlanBelow (fetching caller session epoch wanted forgotten)
    fetching_below forgotten =
        let list = listed_below (partitions_of session) wanted own w in record {
          released = All-nil StepBelow;
          told = turned_below caller epoch wanted forgotten (visit_list (partitions_of session) wanted) list;
          closed = All-nil StepBelow;
          change = left_below forgotten (visit_list (partitions_of session) wanted) list;
        }

    acknowledging_below : PlanBelow (acknowledging caller session epoch wanted)
    acknowledging_below = record {
      released = All-nil StepBelow;
      told = All-map StepBelow (λ (x : ℕ × List AckBatch). visit caller Nothing x.1 x.0) wanted w;
      closed = All-nil StepBelow;
      change = own;
    }

    pub fetch_below : (forgotten : List ℕ) → PlanBelow (fetch_by_epoch caller session epoch wanted forgotten)
    fetch_below forgotten = go (closes epoch) (opens epoch)
      where
        go : (b d : Bool) → PlanBelow (if b then closing caller session wanted else if d then opening caller session wanted forgotten else fetching caller session epoch wanted forgotten)
        go true d = closing_below
        go false true = opening_below forgotten
        go false false = fetching_below forgotten

    pub ack_below : PlanBelow (ack_by_epoch caller session epoch wanted)
    ack_below = go (closes epoch)
      where
        go : (b : Bool) → PlanBelow (if b then closing caller session wanted else acknowledging caller session epoch wanted)
        go true = closing_below
        go false = acknowledging_below

  -- the sessions of a connection, where the partitions of all are such
  pub sessions_below : (group member : List ℕ) (ss : List SessionParts) → All (HasHosted n) ss → All Below (partitions_of (find (is_of group member) ss))
  sessions_below group member ss h = found_below (is_of group member) ss h

  -- ---- sessions after a change, and their releases

  with_below : (new : SessionParts) (ss : List SessionParts) → HasHosted n new → All (HasHosted n) ss → All (HasHosted n) (with_session new ss)
  with_below new [] c h = h
  with_below new (s ∷ ss) c h = go (is_of new.group new.member s) (with_below new ss c (All-tail (HasHosted n) s ss h))
    where
      go : (b : Bool) → All (HasHosted n) (with_session new ss) → All (HasHosted n) (if b then new ∷ ss else s ∷ with_session new ss)
      go true later = All-cons (HasHosted n) new ss c (All-tail (HasHosted n) s ss h)
      go false later = All-cons (HasHosted n) s (with_session new ss) (All-head (HasHosted n) s ss h) later

  without_below : (group member : List ℕ) (ss : List SessionParts) → All (HasHosted n) ss → All (HasHosted n) (without group member ss)
  without_below group member ss h = All-filter (λ (s : SessionParts). not (is_of group member s)) (HasHosted n) ss h

  pub applied_below : (change : SessionChange) (ss : List SessionParts) → ChangeBelow change → All (HasHosted n) ss → All (HasHosted n) (applied change ss)
  applied_below (Leave group member) ss c h = without_below group member ss h
  applied_below (Put s) ss c h = with_below s ss c h
  applied_below (Open s) ss c h = All-push (HasHosted n) (without s.group s.member ss) s (without_below s.group s.member ss h) c

  pub releases_below : (ss : List SessionParts) → All (HasHosted n) ss → All StepBelow (releases_of ss)
  releases_below [] h = All-nil StepBelow
  releases_below (s ∷ ss) h =
      All-append StepBelow (session_releases s) (releases_of ss)
      (released_below (record { group = s.group; member = s.member }) s.partitions (All-head (HasHosted n) s ss h))
      (releases_below ss (All-tail (HasHosted n) s ss h))

-- ---- what a request wants

pub wanted_below : (topics : List Topic) (es : List (List ℕ × SharePartition)) → All (WantedBelow (partitions topics)) (filter_map (wanted_of topics) es)
wanted_below topics [] = All-nil (WantedBelow (partitions topics))
wanted_below topics (e ∷ es) = go (shard_at e.0 e.1.partition_index topics) refl (wanted_below topics es)
  where
    go : (o : Option ℕ) → shard_at e.0 e.1.partition_index topics ≡ o → All (WantedBelow (partitions topics)) (filter_map (wanted_of topics) es) →
        All (WantedBelow (partitions topics)) (cons_option (option_map (λ shard. (shard, map ack_batch e.1.acknowledgement_batches)) o) (filter_map (wanted_of topics) es))
    go None is later = later
    go (Some shard) is later =
        All-cons (WantedBelow (partitions topics)) (shard, map ack_batch e.1.acknowledgement_batches) (filter_map (wanted_of topics) es)
        (shard_below topics e.0 e.1.partition_index shard is) later
