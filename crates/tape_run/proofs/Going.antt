-- Events as pieces of a run: a close, a step of a connection, an expiry and a tick.
use Rattle.std.proofs.Common.{◌≡◌, ◌≢◌, ◌≤◌, ◌∙◌, ℕ, Bool, true, false, cond, List, [], ◌∷◌, Option, Some, None, refl, sym, ap, subst, arith, if◌then◌else◌}
use Rattle.session_script.specs.declared.event.Event.{Event}
use Rattle.session_script.specs.declared.event.Event.TheVariants.{Open, Bytes, Close, Step as StepOf, Expire, Tick}
use Rattle.session_script.specs.declared.event.Outcome.{Outcome}
use Rattle.topic_conf.specs.Configs.{ConfigParts}
use Rattle.topic_conf.specs.Topics.{shard_named}
use Rattle.conn_core.specs.declared.next.Next.{Next}
use Rattle.conn_core.specs.declared.next.Next.TheVariants.{Idle, Ask, Ready, Closed as NextClosed, Gone}
use Rattle.conn_core.specs.Conns.{ConnParts, conn_after_bytes, new_conn}
use Rattle.conn_core.specs.Turning.{turn}
use Rattle.broker_model.specs.Disks.{Disks, OnDisk}
use Rattle.broker_model.specs.Hosted.{IsLogName}
use Rattle.broker_model.specs.Machine.{at_connection, conn_at, ended_in, left, opened}
use Rattle.broker_model.specs.Shards.{Counts, Ends, ShardCall, Shards, StepsShards, calls, faults_told}
use Rattle.broker_model.specs.States.{IsStep, OnEnd, OnLosses, State, counts_of, ends_of}
use Rattle.broker_model.specs.Steps.{Does, ExpiresAt, IsExpiry, IsTick, Serves, StepsTo}
use Rattle.broker_model.proofs.Lists.{none_not, some_same}
use Rattle.broker_model.proofs.Others.{conn_other}
use Rattle.tape_run.specs.Recordings.{EndGoesOn, StepsLink, TakesTurn, closed_if, standing}
use Rattle.tape_run.proofs.Connecting.{InOrder, changed_found, close_found, close_other, close_rises, left_found, left_other, left_rises, open_found, open_other, open_rises, rises_changed}
use Rattle.tape_run.proofs.Moving.{ends_behind_call}
use Rattle.tape_run.proofs.Pieces.{Connections, IsOf, Piece, Telling, no_piece, nothing, one_piece, state_of, told_once, untouched}

module _ (conf : ConfigParts) (disks : Disks) where
  abbrev At : Connections → Shards → (List ℕ → ℕ) → State
  At connections shards ends = state_of disks connections shards ends

  abbrev faults : List ℕ → ℕ
  faults name = (disks name).faults

  -- a step that leaves all disks as they are
  built : (event : Event) (call : Option ShardCall) (outcomes : List Outcome) (connections : Connections) (shards : Shards) (ends : List ℕ → ℕ)
      (after : Connections) (moved : Shards) (later : List ℕ → ℕ) → IsOf conf shards
      → StepsTo conf (counts_of (At connections shards ends) (At after moved later)) (ends_of (At connections shards ends) (At after moved later))
      (record { connections = connections; shards = shards }) event call outcomes (record { connections = after; shards = moved })
      → ((name : List ℕ) → OnDisk name event call (disks name) (disks name))
      → OnLosses conf event ends disks disks (record { connections = after; shards = moved })
      → ((name : List ℕ) → OnEnd name event call (ends name) (later name))
      → IsStep conf (At connections shards ends) event call outcomes (At after moved later)
  built event call outcomes connections shards ends after moved later is machine on_disks losses on_ends = record {
    hosts = is.hosts;
    topics = is.topics;
    later = λ name taken. omega arith;
    machine = machine;
    disks = λ name taken. on_disks name;
    losses = losses;
    ends = λ name taken. on_ends name;
  }

  -- ---- a connection opens, gets bytes and closes

  -- these events change this connection alone, and call no shard
  pub record Changes (connections : Connections) (shards : Shards) (ends : List ℕ → ℕ) (events : List Event) (id : ℕ) (found : Option ConnParts) : Type 0 where
    pub after : Connections
    pub piece : Piece conf (At connections shards ends) events nothing (At after shards ends)
    pub is : conn_at id after ≡ found
    pub others : (other : ℕ) → other ≢ id → conn_at other after ≡ conn_at other connections
    pub order : InOrder after

  module _ (shards : Shards) (ends : List ℕ → ℕ) (is : IsOf conf shards) where
    pub opens : (connections : Connections) (id : ℕ) → InOrder connections → conn_at id connections ≡ None
        → Changes connections shards ends (Open id ∷ []) id (Some new_conn)
    opens connections id order none = record {
      after = opened id connections;
      piece = one_piece conf (At connections shards ends) (At (opened id connections) shards ends) (Open id) None []
          (built (Open id) None [] connections shards ends (opened id connections) shards ends is (record { none = refl; tells = refl; same = refl })
          (λ name. refl) tt (λ name. refl));
      is = open_found id connections none;
      others = λ other ne. open_other id other ne connections none;
      order = open_rises id connections none order;
    }

    pub gets : (connections : Connections) (id : ℕ) (bytes : List ℕ) (conn : ConnParts) → InOrder connections → conn_at id connections ≡ Some conn
        → Changes connections shards ends (Bytes id bytes ∷ []) id (Some (conn_after_bytes bytes conn))
    gets connections id bytes conn order there = record {
      after = at_connection id (conn_after_bytes bytes) connections;
      piece = one_piece conf (At connections shards ends) (At (at_connection id (conn_after_bytes bytes) connections) shards ends) (Bytes id bytes) None []
          (built (Bytes id bytes) None [] connections shards ends (at_connection id (conn_after_bytes bytes) connections) shards ends is
          (record { none = refl; tells = refl; same = refl }) (λ name. refl) tt (λ name. refl));
      is = changed_found id (conn_after_bytes bytes) connections conn there;
      others = λ other ne. conn_other id other ne (conn_after_bytes bytes) connections;
      order = rises_changed id (conn_after_bytes bytes) connections order;
    }

    pub closes : (connections : Connections) (id : ℕ) (b : Bool) → InOrder connections
        → Changes connections shards ends (if b then Close id ∷ [] else []) id (closed_if b (conn_at id connections))
    closes connections id true order = record {
      after = ended_in id (conn_at id connections) connections;
      piece = one_piece conf (At connections shards ends) (At (ended_in id (conn_at id connections) connections) shards ends) (Close id) None []
          (built (Close id) None [] connections shards ends (ended_in id (conn_at id connections) connections) shards ends is
          (record { none = refl; tells = refl; same = refl }) (λ name. refl) tt (λ name. refl));
      is = close_found id connections order;
      others = λ other ne. close_other id other ne connections;
      order = close_rises id connections order;
    }
    closes connections id false order = record {
      after = connections;
      piece = no_piece conf (At connections shards ends);
      is = refl;
      others = λ other ne. refl;
      order = order;
    }

  -- ---- a step of a connection

  module _ (id now : ℕ) (counts others : Counts) (ends ended : Ends) where
    -- one that asks no shard
    quiet_turn : (next : Next) (conn : ConnParts) (shards more m : Shards) (call : Option ShardCall) (told : List Outcome) (after : ConnParts)
        → call ≡ None → Does counts ends id now next conn shards more call told after → Does others ended id now next conn m m call told after
    quiet_turn Idle conn shards more m call told after none does = record { none = none; stays = refl; tells = does.tells; leaves = does.leaves }
    quiet_turn (Ask part) conn shards more m call told after none does = absurd (none_not does.did (sym none ∙ does.is))
    quiet_turn Ready conn shards more m call told after none does = record { none = none; stays = refl; tells = does.tells; leaves = does.leaves }
    quiet_turn (NextClosed cause) conn shards more m call told after none does = record { none = none; stays = refl; tells = does.tells; leaves = does.leaves }
    quiet_turn Gone conn shards more m call told after none does = record { none = none; stays = refl; tells = does.tells; leaves = does.leaves }

    -- one that asks a shard, whose step is this one
    asked_turn : (next : Next) (conn : ConnParts) (shards more m new : Shards) (call : Option ShardCall) (did : ShardCall) (told : List Outcome) (after : ConnParts)
        → call ≡ Some did → StepsShards others ended now m did new → Does counts ends id now next conn shards more call told after
        → Does others ended id now next conn m new call told after
    asked_turn Idle conn shards more m new call did told after is step does = absurd (none_not did (sym does.none ∙ is))
    asked_turn (Ask part) conn shards more m new call did told after is step does = record {
      did = does.did;
      answer = does.answer;
      is = does.is;
      does = does.does;
      shard = subst (λ (c : ShardCall). StepsShards others ended now m c new) (some_same did does.did (sym is ∙ does.is)) step;
      tells = does.tells;
      leaves = does.leaves;
    }
    asked_turn Ready conn shards more m new call did told after is step does = absurd (none_not did (sym does.none ∙ is))
    asked_turn (NextClosed cause) conn shards more m new call did told after is step does = absurd (none_not did (sym does.none ∙ is))
    asked_turn Gone conn shards more m new call did told after is step does = absurd (none_not did (sym does.none ∙ is))

  -- this event tells this, changes this connection, and leads to these shards and these ends
  pub record Acts (connections : Connections) (shards : Shards) (ends : List ℕ → ℕ) (event : Event) (call : Option ShardCall) (told : List Outcome) (id : ℕ) (found : Option ConnParts)
      (moved : Shards) (later : List ℕ → ℕ) : Type 0 where
    pub after : Connections
    pub piece : Piece conf (At connections shards ends) (event ∷ []) (told_once event call told) (At after moved later)
    pub is : conn_at id after ≡ found
    pub others : (other : ℕ) → other ≢ id → conn_at other after ≡ conn_at other connections
    pub order : InOrder after

  -- how a call leaves the ends of the journals
  called_end : (name : List ℕ) (b : Bool) (old alone new : ℕ) → (b ≡ true → old ≡ alone) → (IsLogName name → alone ≤ new) → IsLogName name → old ≤ cond b new old
  called_end name true old alone new agree goes log = subst (λ (n : ℕ). n ≤ new) (sym (agree refl)) (goes log)
  called_end name false old alone new agree goes log = omega arith

  end_behind : (call : ShardCall) (ends alone new : List ℕ → ℕ) → ((name : List ℕ) → calls (Some call) name ≡ true → ends name ≡ alone name)
      → ((name : List ℕ) → EndGoesOn name call (alone name) (new name)) → (name : List ℕ)
      → (IsLogName name → ends name ≤ ends_behind_call call ends new name) × (calls (Some call) name ≡ false → ends_behind_call call ends new name ≡ ends name)
  end_behind call ends alone new agree goes name = (
    λ log. called_end name (calls (Some call) name) (ends name) (alone name) (new name) (agree name) (goes name).log log,
    λ not. ap (λ b. cond b (new name) (ends name)) not,
  )

  module _ (connections : Connections) (shards : Shards) (ends : List ℕ → ℕ) (is : IsOf conf shards) (id now : ℕ) (order : InOrder connections) where
    -- a connection that isn't there
    steps_none : (call : Option ShardCall) (told : List Outcome) (next : Option ConnParts) → conn_at id connections ≡ None
        → StepsLink conf id now None call told next → Acts connections shards ends (StepOf id now) call told id next shards ends
    steps_none call told next none steps = subst (λ (made : Option ShardCall). Acts connections shards ends (StepOf id now) made told id next shards ends) (sym steps.0) (record {
      after = connections;
      piece = one_piece conf (At connections shards ends) (At connections shards ends) (StepOf id now) None told
          (built (StepOf id now) None told connections shards ends connections shards ends is
          (subst (λ (o : Option ConnParts). Serves conf (counts_of (At connections shards ends) (At connections shards ends)) (ends_of (At connections shards ends) (At connections shards ends))
          (record { connections = connections; shards = shards }) id now o None told (record { connections = connections; shards = shards }))
          (sym none) (record { none = refl; tells = steps.1; same = refl }))
          (λ name. refl) tt (λ name. (λ log. omega arith, λ not. refl)));
      is = none ∙ sym steps.2;
      others = λ other ne. refl;
      order = order;
    })

    -- one that is there
    steps_there : (conn : ConnParts) (call : Option ShardCall) (told : List Outcome) (next : Option ConnParts) (moved : Shards) (later : List ℕ → ℕ) (t : TakesTurn conf id now conn call told next)
        → conn_at id connections ≡ Some conn
        → Does (counts_of (At connections shards ends) (At (left id t.after connections) moved later)) (ends_of (At connections shards ends) (At (left id t.after connections) moved later))
        id now (turn conf conn).next (turn conf conn).conn shards moved call told t.after
        → ((name : List ℕ) → (IsLogName name → ends name ≤ later name) × (calls call name ≡ false → later name ≡ ends name))
        → Acts connections shards ends (StepOf id now) call told id next moved later
    steps_there conn call told next moved later t there does goes = record {
      after = left id t.after connections;
      piece = one_piece conf (At connections shards ends) (At (left id t.after connections) moved later) (StepOf id now) call told
          (built (StepOf id now) call told connections shards ends (left id t.after connections) moved later is
          (subst (λ (o : Option ConnParts). Serves conf (counts_of (At connections shards ends) (At (left id t.after connections) moved later))
          (ends_of (At connections shards ends) (At (left id t.after connections) moved later))
          (record { connections = connections; shards = shards }) id now o call told (record { connections = left id t.after connections; shards = moved }))
          (sym there) (record { after = t.after; does = does; leaves = refl }))
          (λ name. untouched (calls call name) (disks name)) tt goes);
      is = left_found id t.after connections conn order there ∙ sym t.leaves;
      others = λ other ne. left_other id other ne t.after connections;
      order = left_rises id t.after connections order;
    }

    -- a step that asks no shard
    pub steps_quiet : (o : Option ConnParts) (call : Option ShardCall) (told : List Outcome) (next : Option ConnParts) → conn_at id connections ≡ o → call ≡ None
        → StepsLink conf id now o call told next → Acts connections shards ends (StepOf id now) call told id next shards ends
    steps_quiet None call told next there none steps = steps_none call told next there steps
    steps_quiet (Some conn) call told next there none steps =
        steps_there conn call told next shards ends steps there
        (quiet_turn id now steps.counts (standing faults) steps.ends (λ name. (ends name, ends name)) (turn conf conn).next (turn conf conn).conn steps.shards steps.others shards call told
        steps.after none steps.does)
        (λ name. (λ log. omega arith, λ not. refl))

    -- one that asks a shard, which takes this step
    pub steps_asked : (o : Option ConnParts) (call : Option ShardCall) (did : ShardCall) (told : List Outcome) (next : Option ConnParts) (moved : Shards) (alone new : List ℕ → ℕ)
        → conn_at id connections ≡ o → call ≡ Some did
        → StepsShards (standing faults) (λ name. (ends name, ends_behind_call did ends new name)) now shards did moved
        → ((name : List ℕ) → calls (Some did) name ≡ true → ends name ≡ alone name) → ((name : List ℕ) → EndGoesOn name did (alone name) (new name))
        → StepsLink conf id now o call told next → Acts connections shards ends (StepOf id now) call told id next moved (ends_behind_call did ends new)
    steps_asked None call did told next moved alone new there asks step agree goes steps = absurd (none_not did (sym steps.0 ∙ asks))
    steps_asked (Some conn) call did told next moved alone new there asks step agree goes steps =
        steps_there conn call told next moved (ends_behind_call did ends new) steps there
        (asked_turn id now steps.counts (standing faults) steps.ends (λ name. (ends name, ends_behind_call did ends new name)) (turn conf conn).next (turn conf conn).conn
        steps.shards steps.others shards moved call did told steps.after asks step steps.does)
        (subst (λ (c : Option ShardCall). (name : List ℕ) → (IsLogName name → ends name ≤ ends_behind_call did ends new name) × (calls c name ≡ false → ends_behind_call did ends new name ≡ ends name))
        (sym asks) (end_behind did ends alone new agree goes))

  -- ---- an expiry and a tick

  -- a call that no connection is told of
  abbrev pub calling : ShardCall → Telling
  calling did = record { told = λ id. []; calls = did ∷ [] }

  module _ (connections : Connections) (shards : Shards) (ends : List ℕ → ℕ) (is : IsOf conf shards) (now : ℕ) where
    pub expires : (topic : List ℕ) (part shard : ℕ) (did : ShardCall) (moved : Shards) (alone new : List ℕ → ℕ) → shard_named topic part conf.topics ≡ Some shard → IsExpiry shard did
        → StepsShards (standing faults) (λ name. (ends name, ends_behind_call did ends new name)) now shards did moved
        → ((name : List ℕ) → calls (Some did) name ≡ true → ends name ≡ alone name) → ((name : List ℕ) → EndGoesOn name did (alone name) (new name))
        → Piece conf (At connections shards ends) (Expire topic part now ∷ []) (calling did) (At connections moved (ends_behind_call did ends new))
    expires topic part shard did moved alone new named kind step agree goes =
        one_piece conf (At connections shards ends) (At connections moved (ends_behind_call did ends new)) (Expire topic part now) (Some did) (faults_told did)
        (built (Expire topic part now) (Some did) (faults_told did) connections shards ends connections moved (ends_behind_call did ends new) is
        (subst (λ (o : Option ℕ). ExpiresAt (standing faults) (λ name. (ends name, ends_behind_call did ends new name)) now
        (record { connections = connections; shards = shards }) o (Some did) (faults_told did) (record { connections = connections; shards = moved }))
        (sym named) (record { did = did; is = refl; kind = kind; shards = step; tells = refl; connections = refl }))
        (λ name. untouched (calls (Some did) name) (disks name)) tt (end_behind did ends alone new agree goes))

    pub ticks : (did : ShardCall) (moved : Shards) (new : List ℕ → ℕ) → IsTick did
        → StepsShards (standing faults) (λ name. (ends name, ends_behind_call did ends new name)) now shards did moved
        → Piece conf (At connections shards ends) (Tick now ∷ []) (calling did) (At connections moved (ends_behind_call did ends new))
    ticks did moved new kind step =
        one_piece conf (At connections shards ends) (At connections moved (ends_behind_call did ends new)) (Tick now) (Some did) (faults_told did)
        (built (Tick now) (Some did) (faults_told did) connections shards ends connections moved (ends_behind_call did ends new) is
        (record { did = did; is = refl; kind = kind; shards = step; tells = refl; connections = refl })
        (λ name. refl) tt (λ name. subst (λ (c : ShardCall). ends_behind_call c ends new name ≡ ends name) (sym kind) refl))
