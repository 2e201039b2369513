-- The whole session: what a merge keeps from move to move, and where it ends.
use Rattle.std.proofs.Common.{◌≡◌, ◌<◌, ◌++◌, ◌&&◌, ◌∙◌, ℕ, suc, Bool, true, false, cond, eqb, List, [], ◌∷◌, length, drop, map, slice_get, slice_index, Option, Some, None, inl, inr, refl, sym, ap, subst, arith}
use Rattle.std.proofs.lemmas.Bool.{cases_eq, eq-eqb, eqb-true, ne_eqb}
use Rattle.std.proofs.lemmas.List.{drop_all}
use Rattle.std.proofs.lemmas.Option.{none-some, same_Some, slice_get_within}
use Rattle.session_script.specs.declared.event.Event.{Event}
use Rattle.session_script.specs.declared.event.Event.TheVariants.{Close, Step as StepOf, Expire as ExpireAt, Tick as TickAt}
use Rattle.session_script.specs.declared.event.Outcome.{Outcome}
use Rattle.share_model.specs.declared.visit.ShardId.{ShardId}
use Rattle.share_model.specs.declared.visit.ShardId.TheVariants.{Part as OfPart}
use Rattle.share_record.specs.declared.tag.Tag.{Tag}
use Rattle.share_record.specs.declared.tag.Tag.TheVariants.{Part, Expire, Tick, Offer}
use Rattle.share_record.specs.declared.tape.LinkStep.{LinkStep}
use Rattle.share_record.specs.declared.tape.LinkTape.{LinkTape}
use Rattle.share_record.specs.declared.tape.ShardTape.{ShardTape}
use Rattle.topic_conf.specs.Configs.{ConfigParts}
use Rattle.topic_conf.specs.Topics.{partition_at_shard, shard_named}
use Rattle.topic_conf.specs.declared.topic.Topic.{Topic}
use Rattle.topic_conf.proofs.Partitions.{none_above, shard_by_name}
use Rattle.conn_core.specs.Conns.{ConnParts}
use Rattle.broker_model.specs.Machine.{conn_at}
use Rattle.broker_model.specs.Runs.{made}
use Rattle.broker_model.specs.Shards.{ShardCall, Shards, StepsShards, calls}
use Rattle.broker_model.specs.States.{State}
use Rattle.broker_model.specs.Steps.{IsExpiry}
use Rattle.tape_merge.specs.declared.moves.Move.{Move}
use Rattle.tape_merge.specs.declared.moves.Move.TheVariants.{Steps, Alone}
use Rattle.tape_merge.specs.Matching.{steps_in, steps_of, tags_in}
use Rattle.tape_merge.specs.Moves.{CanGo, Counts, GoOn, IsAlone, IsDone, IsDueOn, IsSized, after, next_tag, one_more, passed_on}
use Rattle.tape_merge.specs.Telling.{close_at, ends_behind, expiry, last_close, told, told_by, told_by_link, told_by_tag, told_by_tape}
use Rattle.tape_merge.proofs.Counting.{more_other, more_same, sized_after, tape_within}
use Rattle.tape_run.specs.Recordings.{Entry, IsCallOf, IsNamedBy, IsRecording, IsTagOf, Plays, PlaysStep, Standing, behind, closed_if, history_of, shard_called, shard_in, standing, stands}
use Rattle.tape_run.proofs.Connecting.{InOrder}
use Rattle.tape_run.proofs.Going.{Acts, Changes, calling, closes, expires, steps_asked, steps_quiet, ticks}
use Rattle.tape_run.proofs.Entering.{AreCalls, AreLeft, Entered, drop_cons, drop_past, entered, entry_there, mapped_past, tape_there}
use Rattle.tape_run.proofs.Moving.{ends_behind_call}
use Rattle.tape_run.proofs.Pieces.{Connections, IsOf, Piece, Telling, both, both_pieces, events_so, nil_last, no_piece, nothing, state_of, tells_so, told_once}

-- ---- a link

-- a link with a step is there
link_there : (links : List LinkTape) (k n : ℕ) (step : LinkStep) → slice_get (steps_of links k) n ≡ Some step
    → (link : LinkTape) × (slice_get links k ≡ Some link) × (slice_get link.steps n ≡ Some step)
link_there links k n step e = go (slice_get links k) refl e where
  go : (o : Option LinkTape) → slice_get links k ≡ o → slice_get (steps_in o) n ≡ Some step
      → (link : LinkTape) × (slice_get links k ≡ Some link) × (slice_get link.steps n ≡ Some step)
  go None is e = absurd (none-some step e)
  go (Some link) is e = (link, is, e)

-- a close behind the last step
pub last_close_is : {X : Type 0} (a b : Bool) (xs : List X) → cond a (cond b xs []) [] ≡ cond (a && b) xs []
last_close_is true b xs = refl
last_close_is false b xs = refl

module _ (conf : ConfigParts) (first : State) (tapes : List ShardTape) (histories : List (List Entry)) (links : List LinkTape)
    (rec : IsRecording conf first tapes histories links) where
  abbrev At : Connections → Shards → (List ℕ → ℕ) → State
  At connections shards ends = state_of first.disks connections shards ends

  abbrev PlaysOn : ℕ → LinkTape → ℕ → Option ConnParts → List Outcome → Type 0
  PlaysOn id link done conn told = Plays conf tapes histories id link done (drop done link.steps) conn told

  -- Each link has these outcomes left, and each tape its entries.
  pub record Keeps (c : Counts) (connections : Connections) (shards : Shards) (ends : List ℕ → ℕ) (rest : ℕ → List Outcome) : Type 0 where
    pub sized : IsSized tapes links c
    pub is : IsOf conf shards
    pub order : InOrder connections
    pub plays : (id : ℕ) (link : LinkTape) → slice_get links id ≡ Some link → PlaysOn id link (slice_index c.gone id) (conn_at id connections) (rest id)
    pub left : AreLeft conf first tapes histories links rec c.passed shards ends

  abbrev Are : List ℕ → List ShardCall → Type 0
  Are passed calls = AreCalls conf first tapes histories links rec passed calls

  -- a move goes as a piece of a run
  record Goes (c : Counts) (m : Move) (connections : Connections) (shards : Shards) (ends : List ℕ → ℕ) (rest : ℕ → List Outcome) : Type 0 where
    new_connections : Connections
    new_shards : Shards
    new_ends : List ℕ → ℕ
    new_rest : ℕ → List Outcome
    tells : Telling
    piece : Piece conf (At connections shards ends) (told_by conf.topics tapes links c m) tells (At new_connections new_shards new_ends)
    keeps : Keeps (after c m) new_connections new_shards new_ends new_rest
    joins : (id : ℕ) (link : LinkTape) → slice_get links id ≡ Some link → tells.told id ++ new_rest id ≡ rest id
    calls : (later : List ShardCall) → Are (after c m).passed later → Are c.passed (tells.calls ++ later)

  -- ---- a step of a link

  -- behind its last step nothing is left to play, whether it is closed then or not
  pub plays_end : (id : ℕ) (link : LinkTape) (done : ℕ) (steps : List LinkStep) (a b : Bool) (conn : Option ConnParts) (told : List Outcome) → (a ≡ true → steps ≡ [])
      → Plays conf tapes histories id link done steps conn told → Plays conf tapes histories id link done steps (closed_if (a && b) conn) told
  plays_end id link done steps true b conn told none plays =
      subst (λ (s : List LinkStep). Plays conf tapes histories id link done s conn told → Plays conf tapes histories id link done s (closed_if (true && b) conn) told)
      (sym (none refl)) (λ p. p) plays
  plays_end id link done steps false b conn told none plays = plays

  module _ (c : Counts) (connections : Connections) (shards : Shards) (ends : List ℕ → ℕ) (rest : ℕ → List Outcome) (keeps : Keeps c connections shards ends rest)
      (k : ℕ) (t : Option ℕ) (link : LinkTape) (there : slice_get links k ≡ Some link) (step : LinkStep) (next_is : slice_get link.steps (slice_index c.gone k) ≡ Some step)
      (p : PlaysStep conf tapes histories k link (slice_index c.gone k) step (conn_at k connections) (rest k) (Plays conf tapes histories k link (suc (slice_index c.gone k)) (drop (suc (slice_index c.gone k)) link.steps)))
      (closing : Changes conf first.disks connections shards ends (cond (ends_behind link.closed_at (length link.steps) (slice_index c.gone k)) (Close k ∷ []) []) k
      (closed_if (ends_behind link.closed_at (length link.steps) (slice_index c.gone k)) (conn_at k connections)))
      (new_shards : Shards) (new_ends : List ℕ → ℕ)
      (acts : Acts conf first.disks closing.after shards ends (StepOf k step.now) p.call p.first k p.next new_shards new_ends)
      (is : IsOf conf new_shards) (left : AreLeft conf first tapes histories links rec (passed_on t c.passed) new_shards new_ends)
      (calls : (later : List ShardCall) → Are (passed_on t c.passed) later → Are c.passed (made p.call ++ later)) where
    abbrev done : ℕ
    done = suc (slice_index c.gone k)

    abbrev is_last : Bool
    is_last = eqb done (length link.steps)

    abbrev ended : Bool
    ended = ends_behind link.closed_at (length link.steps) done

    abbrev Ending : Type 0
    Ending = Changes conf first.disks acts.after new_shards new_ends (cond (is_last && ended) (Close k ∷ []) []) k (closed_if (is_last && ended) (conn_at k acts.after))

    within : k < length c.gone
    within = subst (λ (n : ℕ). k < n) (sym keeps.sized.gone) (slice_get_within links k link there)

    count : slice_index (one_more c.gone k) k ≡ done
    count = more_same c.gone k within ∙ omega arith

    none_left : is_last ≡ true → drop done link.steps ≡ []
    none_left e = drop_all done link.steps (omega (arith, eqb-true done (length link.steps) e))

    abbrev new_rest : ℕ → List Outcome
    new_rest id = cond (eqb k id) p.others (rest id)

    abbrev tells : Telling
    tells = told_once (StepOf k step.now) p.call p.first

    own_plays : (ending : Ending) → PlaysOn k link (slice_index (one_more c.gone k) k) (conn_at k ending.after) (new_rest k)
    own_plays ending =
        let mine : PlaysOn k link done (closed_if (is_last && ended) p.next) p.others =
        plays_end k link done (drop done link.steps) is_last ended p.next p.others none_left p.later in
        let found : closed_if (is_last && ended) p.next ≡ conn_at k ending.after = sym (ending.is ∙ ap (λ o. closed_if (is_last && ended) o) acts.is) in
        let told : p.others ≡ new_rest k = sym (ap (λ b. cond b p.others (rest k)) (eq-eqb k k refl)) in
        subst (λ (n : ℕ). PlaysOn k link n (conn_at k ending.after) (new_rest k)) (sym count)
        (subst (λ (o : List Outcome). PlaysOn k link done (conn_at k ending.after) o) told
        (subst (λ (o : Option ConnParts). PlaysOn k link done o p.others) found mine))

    other_plays : (ending : Ending) (id : ℕ) (other : LinkTape) → slice_get links id ≡ Some other → (id ≡ k → ⊥)
        → PlaysOn id other (slice_index (one_more c.gone k) id) (conn_at id ending.after) (new_rest id)
    other_plays ending id other there_too ne =
        let found : conn_at id connections ≡ conn_at id ending.after = sym (ending.others id ne ∙ (acts.others id ne ∙ closing.others id ne)) in
        let told : rest id ≡ new_rest id = sym (ap (λ b. cond b p.others (rest id)) (ne_eqb k id (λ e. ne (sym e)))) in
        subst (λ (n : ℕ). PlaysOn id other n (conn_at id ending.after) (new_rest id)) (sym (more_other c.gone k id ne))
        (subst (λ (o : List Outcome). PlaysOn id other (slice_index c.gone id) (conn_at id ending.after) o) told
        (subst (λ (o : Option ConnParts). PlaysOn id other (slice_index c.gone id) o (rest id)) found (keeps.plays id other there_too)))

    all_play : (ending : Ending) (id : ℕ) (other : LinkTape) → slice_get links id ≡ Some other
        → PlaysOn id other (slice_index (one_more c.gone k) id) (conn_at id ending.after) (new_rest id)
    all_play ending id other there_too = elim (cases_eq id k) [
      | inl same ↦
          let link_is : link ≡ other = same_Some link other (sym there ∙ (ap (λ n. slice_get links n) (sym same) ∙ there_too)) in
          subst (λ (l : LinkTape). PlaysOn id l (slice_index (one_more c.gone k) id) (conn_at id ending.after) (new_rest id)) link_is
          (subst (λ (n : ℕ). PlaysOn n link (slice_index (one_more c.gone k) n) (conn_at n ending.after) (new_rest n)) (sym same) (own_plays ending))
      | inr ne ↦ other_plays ending id other there_too ne
    ]

    joins : (id : ℕ) (other : LinkTape) → slice_get links id ≡ Some other → tells.told id ++ new_rest id ≡ rest id
    joins id other there_too = elim (cases_eq k id) [
      | inl same ↦
          ap (λ b. cond b p.first [] ++ cond b p.others (rest id)) (eq-eqb k id same) ∙ (sym p.tells ∙ ap rest same)
      | inr ne ↦ ap (λ b. cond b p.first [] ++ cond b p.others (rest id)) (ne_eqb k id ne)
    ]

    -- the events of the move
    events_are : cond (ends_behind link.closed_at (length link.steps) (slice_index c.gone k)) (Close k ∷ []) [] ++ ((StepOf k step.now ∷ []) ++ cond (is_last && ended) (Close k ∷ []) [])
        ≡ told_by conf.topics tapes links c (Steps k t)
    events_are =
        ap (λ (es : List Event). close_at k link (slice_index c.gone k) ++ (StepOf k step.now ∷ es)) (sym (last_close_is is_last ended (Close k ∷ [])))
        ∙ (ap (λ o. step_told o) (sym next_is) ∙ ap (λ o. told_by_link k o (slice_index c.gone k)) (sym there)) where
          step_told : Option LinkStep → List Event
          step_told None = []
          step_told (Some s) = close_at k link (slice_index c.gone k) ++ (StepOf k s.now ∷ last_close k link (suc (slice_index c.gone k)))

    goes_by : (ending : Ending) → Goes c (Steps k t) connections shards ends rest
    goes_by ending = record {
      new_connections = ending.after;
      new_shards = new_shards;
      new_ends = new_ends;
      new_rest = new_rest;
      tells = tells;
      piece = tells_so conf (At connections shards ends) (At ending.after new_shards new_ends) (told_by conf.topics tapes links c (Steps k t))
          (both nothing (both tells nothing)) tells (λ id. nil_last (tells.told id)) (nil_last tells.calls)
          (events_so conf (At connections shards ends) (At ending.after new_shards new_ends) _ (told_by conf.topics tapes links c (Steps k t)) (both nothing (both tells nothing)) events_are
          (both_pieces conf (At connections shards ends) (At closing.after shards ends) (At ending.after new_shards new_ends) _ _ nothing (both tells nothing)
          closing.piece (both_pieces conf (At closing.after shards ends) (At acts.after new_shards new_ends) (At ending.after new_shards new_ends) _ _ tells nothing acts.piece ending.piece)));
      keeps = record {
        sized = sized_after tapes links c (Steps k t) keeps.sized;
        is = is;
        order = ending.order;
        plays = all_play ending;
        left = left;
      };
      joins = joins;
      calls = calls;
    }

    goes_on : Goes c (Steps k t) connections shards ends rest
    goes_on = goes_by (closes conf first.disks new_shards new_ends is acts.after k (is_last && ended) acts.order)

  -- ---- which step it is

  module _ (c : Counts) (connections : Connections) (shards : Shards) (ends : List ℕ → ℕ) (rest : ℕ → List Outcome) (keeps : Keeps c connections shards ends rest) where
    module _ (k : ℕ) (link : LinkTape) (there : slice_get links k ≡ Some link) (step : LinkStep) (next_is : slice_get link.steps (slice_index c.gone k) ≡ Some step)
        (p : PlaysStep conf tapes histories k link (slice_index c.gone k) step (conn_at k connections) (rest k) (Plays conf tapes histories k link (suc (slice_index c.gone k)) (drop (suc (slice_index c.gone k)) link.steps)))
        (closing : Changes conf first.disks connections shards ends (cond (ends_behind link.closed_at (length link.steps) (slice_index c.gone k)) (Close k ∷ []) []) k
        (closed_if (ends_behind link.closed_at (length link.steps) (slice_index c.gone k)) (conn_at k connections))) where
      abbrev was : Option ConnParts
      was = closed_if (ends_behind link.closed_at (length link.steps) (slice_index c.gone k)) (conn_at k connections)

      asked_goes : (u : ℕ) (of : ShardTape) → slice_get tapes u ≡ Some of → next_tag tapes c u ≡ Some (Part k (slice_index c.gone k))
          → (named : IsNamedBy tapes histories k (slice_index c.gone k) step.now p.call) → Goes c (Steps k (Some u)) connections shards ends rest
      asked_goes u of of_is due named =
          let once = (rec.matched k (slice_index c.gone k)).once named.tape named.there u (slice_index c.passed u) named.names due in
          let found : slice_get (history_of histories u) (slice_index c.passed u) ≡ Some named.entry =
          sym (ap (λ n. slice_get (history_of histories n) named.there) once.0 ∙ ap (λ n. slice_get (history_of histories u) n) once.1) ∙ named.found in
          let within : u < length c.passed = subst (λ (n : ℕ). u < n) (sym keeps.sized.passed) (tape_within tapes u (slice_index c.passed u) (Part k (slice_index c.gone k)) due) in
          let en = entered conf first tapes histories links rec u of named.entry c.passed shards ends of_is found within keeps.is keeps.left in
          let later : List ℕ → ℕ = ends_behind_call named.entry.call ends named.entry.after.ends in
          let steps = subst (λ (n : ℕ). StepsShards (standing (λ name. (first.disks name).faults)) (λ name. (ends name, later name)) n shards named.entry.call en.after) named.moment en.step in
          goes_on c connections shards ends rest keeps k (Some u) link there step next_is p closing en.after later
          (steps_asked conf first.disks closing.after shards ends keeps.is k step.now closing.order was p.call named.entry.call p.first p.next en.after en.alone named.entry.after.ends
          closing.is named.answers steps en.agree en.goes p.steps)
          en.is en.left (λ later are. subst (λ (o : Option ShardCall). Are c.passed (made o ++ later)) (sym named.answers) (en.calls later are))

      by_shard : (o : Option ShardId) (t : Option ℕ) → IsCallOf tapes histories k (slice_index c.gone k) step.now o p.call → IsDueOn tapes c k o t
          → Goes c (Steps k t) connections shards ends rest
      by_shard None None call due =
          goes_on c connections shards ends rest keeps k None link there step next_is p closing shards ends
          (steps_quiet conf first.disks closing.after shards ends keeps.is k step.now closing.order was p.call p.first p.next closing.is call p.steps) keeps.is keeps.left
          (λ later are. subst (λ (o : Option ShardCall). Are c.passed (made o ++ later)) (sym call) are)
      by_shard None (Some u) call due = absurd due
      by_shard (Some shard) None call due = absurd due
      by_shard (Some shard) (Some u) call due =
          let of = tape_there tapes u (slice_index c.passed u) (Part k (slice_index c.gone k)) due.1 in asked_goes u of.0 of.1 due.1 call

    link_goes : (k : ℕ) (t : Option ℕ) (step : LinkStep) (link : LinkTape) → slice_get links k ≡ Some link → slice_get link.steps (slice_index c.gone k) ≡ Some step
        → IsDueOn tapes c k step.shard t → Goes c (Steps k t) connections shards ends rest
    link_goes k t step link there next_is due =
        let p : PlaysStep conf tapes histories k link (slice_index c.gone k) step (conn_at k connections) (rest k) (Plays conf tapes histories k link (suc (slice_index c.gone k)) (drop (suc (slice_index c.gone k)) link.steps)) =
        subst (λ (s : List LinkStep). Plays conf tapes histories k link (slice_index c.gone k) s (conn_at k connections) (rest k)) (drop_cons link.steps (slice_index c.gone k) step next_is)
        (keeps.plays k link there) in
        by_shard k link there step next_is p
        (closes conf first.disks shards ends keeps.is connections k (ends_behind link.closed_at (length link.steps) (slice_index c.gone k)) keeps.order) step.shard t p.is_call due

    -- ---- what is of no step

    module _ (u : ℕ) (of : ShardTape) (of_is : slice_get tapes u ≡ Some of) (entry : Entry) (en : Entered conf first tapes histories links rec u of entry c.passed shards ends) where
      abbrev later : List ℕ → ℕ
      later = ends_behind_call entry.call ends entry.after.ends

      abbrev AlonePiece : List Event → Type 0
      AlonePiece events = Piece conf (At connections shards ends) events (calling conf first.disks entry.call) (At connections en.after later)

      expiry_goes : (at shard : ℕ) → at ≡ entry.now → (kind : IsExpiry shard entry.call) → of.shard ≡ OfPart shard
          → (o : Option (Topic × ℕ)) → partition_at_shard conf.topics shard ≡ o → AlonePiece (expiry o at)
      expiry_goes at shard moment kind of_shard None none =
          absurd (omega (arith, (none_above conf.topics shard).0 none, (rec.each_tape u of of_is).hosted shard of_shard))
      expiry_goes at shard moment kind of_shard (Some (topic, part)) some =
          let named : shard_named topic.name part conf.topics ≡ Some shard = (shard_by_name conf.topics topic.name part shard rec.conf_is).1 (topic, some, refl) in
          events_so conf (At connections shards ends) (At connections en.after later) (ExpireAt topic.name part entry.now ∷ []) (ExpireAt topic.name part at ∷ []) (calling conf first.disks entry.call)
          (ap (λ n. ExpireAt topic.name part n ∷ []) (sym moment))
          (expires conf first.disks connections shards ends keeps.is entry.now topic.name part shard entry.call en.after en.alone entry.after.ends named kind en.step en.agree en.goes)

      shard_is : (shard : ℕ) → IsExpiry shard entry.call → of.shard ≡ OfPart shard
      shard_is shard kind = sym en.called ∙ ap shard_called kind.2

      tag_goes : (tag : Tag) → IsAlone tag → IsTagOf tag entry.now entry.call → AlonePiece (told_by_tag conf.topics (Some tag) of.shard)
      tag_goes (Part link step) alone tagged = absurd alone
      tag_goes (Expire at) alone tagged =
          let kind : IsExpiry tagged.1 entry.call = tagged.2 in
          let of_shard = shard_is tagged.1 kind in
          subst (λ (s : ShardId). AlonePiece (told_by_tag conf.topics (Some (Expire at)) s)) (sym of_shard)
          (expiry_goes at tagged.1 tagged.0 kind of_shard (partition_at_shard conf.topics tagged.1) refl)
      tag_goes (Tick at) alone tagged =
          events_so conf (At connections shards ends) (At connections en.after later) (TickAt entry.now ∷ []) (TickAt at ∷ []) (calling conf first.disks entry.call) (ap (λ n. TickAt n ∷ []) (sym tagged.0))
          (ticks conf first.disks connections shards ends keeps.is entry.now entry.call en.after entry.after.ends tagged.1 en.step)
      tag_goes Offer alone tagged = absurd tagged

      alone_by : (tag : Tag) → entry.tag ≡ tag → IsAlone tag → slice_get of.tags (slice_index c.passed u) ≡ Some tag → Goes c (Alone u) connections shards ends rest
      alone_by tag tag_is alone next_is = record {
        new_connections = connections;
        new_shards = en.after;
        new_ends = later;
        new_rest = rest;
        tells = calling conf first.disks entry.call;
        piece = events_so conf (At connections shards ends) (At connections en.after later) (told_by_tag conf.topics (Some tag) of.shard) (told_by conf.topics tapes links c (Alone u)) (calling conf first.disks entry.call)
            (ap (λ o. told_by_tag conf.topics o of.shard) (sym next_is) ∙ ap (λ o. told_by_tape conf.topics o (slice_index c.passed u)) (sym of_is))
            (tag_goes tag alone (subst (λ (x : Tag). IsTagOf x entry.now entry.call) tag_is en.tagged));
        keeps = record {
          sized = sized_after tapes links c (Alone u) keeps.sized;
          is = en.is;
          order = keeps.order;
          plays = keeps.plays;
          left = en.left;
        };
        joins = λ id link there. refl;
        calls = en.calls;
      }

    alone_goes : (u : ℕ) (tag : Tag) → next_tag tapes c u ≡ Some tag → IsAlone tag → Goes c (Alone u) connections shards ends rest
    alone_goes u tag next alone =
        let of = tape_there tapes u (slice_index c.passed u) tag next in
        let entry = entry_there conf first tapes histories links rec u (slice_index c.passed u) tag of.0 of.1 of.2 in
        let within : u < length c.passed = subst (λ (n : ℕ). u < n) (sym keeps.sized.passed) (tape_within tapes u (slice_index c.passed u) tag next) in
        alone_by u of.0 of.1 entry.0 (entered conf first tapes histories links rec u of.0 entry.0 c.passed shards ends of.1 entry.1 within keeps.is keeps.left) tag entry.2 alone of.2

    move_goes : (m : Move) → CanGo tapes links c m → Goes c m connections shards ends rest
    move_goes (Steps k t) can = let link = link_there links k (slice_index c.gone k) can.0 can.1 in link_goes k t can.0 link.0 link.1 link.2 can.2
    move_goes (Alone u) can = alone_goes u can.0 can.1 can.2

  -- ---- all moves

  -- what is left goes so, and each shard stands as its history leaves it
  pub record GoesAll (passed : List ℕ) (connections : Connections) (shards : Shards) (ends : List ℕ → ℕ) (rest : ℕ → List Outcome) (events : List Event) : Type 0 where
    pub last_connections : Connections
    pub last_shards : Shards
    pub last_ends : List ℕ → ℕ
    pub tells : Telling
    pub piece : Piece conf (At connections shards ends) events tells (At last_connections last_shards last_ends)
    pub tells_are : (id : ℕ) (link : LinkTape) → slice_get links id ≡ Some link → tells.told id ≡ rest id
    pub calls_are : Are passed tells.calls
    pub shards_are : (number : ℕ) (tape : ShardTape) → slice_get tapes number ≡ Some tape
        → shard_in tape.shard last_shards ≡ shard_in tape.shard (behind (stands first) (history_of histories number)).shards

  module _ (c : Counts) (connections : Connections) (shards : Shards) (ends : List ℕ → ℕ) (rest : ℕ → List Outcome) (keeps : Keeps c connections shards ends rest)
      (done : IsDone tapes links c) where
    nothing_left : (id : ℕ) (link : LinkTape) → slice_get links id ≡ Some link → [] ≡ rest id
    nothing_left id link there =
        let none : slice_get link.steps (slice_index c.gone id) ≡ None = sym (ap (λ o. slice_get (steps_in o) (slice_index c.gone id)) there) ∙ done.steps id in
        sym (subst (λ (s : List LinkStep). Plays conf tapes histories id link (slice_index c.gone id) s (conn_at id connections) (rest id)) (drop_past link.steps (slice_index c.gone id) none)
        (keeps.plays id link there))

    past : (number : ℕ) (tape : ShardTape) → slice_get tapes number ≡ Some tape → drop (slice_index c.passed number) (history_of histories number) ≡ []
    past number tape there =
        let none : slice_get tape.tags (slice_index c.passed number) ≡ None = sym (ap (λ o. slice_get (tags_in o) (slice_index c.passed number)) there) ∙ done.tags number in
        drop_past (history_of histories number) (slice_index c.passed number)
        (mapped_past (λ (x : Entry). x.tag) (history_of histories number) (slice_index c.passed number)
        (subst (λ (tags : List Tag). slice_get tags (slice_index c.passed number) ≡ None) (sym (rec.each_tape number tape there).tags) none))

    all_done : (number : ℕ) (tape : ShardTape) → slice_get tapes number ≡ Some tape
        → shard_in tape.shard shards ≡ shard_in tape.shard (behind (stands first) (history_of histories number)).shards
    all_done number tape there =
        let st = keeps.left number tape there in
        st.same ∙ ap (λ (s : Standing). shard_in tape.shard s.shards) (sym (ap (λ es. behind st.alone es) (past number tape there)) ∙ st.last)

    pub ends_here : GoesAll c.passed connections shards ends rest []
    ends_here = record {
      last_connections = connections;
      last_shards = shards;
      last_ends = ends;
      tells = nothing;
      piece = no_piece conf (At connections shards ends);
      tells_are = nothing_left;
      calls_are = λ number tape there. sym (ap (λ es. map (λ (x : Entry). x.call) es) (past number tape there));
      shards_are = all_done;
    }

  pub goes_all : (moves : List Move) (c last : Counts) (connections : Connections) (shards : Shards) (ends : List ℕ → ℕ) (rest : ℕ → List Outcome)
      → Keeps c connections shards ends rest → GoOn tapes links c moves last → IsDone tapes links last → GoesAll c.passed connections shards ends rest (told conf.topics tapes links c moves)
  goes_all [] c last connections shards ends rest keeps go done = ends_here c connections shards ends rest keeps (subst (λ (x : Counts). IsDone tapes links x) go done)
  goes_all (m ∷ moves) c last connections shards ends rest keeps go done =
      let g = move_goes c connections shards ends rest keeps m go.0.can in
      let r = goes_all moves (after c m) last g.new_connections g.new_shards g.new_ends g.new_rest g.keeps go.1 done in
      record {
        last_connections = r.last_connections;
        last_shards = r.last_shards;
        last_ends = r.last_ends;
        tells = both g.tells r.tells;
        piece = both_pieces conf (At connections shards ends) (At g.new_connections g.new_shards g.new_ends) (At r.last_connections r.last_shards r.last_ends)
            (told_by conf.topics tapes links c m) (told conf.topics tapes links (after c m) moves) g.tells r.tells g.piece r.piece;
        tells_are = λ id link there. ap (λ os. g.tells.told id ++ os) (r.tells_are id link there) ∙ g.joins id link there;
        calls_are = g.calls r.tells.calls r.calls_are;
        shards_are = r.shards_are;
      }
