-- How a session opens its links, and the session as a whole.
use Rattle.std.proofs.Common.{◌≡◌, ◌≤◌, ◌<◌, ◌+◌, ◌-◌, ◌*◌, ◌/◌, ◌++◌, ◌&&◌, ◌∙◌, ℕ, zero, suc, Bool, cond, eqb, List, [], ◌∷◌, length, drop, take, map, slice_get, Option, Some, None, inl, inr, refl, sym, ap, subst, arith, append_assoc, append-nil, length-drop}
use Rattle.std.proofs.lemmas.Bool.{cases_lt, eqb-true}
use Rattle.std.proofs.lemmas.List.{nil_from_length, take-append-drop}
use Rattle.std.proofs.lemmas.Option.{none-some, same_Some}
use Rattle.session_script.specs.declared.event.Event.{Event}
use Rattle.session_script.specs.declared.event.Event.TheVariants.{Open, Bytes, Close}
use Rattle.session_script.specs.declared.event.Outcome.{Outcome}
use Rattle.share_record.specs.declared.tape.LinkTape.{LinkTape}
use Rattle.share_record.specs.declared.tape.ShardTape.{ShardTape}
use Rattle.topic_conf.specs.Configs.{ConfigParts}
use Rattle.conn_core.specs.Conns.{ConnParts, conn_after_bytes, new_conn}
use Rattle.conn_core.specs.declared.work.Work.TheVariants.{Free}
use Rattle.broker_model.specs.Machine.{conn_at}
use Rattle.broker_model.specs.Shards.{Shards}
use Rattle.broker_model.specs.States.{State}
use Rattle.tape_merge.specs.Merges.{IsMerge}
use Rattle.tape_merge.specs.Moves.{begin}
use Rattle.tape_merge.specs.Telling.{ends_behind, opening, openings, pieces, pieces_of, told}
use Rattle.tape_merge.proofs.Counting.{sized_at_first, zero_at}
use Rattle.tape_run.specs.Recordings.{AreOfLink, Entry, IsRecording, Plays, closed_if, history_of, stands}
use Rattle.tape_run.specs.Sessions.{IsSession, calls_on}
use Rattle.tape_run.proofs.Connecting.{InOrder}
use Rattle.tape_run.proofs.Entering.{Left}
use Rattle.tape_run.proofs.Going.{Changes, closes, gets, opens}
use Rattle.tape_run.proofs.Merging.{Keeps, goes_all, last_close_is, plays_end}
use Rattle.tape_run.proofs.Pieces.{Connections, IsOf, Piece, both, both_pieces, events_so, no_piece, nothing, state_of}

-- ---- pieces of bytes

-- a connection that has got these bytes, and nothing else
abbrev conn_with : List ℕ → ConnParts
conn_with bytes = record { unread = bytes; work = Free; sessions = []; releases = []; replies = [] }

abbrev joined : List ℕ → List (List ℕ) → List ℕ
joined bytes [] = bytes
joined bytes (piece ∷ others) = joined (bytes ++ piece) others

pieces_joined : (n : ℕ) (front bytes : List ℕ) → length bytes ≤ n * 65536 → joined front (pieces n bytes) ≡ front ++ bytes
pieces_joined zero front bytes few = sym (ap (λ l. front ++ l) (nil_from_length bytes (omega (arith, few))) ∙ append-nil front)
pieces_joined (suc n) front bytes few =
    pieces_joined n (front ++ take 65536 bytes) (drop 65536 bytes) (omega (arith, length-drop 65536 bytes, few))
    ∙ (append_assoc front (take 65536 bytes) (drop 65536 bytes) ∙ ap (λ l. front ++ l) (take-append-drop 65536 bytes))

all_joined : (bytes : List ℕ) → joined [] (pieces_of bytes) ≡ bytes
all_joined bytes = pieces_joined ((length bytes + 65535) / 65536) [] bytes (omega arith)

module _ (conf : ConfigParts) (first : State) (shards : Shards) (ends : List ℕ → ℕ) (is : IsOf conf shards) where
  abbrev Here : Connections → State
  Here connections = state_of first.disks connections shards ends

  gets_all : (id : ℕ) (ps : List (List ℕ)) (front : List ℕ) (connections : Connections) → InOrder connections → conn_at id connections ≡ Some (conn_with front)
      → Changes conf first.disks connections shards ends (map (λ piece. Bytes id piece) ps) id (Some (conn_with (joined front ps)))
  gets_all id [] front connections order there = record {
    after = connections;
    piece = no_piece conf (Here connections);
    is = there;
    others = λ other ne. refl;
    order = order;
  }
  gets_all id (p ∷ ps) front connections order there =
      let one = gets conf first.disks shards ends is connections id p (conn_with front) order there in
      let more = gets_all id ps (front ++ p) one.after one.order one.is in
      record {
        after = more.after;
        piece = both_pieces conf (Here connections) (Here one.after) (Here more.after) (Bytes id p ∷ []) (map (λ piece. Bytes id piece) ps) nothing nothing one.piece more.piece;
        is = more.is;
        others = λ other ne. more.others other ne ∙ one.others other ne;
        order = more.order;
      }

  -- a link opens
  opens_link : (id : ℕ) (link : LinkTape) (connections : Connections) → InOrder connections → conn_at id connections ≡ None
      → Changes conf first.disks connections shards ends (opening id link) id
      (closed_if (eqb 0 (length link.steps) && ends_behind link.closed_at (length link.steps) 0) (Some (conn_after_bytes link.bytes new_conn)))
  opens_link id link connections order none =
      let begun = opens conf first.disks shards ends is connections id order none in
      let got = gets_all id (pieces_of link.bytes) [] begun.after begun.order begun.is in
      let b : Bool = eqb 0 (length link.steps) && ends_behind link.closed_at (length link.steps) 0 in
      let end = closes conf first.disks shards ends is got.after id b got.order in
      record {
        after = end.after;
        piece = events_so conf (Here connections) (Here end.after) ((Open id ∷ []) ++ (map (λ piece. Bytes id piece) (pieces_of link.bytes) ++ cond b (Close id ∷ []) [])) (opening id link) nothing
            (ap (λ (es : List Event). Open id ∷ (map (λ piece. Bytes id piece) (pieces_of link.bytes) ++ es))
            (sym (last_close_is (eqb 0 (length link.steps)) (ends_behind link.closed_at (length link.steps) 0) (Close id ∷ []))))
            (both_pieces conf (Here connections) (Here begun.after) (Here end.after) (Open id ∷ []) (map (λ piece. Bytes id piece) (pieces_of link.bytes) ++ cond b (Close id ∷ []) []) nothing nothing begun.piece
            (both_pieces conf (Here begun.after) (Here got.after) (Here end.after) (map (λ piece. Bytes id piece) (pieces_of link.bytes)) (cond b (Close id ∷ []) []) nothing nothing got.piece end.piece));
        is = end.is ∙ ap (λ o. closed_if b o) (got.is ∙ ap (λ bytes. Some (conn_with bytes)) (all_joined link.bytes));
        others = λ other ne. end.others other ne ∙ (got.others other ne ∙ begun.others other ne);
        order = end.order;
      }

module _ (conf : ConfigParts) (first : State) (tapes : List ShardTape) (histories : List (List Entry)) (links : List LinkTape)
    (rec : IsRecording conf first tapes histories links) where
  -- ---- what each link tells

  rest_in : (id : ℕ) (o : Option LinkTape) → slice_get links id ≡ o → List Outcome
  rest_in id None e = []
  rest_in id (Some link) e = (rec.each_link id link e).told

  rest_of : ℕ → List Outcome
  rest_of id = rest_in id (slice_get links id) refl

  record Tells (id : ℕ) (link : LinkTape) (told : List Outcome) : Type 0 where
    plays : Plays conf tapes histories id link 0 link.steps (Some (conn_after_bytes link.bytes new_conn)) told
    gives : AreOfLink link told

  rest_tells : (id : ℕ) (link : LinkTape) (o : Option LinkTape) (e : slice_get links id ≡ o) → o ≡ Some link → Tells id link (rest_in id o e)
  unfolding rest_in
  rest_tells id link None e is = absurd (none-some link is)
  rest_tells id link (Some other) e is =
      let tape = rec.each_link id other e in
      subst (λ (l : LinkTape). Tells id l (rest_in id (Some other) e)) (same_Some other link is) (record { plays = tape.plays; gives = tape.gives })

  tells_of : (id : ℕ) (link : LinkTape) → slice_get links id ≡ Some link → Tells id link (rest_of id)
  unfolding rest_of rest_in
  tells_of id link there = rest_tells id link (slice_get links id) refl there

  -- ---- all links open

  abbrev Starts : Connections → ℕ → LinkTape → Type 0
  Starts connections id link = Plays conf tapes histories id link 0 link.steps (conn_at id connections) (rest_of id)

  record Opened (connections : Connections) (events : List Event) : Type 0 where
    after : Connections
    piece : Piece conf (state_of first.disks connections first.machine.shards first.ends) events nothing (state_of first.disks after first.machine.shards first.ends)
    order : InOrder after
    starts : (id : ℕ) (link : LinkTape) → slice_get links id ≡ Some link → Starts after id link

  is_of : IsOf conf first.machine.shards
  is_of = record { hosts = rec.hosts; topics = rec.topics }

  -- those from this one on are still to open
  record Before (id : ℕ) (ls : List LinkTape) (connections : Connections) : Type 0 where
    order : InOrder connections
    none : (other : ℕ) → id ≤ other → conn_at other connections ≡ None
    starts : (other : ℕ) (link : LinkTape) → other < id → slice_get links other ≡ Some link → Starts connections other link
    left : (n : ℕ) → slice_get ls n ≡ slice_get links (n + id)

  starts_all : (id : ℕ) (connections : Connections) → Before id [] connections → (other : ℕ) (link : LinkTape) → slice_get links other ≡ Some link → Starts connections other link
  starts_all id connections b other link there = elim (cases_lt other id) [
    | inl lt ↦ b.starts other link lt there
    | inr le ↦
        let same : (other - id) + id ≡ other = omega (arith, le) in
        absurd (none-some link (b.left (other - id) ∙ (ap (λ n. slice_get links n) same ∙ there)))
  ]

  module _ (id : ℕ) (l : LinkTape) (ls : List LinkTape) (connections : Connections) (b : Before id (l ∷ ls) connections) where
    there : slice_get links id ≡ Some l
    there = let at : id ≡ zero + id = omega arith in ap (λ n. slice_get links n) at ∙ sym (b.left zero)

    abbrev Opening : Type 0
    Opening = Changes conf first.disks connections first.machine.shards first.ends (opening id l) id
        (closed_if (eqb 0 (length l.steps) && ends_behind l.closed_at (length l.steps) 0) (Some (conn_after_bytes l.bytes new_conn)))

    own_starts : (o : Opening) → Starts o.after id l
    own_starts o =
        subst (λ (c : Option ConnParts). Plays conf tapes histories id l 0 l.steps c (rest_of id)) (sym o.is)
        (plays_end conf first tapes histories links rec id l 0 l.steps (eqb 0 (length l.steps)) (ends_behind l.closed_at (length l.steps) 0) (Some (conn_after_bytes l.bytes new_conn)) (rest_of id)
        (λ e. nil_from_length l.steps (sym (eqb-true 0 (length l.steps) e))) (tells_of id l there).plays)

    other_starts : (o : Opening) (other : ℕ) (link : LinkTape) → other < id → slice_get links other ≡ Some link → Starts o.after other link
    other_starts o other link lt is =
        subst (λ (c : Option ConnParts). Plays conf tapes histories other link 0 link.steps c (rest_of other)) (sym (o.others other (λ e. omega (arith, lt, e))))
        (b.starts other link lt is)

    before_next : (o : Opening) → Before (suc id) ls o.after
    before_next o = record {
      order = o.order;
      none = λ other le. o.others other (λ e. omega (arith, le, e)) ∙ b.none other (omega (arith, le));
      starts = λ other link lt is. elim (cases_lt other id) [
        | inl below ↦ other_starts o other link below is
        | inr above ↦
            let same : id ≡ other = omega (arith, lt, above) in
            let link_is : l ≡ link = same_Some l link (sym there ∙ (ap (λ n. slice_get links n) same ∙ is)) in
            subst (λ (n : ℕ). Starts o.after n link) same (subst (λ (x : LinkTape). Starts o.after id x) link_is (own_starts o))
      ];
      left = λ n. let more : suc n + id ≡ n + suc id = omega arith in b.left (suc n) ∙ ap (λ k. slice_get links k) more;
    }

  opens_all : (ls : List LinkTape) (id : ℕ) (connections : Connections) → Before id ls connections → Opened connections (openings id ls)
  opens_all [] id connections b = record {
    after = connections;
    piece = no_piece conf (state_of first.disks connections first.machine.shards first.ends);
    order = b.order;
    starts = starts_all id connections b;
  }
  opens_all (l ∷ ls) id connections b =
      let one = opens_link conf first first.machine.shards first.ends is_of id l connections b.order (b.none id (omega arith)) in
      let more = opens_all ls (suc id) one.after (before_next id l ls connections b one) in
      record {
        after = more.after;
        piece = both_pieces conf (state_of first.disks connections first.machine.shards first.ends) (state_of first.disks one.after first.machine.shards first.ends)
            (state_of first.disks more.after first.machine.shards first.ends) (opening id l) (openings (suc id) ls) nothing nothing one.piece more.piece;
        order = more.order;
        starts = more.starts;
      }

  before_all : Before 0 links first.machine.connections
  before_all = record {
    order = subst (λ (es : Connections). InOrder es) (sym rec.nobody) tt;
    none = λ other le. ap (λ es. conn_at other es) rec.nobody;
    starts = λ other link lt is. absurd (omega (arith, lt));
    left = λ n. let same : n ≡ n + 0 = omega arith in ap (λ k. slice_get links k) same;
  }

  -- ---- the session

  left_first : (number : ℕ) (tape : ShardTape) → slice_get tapes number ≡ Some tape → Left conf first tapes histories links rec number tape 0 first.machine.shards first.ends
  left_first number tape there = record {
    alone = stands first;
    does = (rec.each_tape number tape there).does;
    same = refl;
    agree = λ at entry le is name on. refl;
    last = refl;
  }

  keeps_first : (o : Opened first.machine.connections (openings 0 links)) → Keeps conf first tapes histories links rec (begin tapes links) o.after first.machine.shards first.ends rest_of
  keeps_first o = record {
    sized = sized_at_first tapes links;
    is = is_of;
    order = o.order;
    plays = λ id link there.
        subst (λ (n : ℕ). Plays conf tapes histories id link n (drop n link.steps) (conn_at id o.after) (rest_of id)) (sym (zero_at (length links) id)) (o.starts id link there);
    left = λ number tape there.
        subst (λ (n : ℕ). Left conf first tapes histories links rec number tape n first.machine.shards first.ends) (sym (zero_at (length tapes) number)) (left_first number tape there);
  }

  pub session : (events : List Event) → IsMerge conf.topics tapes links events → IsSession conf first tapes histories links events
  session events merge =
      let o = opens_all links 0 first.machine.connections before_all in
      let all = goes_all conf first tapes histories links rec merge.moves (begin tapes links) merge.last o.after first.machine.shards first.ends rest_of (keeps_first o) merge.go merge.done in
      let last : State = state_of first.disks all.last_connections all.last_shards all.last_ends in
      let p : Piece conf first (openings 0 links ++ told conf.topics tapes links (begin tapes links) merge.moves) (both nothing all.tells) last =
      both_pieces conf first (state_of first.disks o.after first.machine.shards first.ends) last (openings 0 links) (told conf.topics tapes links (begin tapes links) merge.moves) nothing all.tells o.piece all.piece in
      record {
        steps = p.steps;
        last = last;
        run = p.run;
        events_are = p.events_are ∙ sym merge.tells;
        quiet = refl;
        links_are = λ id link there. subst (λ (os : List Outcome). AreOfLink link os) (sym (p.tells_are id ∙ all.tells_are id link there)) (tells_of id link there).gives;
        calls_are = λ number tape there.
            ap (λ cs. calls_on tape.shard cs) p.calls_are
            ∙ (all.calls_are number tape there ∙ ap (λ n. map (λ (x : Entry). x.call) (drop n (history_of histories number))) (zero_at (length tapes) number));
        shards_are = all.shards_are;
      }
