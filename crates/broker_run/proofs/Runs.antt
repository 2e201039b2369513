-- A run of a connection behind another.
use Rattle.std.proofs.Common.{◌≡◌, ◌≢◌, Some, None, Result, Ok, Err, IfOk, OnOk, OnErr, ℕ, List, [], ◌∷◌, ◌++◌, true, false, refl, sym, ap, ◌∙◌, subst, append_assoc, append-nil, map, inl, inr}
use Rattle.std.proofs.lemmas.Grind.{flat_map-append}
use Rattle.std.proofs.lemmas.List.{map-append}
use Rattle.std.proofs.lemmas.List.Elements.{All-append, All-cons, All-head, All-nil, All-tail}
use Rattle.std.proofs.KnownBytes.{Appends-trans, Appends-nil, Consumes-trans, Consumes-nil}
use Rattle.std.specs.List.{All}
use Rattle.std.specs.declared.option.Option.{Option}
use Rattle.std.specs.Io.KnownBytes.{Appends, Consumes}
use Rattle.edge_io.specs.Streams.{AppendsFront}
use Rattle.edge_io.specs.Views.{DiskView}
use Rattle.edge_io.specs.Serving.{TellsMore}
use Rattle.edge_io.proofs.Telling.{tells_none, tells_then}
use Rattle.share_model.specs.declared.close_cause.CloseCause.{CloseCause}
use Rattle.topic_conf.specs.Configs.{ConfigParts}
use Rattle.call_fold.specs.declared.part.Part.{Part}
use Rattle.share_calls.specs.declared.wish.WaitWish.{WaitWish}
use Rattle.conn_core.specs.declared.next.Next.{Next}
use Rattle.conn_core.specs.declared.next.Next.TheVariants.{Idle, Ask, Closed as next_closed}
use Rattle.conn_core.specs.Conns.{ConnParts, new_conn, conn_after_bytes, conn_after_end, conn_after_reply}
use Rattle.conn_core.specs.Streams.{Act, conn_after, conn_after_all}
use Rattle.conn_core.specs.Turning.{Waits, turn, awaited_part}
use Rattle.conn_core.specs.Wishes.{conn_wish}
use Rattle.broker_locks.specs.Waiting.{Glances, StopsWaiting, Waited, WaitsFor}
use Rattle.broker_run.specs.declared.connection.Ended.{Ended}
use Rattle.broker_run.specs.declared.connection.Ended.TheVariants.{Peer, Closed, Read, Write, NoMemory}
use Rattle.broker_run.specs.declared.connection.Turned.{Turned}
use Rattle.broker_run.specs.declared.connection.Turned.TheVariants.{Goes as Goes_on, Closes}
use Rattle.broker_locks.specs.Shared.{SharedParts, PassesParts}
use Rattle.broker_run.specs.Moving.{CanAll, Done, HasWaited, IsIdle, IsOpen, IsOpenNext, IsQuiet, Move, acts_of, asked_of, conn_after_moves, deed_of, done_by, moments_of, read_by, written_by}
use Rattle.broker_run.specs.Moving.Move.{asks, reads, does, sends, breaks, ends}
use Rattle.broker_run.specs.Serving.{Asked, Halted, Interrupted, IsGone, IsGoneAt, Reached, Reads, Scene, scene, DoesAll, Makes, Goes, GoesOn, Breaks, Quiet, Releases}
use Rattle.broker_run.specs.Serving.{Received, Replied, Fails, ClosesBy, TurnsTo, Talks, Serves, IsCut, IsServed, Stopped}

-- ---- lists of moves

abbrev acts_by : Move → List Act
acts_by m = (deed_of m).acts

abbrev parts_by : Move → List Done
parts_by m = (deed_of m).done

abbrev bytes_read : Move → List ℕ
bytes_read m = (deed_of m).read

abbrev bytes_written : Move → List ℕ
bytes_written m = (deed_of m).written

module _ (conf : ConfigParts) where
  calls_append : (xs ys : List Act) (c : ConnParts) → conn_after_all conf (xs ++ ys) c ≡ conn_after_all conf ys (conn_after_all conf xs c)
  calls_append [] ys c = refl
  calls_append (x ∷ xs) ys c = calls_append xs ys (conn_after conf x c)

  pub after_append : (xs ys : List Move) (c : ConnParts) → conn_after_moves conf (xs ++ ys) c ≡ conn_after_moves conf ys (conn_after_moves conf xs c)
  after_append xs ys c =
      ap (λ l. conn_after_all conf l c) (flat_map-append acts_by xs ys) ∙ calls_append (acts_of xs) (acts_of ys) c

  pub can_append : (xs ys : List Move) (c : ConnParts) → CanAll conf xs c → CanAll conf ys (conn_after_moves conf xs c) → CanAll conf (xs ++ ys) c
  can_append [] ys c p q = q
  can_append (x ∷ xs) ys c p q = (
    p.0,
    can_append xs ys (conn_after_all conf (acts_by x) c) p.1 (subst (CanAll conf ys) (calls_append (acts_by x) (acts_of xs) c) q),
  )

pub sends_open : (rs : List (List ℕ)) → All IsOpen (map sends rs)
sends_open [] = All-nil IsOpen
sends_open (r ∷ rs) = All-cons IsOpen (sends r) (map sends rs) tt (sends_open rs)

-- replies are no parts, and nothing is read for them
sends_none : (rs : List (List ℕ)) → done_by (map sends rs) ≡ []
sends_none [] = refl
sends_none (r ∷ rs) = sends_none rs

sends_unread : (rs : List (List ℕ)) → read_by (map sends rs) ≡ []
sends_unread [] = refl
sends_unread (r ∷ rs) = sends_unread rs

-- what is quiet neither reads nor writes
quiet_one_does : (m : Move) → IsQuiet m → (bytes_read m ≡ []) × (bytes_written m ≡ [])
quiet_one_does (asks next) q = (refl, refl)
quiet_one_does (reads piece) q = absurd q
quiet_one_does (does done) q = (refl, refl)
quiet_one_does (sends reply) q = absurd q
quiet_one_does (breaks front) q = absurd q
quiet_one_does ends q = absurd q

quiet_does : (ms : List Move) → All IsQuiet ms → (read_by ms ≡ []) × (written_by ms ≡ [])
quiet_does [] q = (refl, refl)
quiet_does (m ∷ ms) q =
    let one = quiet_one_does m (All-head IsQuiet m ms q) in
    let more = quiet_does ms (All-tail IsQuiet m ms q) in
    (ap (λ (l : List ℕ). l ++ read_by ms) one.0 ∙ more.0, ap (λ (l : List ℕ). l ++ written_by ms) one.1 ∙ more.1)

-- ---- what is read

pub reads_append : (xs ys : List Move) (l m n : Option (List ℕ)) → Reads xs l m → Reads ys m n → Reads (xs ++ ys) l n
reads_append [] ys l m n p q = subst (λ (x : Option (List ℕ)). Reads ys x n) p q
reads_append (x ∷ xs) ys l m n p q = (p.0, p.1, p.2, reads_append xs ys p.0 m n p.3 q)

sends_read : (rs : List (List ℕ)) (l : Option (List ℕ)) → Reads (map sends rs) l l
sends_read [] l = refl
sends_read (r ∷ rs) l = (l, tt, Consumes-nil l, sends_read rs l)

quiet_one_read : (m : Move) (l : Option (List ℕ)) → IsQuiet m → IsGoneAt m l × Consumes l l (bytes_read m)
quiet_one_read (asks next) l q = (tt, Consumes-nil l)
quiet_one_read (reads piece) l q = absurd q
quiet_one_read (does done) l q = (subst (λ (w : Option Waited). IsGone w l) (sym q) tt, Consumes-nil l)
quiet_one_read (sends reply) l q = absurd q
quiet_one_read (breaks front) l q = absurd q
quiet_one_read ends l q = absurd q

quiet_read : (ms : List Move) (l : Option (List ℕ)) → All IsQuiet ms → Reads ms l l
quiet_read [] l q = refl
quiet_read (m ∷ ms) l q =
    let one = quiet_one_read m l (All-head IsQuiet m ms q) in (l, one.0, one.1, quiet_read ms l (All-tail IsQuiet m ms q))

-- ---- runs

module _ {D : Type 0} (conf : ConfigParts) (seen : D → DiskView) (shared : SharedParts D) where
  does_append : (xs ys : List Done) (a b c : PassesParts D) → DoesAll conf seen shared xs a b → DoesAll conf seen shared ys b c
      → DoesAll conf seen shared (xs ++ ys) a c
  does_append [] ys a b c p q = subst (λ (x : PassesParts D). DoesAll conf seen shared ys x c) p q
  does_append (d ∷ ds) ys a b c p q = (p.0, p.1, p.2, p.3, does_append ds ys p.1 b c p.4 q)

  pub makes_then : (xs ys : List Move) (a b c : ConnParts) (o p q : PassesParts D) (s t u : Option (List ℕ))
      → Makes conf seen shared xs a b o p s t → Makes conf seen shared ys b c p q t u → Makes conf seen shared (xs ++ ys) a c o q s u
  makes_then xs ys a b c o p q s t u g k = record {
    can = can_append conf xs ys a g.can (subst (CanAll conf ys) g.conn k.can);
    conn = k.conn ∙ ap (conn_after_moves conf ys) g.conn ∙ sym (after_append conf xs ys a);
    passes = subst (λ (l : List Done). DoesAll conf seen shared l o q) (sym (flat_map-append parts_by xs ys))
        (does_append (done_by xs) (done_by ys) o p q g.passes k.passes);
    moments = subst (TellsMore s u)
        (sym (ap moments_of (flat_map-append parts_by xs ys) ∙ flat_map-append (λ (d : Done). asked_of d.waited ++ d.now ∷ []) (done_by xs) (done_by ys)))
        (tells_then s t u (moments_of (done_by xs)) (moments_of (done_by ys)) g.moments k.moments);
  }

  pub goes_then : (xs ys : List Move) (a b c : Scene D) → Goes conf seen shared xs a b → Goes conf seen shared ys b c → Goes conf seen shared (xs ++ ys) a c
  goes_then xs ys a b c p q = record {
    makes = makes_then xs ys a.conn b.conn c.conn a.passes b.passes c.passes a.told b.told c.told p.makes q.makes;
    fed = subst (Consumes a.left c.left) (sym (flat_map-append bytes_read xs ys))
        (Consumes-trans a.left b.left c.left (read_by xs) (read_by ys) p.fed q.fed);
    wrote = subst (Appends a.held c.held) (sym (flat_map-append bytes_written xs ys))
        (Appends-trans a.held b.held c.held (written_by xs) (written_by ys) p.wrote q.wrote);
    gone = reads_append xs ys a.left b.left c.left p.gone q.gone;
  }

  pub makes_none : (c : ConnParts) (p : PassesParts D) (t : Option (List ℕ)) → Makes conf seen shared [] c c p p t t
  makes_none c p t = record { can = tt; conn = refl; passes = refl; moments = tells_none t }

  pub goes_none : (a : Scene D) → GoesOn conf seen shared a a
  goes_none a = record {
    moves = [];
    unclosed = All-nil IsOpen;
    goes = record { makes = makes_none a.conn a.passes a.told; fed = Consumes-nil a.left; gone = refl; wrote = Appends-nil a.held };
  }

  pub goes_on : (a b c : Scene D) → GoesOn conf seen shared a b → GoesOn conf seen shared b c → GoesOn conf seen shared a c
  goes_on a b c p q = record {
    moves = p.moves ++ q.moves;
    unclosed = All-append IsOpen p.moves q.moves p.unclosed q.unclosed;
    goes = goes_then p.moves q.moves a b c p.goes q.goes;
  }

  pub breaks_then : (a b c : Scene D) → GoesOn conf seen shared a b → Breaks conf seen shared b c → Breaks conf seen shared a c
  breaks_then a b c p q = record { mid = q.mid; goes = goes_on a b q.mid p q.goes; loses = q.loses }

  pub talks_then : (ended : Ended) (a b c : Scene D) → GoesOn conf seen shared a b → Talks conf seen shared ended b c → Talks conf seen shared ended a c
  talks_then ended a b c p q = record {
    talk = p.moves ++ q.talk;
    closing = q.closing;
    unclosed = All-append IsOpen p.moves q.talk p.unclosed q.unclosed;
    closes = subst (ClosesBy ended q.closing) (ap (conn_after_moves conf q.talk) p.goes.makes.conn ∙ sym (after_append conf p.moves q.talk a.conn)) q.closes;
    goes = subst (λ (l : List Move). Goes conf seen shared l a c) (sym (append_assoc p.moves q.talk (q.closing ∷ [])))
        (goes_then p.moves (q.talk ++ q.closing ∷ []) a b c p.goes q.goes);
  }

-- ---- replies

module _ (conf : ConfigParts) where
  pub replied_none : (c : ConnParts) (held : Option (List ℕ)) → Replied conf c c held held
  replied_none c held = record { replies = []; can = tt; conn = refl; wrote = Appends-nil held }

  -- one more reply was taken and written
  pub replied_then : (a b c : ConnParts) (h i j : Option (List ℕ)) (reply : List ℕ) (others : List (List ℕ)) → Replied conf a b h i
      → b.replies ≡ reply ∷ others → c ≡ conn_after_reply b → Appends i j reply → Replied conf a c h j
  replied_then a b c h i j reply others p first is q =
      let sent : List Move = map sends p.replies in
      let snoc : map sends (p.replies ++ reply ∷ []) ≡ sent ++ sends reply ∷ [] = map-append sends p.replies (reply ∷ []) in
      let can : CanAll conf (sends reply ∷ []) b = ((others, first), tt) in
      record {
        replies = p.replies ++ reply ∷ [];
        can = subst (λ (l : List Move). CanAll conf l a) (sym snoc)
            (can_append conf sent (sends reply ∷ []) a p.can (subst (CanAll conf (sends reply ∷ [])) p.conn can));
        conn = is ∙ ap conn_after_reply p.conn ∙ sym (after_append conf sent (sends reply ∷ []) a) ∙ ap (λ l. conn_after_moves conf l a) (sym snoc);
        wrote = subst (Appends h j)
            (ap (λ (l : List ℕ). written_by sent ++ l) (sym (append-nil reply)) ∙ sym (flat_map-append bytes_written sent (sends reply ∷ []))
            ∙ ap written_by (sym snoc))
            (Appends-trans h i j (written_by sent) reply p.wrote q);
      }

  pub replied_short : (a b c : ConnParts) (h i j : Option (List ℕ)) (reply rest : List ℕ) (others : List (List ℕ)) → Replied conf a b h i
      → b.replies ≡ reply ∷ others → c ≡ conn_after_reply b → AppendsFront i j reply rest → Fails conf a c h j
  replied_short a b c h i j reply rest others p first is q = record {
    mid = b;
    until = i;
    replied = p;
    front = q.front;
    can = (rest, (others, first ∙ ap (λ (r : List ℕ). r ∷ others) (sym q.parts)));
    conn = is;
    wrote = q.grown;
  }

-- ---- single moves

-- a connection that waits is asked in vain
pub waits_stays : (conf : ConfigParts) (c : ConnParts) → Waits c → (turn conf c).conn ≡ c
waits_stays conf c w = rw w.0 (rw w.1 refl)

module _ {D : Type 0} (conf : ConfigParts) (seen : D → DiskView) (shared : SharedParts D) where
  pub asks_one : (next : Next) (c d : ConnParts) (p : PassesParts D) (l h t : Option (List ℕ)) → next ≡ (turn conf c).next → d ≡ (turn conf c).conn
      → Goes conf seen shared (asks next ∷ []) (scene c p l h t) (scene d p l h t)
  asks_one next c d p l h t tells is = record {
    makes = record { can = (sym tells, tt); conn = is; passes = refl; moments = tells_none t };
    fed = Consumes-nil l;
    gone = (l, tt, Consumes-nil l, refl);
    wrote = Appends-nil h;
  }

  pub turned : (next : Next) (c d : ConnParts) (p : PassesParts D) (l h t : Option (List ℕ)) → IsOpenNext next → next ≡ (turn conf c).next
      → d ≡ (turn conf c).conn → GoesOn conf seen shared (scene c p l h t) (scene d p l h t)
  turned next c d p l h t stays tells is = record {
    moves = asks next ∷ [];
    unclosed = All-cons IsOpen (asks next) [] stays (All-nil IsOpen);
    goes = asks_one next c d p l h t tells is;
  }

  -- a move behind what it told it does next
  behind : (next : Next) (m : Move) (a b c : Scene D) → IsOpenNext next → IsOpen m → Goes conf seen shared (asks next ∷ []) a b → Goes conf seen shared (m ∷ []) b c
      → GoesOn conf seen shared a c
  behind next m a b c stays so p q = record {
    moves = asks next ∷ m ∷ [];
    unclosed = All-cons IsOpen (asks next) (m ∷ []) stays (All-cons IsOpen m [] so (All-nil IsOpen));
    goes = goes_then conf seen shared (asks next ∷ []) (m ∷ []) a b c p q;
  }

  reads_one : (c d : ConnParts) (p : PassesParts D) (l m h t : Option (List ℕ)) (piece : List ℕ) → IsIdle c → d ≡ conn_after_bytes piece c → Consumes l m piece
      → Goes conf seen shared (reads piece ∷ []) (scene c p l h t) (scene d p m h t)
  reads_one c d p l m h t piece idle is q = record {
    makes = record { can = (idle, tt); conn = is; passes = refl; moments = tells_none t };
    fed = subst (Consumes l m) (sym (append-nil piece)) q;
    gone = (m, tt, q, refl);
    wrote = Appends-nil h;
  }

  ends_one : (c d : ConnParts) (p : PassesParts D) (l m h t : Option (List ℕ)) → IsIdle c → d ≡ conn_after_end c → Consumes l m []
      → Goes conf seen shared (ends ∷ []) (scene c p l h t) (scene d p m h t)
  ends_one c d p l m h t idle is q = record {
    makes = record { can = (idle, tt); conn = is; passes = refl; moments = tells_none t };
    fed = q;
    gone = (m, tt, q, refl);
    wrote = Appends-nil h;
  }

  -- as it is idle still when it has been asked
  idle_still : (b c : ConnParts) → c ≡ (turn conf b).conn → IsIdle b → IsIdle c
  idle_still b c is i = subst IsIdle (sym (is ∙ waits_stays conf b i.waits)) i

  -- it was idle, and a read told the end or failed
  read_end : (ended : Ended) (b c d : ConnParts) (p : PassesParts D) (l m h t : Option (List ℕ)) → Idle ≡ (turn conf b).next → c ≡ (turn conf b).conn → IsIdle b
      → ClosesBy ended ends (turn conf b).conn → d ≡ conn_after_end c → Consumes l m [] → Talks conf seen shared ended (scene b p l h t) (scene d p m h t)
  read_end ended b c d p l m h t tells is i closes end r = record {
    talk = asks Idle ∷ [];
    closing = ends;
    unclosed = All-cons IsOpen (asks Idle) [] tt (All-nil IsOpen);
    closes = closes;
    goes = goes_then conf seen shared (asks Idle ∷ []) (ends ∷ []) (scene b p l h t) (scene c p l h t) (scene d p m h t)
        (asks_one Idle b c p l h t tells is) (ends_one c d p l m h t (idle_still b c is i) end r);
  }

  pub received : (turned : Turned) (b c d : ConnParts) (p : PassesParts D) (l m h t : Option (List ℕ)) → Idle ≡ (turn conf b).next → c ≡ (turn conf b).conn
      → IsIdle b → Received turned c d l m → TurnsTo conf seen shared turned (scene b p l h t) (scene d p m h t)
  received Goes_on b c d p l m h t tells is i r =
      behind Idle (reads r.0) (scene b p l h t) (scene c p l h t) (scene d p m h t) tt tt (asks_one Idle b c p l h t tells is)
      (reads_one c d p l m h t r.0 (idle_still b c is i) r.1 r.2)
  received (Closes Peer) b c d p l m h t tells is i r = read_end Peer b c d p l m h t tells is i refl r.1 r.2
  received (Closes (Closed cause)) b c d p l m h t tells is i r = absurd r.0
  received (Closes Read) b c d p l m h t tells is i r = read_end Read b c d p l m h t tells is i refl r.1 r.2
  received (Closes Write) b c d p l m h t tells is i r = absurd r.0
  received (Closes NoMemory) b c d p l m h t tells is i r = absurd r.0

  -- its own turn closed it
  pub closed_by : (cause : CloseCause) (c d : ConnParts) (p : PassesParts D) (l h t : Option (List ℕ)) → next_closed cause ≡ (turn conf c).next → d ≡ (turn conf c).conn
      → c.replies ≡ [] → Talks conf seen shared (Closed cause) (scene c p l h t) (scene d p l h t)
  closed_by cause c d p l h t tells is none = record {
    talk = [];
    closing = asks (next_closed cause);
    unclosed = All-nil IsOpen;
    closes = (refl, none);
    goes = asks_one (next_closed cause) c d p l h t tells is;
  }

  abbrev done_so : (part : Part) (left : Option (List ℕ)) (c d : ConnParts) (p q : PassesParts D) (t u : Option (List ℕ))
      → Reached conf seen shared part left c d p q t u → Done
  done_so part left c d p q t u a = record { waited = a.waited; part = part; now = a.asked.now; answer = a.asked.answer }

  does_one : (part : Part) (left : Option (List ℕ)) (c d : ConnParts) (p q : PassesParts D) (t u : Option (List ℕ)) → awaited_part c ≡ Some part
      → (a : Reached conf seen shared part left c d p q t u) → Makes conf seen shared (does (done_so part left c d p q t u a) ∷ []) c d p q t u
  does_one part left c d p q t u awaits a = record {
    can = ((awaits, a.has), tt);
    conn = a.asked.conn;
    passes = (a.begun, q, a.waits, a.asked.does, refl);
    moments = subst (TellsMore t u) (sym (append-nil (asked_of a.waited ++ a.asked.now ∷ [])))
        (tells_then t a.until u (asked_of a.waited) (a.asked.now ∷ []) a.moments a.asked.moment);
  }

  pub asked : (part : Part) (b c d : ConnParts) (p q : PassesParts D) (l h t u : Option (List ℕ)) → Ask part ≡ (turn conf b).next → c ≡ (turn conf b).conn
      → awaited_part c ≡ Some part → Reached conf seen shared part l c d p q t u → GoesOn conf seen shared (scene b p l h t) (scene d q l h u)
  asked part b c d p q l h t u tells is awaits a =
      behind (Ask part) (does (done_so part l c d p q t u a)) (scene b p l h t) (scene c p l h t) (scene d q l h u) tt tt
      (asks_one (Ask part) b c p l h t tells is)
      (record { makes = does_one part l c d p q t u awaits a; fed = Consumes-nil l; gone = (l, a.gone, Consumes-nil l, refl); wrote = Appends-nil h })

  pub replied_goes : (c d : ConnParts) (p : PassesParts D) (l h k t : Option (List ℕ)) → Replied conf c d h k
      → GoesOn conf seen shared (scene c p l h t) (scene d p l k t)
  replied_goes c d p l h k t r = record {
    moves = map sends r.replies;
    unclosed = sends_open r.replies;
    goes = record {
      makes = record {
        can = r.can;
        conn = r.conn;
        passes = subst (λ (x : List Done). DoesAll conf seen shared x p p) (sym (sends_none r.replies)) refl;
        moments = subst (TellsMore t t) (sym (ap moments_of (sends_none r.replies))) (tells_none t);
      };
      fed = subst (Consumes l l) (sym (sends_unread r.replies)) (Consumes-nil l);
      gone = sends_read r.replies l;
      wrote = r.wrote;
    };
  }

  -- moves that read and write nothing, behind others
  goes_quiet : (xs ys : List Move) (a : Scene D) (c d : ConnParts) (p q : PassesParts D) (l h t u : Option (List ℕ)) → Goes conf seen shared xs a (scene c p l h t)
      → All IsQuiet ys → Makes conf seen shared ys c d p q t u → Goes conf seen shared (xs ++ ys) a (scene d q l h u)
  goes_quiet xs ys a c d p q l h t u g quiet k = goes_then conf seen shared xs ys a (scene c p l h t) (scene d q l h u) g (record {
    makes = k;
    fed = subst (Consumes l l) (sym (quiet_does ys quiet).0) (Consumes-nil l);
    gone = quiet_read ys l quiet;
    wrote = subst (Appends h h) (sym (quiet_does ys quiet).1) (Appends-nil h);
  })

  pub quiet_none : (c : ConnParts) (p : PassesParts D) (t : Option (List ℕ)) → Quiet conf seen shared c c p p t t
  quiet_none c p t = record { moves = []; quiet = All-nil IsQuiet; makes = makes_none conf seen shared c p t }

  pub quiet_then : (b c d : ConnParts) (o p q : PassesParts D) (s t u : Option (List ℕ)) → Quiet conf seen shared b c o p s t → Quiet conf seen shared c d p q t u
      → Quiet conf seen shared b d o q s u
  quiet_then b c d o p q s t u g k = record {
    moves = g.moves ++ k.moves;
    quiet = All-append IsQuiet g.moves k.moves g.quiet k.quiet;
    makes = makes_then conf seen shared g.moves k.moves b c d o p q s t u g.makes k.makes;
  }

  quiet_one : (m : Move) (c d : ConnParts) (p q : PassesParts D) (t u : Option (List ℕ)) → IsQuiet m → Makes conf seen shared (m ∷ []) c d p q t u
      → Quiet conf seen shared c d p q t u
  quiet_one m c d p q t u quiet k = record { moves = m ∷ []; quiet = All-cons IsQuiet m [] quiet (All-nil IsQuiet); makes = k }

  pub quiet_turned : (c d : ConnParts) (p : PassesParts D) (t : Option (List ℕ)) → d ≡ (turn conf c).conn → Quiet conf seen shared c d p p t t
  quiet_turned c d p t is =
      quiet_one (asks (turn conf c).next) c d p p t t tt (record { can = (refl, tt); conn = is; passes = refl; moments = tells_none t })

  -- nothing is waited for where nothing is wished
  abbrev pub unwished : (part : Part) (left : Option (List ℕ)) (c d : ConnParts) (p q : PassesParts D) (t u : Option (List ℕ)) → conn_wish c ≡ None
      → Asked conf seen shared part c d p q t u → Reached conf seen shared part left c d p q t u
  unwished part left c d p q t u none a = record {
    waited = None;
    has = subst (λ (w : Option WaitWish). HasWaited w None) (sym none) tt;
    begun = p;
    waits = refl;
    until = t;
    moments = tells_none t;
    gone = tt;
    asked = a;
  }

  pub quiet_asked : (part : Part) (c d : ConnParts) (p q : PassesParts D) (t u : Option (List ℕ)) → awaited_part c ≡ Some part → conn_wish c ≡ None
      → Asked conf seen shared part c d p q t u → Quiet conf seen shared c d p q t u
  quiet_asked part c d p q t u awaits none a =
      let r = unwished part None c d p q t u none a in
      quiet_one (does (done_so part None c d p q t u r)) c d p q t u refl (does_one part None c d p q t u awaits r)

  pub halted_so : (part : Part) (c d : ConnParts) (p q : PassesParts D) (t u : Option (List ℕ)) → conn_wish c ≡ None
      → Stopped conf seen shared part c d p q t u → Interrupted conf seen shared part c d p q t u
  halted_so part c d p q t u none s = inr (record {
    waited = None;
    has = subst (λ (w : Option WaitWish). HasWaited w None) (sym none) tt;
    begun = p;
    waits = refl;
    until = t;
    moments = tells_none t;
    stopped = s;
  })

  -- behind what was waited for
  module _ (part : Part) (wish : WaitWish) (left : Option (List ℕ)) (c d : ConnParts) (p m q : PassesParts D) (t s u : Option (List ℕ))
      (wished : conn_wish c ≡ Some wish) (w : WaitsFor seen shared wish left p m t s) where
    has_so : HasWaited (conn_wish c) (Some w.waited)
    has_so = subst (λ (x : Option WaitWish). HasWaited x (Some w.waited)) (sym wished) (w.wished, w.wait)

    glanced_so : Glances seen shared w.waited.wish.group w.waited.glances p m
    glanced_so = subst (λ (x : WaitWish). Glances seen shared x.group w.waited.glances p m) (sym w.wished) w.does.does

    pub reached_so : Asked conf seen shared part c d m q s u → Reached conf seen shared part left c d p q t u
    reached_so a = record {
      waited = Some w.waited;
      has = has_so;
      begun = m;
      waits = glanced_so;
      until = s;
      moments = w.does.asked;
      gone = w.gone;
      asked = a;
    }

    pub halted_behind : Stopped conf seen shared part c d m q s u → Interrupted conf seen shared part c d p q t u
    halted_behind a = inr (record { waited = Some w.waited; has = has_so; begun = m; waits = glanced_so; until = s; moments = w.does.asked; stopped = a })

  pub unwaited : (part : Part) (wish : WaitWish) (c : ConnParts) (p q : PassesParts D) (t u : Option (List ℕ)) → conn_wish c ≡ Some wish
      → StopsWaiting seen shared wish p q t u → Interrupted conf seen shared part c c p q t u
  unwaited part wish c p q t u wished stops = inl (record { wish = wish; wished = wished; stops = stops; conn = refl })

  -- ---- where memory runs out

  pub breaks_here : (a : Scene D) → Breaks conf seen shared a a
  breaks_here a = record {
    mid = a;
    goes = goes_none conf seen shared a;
    loses = record { lost = []; idle = inl refl; unfed = Consumes-nil a.left; held = refl; part = inl (refl, refl) };
  }

  pub breaks_fed : (b c d : ConnParts) (p : PassesParts D) (l m h t : Option (List ℕ)) → Idle ≡ (turn conf b).next → c ≡ (turn conf b).conn → IsIdle b
      → ((lost : List ℕ) × Consumes l m lost) → Breaks conf seen shared (scene b p l h t) (scene d p m h t)
  breaks_fed b c d p l m h t tells is i lost = record {
    mid = scene c p l h t;
    goes = turned Idle b c p l h t tt tells is;
    loses = record { lost = lost.0; idle = inr (idle_still b c is i); unfed = lost.1; held = refl; part = inl (refl, refl) };
  }

  pub breaks_asked : (part : Part) (b c d : ConnParts) (p q : PassesParts D) (l h t u : Option (List ℕ)) → Ask part ≡ (turn conf b).next → c ≡ (turn conf b).conn
      → awaited_part c ≡ Some part → Interrupted conf seen shared part c d p q t u → Breaks conf seen shared (scene b p l h t) (scene d q l h u)
  breaks_asked part b c d p q l h t u tells is awaits s = record {
    mid = scene c p l h t;
    goes = turned (Ask part) b c p l h t tt tells is;
    loses = record { lost = []; idle = inl refl; unfed = Consumes-nil l; held = refl; part = inr (part, awaits, s) };
  }

-- ---- results

pub if_ok_so : {X Y : Type 0} (P Q : X → Type 0) (result : Result X Y) → ((x : X) → P x → Q x) → IfOk result P → IfOk result Q
if_ok_so P Q (Ok x) f p = f x p
if_ok_so P Q (Err y) f p = tt

pub ok_so : {X Y P Q : Type 0} (result : Result X Y) → (P → Q) → OnOk result P → OnOk result Q
ok_so (Ok x) f p = f p
ok_so (Err y) f p = tt

pub err_so : {X Y P Q : Type 0} (result : Result X Y) → (P → Q) → OnErr result P → OnErr result Q
err_so (Ok x) f p = tt
err_so (Err y) f p = f p

module _ {D : Type 0} (conf : ConfigParts) (seen : D → DiskView) (shared : SharedParts D) where
  -- replies behind a run
  pub then_replied : (a : Scene D) (c d : ConnParts) (p : PassesParts D) (l m h k t : Option (List ℕ)) → GoesOn conf seen shared a (scene c p l h t)
      → Replied conf c d h k → m ≡ l → GoesOn conf seen shared a (scene d p m k t)
  then_replied a c d p l m h k t g r is = subst (λ (x : Option (List ℕ)). GoesOn conf seen shared a (scene d p x k t)) (sym is)
      (goes_on conf seen shared a (scene c p l h t) (scene d p l k t) g (replied_goes conf seen shared c d p l h k t r))

  -- replies of which one wasn't written whole, and the end
  pub talks_short : (a : Scene D) (c d e : ConnParts) (p : PassesParts D) (l m h k t : Option (List ℕ)) → GoesOn conf seen shared a (scene c p l h t)
      → Fails conf c d h k → m ≡ l → e ≡ conn_after_end d → Talks conf seen shared Write a (scene e p m k t)
  talks_short a c d e p l m h k t g f is end = subst (λ (x : Option (List ℕ)). Talks conf seen shared Write a (scene e p x k t)) (sym is)
      (talks_then conf seen shared Write a (scene f.mid p l f.until t) (scene e p l k t)
      (then_replied a c f.mid p l l h f.until t g f.replied refl)
      (record {
        talk = [];
        closing = breaks f.front;
        unclosed = All-nil IsOpen;
        closes = (f.front, refl);
        goes = record {
          makes = record { can = (f.can, tt); conn = end ∙ ap conn_after_end f.conn; passes = refl; moments = tells_none t };
          fed = Consumes-nil l;
          gone = (l, tt, Consumes-nil l, refl);
          wrote = subst (Appends f.until k) (sym (append-nil f.front)) f.wrote;
        };
      }))

-- ---- the whole

module _ {D : Type 0} (conf : ConfigParts) (seen : D → DiskView) (shared : SharedParts D) (first : ConnParts) (is_first : first ≡ new_conn) where
  as_first : (moves : List Move) (old : PassesParts D) (left held told : Option (List ℕ)) (b : Scene D)
      → Goes conf seen shared moves (scene first old left held told) b → Goes conf seen shared moves (scene new_conn old left held told) b
  as_first moves old left held told b g = subst (λ (c : ConnParts). Goes conf seen shared moves (scene c old left held told) b) is_first g

  -- the moves up to where it closed, and releases behind them
  released : (ended : Ended) (old p q : PassesParts D) (left l held h told t u : Option (List ℕ)) (c d : ConnParts)
      → (g : Talks conf seen shared ended (scene first old left held told) (scene c p l h t)) → (r : Quiet conf seen shared c d p q t u)
      → Goes conf seen shared (g.talk ++ g.closing ∷ r.moves) (scene new_conn old left held told) (scene d q l h u)
  released ended old p q left l held h told t u c d g r =
      subst (λ (ms : List Move). Goes conf seen shared ms (scene new_conn old left held told) (scene d q l h u)) (append_assoc g.talk (g.closing ∷ []) r.moves)
      (goes_quiet conf seen shared (g.talk ++ g.closing ∷ []) r.moves (scene new_conn old left held told) c d p q l h t u
      (as_first (g.talk ++ g.closing ∷ []) old left held told (scene c p l h t) g.goes) r.quiet r.makes)

  serves : (ended : Ended) (old p q : PassesParts D) (left l held h told t u : Option (List ℕ)) (c d : ConnParts)
      → Talks conf seen shared ended (scene first old left held told) (scene c p l h t) → Releases conf seen shared true c d p q t u
      → Serves conf seen shared ended old q left l held h told u
  serves ended old p q left l held h told t u c d g r = record {
    talk = g.talk;
    closing = g.closing;
    releases = r.quiet.moves;
    last = r.at;
    goes = subst (λ (x : PassesParts D × Option (List ℕ)).
        Goes conf seen shared (g.talk ++ g.closing ∷ r.quiet.moves) (scene new_conn old left held told) (scene r.at x.0 l h x.1))
        (λ i. (sym r.last.2 i, sym r.last.3 i)) (released ended old p r.mid left l held h told t r.until c r.at g r.quiet);
    unclosed = g.unclosed;
    closes = subst (λ (x : ConnParts). ClosesBy ended g.closing (conn_after_moves conf g.talk x)) is_first g.closes;
    quiet = r.quiet.quiet;
    gone = r.last.0;
  }

  pub served : (ended : Ended) (old p q : PassesParts D) (left l held h told t u : Option (List ℕ)) (c d : ConnParts) → ended ≢ NoMemory
      → Talks conf seen shared ended (scene first old left held told) (scene c p l h t) → Releases conf seen shared true c d p q t u
      → IsServed conf seen shared old q left l held h told u ended
  served Peer old p q left l held h told t u c d ne g r = serves Peer old p q left l held h told t u c d g r
  served (Closed cause) old p q left l held h told t u c d ne g r = serves (Closed cause) old p q left l held h told t u c d g r
  served Read old p q left l held h told t u c d ne g r = serves Read old p q left l held h told t u c d g r
  served Write old p q left l held h told t u c d ne g r = serves Write old p q left l held h told t u c d g r
  served NoMemory old p q left l held h told t u c d ne g r = absurd (ne refl)

  pub cut_after : (ended : Ended) (old p q : PassesParts D) (left l held h told t u : Option (List ℕ)) (c d : ConnParts)
      → Talks conf seen shared ended (scene first old left held told) (scene c p l h t) → Releases conf seen shared false c d p q t u
      → IsCut conf seen shared old q left l held h told u
  cut_after ended old p q left l held h told t u c d g r = record {
    talk = g.talk;
    rest = g.closing ∷ r.quiet.moves;
    mid = scene r.at r.mid l h r.until;
    last = d;
    goes = released ended old p r.mid left l held h told t r.until c r.at g r.quiet;
    unclosed = g.unclosed;
    closed = ((ended, subst (λ (x : ConnParts). ClosesBy ended g.closing (conn_after_moves conf g.talk x)) is_first g.closes), r.quiet.quiet);
    loses = record { lost = []; idle = inl refl; unfed = Consumes-nil l; held = refl; part = r.last };
  }

  pub cut_here : (old q : PassesParts D) (left m held k told u : Option (List ℕ)) (d : ConnParts)
      → Breaks conf seen shared (scene first old left held told) (scene d q m k u) → IsCut conf seen shared old q left m held k told u
  cut_here old q left m held k told u d b = record {
    talk = b.goes.moves;
    rest = [];
    mid = b.mid;
    last = d;
    goes = subst (λ (ms : List Move). Goes conf seen shared ms (scene new_conn old left held told) b.mid) (sym (append-nil b.goes.moves))
        (as_first b.goes.moves old left held told b.mid b.goes.goes);
    unclosed = b.goes.unclosed;
    closed = tt;
    loses = b.loses;
  }
