-- What serving a connection does: to the connection, to the passes through which it acts, to its link and to the clock. This project's own.
-- For example a link that gives one Read of foreign state and ends has one part, done by one entry of the thread's pass of foreign state at the
-- first moment of the clock; the bytes of its one reply were written, and the connection is gone.
use Rattle.std.specs.Prelude.{◌≡◌, ◌⊎◌, ◌∷◌, ◌++◌, [], ℕ, List, Option, Some, None, Bool, true, false, map, ⊤}
use Rattle.std.specs.List.{All}
use Rattle.std.specs.Io.KnownBytes.{Appends, Consumes, IsAtEnd}
use Rattle.edge_io.specs.Causes.{Rose}
use Rattle.edge_io.specs.Views.{DiskView}
use Rattle.edge_io.specs.Serving.{TellsMore}
use Rattle.topic_conf.specs.Configs.{ConfigParts}
use Rattle.call_fold.specs.declared.part.Part.{Part}
use Rattle.call_fold.specs.declared.part.PartAnswer.{PartAnswer}
use Rattle.share_calls.specs.declared.wish.WaitWish.{WaitWish}
use Rattle.conn_core.specs.declared.next.Next.TheVariants.{Ask, Gone, Closed as next_closed}
use Rattle.conn_core.specs.Conns.{ConnParts, new_conn, conn_after_bytes, conn_after_end, conn_after_reply}
use Rattle.conn_core.specs.HostedShards.{AreHostedIn}
use Rattle.conn_core.specs.Turning.{Awaits, turn, conn_after_answer}
use Rattle.conn_core.specs.Wishes.{conn_wish}
use Rattle.broker_run.specs.declared.connection.Ended.{Ended}
use Rattle.broker_run.specs.declared.connection.Ended.TheVariants.{Peer, Closed, Read, Write, NoMemory}
use Rattle.broker_run.specs.declared.connection.Turned.{Turned}
use Rattle.broker_run.specs.declared.connection.Turned.TheVariants.{Goes as Goes_on, Closes}
use Rattle.broker_locks.specs.Shared.{SharedParts, PassesParts}
use Rattle.broker_locks.specs.Acting.{AreOf, DoesPart, FailsPart, HostsAll}
use Rattle.broker_locks.specs.Waiting.{Glances, StopsWaiting, Waited}
use Rattle.broker_run.specs.Moving.{Can, CanAll, Done, HasWaited, IsIdle, IsOpen, IsQuiet, Move, asked_of, conn_after_moves, deed_of, done_by}
use Rattle.broker_run.specs.Moving.{moments_of, read_by, written_by}
use Rattle.broker_run.specs.Moving.Move.{asks, breaks, does, ends, reads, sends}

-- a connection, its passes, the bytes that its link has left and holds, and the answers that its clock gave
pub record Scene (D : Type 0) : Type 0 where
  pub conn : ConnParts
  pub passes : PassesParts D
  pub left : Option (List ℕ)
  pub held : Option (List ℕ)
  pub told : Option (List ℕ)

abbrev pub scene : {D : Type 0} → ConnParts → PassesParts D → (left held told : Option (List ℕ)) → Scene D
scene conn passes left held told = record { conn = conn; passes = passes; left = left; held = held; told = told }

-- the same of a link and a clock, by what these tell of themselves
abbrev pub scene_of : {D K C : Type 0} → (left held : K → Option (List ℕ)) → (told : C → Option (List ℕ)) → ConnParts → PassesParts D → K → C → Scene D
scene_of left held told conn passes link clock = scene conn passes (left link) (held link) (told clock)

-- Passes of these locks, of which each hosted partition has one, and a connection that asks hosted partitions alone.
pub record CanServe {D : Type 0} (conf : ConfigParts) (shared : SharedParts D) (passes : PassesParts D) (conn : ConnParts) : Type 0 where
  pub of : AreOf shared passes
  pub hosts : HostsAll conf shared
  pub hosted : AreHostedIn conf conn

-- a wait that ended as its peer had: where the link tells its bytes, all of them were read
abbrev pub IsGone : Option Waited → (left : Option (List ℕ)) → Type 0
IsGone None left = ⊤
IsGone (Some waited) left = waited.gone ≡ true → IsAtEnd left

abbrev pub IsGoneAt : Move → (left : Option (List ℕ)) → Type 0
IsGoneAt (does done) left = IsGone done.waited left
IsGoneAt (asks next) left = ⊤
IsGoneAt (reads piece) left = ⊤
IsGoneAt (sends reply) left = ⊤
IsGoneAt (breaks front) left = ⊤
IsGoneAt ends left = ⊤

-- the moves read the link from here to there, and each such wait stands where it does
abbrev pub Reads : List Move → (left later : Option (List ℕ)) → Type 0
Reads [] left later = later ≡ left
Reads (move ∷ moves) left later = (mid : Option (List ℕ)) × IsGoneAt move left × Consumes left mid (deed_of move).read × Reads moves mid later

module _ {D : Type 0} (conf : ConfigParts) (seen : D → DiskView) (shared : SharedParts D) where
  -- what was glanced at in a wait
  abbrev pub DoesWait : Option Waited → PassesParts D → PassesParts D → Type 0
  DoesWait None old new = new ≡ old
  DoesWait (Some waited) old new = Glances seen shared waited.wish.group waited.glances old new

  -- the parts were done one after the other, each behind its wait
  abbrev pub DoesAll : List Done → PassesParts D → PassesParts D → Type 0
  DoesAll [] old new = new ≡ old
  DoesAll (d ∷ ds) old new = (begun mid : PassesParts D) × DoesWait d.waited old begun
      × DoesPart seen shared d.part d.now d.answer begun mid × DoesAll ds mid new

  -- These moves lead a connection and its passes so far: it can make each where it comes, their parts were done, and each part had a moment of its own.
  pub record Makes (moves : List Move) (old new : ConnParts) (old_passes new_passes : PassesParts D) (told later : Option (List ℕ)) : Type 0 where
    pub can : CanAll conf moves old
    pub conn : new ≡ conn_after_moves conf moves old
    pub passes : DoesAll (done_by moves) old_passes new_passes
    pub moments : TellsMore told later (moments_of (done_by moves))

  -- The same with its link: the bytes that it was fed are those that the link gave, and those of its replies were written.
  pub record Goes (moves : List Move) (old new : Scene D) : Type 0 where
    pub makes : Makes moves old.conn new.conn old.passes new.passes old.told new.told
    pub fed : Consumes old.left new.left (read_by moves)
    pub gone : Reads moves old.left new.left
    pub wrote : Appends old.held new.held (written_by moves)

  -- some moves were made, of which none closed it
  pub record GoesOn (old new : Scene D) : Type 0 where
    pub moves : List Move
    pub unclosed : All IsOpen moves
    pub goes : Goes moves old new

  -- the part that the connection awaits was done and its answer given, at a moment of its own
  pub record Asked (part : Part) (old new : ConnParts) (old_passes new_passes : PassesParts D) (told later : Option (List ℕ)) : Type 0 where
    pub now : ℕ
    pub answer : PartAnswer
    pub does : DoesPart seen shared part now answer old_passes new_passes
    pub conn : new ≡ conn_after_answer answer old
    pub moment : TellsMore told later (now ∷ [])

  -- the same behind the wait that the connection wished for
  pub record Reached (part : Part) (left : Option (List ℕ)) (old new : ConnParts) (old_passes new_passes : PassesParts D)
      (told later : Option (List ℕ)) : Type 0 where
    pub waited : Option Waited
    pub has : HasWaited (conn_wish old) waited
    pub begun : PassesParts D
    pub waits : DoesWait waited old_passes begun
    pub until : Option (List ℕ)
    pub moments : TellsMore told until (asked_of waited)
    pub gone : IsGone waited left
    pub asked : Asked part old new begun new_passes until later

  -- No memory was found: in the act, or when its answer was given.
  pub record Stopped (part : Part) (old new : ConnParts) (old_passes new_passes : PassesParts D) (told later : Option (List ℕ)) : Type 0 where
    pub now : ℕ
    pub does : (FailsPart seen shared part now old_passes new_passes × (new ≡ old))
        ⊎ ((answer : PartAnswer) × DoesPart seen shared part now answer old_passes new_passes × (new ≡ conn_after_end old))
    pub moment : TellsMore told later (now ∷ [])

  -- the same behind a wait
  pub record Halted (part : Part) (old new : ConnParts) (old_passes new_passes : PassesParts D) (told later : Option (List ℕ)) : Type 0 where
    pub waited : Option Waited
    pub has : HasWaited (conn_wish old) waited
    pub begun : PassesParts D
    pub waits : DoesWait waited old_passes begun
    pub until : Option (List ℕ)
    pub moments : TellsMore told until (asked_of waited)
    pub stopped : Stopped part old new begun new_passes until later

  -- none was found to wait
  pub record Unwaited (old new : ConnParts) (old_passes new_passes : PassesParts D) (told later : Option (List ℕ)) : Type 0 where
    pub wish : WaitWish
    pub wished : conn_wish old ≡ Some wish
    pub stops : StopsWaiting seen shared wish old_passes new_passes told later
    pub conn : new ≡ old

  -- where memory ran out, in the wait or behind it
  abbrev pub Interrupted : Part → ConnParts → ConnParts → PassesParts D → PassesParts D → (told later : Option (List ℕ)) → Type 0
  Interrupted part old new old_passes new_passes told later =
      Unwaited old new old_passes new_passes told later ⊎ Halted part old new old_passes new_passes told later

  -- nothing was done, or a wait wasn't ended, or a part that was asked wasn't answered
  abbrev pub LosesPart : ConnParts → ConnParts → PassesParts D → PassesParts D → (told later : Option (List ℕ)) → Type 0
  LosesPart at new mid passes told later =
      ((passes ≡ mid) × (later ≡ told)) ⊎ ((part : Part) × Awaits (Ask part) at × Interrupted part at new mid passes told later)

  -- What an act that found no memory leaves behind: bytes that came and weren't fed, which were read where it was idle, or a part.
  pub record Loses (mid new : Scene D) : Type 0 where
    pub lost : List ℕ
    pub idle : (lost ≡ []) ⊎ IsIdle mid.conn
    pub unfed : Consumes mid.left new.left lost
    pub held : new.held ≡ mid.held
    pub part : LosesPart mid.conn new.conn mid.passes new.passes mid.told new.told

  -- what went before, and where memory ran out
  pub record Breaks (old new : Scene D) : Type 0 where
    pub mid : Scene D
    pub goes : GoesOn old mid
    pub loses : Loses mid new

  -- the connection is gone, or memory ran out
  abbrev pub AtEnd : Bool → ConnParts → ConnParts → PassesParts D → PassesParts D → (told later : Option (List ℕ)) → Type 0
  AtEnd true at new mid passes told later = ((turn conf at).next ≡ Gone) × (new ≡ (turn conf at).conn) × (passes ≡ mid) × (later ≡ told)
  AtEnd false at new mid passes told later = LosesPart at new mid passes told later

  -- parts were done, with nothing read and nothing written
  pub record Quiet (old new : ConnParts) (old_passes new_passes : PassesParts D) (told later : Option (List ℕ)) : Type 0 where
    pub moves : List Move
    pub quiet : All IsQuiet moves
    pub makes : Makes moves old new old_passes new_passes told later

  -- What is left of a connection that closes was done, up to its end or to where memory ran out.
  pub record Releases (gone : Bool) (old new : ConnParts) (old_passes new_passes : PassesParts D) (told later : Option (List ℕ)) : Type 0 where
    pub at : ConnParts
    pub mid : PassesParts D
    pub until : Option (List ℕ)
    pub quiet : Quiet old at old_passes mid told until
    pub last : AtEnd gone at new mid new_passes until later

-- a read told the end, or failed
abbrev pub EndsByRead : Ended → Type 0
EndsByRead Peer = Unit {0}
EndsByRead (Closed cause) = ⊥
EndsByRead Read = Unit {0}
EndsByRead Write = ⊥
EndsByRead NoMemory = ⊥

-- Why it ended, as the link tells it: by its peer only where the link has ended and all of its bytes were read, by a read or a write that failed
-- only where its count of faults rose.
abbrev pub HasEndCause : Ended → (ended : Bool) → (left : Option (List ℕ)) → (faults now : ℕ) → Type 0
HasEndCause Peer ended left faults now = (ended ≡ true) × IsAtEnd left
HasEndCause (Closed cause) ended left faults now = Unit {0}
HasEndCause Read ended left faults now = Rose faults now
HasEndCause Write ended left faults now = Rose faults now
HasEndCause NoMemory ended left faults now = Unit {0}

-- the same of a turn, which writes nothing
abbrev pub HasTurnCause : Turned → (ended : Bool) → (left : Option (List ℕ)) → (faults now : ℕ) → Type 0
HasTurnCause Goes_on ended left faults now = Unit {0}
HasTurnCause (Closes Peer) ended left faults now = (ended ≡ true) × IsAtEnd left
HasTurnCause (Closes (Closed cause)) ended left faults now = Unit {0}
HasTurnCause (Closes Read) ended left faults now = Rose faults now
HasTurnCause (Closes Write) ended left faults now = ⊥
HasTurnCause (Closes NoMemory) ended left faults now = ⊥

-- what a waiting connection received, or that it was closed
abbrev pub Received : Turned → ConnParts → ConnParts → (left later : Option (List ℕ)) → Type 0
Received Goes_on old new left later = (piece : List ℕ) × (new ≡ conn_after_bytes piece old) × Consumes left later piece
Received (Closes ended) old new left later = EndsByRead ended × (new ≡ conn_after_end old) × Consumes left later []

module _ (conf : ConfigParts) where
  -- finished replies were written, one after the other
  pub record Replied (old new : ConnParts) (held later : Option (List ℕ)) : Type 0 where
    pub replies : List (List ℕ)
    pub can : CanAll conf (map sends replies) old
    pub conn : new ≡ conn_after_moves conf (map sends replies) old
    pub wrote : Appends held later (written_by (map sends replies))

  -- and behind them the write of one failed
  pub record Fails (old new : ConnParts) (held later : Option (List ℕ)) : Type 0 where
    pub mid : ConnParts
    pub until : Option (List ℕ)
    pub replied : Replied old mid held until
    pub front : List ℕ
    pub can : Can conf (breaks front) mid
    pub conn : new ≡ conn_after_reply mid
    pub wrote : Appends until later front

-- The move by which it closed, and where. The peer closes, and a read fails, only where it was idle. It closes for a cause where its own turn says
-- so, with no finished reply left to be written.
abbrev pub ClosesBy : Ended → Move → ConnParts → Type 0
ClosesBy Peer move at = move ≡ ends
ClosesBy (Closed cause) move at = (move ≡ asks (next_closed cause)) × (at.replies ≡ [])
ClosesBy Read move at = move ≡ ends
ClosesBy Write move at = (front : List ℕ) × (move ≡ breaks front)
ClosesBy NoMemory move at = ⊥

-- the move that closed it, if one did, and the releases behind it
abbrev pub IsRest : List Move → ConnParts → Type 0
IsRest [] at = ⊤
IsRest (move ∷ releases) at = ((ended : Ended) × ClosesBy ended move at) × All IsQuiet releases

module _ {D : Type 0} (conf : ConfigParts) (seen : D → DiskView) (shared : SharedParts D) where
  -- a connection up to where it closed, by the last move
  pub record Talks (ended : Ended) (old new : Scene D) : Type 0 where
    pub talk : List Move
    pub closing : Move
    pub unclosed : All IsOpen talk
    pub closes : ClosesBy ended closing (conn_after_moves conf talk old.conn)
    pub goes : Goes conf seen shared (talk ++ closing ∷ []) old new

  -- what a turn came to
  abbrev pub TurnsTo : Turned → Scene D → Scene D → Type 0
  TurnsTo Goes_on old new = GoesOn conf seen shared old new
  TurnsTo (Closes ended) old new = Talks ended old new

  -- The whole life of a connection: its moves up to where it closed, the one by which it closed, and behind it the releases of what its members held,
  -- up to its end.
  pub record Serves (ended : Ended) (old new : PassesParts D) (left later : Option (List ℕ)) (held grown : Option (List ℕ))
      (told last_told : Option (List ℕ)) : Type 0 where
    pub talk : List Move
    pub closing : Move
    pub releases : List Move
    pub last : ConnParts
    pub goes : Goes conf seen shared (talk ++ closing ∷ releases) (scene new_conn old left held told) (scene last new later grown last_told)
    pub unclosed : All IsOpen talk
    pub closes : ClosesBy ended closing (conn_after_moves conf talk new_conn)
    pub quiet : All IsQuiet releases
    pub gone : (turn conf last).next ≡ Gone

  -- Memory ran out somewhere, before it closed or among its releases: what was done before it, and what was lost.
  pub record IsCut (old new : PassesParts D) (left later : Option (List ℕ)) (held grown : Option (List ℕ))
      (told last_told : Option (List ℕ)) : Type 0 where
    pub talk : List Move
    pub rest : List Move
    pub mid : Scene D
    pub last : ConnParts
    pub goes : Goes conf seen shared (talk ++ rest) (scene new_conn old left held told) mid
    pub unclosed : All IsOpen talk
    pub closed : IsRest rest (conn_after_moves conf talk new_conn)
    pub loses : Loses conf seen shared mid (scene last new later grown last_told)

  abbrev pub IsServed : (old new : PassesParts D) → (left later held grown told last_told : Option (List ℕ)) → Ended → Type 0
  IsServed old new left later held grown told last_told Peer = Serves Peer old new left later held grown told last_told
  IsServed old new left later held grown told last_told (Closed cause) = Serves (Closed cause) old new left later held grown told last_told
  IsServed old new left later held grown told last_told Read = Serves Read old new left later held grown told last_told
  IsServed old new left later held grown told last_told Write = Serves Write old new left later held grown told last_told
  IsServed old new left later held grown told last_told NoMemory = IsCut old new left later held grown told last_told
