-- The moves of a connection that is served (this project's own): one list, from which all that happens on its link, to its passes and on its clock
-- is read off.
-- A part may have a wait before it, which is of the part, as nothing else is done between.
-- For example a Read of foreign state that comes in one piece has the moves asks Idle, reads, asks (Ask part), does, sends, asks Idle and ends: the
-- piece was read, the bytes of one reply were written, and one part was done, at one moment.
use Rattle.std.specs.Prelude.{◌≡◌, ◌++◌, ℕ, List, [], ◌∷◌, Option, Some, None, ⊤}
use Rattle.std.specs.List.{flat_map}
use Rattle.topic_conf.specs.Configs.{ConfigParts}
use Rattle.call_fold.specs.declared.part.Part.{Part}
use Rattle.call_fold.specs.declared.part.PartAnswer.{PartAnswer}
use Rattle.share_calls.specs.declared.wish.WaitWish.{WaitWish}
use Rattle.conn_core.specs.declared.next.Next.{Next}
use Rattle.conn_core.specs.declared.next.Next.TheVariants.{Idle, Ask, Ready, Closed, Gone}
use Rattle.conn_core.specs.Conns.{ConnParts}
use Rattle.conn_core.specs.Streams.{Act, conn_after_all}
use Rattle.conn_core.specs.Streams.Act.{feeds, asks as act_asks, gives, ends as act_ends, takes}
use Rattle.conn_core.specs.Turning.{Waits, turn, awaited_part}
use Rattle.conn_core.specs.Wishes.{conn_wish}
use Rattle.broker_locks.specs.Waiting.{IsWait, Waited, asked_in}

-- a part that was done: the wait before it, if there was one, when it was done, and its answer
pub record Done : Type 0 where
  pub waited : Option Waited
  pub part : Part
  pub now : ℕ
  pub answer : PartAnswer

-- It is asked what it does next, and tells this; these bytes of its link are read; its part is done and answered; this reply is written; the write of
-- a reply fails behind these bytes, which closes it; or a read tells the end or fails, which closes it.
pub data Move : Type 0 where
  asks : Next → Move
  reads : List ℕ → Move
  does : Done → Move
  sends : List ℕ → Move
  breaks : List ℕ → Move
  ends : Move

-- what a move does: the calls of the connection, the parts that are done, the bytes that are read, and those that are written
pub record Deed : Type 0 where
  pub acts : List Act
  pub done : List Done
  pub read : List ℕ
  pub written : List ℕ

abbrev pub deed : List Act → List Done → (read written : List ℕ) → Deed
deed acts done read written = record { acts = acts; done = done; read = read; written = written }

abbrev pub deed_of : Move → Deed
deed_of (asks next) = deed (act_asks ∷ []) [] [] []
deed_of (reads piece) = deed (feeds piece ∷ []) [] piece []
deed_of (does done) = deed (gives done.answer ∷ []) (done ∷ []) [] []
deed_of (sends reply) = deed (takes ∷ []) [] [] reply
deed_of (breaks front) = deed (takes ∷ act_ends ∷ []) [] [] front
deed_of ends = deed (act_ends ∷ []) [] [] []

-- the same of a list of moves, in order
abbrev pub acts_of : List Move → List Act
acts_of moves = flat_map (λ move. (deed_of move).acts) moves

abbrev pub done_by : List Move → List Done
done_by moves = flat_map (λ move. (deed_of move).done) moves

abbrev pub read_by : List Move → List ℕ
read_by moves = flat_map (λ move. (deed_of move).read) moves

abbrev pub written_by : List Move → List ℕ
written_by moves = flat_map (λ move. (deed_of move).written) moves

-- what the clock answered in a wait
abbrev pub asked_of : Option Waited → List ℕ
asked_of None = []
asked_of (Some waited) = asked_in waited.glances

-- behind what its wait asked, each part has a moment of its own
abbrev pub moments_of : List Done → List ℕ
moments_of parts = flat_map (λ part. asked_of part.waited ++ part.now ∷ []) parts

-- the connection after the moves
abbrev pub conn_after_moves : ConfigParts → List Move → ConnParts → ConnParts
conn_after_moves conf moves conn = conn_after_all conf (acts_of moves) conn

-- It waits for bytes, with each reply written: no part is to be done, and no request to be taken up.
pub record IsIdle (conn : ConnParts) : Type 0 where
  pub waits : Waits conn
  pub answered : conn.replies ≡ []

-- It waits where its request wishes to, which it does before its first part alone.
abbrev pub HasWaited : Option WaitWish → Option Waited → Type 0
HasWaited None None = ⊤
HasWaited None (Some waited) = ⊥
HasWaited (Some wish) None = ⊥
HasWaited (Some wish) (Some waited) = (waited.wish ≡ wish) × IsWait waited

-- the finished reply that is next
abbrev pub IsOldest : List ℕ → ConnParts → Type 0
IsOldest reply conn = (others : List (List ℕ)) × (conn.replies ≡ reply ∷ others)

-- Where a connection can make a move: what it tells is what it does next; its link is read only where it is idle; the part that it awaits is done,
-- behind the wait that it wishes for; and the reply that is next is written.
abbrev pub Can : ConfigParts → Move → ConnParts → Type 0
Can conf (asks next) conn = (turn conf conn).next ≡ next
Can conf (reads piece) conn = IsIdle conn
Can conf (does done) conn = (awaited_part conn ≡ Some done.part) × HasWaited (conn_wish conn) done.waited
Can conf (sends reply) conn = IsOldest reply conn
Can conf (breaks front) conn = (rest : List ℕ) × IsOldest (front ++ rest) conn
Can conf ends conn = IsIdle conn

-- each can be made where it comes
abbrev pub CanAll : ConfigParts → List Move → ConnParts → Type 0
CanAll conf [] conn = ⊤
CanAll conf (move ∷ moves) conn = Can conf move conn × CanAll conf moves (conn_after_all conf (deed_of move).acts conn)

-- it doesn't close the connection
abbrev pub IsOpenNext : Next → Type 0
IsOpenNext Idle = ⊤
IsOpenNext (Ask part) = ⊤
IsOpenNext Ready = ⊤
IsOpenNext (Closed cause) = ⊥
IsOpenNext Gone = ⊤

abbrev pub IsOpen : Move → Type 0
IsOpen (asks next) = IsOpenNext next
IsOpen (reads piece) = ⊤
IsOpen (does done) = ⊤
IsOpen (sends reply) = ⊤
IsOpen (breaks front) = ⊥
IsOpen ends = ⊥

-- it is one of a connection that closes: nothing is read, nothing written, and nothing waited for
abbrev pub IsQuiet : Move → Type 0
IsQuiet (asks next) = ⊤
IsQuiet (reads piece) = ⊥
IsQuiet (does done) = done.waited ≡ None
IsQuiet (sends reply) = ⊥
IsQuiet (breaks front) = ⊥
IsQuiet ends = ⊥
