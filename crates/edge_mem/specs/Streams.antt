-- What contracts see of the streams in memory. This project's own. Worked example: a source of `queue` whose call 1 is
-- listed gives `queue` at call 0, fails at call 1, and is at its end at call 2.
use Rattle.std.specs.Prelude.{◌≡◌, ◌↔◌, ℕ, min, Bool, List, length, Result, IsErr, OnErr, IfOk, Contains}
use Rattle.edge_io.specs.Causes.{CountsFault, FailsBy, raised}

-- the numbers of the calls that fail, how many calls there were, and how many failed
pub record Numbered : Type 0 where
  pub failing : List ℕ
  pub made : ℕ
  pub faults : ℕ

-- a source: the bytes that are left, and the numbers of the calls that fail
pub record Supply : Type 0 where
  pub left : List ℕ
  pub failing : List ℕ
  -- the number of the next call, from 0 on
  pub calls : ℕ
  pub ended : Bool
  pub faults : ℕ

-- a sink: the bytes that it took, and the numbers of the calls that fail
pub record Collected : Type 0 where
  pub held : List ℕ
  pub failing : List ℕ
  -- the number of the next call, from 0 on
  pub calls : ℕ
  -- a call has failed for want of memory
  pub starved : Bool
  pub faults : ℕ

-- a link: a source of what the peer sends, and a sink of what it is sent
pub record Joined : Type 0 where
  pub source : Supply
  pub sink : Collected

-- What a read does to a source. It fails exactly where the list says so, and else gives all that there is room for. Where it fails,
-- nothing is lost, and the bytes that it was to read into are as they were.
pub record GivesBytes {E : Type 0} (old new : Supply) (was now : List ℕ) (result : Result ℕ E) : Type 0 where
  pub fails : IsErr result ↔ Contains old.failing old.calls
  pub lost : OnErr result (new.left ≡ old.left)
  pub into : OnErr result (now ≡ was)
  pub count : IfOk result (λ n. n ≡ min (length old.left) (length now))
  pub failing : new.failing ≡ old.failing
  pub calls : new.calls ≡ raised old.calls
  pub faults : CountsFault old.faults new.faults result

-- What a write does to a sink. It fails where the list says so or where it finds no memory, and else takes the whole piece.
pub record TakesBytes {E : Type 0} (old new : Collected) (bytes : List ℕ) (result : Result ℕ E) : Type 0 where
  pub fails : FailsBy (Contains old.failing old.calls) old.starved new.starved result
  pub memory : Contains old.failing old.calls → new.starved ≡ old.starved
  pub whole : IfOk result (λ n. n ≡ length bytes)
  pub failing : new.failing ≡ old.failing
  pub calls : new.calls ≡ raised old.calls
  pub faults : CountsFault old.faults new.faults result
