-- The numbers of a session's outcomes, and the line that tells them (this project's own; docs/SCRIPT.md shows it).
-- For example two replies, a closed connection and a power loss are `replies 2 closed 1 faults 0 restarts 1`.
use Rattle.std.specs.Prelude.{ℕ, ◌+◌, List, [], ◌∷◌, ◌++◌, codes}
use Rattle.std.specs.Fmt.{decimal}
use Rattle.session_script.specs.declared.event.Outcome.{Outcome}
use Rattle.session_script.specs.declared.event.Outcome.TheVariants.{Fault, Reply, Closed, Restarted}
use Rattle.session_script.specs.declared.summary.Summary.{Summary}

-- one outcome is one of its kind
abbrev pub of_one : Outcome → Summary
of_one (Reply conn frame) = record { replies = 1; closed = 0; faults = 0; restarts = 0 }
of_one (Closed conn cause) = record { replies = 0; closed = 1; faults = 0; restarts = 0 }
of_one (Fault shard) = record { replies = 0; closed = 0; faults = 1; restarts = 0 }
of_one Restarted = record { replies = 0; closed = 0; faults = 0; restarts = 1 }

-- the numbers of both together
abbrev pub joined : Summary → Summary → Summary
joined a b = record {
  replies = a.replies + b.replies;
  closed = a.closed + b.closed;
  faults = a.faults + b.faults;
  restarts = a.restarts + b.restarts;
}

-- how many outcomes there are of each kind
abbrev pub summary_of : List Outcome → Summary
summary_of [] = record { replies = 0; closed = 0; faults = 0; restarts = 0 }
summary_of (outcome ∷ outcomes) = joined (of_one outcome) (summary_of outcomes)

-- the line of these numbers; 10 is a line feed
abbrev pub numbers_line : Summary → List ℕ
numbers_line s = codes "replies " ++ (decimal s.replies ++ (codes " closed " ++ (decimal s.closed
    ++ (codes " faults " ++ (decimal s.faults ++ (codes " restarts " ++ (decimal s.restarts ++ 10 ∷ [])))))))

-- the one line that tells a session's outcomes
abbrev pub summary_line : List Outcome → List ℕ
summary_line outcomes = numbers_line (summary_of outcomes)
