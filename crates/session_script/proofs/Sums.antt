-- The numbers of outcomes, one list behind the other.
use Rattle.std.proofs.Common.{◌≡◌, ℕ, List, [], ◌∷◌, ◌++◌, sym, ap, ◌∙◌, arith}
use Rattle.session_script.specs.declared.event.Outcome.{Outcome}
use Rattle.session_script.specs.declared.summary.Summary.{Summary}
use Rattle.session_script.specs.Summary.{joined, of_one, summary_of}

abbrev of : ℕ → ℕ → ℕ → ℕ → Summary
of r c f p = record { replies = r; closed = c; faults = f; restarts = p }

pub same_sums : (a b : Summary) → a.replies ≡ b.replies → a.closed ≡ b.closed → a.faults ≡ b.faults → a.restarts ≡ b.restarts → a ≡ b
same_sums a b r c f p = λ i. record { replies = r i; closed = c i; faults = f i; restarts = p i }

pub joined_apart : (a b c : Summary) → joined (joined a b) c ≡ joined a (joined b c)
joined_apart a b c = same_sums (joined (joined a b) c) (joined a (joined b c)) (omega arith) (omega arith) (omega arith) (omega arith)

pub joined_turned : (a b c : Summary) → joined (joined a b) c ≡ joined b (joined a c)
joined_turned a b c = same_sums (joined (joined a b) c) (joined b (joined a c)) (omega arith) (omega arith) (omega arith) (omega arith)

pub joined_none : (a : Summary) → a ≡ joined a (summary_of [])
joined_none a = same_sums a (joined a (summary_of [])) (omega arith) (omega arith) (omega arith) (omega arith)

pub none_joined : (a : Summary) → joined (summary_of []) a ≡ a
none_joined a = same_sums (joined (summary_of []) a) a (omega arith) (omega arith) (omega arith) (omega arith)

pub summary_append : (xs ys : List Outcome) → summary_of (xs ++ ys) ≡ joined (summary_of xs) (summary_of ys)
summary_append [] ys = sym (none_joined (summary_of ys))
summary_append (x ∷ xs) ys = ap (joined (of_one x)) (summary_append xs ys) ∙ sym (joined_apart (of_one x) (summary_of xs) (summary_of ys))
