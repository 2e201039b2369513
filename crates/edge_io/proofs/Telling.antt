-- What a clock told over several calls.
use Rattle.std.proofs.Common.{ℕ, List, [], ◌++◌, Option, Some, None, ap, sym, ◌∙◌, append_assoc, append-nil}
use Rattle.edge_io.specs.Serving.{TellsMore}

pub tells_none : (a : Option (List ℕ)) → TellsMore a a []
tells_none None = tt
tells_none (Some xs) = sym (append-nil xs)

pub tells_then : (a b c : Option (List ℕ)) (xs ys : List ℕ) → TellsMore a b xs → TellsMore b c ys → TellsMore a c (xs ++ ys)
tells_then a b None xs ys p q = tt
tells_then a None (Some zs) xs ys p q = absurd q
tells_then None (Some bs) (Some zs) xs ys p q = absurd p
tells_then (Some as_) (Some bs) (Some zs) xs ys p q = q ∙ ap (λ (l : List ℕ). l ++ ys) p ∙ append_assoc as_ xs ys
