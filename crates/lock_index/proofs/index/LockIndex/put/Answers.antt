use Rattle.std.proofs.Common.{◌≡◌, ℕ, List, ap, ◌∙◌, sym, subst}
use Rattle.std.specs.List.{insert}
use Rattle.lock_index.specs.Locks.{IsOrdered, HasPair, PairsInRoom, put_pair}
use Rattle.lock_index.specs.Places.{before_count}
use Rattle.lock_index.proofs.Ordering.{put_at_count, ordered_put}
use Rattle.lock_index.proofs.index.LockIndex.put.Goals as goal

pub returns-clause-pairs : goal.returns-clause-pairs
returns-clause-pairs c =
    let pairs = c.self.inside.pairs.items in
    let x : ℕ × ℕ = (c.args.end, c.args.first) in
    let view : pairs ≡ c.args.self.now.pairs = ap (λ (p : PairsInRoom). p.pairs) c.self.view_is in
    let place : c.count_before-place.result ≡ before_count pairs x = c.count_before-place.ensures.count ∙ ap (λ (l : List (ℕ × ℕ)). before_count l x) c.deref.ensures.value in
    c.in_default.ensures.items ∙ ap (λ (n : ℕ). insert pairs n x) place ∙ put_at_count pairs x ∙ ap (put_pair x) view

pub invariant_of-self : goal.invariant_of-self
invariant_of-self c =
    let pairs = c.self.inside.pairs.items in
    let x : ℕ × ℕ = (c.args.end, c.args.first) in
    let view : pairs ≡ c.args.self.now.pairs = ap (λ (p : PairsInRoom). p.pairs) c.self.view_is in
    let place : c.count_before-place.result ≡ before_count pairs x = c.count_before-place.ensures.count ∙ ap (λ (l : List (ℕ × ℕ)). before_count l x) c.deref.ensures.value in
    subst IsOrdered (sym (c.in_default.ensures.items ∙ ap (λ (n : ℕ). insert pairs n x) place ∙ put_at_count pairs x))
    (ordered_put x pairs c.self.invariant (λ has. c.requires.absent (subst (λ (l : List (ℕ × ℕ)). HasPair l x) view has)))
