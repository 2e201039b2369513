use Rattle.std.proofs.Common.{◌≡◌, ℕ, List, ap, ◌∙◌, sym, subst, arith}
use Rattle.std.specs.List.{remove}
use Rattle.lock_index.specs.Locks.{IsOrdered, HasPair, PairsInRoom, put_pair}
use Rattle.lock_index.specs.Places.{before_count}
use Rattle.lock_index.proofs.Ordering.{put_back, taken_within, ordered_removed}
use Rattle.lock_index.proofs.index.LockIndex.take.Goals as goal

pub remove-requires : goal.remove-requires
remove-requires c =
    let pairs = c.self.inside.pairs.items in
    let x : ℕ × ℕ = (c.args.end, c.args.first) in
    let view : pairs ≡ c.args.self.now.pairs = ap (λ (p : PairsInRoom). p.pairs) c.self.view_is in
    let place : c.count_before-place.result ≡ before_count pairs x = c.count_before-place.ensures.count ∙ ap (λ (l : List (ℕ × ℕ)). before_count l x) c.deref.ensures.value in
    let within = taken_within pairs x c.self.invariant (subst (λ (l : List (ℕ × ℕ)). HasPair l x) (sym view) c.requires) in
    omega (arith, place, within)

pub returns-clause-pairs : goal.returns-clause-pairs
returns-clause-pairs c =
    let pairs = c.self.inside.pairs.items in
    let x : ℕ × ℕ = (c.args.end, c.args.first) in
    let view : pairs ≡ c.args.self.now.pairs = ap (λ (p : PairsInRoom). p.pairs) c.self.view_is in
    let place : c.count_before-place.result ≡ before_count pairs x = c.count_before-place.ensures.count ∙ ap (λ (l : List (ℕ × ℕ)). before_count l x) c.deref.ensures.value in
    ap (put_pair x) (c.remove.ensures.items ∙ ap (remove pairs) place)
    ∙ put_back pairs x c.self.invariant (subst (λ (l : List (ℕ × ℕ)). HasPair l x) (sym view) c.requires) ∙ view

pub invariant_of-self : goal.invariant_of-self
invariant_of-self c =
    let pairs = c.self.inside.pairs.items in
    let x : ℕ × ℕ = (c.args.end, c.args.first) in
    let view : pairs ≡ c.args.self.now.pairs = ap (λ (p : PairsInRoom). p.pairs) c.self.view_is in
    let place : c.count_before-place.result ≡ before_count pairs x = c.count_before-place.ensures.count ∙ ap (λ (l : List (ℕ × ℕ)). before_count l x) c.deref.ensures.value in
    let within = taken_within pairs x c.self.invariant (subst (λ (l : List (ℕ × ℕ)). HasPair l x) (sym view) c.requires) in
    subst IsOrdered (sym c.remove.ensures.items) (ordered_removed pairs c.count_before-place.result (omega (arith, place, within)) c.self.invariant)
