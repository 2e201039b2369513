use Rattle.std.proofs.Common.{rules, ◌≡◌, ◌+◌, ◌∷◌, ◌++◌, [], ℕ, suc, List, length, subst, ap, ◌∙◌, arith}
use Rattle.std.specs.List.{AllByRecursion}
use Rattle.broker_locks.specs.Shared.{PassesParts}
use Rattle.broker_locks.specs.Rows.{IsRow}
use Rattle.broker_locks.proofs.Lines.{all_front, all_join, all_last, length_snoc}
use Rattle.broker_locks.proofs.shared.gather.Goals as goal

pub loop-other-init : goal.loop-other-init
loop-other-init g c = λ seats made.
    let rows : List (PassesParts g.row.D.Denot) = c.args.passes.items in
    let xs : List (PassesParts g.row.D.Denot) = c.pop.new.self.items in
    let is : rows ≡ xs ++ c.in-Some.first ∷ [] = search rules in
    let R : PassesParts g.row.D.Denot → Type 0 = IsRow rows 1 c.args.shared.now in
    let all : AllByRecursion R (xs ++ c.in-Some.first ∷ []) =
    subst (λ (l : List (PassesParts g.row.D.Denot)). AllByRecursion R l) is (all_join c.args.shared.now rows made.each) in
    let long : length rows ≡ suc (length xs) = ap length is ∙ length_snoc xs c.in-Some.first in
    let count : length rows ≡ seats = made.count in (
      all_front R xs c.in-Some.first all,
      (1, all_last R xs c.in-Some.first all, omega (arith, long, count)),
    )

pub merge-requires : goal.merge-requires
merge-requires g c =
    let rows : List (PassesParts g.row.D.Denot) = c.args.passes.items in
    let xs : List (PassesParts g.row.D.Denot) = c.pop-in-loop-other.new.self.items in
    let is : c.loop-other.passes.items ≡ xs ++ c.in-Some-pop.other ∷ [] = search rules in
    let i = c.loop-other.invariant c.requires.0 c.requires.1 in
    let R : PassesParts g.row.D.Denot → Type 0 = IsRow rows 1 c.args.shared.now in (
      rows,
      i.1.0,
      i.1.1,
      all_last R xs c.in-Some-pop.other (subst (λ (l : List (PassesParts g.row.D.Denot)). AllByRecursion R l) is i.0),
    )

pub loop-other-preserved : goal.loop-other-preserved
loop-other-preserved g c = λ seats made.
    let rows : List (PassesParts g.row.D.Denot) = c.args.passes.items in
    let xs : List (PassesParts g.row.D.Denot) = c.pop-in-loop-other.new.self.items in
    let is : c.loop-other.passes.items ≡ xs ++ c.in-Some-pop.other ∷ [] = search rules in
    let i = c.loop-other.invariant seats made in
    let R : PassesParts g.row.D.Denot → Type 0 = IsRow rows 1 c.args.shared.now in
    let all : AllByRecursion R (xs ++ c.in-Some-pop.other ∷ []) = subst (λ (l : List (PassesParts g.row.D.Denot)). AllByRecursion R l) is i.0 in
    let long : length c.loop-other.passes.items ≡ suc (length xs) = ap length is ∙ length_snoc xs c.in-Some-pop.other in
    let n : ℕ = i.1.0 in
    let sum : n + length c.loop-other.passes.items ≡ seats = i.1.2 in (
      all_front R xs c.in-Some-pop.other all,
      (n + 1, c.merge.ensures rows n i.1.1 (all_last R xs c.in-Some-pop.other all), omega (arith, sum, long)),
    )

pub returns : goal.returns
returns g c = λ seats made.
    let i = c.loop-other.invariant seats made in
    let none : c.loop-other.passes.items ≡ [] = search rules in
    let long : length c.loop-other.passes.items ≡ 0 = ap length none in
    let sum : i.1.0 + length c.loop-other.passes.items ≡ seats = i.1.2 in
    let is : i.1.0 ≡ seats = omega (arith, sum, long) in
    subst (λ (n : ℕ). IsRow c.args.passes.items n c.args.shared.now c.loop-other.into) is i.1.1
