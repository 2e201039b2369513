use Rattle.std.proofs.Common.{◌≡◌, ◌∙◌, sym, ap, arith, true, false, length}
use Rattle.std.specs.Ordering.{is_eq}
use Rattle.share_model.specs.Keys.{key_cmp}
use Rattle.share_coord.specs.Stored.{Entries}
use Rattle.share_coord.specs.Tables.{entries_in, shown}
use Rattle.share_coord.proofs.Handing.{left_here, left_on, one_less, takes_as}
use Rattle.share_coord.proofs.Tables.{taken_shown}
use Rattle.share_coord.proofs.snapshots.KeySnapshots.take.Goals as goal

pub invariant_of-self-then-is_eq : goal.invariant_of-self-then-is_eq
invariant_of-self-then-is_eq c =
    let test : is_eq (key_cmp c.in-Some-without.other c.in-Some.key.now) ≡ true = sym (ap is_eq c.cmp.ensures) ∙ (sym c.is_eq.ensures ∙ c.if-is_eq.true) in
    let left = left_here c.self.inside.without c.in-Some-without.other (entries_in c.self.inside.inner) (c.in-Some.key.now, shown c.in-Some.kept.now) (entries_in c.next.new.self)
    c.in-Some-without.is (ap entries_in c.in-Some.ensures.steps) test in
    let size = c.self.invariant ∙ ap (λ (l : Entries). length l) left in
    omega (
      arith,
      size,
      c.saturating_sub-self-inside.ensures,
      one_less (entries_in c.next.new.self) (entries_in c.next-then-is_eq.new.self) c.next-then-is_eq.result
          (taken_shown c.next.new.self c.next-then-is_eq.new.self c.next-then-is_eq.result c.next-then-is_eq.ensures.steps),
    )

pub returns-then-is_eq : goal.returns-then-is_eq
returns-then-is_eq c =
    let test : is_eq (key_cmp c.in-Some-without.other c.in-Some.key.now) ≡ true = sym (ap is_eq c.cmp.ensures) ∙ (sym c.is_eq.ensures ∙ c.if-is_eq.true) in
    let left = left_here c.self.inside.without c.in-Some-without.other (entries_in c.self.inside.inner) (c.in-Some.key.now, shown c.in-Some.kept.now) (entries_in c.next.new.self)
    c.in-Some-without.is (ap entries_in c.in-Some.ensures.steps) test in
    takes_as (entries_in c.next.new.self) c.args.self.now (entries_in c.next-then-is_eq.new.self) c.next-then-is_eq.result (sym left ∙ c.self.view_is)
    (taken_shown c.next.new.self c.next-then-is_eq.new.self c.next-then-is_eq.result c.next-then-is_eq.ensures.steps)

pub invariant_of-self-else-is_eq : goal.invariant_of-self-else-is_eq
invariant_of-self-else-is_eq c =
    let test : is_eq (key_cmp c.in-Some-without.other c.in-Some.key.now) ≡ false = sym (ap is_eq c.cmp.ensures) ∙ (sym c.is_eq.ensures ∙ c.if-is_eq.false) in
    let left = left_on c.self.inside.without c.in-Some-without.other (entries_in c.self.inside.inner) (c.in-Some.key.now, shown c.in-Some.kept.now) (entries_in c.next.new.self)
    c.in-Some-without.is (ap entries_in c.in-Some.ensures.steps) test in
    let size = c.self.invariant ∙ ap (λ (l : Entries). length l) left in
    omega (arith, size, c.saturating_sub-self-inside.ensures)

pub returns : goal.returns
returns c =
    let test : is_eq (key_cmp c.in-Some-without.other c.in-Some.key.now) ≡ false = sym (ap is_eq c.cmp.ensures) ∙ (sym c.is_eq.ensures ∙ c.if-is_eq.false) in
    let left = left_on c.self.inside.without c.in-Some-without.other (entries_in c.self.inside.inner) (c.in-Some.key.now, shown c.in-Some.kept.now) (entries_in c.next.new.self)
    c.in-Some-without.is (ap entries_in c.in-Some.ensures.steps) test in
    sym c.self.view_is ∙ left
