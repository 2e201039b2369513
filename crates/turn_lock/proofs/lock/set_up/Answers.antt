use Rattle.std.proofs.Common.{rules, ◌≡◌, ◌∙◌, ◌+◌, ◌<◌, ℕ, length, sym, subst, arith}
use Rattle.std.specs.Prelude.{replicate}
use Rattle.std.specs.List.{AllByRecursion}
use Rattle.turn_lock.specs.Turns.{IsTurn}
use Rattle.turn_lock.proofs.Begins.{IsLaid, all_zero, begins, laid_length, laid_more, laid_one}
use Rattle.turn_lock.proofs.lock.set_up.Goals as goal

pub loop-number-init : goal.loop-number-init
loop-number-init g c = (record { shard = c.in_ok-boxed.boxed }, c.in_ok-boxed.ensures.ok, laid_one _ _ (search rules))

pub loop-number-preserved : goal.loop-number-preserved
loop-number-preserved g c = let i = c.loop-number.invariant in (i.0, i.1, laid_more i.0 c.loop-number._number _ c.loop-number.slots.items _ c.in_ok-push.ensures.items (search rules) i.2)

pub new-requires-2 : goal.new-requires-2
new-requires-2 g c = let i = c.loop-number.invariant in let about = c.args.about.now in
    let some_seat : 0 < about.seats = search rules in let number : c.loop-number._number ≡ about.seats = search rules in
    let words : c.as_slice.result.now ≡ replicate (c.args.seats + 1) 0 = search rules in
    let count : length c.as_slice.result.now ≡ 1 + about.seats = search rules in
    begins (IsTurn g.S.Shard.acts g.S.Shard.together) about.shard.value about.seats c.as_slice.result.now i.0 c.loop-number.slots.items some_seat (i.1 ∙ sym c.requires.about.0) count
    (subst (λ l. AllByRecursion (λ (x : ℕ). x ≡ 0) l) (sym words) (all_zero (c.args.seats + 1))) (subst (λ n. IsLaid i.0 n c.loop-number.slots.items) number i.2)

pub returns-in-Ok-clause-table : goal.returns-in-Ok-clause-table
returns-in-Ok-clause-table g c = let i = c.loop-number.invariant in let made = c.in-Ok.ensures.ok in
    let number : c.loop-number._number ≡ c.args.seats = search rules in let long = laid_length i.0 c.loop-number._number c.loop-number.slots.items i.2 in
    (search rules, made.1 ∙ omega arith, search rules)
