use Rattle.std.proofs.Common.{rules, ◌≡◌, ◌∷◌, ◌++◌, [], List, length, map, subst, sym, ap, ◌∙◌, append_assoc, arith}
use Rattle.std.proofs.lemmas.List.{nil_from_length, append-nil}
use Rattle.std.specs.List.{AllByRecursion}
use Rattle.shard_lock.specs.Passes.{LockParts}
use Rattle.broker_shards.specs.Hosts.{Host}
use Rattle.broker_locks.specs.Rows.{RowOf}
use Rattle.broker_locks.proofs.Lines.{all_snoc, map_snoc, new_passes}
use Rattle.broker_locks.proofs.rows.lock_parts.Goals as goal

pub spread-requires-clause-passes : goal.spread-requires-clause-passes
spread-requires-clause-passes g c = new_passes c.in_ok-lock.lock 0 c.in_ok-lock.passes.items c.in_ok-lock.ensures.passes.0

pub loop-host-preserved : goal.loop-host-preserved
loop-host-preserved g c =
    let i = c.loop-host.invariant in
    let K : Type 0 = LockParts (Host g.row.D.Denot) in
    let lock : K = c.in_ok-lock.lock in
    let ls : List K = c.loop-host.locks.items in
    let first : K → Host g.row.D.Denot = λ k. k.first in
    let S : K → Type 0 = λ k. k.seats ≡ c.args.seats in
    let pushed : c.push.new.self.items ≡ ls ++ lock ∷ [] = search rules in
    let made = c.in_ok-lock.ensures.lock in
    let R : List K → Type 0 = λ x. AllByRecursion (RowOf x c.args.members.now c.args.foreign.now) c.in_ok-rows.rows.items in (
      ap (λ (l : List K). map first l) pushed ∙ map_snoc first ls lock ∙ (λ j. i.0 j ++ made.0 j ∷ []),
      subst (λ (l : List K). AllByRecursion S l) (sym pushed) (all_snoc S ls lock i.1 made.1),
      subst R (sym pushed) (subst (λ (x : List K). R (x ++ lock ∷ [])) c.deref.ensures.value c.in_ok-rows.ensures.each),
      c.in_ok-rows.ensures.count ∙ i.3,
      append_assoc c.loop-host.yielded (c.in-Some.host ∷ []) c.next.new.self.rest.items ∙ ap (λ (l : List (Host g.row.D.Denot)). c.loop-host.yielded ++ l) (sym c.in-Some.ensures.steps.0) ∙ i.4,
    )

pub returns-clause-locks : goal.returns-clause-locks
returns-clause-locks g c =
    let i = c.loop-host.invariant in
    let none : length c.loop-host.host-iterator.rest.items ≡ 0 = omega (arith, c.loop-host.host-iterator.rest.ok, c.in-None.ensures.steps.0) in
    let rest : c.loop-host.host-iterator.rest.items ≡ [] = nil_from_length c.loop-host.host-iterator.rest.items none in
    i.0 ∙ sym (append-nil c.loop-host.yielded) ∙ ap (λ (l : List (Host g.row.D.Denot)). c.loop-host.yielded ++ l) (sym rest) ∙ i.4
