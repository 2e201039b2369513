use Rattle.std.proofs.Common.{rules, ◌≡◌, ◌∷◌, ◌++◌, [], List, subst, sym}
use Rattle.std.specs.List.{AllByRecursion}
use Rattle.shard_lock.specs.Passes.{LockParts, PassParts}
use Rattle.broker_shards.specs.Hosts.{Host}
use Rattle.broker_shards.specs.declared.part.PartEvent.{PartEvent}
use Rattle.broker_locks.specs.Rows.{IsNew, RowOf}
use Rattle.broker_locks.specs.Shared.{PartAnswer, PassesParts}
use Rattle.broker_locks.proofs.Lines.{all_front, all_last, all_snoc, row_with}
use Rattle.broker_locks.proofs.rows.spread.Goals as goal

pub loop-row-preserved : goal.loop-row-preserved
loop-row-preserved g c =
    let i = c.loop-row.invariant in
    let D : Type 0 = g.row.D.Denot in
    let rs : List (PassesParts D) = c.pop.new.self.items in
    let ps : List (PassParts (Host D) PartEvent PartAnswer) = c.pop-in-Some.new.self.items in
    let ls : List (LockParts (Host D)) = c.args.locks.now in
    let R : PassesParts D → Type 0 = RowOf ls c.args.members.now c.args.foreign.now in
    let Q : PassesParts D → Type 0 = RowOf (ls ++ c.args.lock.now ∷ []) c.args.members.now c.args.foreign.now in
    let rows : c.loop-row.rows.items ≡ rs ++ c.in-Some.row ∷ [] = search rules in
    let passes : c.loop-row.passes.items ≡ ps ++ c.in-Some-pop.pass ∷ [] = search rules in
    let all_rows : AllByRecursion R (rs ++ c.in-Some.row ∷ []) = subst (λ l. AllByRecursion R l) rows i.0 in
    let all : AllByRecursion (IsNew c.args.lock.now) (ps ++ c.in-Some-pop.pass ∷ []) = subst (λ l. AllByRecursion (IsNew c.args.lock.now) l) passes i.1 in
    let q : PassesParts D = c.in_ok-with.field-0 in
    let parts : q.parts ≡ c.in-Some.row.parts ++ c.in-Some-pop.pass ∷ [] = search rules in
    let members : q.members ≡ c.in-Some.row.members = search rules in
    let foreign : q.foreign ≡ c.in-Some.row.foreign = search rules in
    let row : Q q = row_with ls c.args.lock.now c.args.members.now c.args.foreign.now c.in-Some.row q c.in-Some-pop.pass
    (all_last R rs c.in-Some.row all_rows) (all_last (IsNew c.args.lock.now) ps c.in-Some-pop.pass all) parts members foreign in
    let pushed : c.push.new.self.items ≡ c.loop-row.out.items ++ q ∷ [] = search rules in (
      all_front R rs c.in-Some.row all_rows,
      all_front (IsNew c.args.lock.now) ps c.in-Some-pop.pass all,
      search rules,
      subst (λ l. AllByRecursion Q l) (sym pushed) (all_snoc Q c.loop-row.out.items q i.3 row),
      search rules,
    )
