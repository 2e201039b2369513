use Rattle.std.proofs.Common.{rules, ◌≡◌, ◌+◌, ◌∷◌, ◌++◌, [], ℕ, suc, List, length, slice_set, subst, sym, arith}
use Rattle.shard_lock.specs.Passes.{LockParts, PassParts, joined}
use Rattle.broker_shards.specs.Hosts.{Host}
use Rattle.broker_shards.specs.declared.part.PartEvent.{PartEvent}
use Rattle.broker_locks.specs.Rows.{StandsAmong}
use Rattle.broker_locks.specs.Shared.{PartAnswer}
use Rattle.broker_locks.proofs.Lines.{Fronts, Mixed, fronts_all, fronts_pop, fronts_step, fronts_within, joined_among, mixed_all, mixed_at, mixed_set, mixed_step, mixed_within, zip_length}
use Rattle.broker_locks.proofs.rows.join_parts.Goals as goal

pub loop-other-init : goal.loop-other-init
loop-other-init g c = λ given n z o. (
  fronts_all given c.args.locks.now.items c.args.others.items o,
  subst (λ (k : ℕ). Mixed given k n c.args.locks.now.items c.args.into.now.items) (zip_length (StandsAmong given 1) c.args.locks.now.items c.args.others.items o)
      (mixed_all given n c.args.locks.now.items c.args.into.now.items z),
)

pub index-requires : goal.index-requires
index-requires g c =
    let P : Type 0 = PassParts (Host g.row.D.Denot) PartEvent PartAnswer in
    let ls : List (LockParts (Host g.row.D.Denot)) = c.args.locks.now.items in
    let os : List P = c.loop-other.others.items in
    let qs : List P = c.pop.new.self.items in
    let ps : List P = c.loop-other.into.items in
    let k : ℕ = c.len-place.result in
    let e : k ≡ length qs = search rules in
    let is : os ≡ qs ++ c.in-Some.other ∷ [] = search rules in
    let given : List P = c.requires.0 in
    let n : ℕ = c.requires.1 in
    let i = c.loop-other.invariant given n c.requires.2 c.requires.3 in
    let f : Fronts given (suc k) ls (qs ++ c.in-Some.other ∷ []) = fronts_step given k ls os qs c.in-Some.other is e i.0 in
    let lt = fronts_within given (suc k) ls (qs ++ c.in-Some.other ∷ []) f in omega (arith, lt)

pub index_mut-requires : goal.index_mut-requires
index_mut-requires g c =
    let P : Type 0 = PassParts (Host g.row.D.Denot) PartEvent PartAnswer in
    let ls : List (LockParts (Host g.row.D.Denot)) = c.args.locks.now.items in
    let os : List P = c.loop-other.others.items in
    let qs : List P = c.pop.new.self.items in
    let ps : List P = c.loop-other.into.items in
    let k : ℕ = c.len-place.result in
    let e : k ≡ length qs = search rules in
    let is : os ≡ qs ++ c.in-Some.other ∷ [] = search rules in
    let given : List P = c.requires.0 in
    let n : ℕ = c.requires.1 in
    let i = c.loop-other.invariant given n c.requires.2 c.requires.3 in
    let f : Fronts given (suc k) ls (qs ++ c.in-Some.other ∷ []) = fronts_step given k ls os qs c.in-Some.other is e i.0 in
    let m : Mixed given (suc k) n ls ps = mixed_step given k ls os qs c.in-Some.other is e n ps i.1 in
    let lt = fronts_within given (suc k) ls (qs ++ c.in-Some.other ∷ []) f in
    let same : length ls ≡ length ps = mixed_within given (suc k) n ls ps m in
    let long : length c.loop-other.into.items ≡ c.loop-other.into.len = search rules in
    omega (arith, lt, same, long)

pub join-requires : goal.join-requires
join-requires g c =
    let P : Type 0 = PassParts (Host g.row.D.Denot) PartEvent PartAnswer in
    let ls : List (LockParts (Host g.row.D.Denot)) = c.args.locks.now.items in
    let os : List P = c.loop-other.others.items in
    let qs : List P = c.pop.new.self.items in
    let ps : List P = c.loop-other.into.items in
    let k : ℕ = c.len-place.result in
    let e : k ≡ length qs = search rules in
    let is : os ≡ qs ++ c.in-Some.other ∷ [] = search rules in
    let given : List P = c.requires.0 in
    let n : ℕ = c.requires.1 in
    let i = c.loop-other.invariant given n c.requires.2 c.requires.3 in
    let f : Fronts given (suc k) ls (qs ++ c.in-Some.other ∷ []) = fronts_step given k ls os qs c.in-Some.other is e i.0 in
    let m : Mixed given (suc k) n ls ps = mixed_step given k ls os qs c.in-Some.other is e n ps i.1 in
    let a = mixed_at given k n ls ps c.index.result.now c.index_mut.result.now m c.index.ensures c.index_mut.ensures.value in
    let b = fronts_pop given k ls qs c.index.result.now c.in-Some.other f (sym e) c.index.ensures in
    record { of = (a.0.0, b.1.0.0) }

pub loop-other-preserved : goal.loop-other-preserved
loop-other-preserved g c = λ given n z o.
    let P : Type 0 = PassParts (Host g.row.D.Denot) PartEvent PartAnswer in
    let ls : List (LockParts (Host g.row.D.Denot)) = c.args.locks.now.items in
    let os : List P = c.loop-other.others.items in
    let qs : List P = c.pop.new.self.items in
    let ps : List P = c.loop-other.into.items in
    let k : ℕ = c.len-place.result in
    let e : k ≡ length qs = search rules in
    let is : os ≡ qs ++ c.in-Some.other ∷ [] = search rules in
    let i = c.loop-other.invariant given n z o in
    let f : Fronts given (suc k) ls (qs ++ c.in-Some.other ∷ []) = fronts_step given k ls os qs c.in-Some.other is e i.0 in
    let b = fronts_pop given k ls qs c.index.result.now c.in-Some.other f (sym e) c.index.ensures in
    let both : c.join.new.into ≡ joined c.index_mut.result.now c.in-Some.other = c.join.ensures.both in
    let m : Mixed given (suc k) n ls ps = mixed_step given k ls os qs c.in-Some.other is e n ps i.1 in
    let a = mixed_at given k n ls ps c.index.result.now c.index_mut.result.now m c.index.ensures c.index_mut.ensures.value in (
      subst (λ (j : ℕ). Fronts given j ls qs) e b.0,
      subst (λ (j : ℕ). Mixed given j n ls (slice_set ps k c.join.new.into)) e
          (mixed_set given k n ls ps c.index.result.now c.join.new.into m c.index.ensures
          (subst (λ (x : P). StandsAmong given (n + 1) c.index.result.now x) (sym both)
          (joined_among given n c.index.result.now c.index_mut.result.now c.in-Some.other a b.1))),
    )
