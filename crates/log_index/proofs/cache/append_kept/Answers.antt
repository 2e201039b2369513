use Rattle.std.proofs.Common.{sym, subst, nat_eq, Contains, List, ℕ}
use Rattle.lru.specs.LruCache.{LruCache}
use Rattle.lru.proofs.CallerLemmas.{Contains-promoted}
use Rattle.log_index.proofs.Caching.{appended_err, appended_ok, found_here}
use Rattle.log_index.proofs.cache.append_kept.Goals as goal
use Rattle.log_index.proofs.cache.append_kept.Goals.{in-Ok, in-Err}

pub returns-clause-some : goal.returns-clause-some
returns-clause-some c = (
  c.in_ok-peek.field-0.now,
  found_here c.args.cache.now.entries c.args.number _ (sym c.in_ok-peek.ensures),
  (elim c.match-append.branch [
    | in-Ok w ↦ appended_ok c.args.out.now c.append.new.self _ _ c.match-append.read c.as_slice.ensures w.read-is w.in-Ok.ensures.ok
    | in-Err w ↦ appended_err c.append.result w.in-Err.field-0 c.args.out.now c.append.new.self _ _ c.match-append.read c.as_slice.ensures w.in-Err.is w.read-is c.append.ensures.err c.append.ensures.spared
  ]),
)

pub returns-clause-cached : goal.returns-clause-cached
returns-clause-cached c = λ e has. Contains-promoted (nat_eq c.args.number) c.args.cache.now.entries e
    (subst (λ (l : LruCache ℕ (List ℕ)). Contains l.entries e) c.promote.ensures.entries has)
