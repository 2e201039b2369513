use Rattle.std.proofs.Common.{◌≡◌, ◌≢◌, ◌∷◌, All, List, rules, suc, arith}
use Rattle.std.proofs.lemmas.List.Kept.{AllPairs-cons}
use Rattle.share_record.specs.declared.tape.ShardTape.{ShardTape}
use Rattle.tape_merge.specs.Matching.{AreApart}
use Rattle.tape_merge.proofs.apart.are_apart.Goals as goal

abbrev Differ : ShardTape → ShardTape → Type 0
Differ a b = a.shard ≢ b.shard

front : (x : ShardTape) (xs : List ShardTape) → AreApart (x ∷ xs) → All (Differ x) xs
front x xs pairs = λ k d lt. pairs 0 (suc k) d (omega arith) (omega arith)

others : (x : ShardTape) (xs : List ShardTape) → AreApart (x ∷ xs) → AreApart xs
others x xs pairs = λ i j d lt within. pairs (suc i) (suc j) d (omega arith) (omega arith)

pub loop-tape-preserved : goal.loop-tape-preserved
loop-tape-preserved c =
    let split : c.loop-tape.rest.now ≡ c.in-Some.tape.now ∷ c.in-Some.others.now = search rules in
    let apart : All (Differ c.in-Some.tape.now) c.in-Some.others.now = search rules in
    record {
      down = λ pairs. others c.in-Some.tape.now c.in-Some.others.now (rw split at (c.loop-tape.invariant.down pairs));
      up = λ pairs. c.loop-tape.invariant.up (rw split (AllPairs-cons Differ c.in-Some.tape.now c.in-Some.others.now apart pairs));
    }

pub returns-then-not-is_apart : goal.returns-then-not-is_apart
returns-then-not-is_apart c =
    let split : c.loop-tape.rest.now ≡ c.in-Some.tape.now ∷ c.in-Some.others.now = search rules in (
      λ e. absurd (cc),
      λ pairs.
          let apart = front c.in-Some.tape.now c.in-Some.others.now (rw split at (c.loop-tape.invariant.down pairs)) in
          let is = c.is_apart.ensures.1 apart in
          cc,
    )
