use Rattle.std.proofs.Common.{◌≡◌, ◌∙◌, ℕ, List, length, ap, sym, subst, arith}
use Rattle.lock_index.specs.Locks.{HasPair, put_pair}
use Rattle.window_runs.specs.Kept.{indexed, pair_of}
use Rattle.window_runs.proofs.Indexes.{index_insert, length_indexed, pair_first}
use Rattle.window_runs.proofs.edit.add_run.Goals as goal

pub put-requires-clause-room : goal.put-requires-clause-room
put-requires-clause-room g c =
    let count : length c.args.index.now.pairs ≡ length c.args.list.now.runs = ap length c.requires.paired ∙ length_indexed c.args.list.now.runs in
    omega (arith, count, c.requires.index_room)

pub put-requires-clause-absent : goal.put-requires-clause-absent
put-requires-clause-absent g c = λ has.
    c.requires.absent (pair_first c.args.list.now.runs (pair_of c.args.run) (subst (λ (l : List (ℕ × ℕ)). HasPair l (pair_of c.args.run)) c.requires.paired has))

pub returns-clause-paired : goal.returns-clause-paired
returns-clause-paired g c =
    c.put.ensures.pairs ∙ ap (put_pair (pair_of c.args.run)) c.requires.paired
    ∙ sym (ap indexed c.put_at.ensures.runs ∙ index_insert c.args.list.now.runs c.args.place c.args.run c.requires.place)
