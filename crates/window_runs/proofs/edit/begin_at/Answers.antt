use Rattle.std.proofs.Common.{◌≡◌, ◌∙◌, ℕ, List, length, ap, sym, subst, arith}
use Rattle.std.specs.List.{remove}
use Rattle.lock_index.specs.Locks.{HasPair, put_pair}
use Rattle.window_runs.specs.Kept.{indexed, pair_of}
use Rattle.window_runs.proofs.Splits.{get_within}
use Rattle.window_runs.proofs.Indexes.{has_put, index_get, index_set, length_indexed, left_first, pair_first, put_once, within_apart, removed_length}
use Rattle.window_runs.proofs.edit.begin_at.Goals as goal

pub take-requires : goal.take-requires
take-requires g c =
    let was = c.requires.paired ∙ index_get c.args.list.now.runs c.args.place c.args.run c.requires.run in
    subst (λ (l : List (ℕ × ℕ)). HasPair l (pair_of c.args.run)) (sym was) (has_put (pair_of c.args.run) (indexed (remove c.args.list.now.runs c.args.place)))

pub put-requires-clause-room : goal.put-requires-clause-room
put-requires-clause-room g c =
    let xs = c.args.list.now.runs in
    let was = c.requires.paired ∙ index_get xs c.args.place c.args.run c.requires.run in
    let left : c.take.new.self.pairs ≡ indexed (remove xs c.args.place) = put_once (pair_of c.args.run) _ _ (c.take.ensures.pairs ∙ was) in
    let count : length c.take.new.self.pairs ≡ length (remove xs c.args.place) = ap length left ∙ length_indexed (remove xs c.args.place) in
    omega (arith, count, removed_length xs c.args.place (get_within _ _ _ c.requires.run), c.requires.room, c.take.ensures.room)

pub put-requires-clause-absent : goal.put-requires-clause-absent
put-requires-clause-absent g c = λ has.
    let xs = c.args.list.now.runs in
    let was = c.requires.paired ∙ index_get xs c.args.place c.args.run c.requires.run in
    let left : c.take.new.self.pairs ≡ indexed (remove xs c.args.place) = put_once (pair_of c.args.run) _ _ (c.take.ensures.pairs ∙ was) in
    within_apart xs c.args.place c.args.run c.args.first c.requires.canonical c.requires.run c.requires.behind c.requires.within
    (left_first xs c.args.place c.args.first (pair_first (remove xs c.args.place) (c.args.run.hold.end, c.args.first)
    (subst (λ (l : List (ℕ × ℕ)). HasPair l (c.args.run.hold.end, c.args.first)) left has)))

pub returns-clause-paired : goal.returns-clause-paired
returns-clause-paired g c =
    let xs = c.args.list.now.runs in
    let was = c.requires.paired ∙ index_get xs c.args.place c.args.run c.requires.run in
    let left : c.take.new.self.pairs ≡ indexed (remove xs c.args.place) = put_once (pair_of c.args.run) _ _ (c.take.ensures.pairs ∙ was) in
    c.put.ensures.pairs ∙ ap (put_pair (c.args.run.hold.end, c.args.first)) left
    ∙ sym (ap indexed c.set.ensures.runs ∙ index_set xs c.args.place (record c.args.run { first = c.args.first }) (get_within _ _ _ c.requires.run))
