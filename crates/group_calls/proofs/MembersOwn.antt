-- Each group is told by the answers to its own questions.
use Rattle.std.proofs.Common.{◌≡◌, ◌∙◌, ℕ, List, [], ◌∷◌, ◌++◌, take, drop, map, refl, ap}
use Rattle.std.specs.List.{flat_map}
use Rattle.describe_calls.specs.Groups.{group_count, group_shape}
use Rattle.describe_calls.specs.GroupsTold.{AreAsked, GroupBeside, rows_in}
use Rattle.describe_calls.proofs.GroupRows.{take_front, drop_front, own_rows}
use Rattle.group_calls.specs.Members.{described_group, groups_by_rows}
use Rattle.group_calls.specs.MembersTold.{TellsItsGroup, own_group}

says_own : (shards : ℕ) (told : List GroupBeside) → AreAsked shards told →
    groups_by_rows (map (λ (g : GroupBeside). group_shape shards g.id) told) (flat_map rows_in told) ≡ map own_group told
says_own shards [] asked = refl
says_own shards (g ∷ told) asked =
    let rest = flat_map rows_in told in
    let shape = map (λ (h : GroupBeside). group_shape shards h.id) told in
    let n = own_rows shards g asked.0 in
    ap (λ l. described_group g.id l ∷ groups_by_rows shape (drop (group_count shards g.id) (rows_in g ++ rest))) (take_front (group_count shards g.id) (rows_in g) rest n)
    ∙ ap (λ l. own_group g ∷ groups_by_rows shape l) (drop_front (group_count shards g.id) (rows_in g) rest n)
    ∙ ap (λ l. own_group g ∷ l) (says_own shards told asked.1)

pub tells_group : TellsItsGroup
tells_group = record { says_own = λ shards told asked. says_own shards told asked }
