-- An expiry at a moment where no session has ended.
use Rattle.std.proofs.Common.{◌≡◌, ℕ, ◌+◌, ◌≤◌, Bool, true, false, cond, not, [], ◌∷◌, length, refl, ap, ◌∙◌, arith}
use Rattle.std.specs.List.{AllByRecursion, filter}
use Rattle.std.proofs.lemmas.Bool.{ne_eqb}
use Rattle.std.proofs.lemmas.List.Sums.{sum_by-cons}
use Rattle.share_members.specs.Groups.{GroupParts, Groups, Members}
use Rattle.share_members.specs.Expiry.{is_due, due, removed, later_epoch, group_expired, groups_expired, has_members}
use Rattle.share_members.specs.Whole.{IsGroup}
use Rattle.share_members.proofs.Lists.{removed_cons}

-- all members stay
all_stay : (moment : ℕ) (members : Members) → due moment members ≡ 0 → filter (λ member. not (is_due moment member)) members ≡ members
all_stay moment [] none = refl
all_stay moment (m ∷ ms) none = go (is_due moment m) (sum_by-cons _ m ms) (all_stay moment ms) where
  go : (b : Bool) → due moment (m ∷ ms) ≡ cond b 1 0 + due moment ms
      → (due moment ms ≡ 0 → filter (λ member. not (is_due moment member)) ms ≡ ms)
      → cond (not b) (m ∷ filter (λ member. not (is_due moment member)) ms) (filter (λ member. not (is_due moment member)) ms) ≡ m ∷ ms
  go true is rest = absurd (omega (arith, is, none))
  go false is rest = ap (λ l. m ∷ l) (rest (omega (arith, is, none)))

-- a group stays as it is
group_stays : (moment : ℕ) (group : GroupParts) → due moment group.members ≡ 0 → group_expired moment group ≡ group
group_stays moment group none = λ i. record { epoch = later_epoch (none i) group.epoch; members = all_stay moment group.members none i }

-- all groups stay as they are
pub groups_stay : (topics moment : ℕ) (groups : Groups) → AllByRecursion (λ group. IsGroup topics group.1) groups → removed moment groups ≡ 0
    → groups_expired moment groups ≡ groups
groups_stay topics moment [] all none = refl
groups_stay topics moment (group ∷ groups) all none =
    let sum = removed_cons moment group groups in
    let later = groups_expired moment groups in
    let same : group_expired moment group.1 ≡ group.1 = group_stays moment group.1 (omega (arith, sum, none)) in
    let some : 1 ≤ length group.1.members = all.0.some in
    let full : has_members group ≡ true = ap not (ne_eqb _ _ (λ e. absurd (omega (arith, some, e)))) in
    ap (λ g. cond (has_members (group.0, g)) ((group.0, g) ∷ later) later) same
    ∙ ap (λ b. cond b (group ∷ later) later) full
    ∙ ap (λ l. group ∷ l) (groups_stay topics moment groups all.1 (omega (arith, sum, none)))
