-- Windows once more offsets are held.
use Rattle.std.proofs.Common.{◌≡◌, ◌∙◌, refl, sym, ap, subst, arith, ℕ, zero, suc, ◌+◌, ◌-◌, ◌<◌, ◌≤◌, List, [], ◌∷◌, ◌++◌, length, drop, get_or, length-append, drop-cons, add-one, Option, Some, None, Bool, true, false, cond}
use Rattle.std.specs.Prelude.{is_some}
use Rattle.std.specs.BTreeMap.{insert_entry, is_at}
use Rattle.std.specs.Cmp.Lexicographic.{slice_cmp, nat_list_cmp_total}
use Rattle.std.specs.List.{AllByRecursion}
use Rattle.std.specs.Map.{lookup}
use Rattle.std.specs.Ordering.{nat_cmp}
use Rattle.std.proofs.lemmas.Map.Lookups.{exact_bytes}
use Rattle.lock_index.specs.Windows.{holding as range_held}
use Rattle.share_model.specs.Held.{Held}
use Rattle.share_model.specs.declared.hold.Grant.{Grant}
use Rattle.share_part.specs.Shards.{held_in, held_of, with_held}
use Rattle.share_part.specs.Tables.{with_holds}
use Rattle.share_part.specs.Walks.{AreApart, IsSmallGrant, offsets_with, written_out}
use Rattle.share_part.proofs.Mapping.{at_is}

-- offsets that are held in one way are held one after another
pub holds_all : (member : List ℕ) (end count first n : ℕ) (held : Held)
    → range_held first n (record { member = member; end = end; count = count }) held ≡ with_holds member end (offsets_with first n count) held
holds_all member end count first zero held = refl
holds_all member end count first (suc n) held =
    holds_all member end count (first + 1) n (insert_entry nat_cmp held first (record { member = member; end = end; count = count }))

module _ {W : Type 0} (holding : W → Held) (spare : W → ℕ) (member : List ℕ) (end : ℕ) where
  with_more : (xs ys : List (ℕ × ℕ)) (held : Held) → with_holds member end (xs ++ ys) held ≡ with_holds member end ys (with_holds member end xs held)
  with_more [] ys held = refl
  with_more (x ∷ xs) ys held = with_more xs ys (insert_entry nat_cmp held x.0 (record { member = member; end = end; count = x.1 }))

  -- so many grants are held
  pub record HoldsGrants (grants : List Grant) (was : W) (i : ℕ) (now : W) : Type 0 where
    pub rest : with_holds member end (written_out (drop i grants)) (holding now) ≡ with_holds member end (written_out grants) (holding was)
    pub room : length (written_out (drop i grants)) ≤ spare now
    pub apart : AreApart (drop i grants)
    pub small : AllByRecursion IsSmallGrant (drop i grants)

  size_is : (first n count : ℕ) → length (offsets_with first n count) ≡ n
  size_is first zero count = refl
  size_is first (suc n) count = ap suc (size_is (first + 1) n count)

  module _ (grants : List Grant) (was : W) (i : ℕ) (now : W) (d : Grant) (h : HoldsGrants grants was i now) (lt : i < length grants) where
    split : drop i grants ≡ get_or grants i d ∷ drop (i + 1) grants
    split = rw (add-one, drop-cons grants i d)

    pub next_apart : (get_or grants i d).first ≤ (get_or grants i d).last
    next_apart = (subst AreApart split h.apart).0

    pub next_small : IsSmallGrant (get_or grants i d)
    next_small = (subst (AllByRecursion IsSmallGrant) split h.small).0

    pub next_room : ((get_or grants i d).last + 1) - (get_or grants i d).first ≤ spare now
    next_room =
        let all = subst (λ (l : List Grant). length (written_out l) ≤ spare now) split h.room in
        let g : Grant = get_or grants i d in
        omega (arith, all, length-append (offsets_with g.first ((g.last + 1) - g.first) g.count) (written_out (drop (i + 1) grants)), size_is g.first ((g.last + 1) - g.first) g.count)

    pub grant_more : (next : W) → holding next ≡ with_holds member end (offsets_with (get_or grants i d).first (((get_or grants i d).last + 1) - (get_or grants i d).first) (get_or grants i d).count) (holding now)
        → spare now ≤ spare next + (((get_or grants i d).last + 1) - (get_or grants i d).first) → HoldsGrants grants was (i + 1) next
    grant_more next is spends =
        let all = subst (λ (l : List Grant). length (written_out l) ≤ spare now) split h.room in
        let g : Grant = get_or grants i d in
        record {
          rest = ap (with_holds member end (written_out (drop (i + 1) grants))) is
              ∙ sym (with_more (offsets_with g.first ((g.last + 1) - g.first) g.count) (written_out (drop (i + 1) grants)) (holding now))
              ∙ subst (λ (l : List Grant). with_holds member end (written_out l) (holding now) ≡ with_holds member end (written_out grants) (holding was)) split h.rest;
          room = omega (arith, all, spends, length-append (offsets_with g.first ((g.last + 1) - g.first) g.count) (written_out (drop (i + 1) grants)), size_is g.first ((g.last + 1) - g.first) g.count);
          apart = (subst AreApart split h.apart).2;
          small = (subst (AllByRecursion IsSmallGrant) split h.small).1;
        }

-- ---- the windows of the groups

module _ {W : Type 0} (holding : W → Held) where
  abbrev look : List (List ℕ × W) → List ℕ → Option W
  look es group = lookup (is_at (slice_cmp nat_cmp group)) es

  -- the map is set at a group
  abbrev IsSetAt : List ℕ → W → List (List ℕ × W) → List (List ℕ × W) → Type 0
  IsSetAt group w es ns = (q : List ℕ) → look ns q ≡ cond (is_at (slice_cmp nat_cmp group) q) (Some w) (look es q)

  by_test : (b : Bool) (group other : List ℕ) (w : W) (es : List (List ℕ × W)) → is_at (slice_cmp nat_cmp group) other ≡ b → (held : Held) → holding w ≡ held
      → held_of holding (cond b (Some w) (look es other)) ≡ (cond b held (held_in holding es other))
  by_test true group other w es is held e = e
  by_test false group other w es is held e = refl

  pub set_held : (group : List ℕ) (w : W) (es ns : List (List ℕ × W)) → IsSetAt group w es ns → (held : Held) → holding w ≡ held
      → (other : List ℕ) → held_in holding ns other ≡ with_held (held_in holding es) group held other
  set_held group w es ns set held is other =
      ap (held_of holding) (set other) ∙ by_test (is_at (slice_cmp nat_cmp group) other) group other w es refl held is

  same_one : (b : Bool) (group other : List ℕ) (es : List (List ℕ × W)) → is_at (slice_cmp nat_cmp group) other ≡ b
      → cond b (held_in holding es group) (held_in holding es other) ≡ held_in holding es other
  same_one true group other es is = ap (held_in holding es) (at_is (slice_cmp nat_cmp) nat_list_cmp_total exact_bytes group other is)
  same_one false group other es is = refl

  -- the group holds what it did
  pub set_same : (group : List ℕ) (w : W) (es ns : List (List ℕ × W)) → IsSetAt group w es ns → holding w ≡ held_in holding es group
      → (other : List ℕ) → held_in holding ns other ≡ held_in holding es other
  set_same group w es ns set is other =
      set_held group w es ns set (held_in holding es group) is other ∙ same_one (is_at (slice_cmp nat_cmp group) other) group other es refl

  pub none_held : (es : List (List ℕ × W)) (group : List ℕ) → is_some (look es group) ≡ false → held_in holding es group ≡ []
  none_held es group none = by_option (look es group) none
    where
      by_option : (o : Option W) → is_some o ≡ false → held_of holding o ≡ []
      by_option None e = refl
      by_option (Some w) e = absurd (let clash : ⊥ = cc in clash)
