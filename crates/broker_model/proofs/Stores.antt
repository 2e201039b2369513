-- The stores of a broker: their disks are its own.
use Rattle.std.proofs.Common.{◌≡◌, ◌⊎◌, ◌&&◌, ◌||◌, inl, inr, ⊎_elim, refl, sym, ap, subst, ℕ, List, Bool, true, false}
use Rattle.std.proofs.lemmas.Bool.{true≢false}
use Rattle.std.specs.Cmp.Lexicographic.{other_text, same_text}
use Rattle.topic_conf.specs.Configs.{ConfigParts}
use Rattle.broker_model.specs.Hosted.{Hosted, IsStore, IsTaken, StoreDisks, first_of, has_disk, hosted_of, log_of, log_store, same_name, same_store, second_of, state_a, state_b, state_store}
use Rattle.broker_model.specs.Hosted.StoreDisks.{OnOne, OnTwo}
use Rattle.broker_model.proofs.Acts.{first_taken, log_taken, second_taken}
use Rattle.broker_model.proofs.Lists.{IsOf, of_contains}

-- ---- tests

pub same_self : (a : List ℕ) → same_name a a ≡ true
same_self a = go (same_name a a) refl where
  go : (b : Bool) → same_name a a ≡ b → b ≡ true
  go true is = refl
  go false is = absurd (other_text a a (sym is) refl)

pub is_same : (a b : List ℕ) → same_name a b ≡ true → a ≡ b
is_same a b is = same_text a b (sym is)

or_first : (b : Bool) → (true || b) ≡ true
or_first b = refl

or_second : (b : Bool) → (b || true) ≡ true
or_second true = refl
or_second false = refl

pub one_of : (a b : Bool) → (a || b) ≡ true → (a ≡ true) ⊎ (b ≡ true)
one_of true b is = inl refl
one_of false b is = inr is

pub both_of : (a b : Bool) → (a && b) ≡ true → (a ≡ true) × (b ≡ true)
both_of true b is = (refl, is)
both_of false b is = absurd (true≢false (sym is))

-- ---- disks of a store

pub has_first : (first second : List ℕ) → has_disk (OnTwo first second) first ≡ true
has_first first second = subst (λ (b : Bool). (b || same_name first second) ≡ true) (sym (same_self first)) (or_first (same_name first second))

pub has_second : (first second : List ℕ) → has_disk (OnTwo first second) second ≡ true
has_second first second = subst (λ (b : Bool). (same_name second first || b) ≡ true) (sym (same_self second)) (or_second (same_name second first))

pub two_disks : (first second name : List ℕ) → has_disk (OnTwo first second) name ≡ true → (name ≡ first) ⊎ (name ≡ second)
two_disks first second name has = ⊎_elim (λ one. inl (is_same name first one)) (λ other. inr (is_same name second other))
    (one_of (same_name name first) (same_name name second) has)

-- stores of the same disks are one
pub one_store : (store other : StoreDisks) → same_store store other ≡ true → store ≡ other
one_store (OnOne a) (OnOne b) is = ap OnOne (is_same a b is)
one_store (OnOne a) (OnTwo c d) is = absurd (true≢false (sym is))
one_store (OnTwo a b) (OnOne c) is = absurd (true≢false (sym is))
one_store (OnTwo a b) (OnTwo c d) is =
    let both = both_of (same_name a c) (same_name b d) is in
    λ i. OnTwo (is_same a c both.0 i) (is_same b d both.1 i)

-- ---- the broker's

module _ (conf : ConfigParts) (name : List ℕ) where
  abbrev Takes : StoreDisks → Type 0
  Takes store = has_disk store name ≡ true → IsTaken conf name

  one_taken : (disk : List ℕ) → IsTaken conf disk → Takes (OnOne disk)
  one_taken disk taken has = subst (IsTaken conf) (sym (is_same name disk has)) taken

  two_taken : (first second : List ℕ) → IsTaken conf first → IsTaken conf second → Takes (OnTwo first second)
  two_taken first second one other has = ⊎_elim
      (λ e. subst (IsTaken conf) (sym e) one) (λ e. subst (IsTaken conf) (sym e) other) (two_disks first second name has)

  part_taken : (h : Hosted) → IsOf (hosted_of conf) h → (store : StoreDisks) → (store ≡ log_store h) ⊎ (store ≡ state_store h) → Takes store
  part_taken h hosted store (inl e) = subst Takes (sym e) (one_taken (log_of h) (log_taken conf h hosted))
  part_taken h hosted store (inr e) = subst Takes (sym e)
      (two_taken (first_of h) (second_of h) (first_taken conf h hosted) (second_taken conf h hosted))

  pub store_taken : (store : StoreDisks) → IsStore conf store → Takes store
  store_taken store (inl is) = part_taken is.0 (of_contains (hosted_of conf) is.0 is.1) store is.2
  store_taken store (inr e) = subst Takes (sym e) (two_taken state_a state_b (inr (inl refl)) (inr (inr refl)))
