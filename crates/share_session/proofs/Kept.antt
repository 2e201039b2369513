-- The laws of share sessions.
use Rattle.std.proofs.Common.{◌≡◌, ◌%◌, ℕ, ℤ, Bool, true, false, cond, not, ◌&&◌, ◌||◌, nat_eq, nat_abs, List, [], ◌∷◌, ◌++◌, length, map, take, drop, filter, refl, sym, ap, subst, ◌∙◌, true≢false, if◌then◌else◌}
use Rattle.std.specs.Prelude.{IsPermutation}
use Rattle.std.specs.List.{IsDistinct, AllByRecursion, list_any}
use Rattle.std.specs.Cmp.{IsEquivalence, nat_eq_equiv}
use Rattle.std.specs.Cmp.Lexicographic.{nat_list_eq_equiv}
use Rattle.std.specs.Str.{bytes_eq}
use Rattle.std.proofs.lemmas.Map.Keys.{IsDistinct-head, IsDistinct-tail, IsDistinct-cons, IsDistinct-push}
use Rattle.std.proofs.lemmas.List.{map-append, take-append-drop}
use Rattle.std.proofs.lemmas.List.Sorted.{IsPermutation-append_comm}
use Rattle.share_model.specs.declared.ack.AckBatch.{AckBatch}
use Rattle.share_session.specs.SessionParts.{SessionParts}
use Rattle.share_session.specs.declared.step.Caller.{Caller}
use Rattle.share_session.specs.declared.change.SessionChange.{SessionChange}
use Rattle.share_session.specs.declared.change.SessionChange.TheVariants.{Leave, Put, Open}
use Rattle.share_session.specs.Sessions.{is_of, is_same_member, without, with_session, applied}
use Rattle.share_session.specs.Requests.{has, join, joined}
use Rattle.share_session.specs.Plans.{shard_of, fetch_visit, fetch_visits}

first_true : (b c : Bool) → (b && c) ≡ true → b ≡ true
first_true true c h = refl
first_true false c h = h

second_true : (b c : Bool) → (b && c) ≡ true → c ≡ true
second_true true c h = h
second_true false c h = absurd (true≢false (sym h))

both : (a b c d : Bool) → a ≡ b → c ≡ d → (a && c) ≡ (b && d)
both a b c d p q = (λ j. p j && q j)

same_equiv : IsEquivalence is_same_member
same_equiv = record {
  refl = λ s. both (bytes_eq s.group s.group) true (bytes_eq s.member s.member) true (nat_list_eq_equiv.refl s.group) (nat_list_eq_equiv.refl s.member);
  symm = λ s other. both (bytes_eq s.group other.group) (bytes_eq other.group s.group) (bytes_eq s.member other.member) (bytes_eq other.member s.member)
      (nat_list_eq_equiv.symm s.group other.group) (nat_list_eq_equiv.symm s.member other.member);
  congr = λ s other third h.
      both (bytes_eq s.group third.group) (bytes_eq other.group third.group) (bytes_eq s.member third.member) (bytes_eq other.member third.member)
      (nat_list_eq_equiv.congr s.group other.group third.group (first_true (bytes_eq s.group other.group) (bytes_eq s.member other.member) h))
      (nat_list_eq_equiv.congr s.member other.member third.member (second_true (bytes_eq s.group other.group) (bytes_eq s.member other.member) h));
}

abbrev Apart : SessionParts → SessionParts → Type 0
Apart s other = is_same_member s other ≡ false

module _ (p : SessionParts → Bool) where
  all_kept : (s : SessionParts) (ss : List SessionParts) → AllByRecursion (Apart s) ss → AllByRecursion (Apart s) (filter p ss)
  all_kept s [] h = tt
  all_kept s (x ∷ ss) h = by (p x) (all_kept s ss h.1)
    where
      by : (b : Bool) → AllByRecursion (Apart s) (filter p ss) → AllByRecursion (Apart s) (cond b (x ∷ filter p ss) (filter p ss))
      by true rest = (h.0, rest)
      by false rest = rest

  kept : (ss : List SessionParts) → IsDistinct is_same_member ss → IsDistinct is_same_member (filter p ss)
  kept [] h = h
  kept (s ∷ ss) h = by (p s) (kept ss (IsDistinct-tail is_same_member s ss h))
    where
      by : (b : Bool) → IsDistinct is_same_member (filter p ss) → IsDistinct is_same_member (cond b (s ∷ filter p ss) (filter p ss))
      by true rest = IsDistinct-cons is_same_member s (filter p ss) (all_kept s ss (IsDistinct-head is_same_member s ss h)) rest
      by false rest = rest

module _ (new : SessionParts) where
  gone : (ss : List SessionParts) → list_any (is_same_member new) (without new.group new.member ss) ≡ false
  gone [] = refl
  gone (s ∷ ss) = by (is_same_member s new) refl (gone ss)
    where
      by : (b : Bool) → is_same_member s new ≡ b → list_any (is_same_member new) (without new.group new.member ss) ≡ false →
          list_any (is_same_member new) (cond (not b) (s ∷ without new.group new.member ss) (without new.group new.member ss)) ≡ false
      by true e rest = rest
      by false e rest = ap (λ b. b || list_any (is_same_member new) (without new.group new.member ss)) (same_equiv.symm new s ∙ e) ∙ rest

  all_placed : (s : SessionParts) (ss : List SessionParts) → Apart s new → AllByRecursion (Apart s) ss → AllByRecursion (Apart s) (with_session new ss)
  all_placed s [] a h = tt
  all_placed s (x ∷ ss) a h = by (is_same_member x new) (all_placed s ss a h.1)
    where
      by : (b : Bool) → AllByRecursion (Apart s) (with_session new ss) → AllByRecursion (Apart s) (if b then new ∷ ss else x ∷ with_session new ss)
      by true rest = (a, h.1)
      by false rest = (h.0, rest)

  as_new : (s : SessionParts) (ss : List SessionParts) → is_same_member s new ≡ true → AllByRecursion (Apart s) ss → AllByRecursion (Apart new) ss
  as_new s [] e h = tt
  as_new s (x ∷ ss) e h = (sym (same_equiv.congr s new x e) ∙ h.0, as_new s ss e h.1)

  placed_apart : (ss : List SessionParts) → IsDistinct is_same_member ss → IsDistinct is_same_member (with_session new ss)
  placed_apart [] h = h
  placed_apart (s ∷ ss) h = by (is_same_member s new) refl (placed_apart ss (IsDistinct-tail is_same_member s ss h))
    where
      by : (b : Bool) → is_same_member s new ≡ b → IsDistinct is_same_member (with_session new ss) → IsDistinct is_same_member (if b then new ∷ ss else s ∷ with_session new ss)
      by true e rest = IsDistinct-cons is_same_member new ss (as_new s ss e (IsDistinct-head is_same_member s ss h)) (IsDistinct-tail is_same_member s ss h)
      by false e rest = IsDistinct-cons is_same_member s (with_session new ss) (all_placed s ss e (IsDistinct-head is_same_member s ss h)) rest

pub one_each : (change : SessionChange) (sessions : List SessionParts) → IsDistinct is_same_member sessions → IsDistinct is_same_member (applied change sessions)
one_each (Leave group member) sessions h = kept (λ s. not (is_of group member s)) sessions h
one_each (Put new) sessions h = placed_apart new sessions h
one_each (Open new) sessions h =
    IsDistinct-push same_equiv (without new.group new.member sessions) new (kept (λ s. not (is_of new.group new.member s)) sessions h) (gone new sessions)

pub joined_once : (list shards : List ℕ) → IsDistinct nat_eq list → IsDistinct nat_eq (joined list shards)
joined_once list [] h = h
joined_once list (shard ∷ shards) h = joined_once (join list shard) shards (by (has list shard) refl)
  where
    by : (b : Bool) → has list shard ≡ b → IsDistinct nat_eq (if b then list else list ++ shard ∷ [])
    by true e = h
    by false e = IsDistinct-push nat_eq_equiv list shard h e

module _ (caller : Caller) (wanted : List (ℕ × List AckBatch)) (forgotten : List ℕ) where
  shards_back : (list : List ℕ) → map shard_of (map (fetch_visit caller wanted forgotten) list) ≡ list
  shards_back [] = refl
  shards_back (shard ∷ list) = ap (λ l. shard ∷ l) (shards_back list)

  pub visited_once : (epoch : ℤ) (list : List ℕ) → IsPermutation list (map shard_of (fetch_visits caller epoch wanted forgotten list))
  visited_once epoch list =
      let steps = map (fetch_visit caller wanted forgotten) list in
      let place = nat_abs epoch % length steps in
      let whole : map shard_of (take place steps) ++ map shard_of (drop place steps) ≡ list =
      sym (map-append shard_of (take place steps) (drop place steps)) ∙ ap (map shard_of) (take-append-drop place steps) ∙ shards_back list in
      let turned_back : map shard_of (drop place steps) ++ map shard_of (take place steps) ≡ map shard_of (fetch_visits caller epoch wanted forgotten list) =
      sym (map-append shard_of (drop place steps) (take place steps)) in
      subst (λ (l : List ℕ). IsPermutation l (map shard_of (fetch_visits caller epoch wanted forgotten list))) whole
      (subst (IsPermutation (map shard_of (take place steps) ++ map shard_of (drop place steps))) turned_back
      (IsPermutation-append_comm (map shard_of (take place steps)) (map shard_of (drop place steps))))
