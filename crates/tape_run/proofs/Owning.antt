-- No disk is of two shards, so that no two histories call one.
use Rattle.std.proofs.Common.{◌≡◌, ◌∙◌, ◌++◌, ◌&&◌, ℕ, zero, suc, true, List, [], ◌∷◌, slice_get, Some, inl, inr, refl, sym, ap, subst}
use Rattle.std.proofs.lemmas.Bool.{true≢false}
use Rattle.std.proofs.lemmas.Option.{none-some, same_Some}
use Rattle.share_model.specs.declared.visit.ShardId.{ShardId}
use Rattle.share_model.specs.declared.visit.ShardId.TheVariants.{Part as OfPart, Members, Foreign}
use Rattle.topic_conf.specs.Configs.{ConfigParts}
use Rattle.topic_conf.specs.Topics.{IsTopicList}
use Rattle.broker_model.specs.Hosted.{Hosted, IsOneOf, disks_of, first_of, has_disk, hosted_of, log_of, log_store, part_disks, second_of, state_a, state_b, state_store}
use Rattle.broker_model.specs.Shards.{Counts, Ends, HostedPart, PartCall, ShardCall, Shards, StepsShards, calls, hosted_by, part_calls, reads_log}
use Rattle.broker_model.specs.Shards.ShardCall.{CallForeign, CallPart, CallMembers}
use Rattle.broker_model.specs.Shards.PartCall.{Visits, Produces, Looks, Expires, Deletes}
use Rattle.broker_model.proofs.Stores.{both_of, is_same, one_of, two_disks}
use Rattle.broker_hosts.specs.Hosts.{AreDistinct, all_names}
use Rattle.broker_hosts.proofs.Naming.{distinct_names}
use Rattle.broker_hosts.proofs.Places.{apart_from, distinct_front, not_both, one_in_front, one_in_rest}
use Rattle.tape_run.specs.Recordings.{Entry, IsHistory, Standing, ends_between, shard_called}
use Rattle.tape_run.proofs.Moving.{call_stays, changed}
use Rattle.tape_run.proofs.Pieces.{IsOf}

-- ---- the disks of each shard

-- this disk is one of the shard's, where these partitions are hosted
abbrev pub Owns : List Hosted → ShardId → List ℕ → Type 0
Owns hosted (OfPart n) name = (h : Hosted) × (slice_get hosted n ≡ Some h) × IsOneOf (disks_of h) name
Owns hosted Members name = ⊥
Owns hosted Foreign name = IsOneOf (state_a ∷ state_b ∷ []) name

of_two : (h : Hosted) (name : List ℕ) → has_disk (state_store h) name ≡ true → IsOneOf (disks_of h) name
of_two h name has = elim (two_disks (first_of h) (second_of h) name has) [ inl e ↦ inr (inl e) | inr e ↦ inr (inr (inl e)) ]

of_log : (h : Hosted) (name : List ℕ) → has_disk (log_store h) name ≡ true → IsOneOf (disks_of h) name
of_log h name has = inl (is_same name (log_of h) has)

-- a call on a partition is on its disks
part_owns : (h : Hosted) (name : List ℕ) (did : PartCall) → part_calls h did name ≡ true → IsOneOf (disks_of h) name
part_owns h name (Visits visit answer unread) on = elim (one_of (reads_log visit.then && has_disk (log_store h) name) (has_disk (state_store h) name) on) [
  | inl log ↦ of_log h name (both_of (reads_log visit.then) (has_disk (log_store h) name) log).1
  | inr states ↦ of_two h name states
]
part_owns h name (Produces batch produced) on = of_log h name on
part_owns h name (Looks group looked) on = absurd (true≢false (sym on))
part_owns h name (Expires answer) on = of_two h name on
part_owns h name (Deletes to answer) on = of_log h name on

hosted_there : (parts : List HostedPart) (n : ℕ) (p : HostedPart) → slice_get parts n ≡ Some p → slice_get (hosted_by parts) n ≡ Some p.hosted
hosted_there [] n p e = absurd (none-some p e)
hosted_there (x ∷ xs) zero p e = ap (λ (q : HostedPart). Some q.hosted) (same_Some x p e)
hosted_there (x ∷ xs) (suc n) p e = hosted_there xs n p e

-- so is any call
call_owns : (hosted : List Hosted) (counts : Counts) (ends : Ends) (now : ℕ) (old new : Shards) (name : List ℕ) (call : ShardCall) → hosted_by old.parts ≡ hosted
    → StepsShards counts ends now old call new → calls (Some call) name ≡ true → Owns hosted (shard_called call) name
call_owns hosted counts ends now old new name (CallForeign op answer fault) is step on =
    elim (two_disks state_a state_b name on) [ inl e ↦ inl e | inr e ↦ inr (inl e) ]
call_owns hosted counts ends now old new name (CallPart n h did) is step on =
    let c = changed n _ old.parts new.parts step.0 in
    (h, sym (ap (λ hs. slice_get hs n) is) ∙ (hosted_there old.parts n c.old c.was ∙ ap (λ k. Some k) c.goes.was), part_owns h name did on)
call_owns hosted counts ends now old new name (CallMembers did) is step on = absurd (true≢false (sym on))

-- ---- histories

module _ (conf : ConfigParts) (shard : ShardId) (name : List ℕ) where
  -- each call of a shard's history is on its disks
  pub history_owns : (history : List Entry) (old : Standing) → IsOf conf old.shards → IsHistory shard old history → (n : ℕ) (entry : Entry)
      → slice_get history n ≡ Some entry → calls (Some entry.call) name ≡ true → Owns (hosted_of conf) shard name
  history_owns [] old is does n entry e on = absurd (none-some entry e)
  history_owns (x ∷ xs) old is does zero entry e on =
      let d = does.0 in
      let same : x ≡ entry = same_Some x entry e in
      let called : calls (Some x.call) name ≡ true = ap (λ (z : Entry). calls (Some z.call) name) same ∙ on in
      subst (λ (s : ShardId). Owns (hosted_of conf) s name) d.called (call_owns (hosted_of conf) d.counts (ends_between old x.after) x.now old.shards x.after.shards name x.call is.hosts d.step called)
  history_owns (x ∷ xs) old is does (suc n) entry e on =
      history_owns xs x.after (call_stays conf does.0.counts (ends_between old x.after) x.now old.shards x.after.shards x.call does.0.step is) does.1 n entry e on

-- ---- one disk of one shard

part_in : (hosted : List Hosted) (n : ℕ) (h : Hosted) (name : List ℕ) → slice_get hosted n ≡ Some h → IsOneOf (disks_of h) name → IsOneOf (part_disks hosted) name
part_in [] n h name e one = absurd (none-some h e)
part_in (x ∷ xs) zero h name e one = one_in_front (disks_of x) (part_disks xs) name (subst (λ (k : Hosted). IsOneOf (disks_of k) name) (sym (same_Some x h e)) one)
part_in (x ∷ xs) (suc n) h name e one = one_in_rest (disks_of x) (part_disks xs) name (part_in xs n h name e one)

-- what is one of the first names is none of the others
distinct_rest : (names more : List (List ℕ)) → AreDistinct (names ++ more) → AreDistinct more
distinct_rest [] more d = d
distinct_rest (n ∷ names) more d = distinct_rest names more d.1

not_both_ends : (names more : List (List ℕ)) (name : List ℕ) → AreDistinct (names ++ more) → IsOneOf names name → IsOneOf more name → ⊥
not_both_ends names more name d one other = not_both names name (apart_from names more name d other) one

parts_once : (hosted : List Hosted) (n m : ℕ) (h k : Hosted) (name : List ℕ) → AreDistinct (part_disks hosted) → slice_get hosted n ≡ Some h → slice_get hosted m ≡ Some k
    → IsOneOf (disks_of h) name → IsOneOf (disks_of k) name → n ≡ m
parts_once [] n m h k name d e f one other = absurd (none-some h e)
parts_once (x ∷ xs) zero zero h k name d e f one other = refl
parts_once (x ∷ xs) zero (suc m) h k name d e f one other =
    absurd (not_both_ends (disks_of x) (part_disks xs) name d (subst (λ (z : Hosted). IsOneOf (disks_of z) name) (sym (same_Some x h e)) one) (part_in xs m k name f other))
parts_once (x ∷ xs) (suc n) zero h k name d e f one other =
    absurd (not_both_ends (disks_of x) (part_disks xs) name d (subst (λ (z : Hosted). IsOneOf (disks_of z) name) (sym (same_Some x k f)) other) (part_in xs n h name e one))
parts_once (x ∷ xs) (suc n) (suc m) h k name d e f one other = ap suc (parts_once xs n m h k name (distinct_rest (disks_of x) (part_disks xs) d) e f one other)

module _ (conf : ConfigParts) (list : IsTopicList conf.topics) (name : List ℕ) where
  distinct : AreDistinct (all_names (hosted_of conf))
  distinct = distinct_names conf list

  pub owns_once : (s t : ShardId) → Owns (hosted_of conf) s name → Owns (hosted_of conf) t name → s ≡ t
  owns_once (OfPart n) (OfPart m) p q =
      ap OfPart (parts_once (hosted_of conf) n m p.0 q.0 name (distinct_front (part_disks (hosted_of conf)) (state_a ∷ state_b ∷ []) distinct) p.1 q.1 p.2 q.2)
  owns_once (OfPart n) Members p q = absurd q
  owns_once (OfPart n) Foreign p q =
      absurd (not_both_ends (part_disks (hosted_of conf)) (state_a ∷ state_b ∷ []) name distinct (part_in (hosted_of conf) n p.0 name p.1 p.2) q)
  owns_once Members t p q = absurd p
  owns_once Foreign (OfPart m) p q =
      absurd (not_both_ends (part_disks (hosted_of conf)) (state_a ∷ state_b ∷ []) name distinct (part_in (hosted_of conf) m q.0 name q.1 q.2) p)
  owns_once Foreign Members p q = absurd q
  owns_once Foreign Foreign p q = refl
