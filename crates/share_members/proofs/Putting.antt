-- Groups that are put among the others.
use Rattle.std.proofs.Common.{◌≡◌, ℕ, ℤ, ◌==◌, true, false, not, List, [], ◌∷◌, length, None, Result, Ok, Err, OnOk, OnErr, refl, sym, ap, ◌∙◌, arith}
use Rattle.std.specs.Option.{unwrap_or}
use Rattle.std.specs.Map.{lookup, remove_entry}
use Rattle.std.specs.BTreeMap.{insert_entry, is_at}
use Rattle.std.specs.Ordering.{match_ordering}
use Rattle.std.specs.declared.cmp.Ordering.{Ordering}
use Rattle.std.specs.declared.cmp.Ordering.TheVariants.{Less, Equal, Greater}
use Rattle.std.proofs.lemmas.Bool.{ne_eqb}
use Rattle.topic_conf.specs.declared.topic.Topic.{Topic}
use Rattle.msgs_group.specs.declared.heartbeat_request.HeartbeatRequest.{HeartbeatRequest}
use Rattle.share_members.specs.declared.member.Member.{Member}
use Rattle.share_members.specs.Groups.{GroupParts, Groups, Members, id_cmp, no_group, group_at, put_group, with_group, with_member}
use Rattle.share_members.specs.Heartbeats.{left, stays}
use Rattle.share_members.proofs.Maps.{removed_none}

pub on_ok : {A E : Type 0} {P Q : Type 0} (r : Result A E) → (P → Q) → OnOk r P → OnOk r Q
on_ok (Ok x) f p = f p
on_ok (Err e) f p = tt

pub on_err : {A E : Type 0} {P Q : Type 0} (r : Result A E) → (P → Q) → OnErr r P → OnErr r Q
on_err (Ok x) f p = tt
on_err (Err e) f p = f p

-- ---- a group with a member

put_some : (id : List ℕ) (epoch : ℤ) (key : List ℕ) (member : Member) (members : Members) (groups : Groups)
    → put_group id epoch (with_member key member members) groups ≡ insert_entry id_cmp groups id (record { epoch = epoch; members = with_member key member members })
put_some id epoch key member [] groups = refl
put_some id epoch key member (e ∷ es) groups = by (id_cmp key e.0) where
  by : (o : Ordering)
      → put_group id epoch (match_ordering o ((key, member) ∷ e ∷ es) ((e.0, member) ∷ es) (e ∷ with_member key member es)) groups
      ≡ insert_entry id_cmp groups id (record { epoch = epoch; members = match_ordering o ((key, member) ∷ e ∷ es) ((e.0, member) ∷ es) (e ∷ with_member key member es) })
  by Less = refl
  by Equal = refl
  by Greater = refl

pub put_stays : (topics : List Topic) (moment : ℕ) (request : HeartbeatRequest) (group : GroupParts) (id : List ℕ) (groups : Groups)
    → with_group id (stays topics moment request group).group groups ≡ insert_entry id_cmp groups id (stays topics moment request group).group
unfolding stays
put_stays topics moment request group id groups = put_some id _ request.member_id _ group.members groups

pub put_full : (id : List ℕ) (group : GroupParts) (groups : Groups) → not (length group.members == 0) ≡ true
    → with_group id group groups ≡ insert_entry id_cmp groups id group
put_full id group groups full = by group.members full where
  by : (members : Members) → not (length members == 0) ≡ true
      → put_group id group.epoch members groups ≡ insert_entry id_cmp groups id (record { epoch = group.epoch; members = members })
  by [] full = absurd (cc)
  by (member ∷ members) full = refl

-- ---- one without

pub put_empty : (id : List ℕ) (group : GroupParts) (groups : Groups) → not (length group.members == 0) ≡ false
    → with_group id group groups ≡ remove_entry (is_at (id_cmp id)) groups
put_empty id group groups empty = by group.members empty where
  by : (members : Members) → not (length members == 0) ≡ false → put_group id group.epoch members groups ≡ remove_entry (is_at (id_cmp id)) groups
  by [] empty = refl
  by (member ∷ members) empty =
      let some : (length (member ∷ members) == 0) ≡ false = ne_eqb _ _ (λ e. absurd (omega (arith, e))) in
      absurd (clash (sym (ap not some) ∙ empty))
    where
      clash : true ≡ false → ⊥
      clash e = absurd (cc)

-- nobody leaves a group that isn't there
pub put_none : (member id : List ℕ) (groups : Groups) → lookup (is_at (id_cmp id)) groups ≡ None
    → with_group id (left member (group_at id groups)) groups ≡ groups
put_none member id groups none =
    ap (λ o. with_group id (left member (unwrap_or o no_group)) groups) none ∙ removed_none (is_at (id_cmp id)) groups none
