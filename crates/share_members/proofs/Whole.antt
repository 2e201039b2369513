-- Memberships stay whole.
use Rattle.std.proofs.Common.{◌≡◌, ℕ, ℤ, ◌+◌, ◌<◌, ◌≤◌, ◌==◌, Bool, true, false, cond, not, List, [], ◌∷◌, length, Option, Some, None, map, refl, sym, ap, ◌∙◌, arith, if◌then◌else◌, max, nat_eq, nat_le}
use Rattle.std.proofs.lemmas.Bool.{lt-ltb, leb-false}
use Rattle.std.proofs.lemmas.List.Filters.{length-filter_both}
use Rattle.std.specs.Option.{unwrap_or}
use Rattle.std.specs.Cmp.Lexicographic.{nat_list_cmp_total, pointwise}
use Rattle.std.specs.List.{AllByRecursion, list_any}
use Rattle.std.specs.List.Sorted.{IsStrictlySortedBy}
use Rattle.std.specs.Map.{lookup, keys_of}
use Rattle.std.specs.BTreeMap.{is_at}
use Rattle.std.specs.Ordering.{nat_cmp, int_eq}
use Rattle.std.specs.Str.{bytes_eq}
use Rattle.std.specs.declared.cmp.Ordering.TheVariants.{Less}
use Rattle.std.proofs.lemmas.Map.Made.{keys_of-map_values}
use Rattle.share_model.specs.declared.fault.Code.{Code}
use Rattle.share_model.specs.ErrorCodes.{UNKNOWN_MEMBER_ID, GROUP_MAX_SIZE_REACHED}
use Rattle.topic_conf.specs.declared.topic.Topic.{Topic}
use Rattle.msgs_group.specs.declared.heartbeat_request.HeartbeatRequest.{HeartbeatRequest}
use Rattle.share_members.specs.declared.member.Member.{Member}
use Rattle.share_members.specs.Groups.{GroupParts, Groups, Members, Memberships, id_cmp, group_at, no_group, put_group, with_group, member_at, with_member}
use Rattle.share_members.specs.Heartbeats.{most_members, joining, leaving, left, leaves, stays, does, no_member, places_named, new_subscription, refusal, member_refusal, heartbeat_in, heartbeat_step, outcome}
use Rattle.share_members.specs.Expiry.{is_due, group_expired, groups_expired, has_members, expire_step}
use Rattle.share_members.specs.Whole.{IsMember, AreMembers, IsGroup, AreWhole}
use Rattle.share_members.proofs.Entries.{OrNone, each_insert, each_remove, each_filter, each_lookup, each_changed, sorted_remove, sorted_filter, sorted_insert, insert_few, insert_same, remove_few}

-- ---- subscriptions

less : (low place : ℕ) → low < place → nat_cmp low place ≡ Less
less low place lt = rw (lt-ltb low place lt) refl

module _ (names : List (List ℕ)) where
  above_named : (low place : ℕ) (topics : List Topic) → low < place → AllByRecursion (λ p. nat_cmp low p ≡ Less) (places_named names place topics)
  above_named low place [] lt = tt
  above_named low place (topic ∷ topics) lt = by (list_any (λ name. bytes_eq name topic.name) names) (above_named low (place + 1) topics (omega arith)) where
    by : (b : Bool) → AllByRecursion (λ p. nat_cmp low p ≡ Less) (places_named names (place + 1) topics)
        → AllByRecursion (λ p. nat_cmp low p ≡ Less) (if b then place ∷ places_named names (place + 1) topics else places_named names (place + 1) topics)
    by true rest = (less low place lt, rest)
    by false rest = rest

  pub rising_named : (place : ℕ) (topics : List Topic) → IsStrictlySortedBy nat_cmp (places_named names place topics)
  unfolding IsStrictlySortedBy
  rising_named place [] = tt
  rising_named place (topic ∷ topics) = by (list_any (λ name. bytes_eq name topic.name) names) (rising_named (place + 1) topics) where
    by : (b : Bool) → IsStrictlySortedBy nat_cmp (places_named names (place + 1) topics)
        → IsStrictlySortedBy nat_cmp (if b then place ∷ places_named names (place + 1) topics else places_named names (place + 1) topics)
    by true rest = (above_named place (place + 1) topics (omega arith), rest)
    by false rest = rest

  hosted_named : (bound place : ℕ) (topics : List Topic) → place + length topics ≤ bound → AllByRecursion (λ p. p < bound) (places_named names place topics)
  hosted_named bound place [] le = tt
  hosted_named bound place (topic ∷ topics) le = by (list_any (λ name. bytes_eq name topic.name) names) (hosted_named bound (place + 1) topics (omega arith)) where
    by : (b : Bool) → AllByRecursion (λ p. p < bound) (places_named names (place + 1) topics)
        → AllByRecursion (λ p. p < bound) (if b then place ∷ places_named names (place + 1) topics else places_named names (place + 1) topics)
    by true rest = (omega arith, rest)
    by false rest = rest

record ArePlaces (topics : ℕ) (places : List ℕ) : Type 0 where
  rising : IsStrictlySortedBy nat_cmp places
  hosted : AllByRecursion (λ place. place < topics) places

no_places : (topics : ℕ) → ArePlaces topics []
unfolding IsStrictlySortedBy
no_places topics = record { rising = tt; hosted = tt }

named : (names : List (List ℕ)) (topics : List Topic) → ArePlaces (length topics) (places_named names 0 topics)
named names topics = record { rising = rising_named names 0 topics; hosted = hosted_named names (length topics) 0 topics (omega arith) }

-- what a member subscribes to afterwards
subscription : (topics : List Topic) (names : Option (List (List ℕ))) (known : Option Member) → OrNone (IsMember (length topics)) known
    → ArePlaces (length topics) (unwrap_or (new_subscription topics names known) (unwrap_or known no_member).topics)
subscription topics None None h = no_places (length topics)
subscription topics None (Some member) h = record { rising = h.rising; hosted = h.hosted }
subscription topics (Some names) None h = named names topics
subscription topics (Some names) (Some member) h = by (pointwise nat_eq (places_named names 0 topics) member.topics) where
  by : (b : Bool) → ArePlaces (length topics) (unwrap_or (if b then None else Some (places_named names 0 topics)) member.topics)
  by true = record { rising = h.rising; hosted = h.hosted }
  by false = named names topics

-- ---- members

no_members : (topics : ℕ) → AreMembers topics []
unfolding IsStrictlySortedBy
no_members topics = record { few = omega arith; order = tt; each = tt }

with_one : (topics : ℕ) (id : List ℕ) (member : Member) (members : Members) → AreMembers topics members → IsMember topics member
    → length (with_member id member members) ≤ most_members → AreMembers topics (with_member id member members)
with_one topics id member members all one few = record {
  few = few;
  order = sorted_insert id_cmp nat_list_cmp_total id member members all.order;
  each = each_insert (IsMember topics) id_cmp id member members all.each one;
}

without : (topics : ℕ) (id : List ℕ) (group : GroupParts) → AreMembers topics group.members → AreMembers topics (left id group).members
without topics id group all = record {
  few = omega (arith, remove_few id_cmp nat_list_cmp_total (is_at (id_cmp id)) group.members, all.few);
  order = sorted_remove id_cmp nat_list_cmp_total (is_at (id_cmp id)) group.members all.order;
  each = each_remove (IsMember topics) (is_at (id_cmp id)) group.members all.each;
}

not_refused : (b : Bool) (code : Code) (rest : Option Code) → cond b (Some code) rest ≡ None → (b ≡ false) × (rest ≡ None)
not_refused true code rest e = absurd (cc)
not_refused false code rest e = (refl, e)

-- a group that is full takes no further member
room : (request : HeartbeatRequest) (group : GroupParts) (member : Member) (topics : ℕ) → AreMembers topics group.members → refusal request group ≡ None
    → length (with_member request.member_id member group.members) ≤ most_members
room request group member topics all granted = go (member_at request.member_id group.members) refl (not_refused _ _ _ granted).1 where
  go : (known : Option Member) → member_at request.member_id group.members ≡ known
      → member_refusal request.member_epoch (member_at request.member_id group.members) (length group.members) ≡ None
      → length (with_member request.member_id member group.members) ≤ most_members
  go (Some old) is e = omega (arith, insert_same id_cmp nat_list_cmp_total request.member_id member old group.members all.order is, all.few)
  go None is e =
      let absent = sym (ap (λ o. member_refusal request.member_epoch o (length group.members)) is) ∙ e in
      let full : nat_le most_members (length group.members) ≡ false =
      (not_refused (nat_le most_members (length group.members)) GROUP_MAX_SIZE_REACHED None
      (not_refused (not (int_eq request.member_epoch joining)) UNKNOWN_MEMBER_ID _ absent).1).0 in
      let below : length group.members < most_members = leb-false most_members (length group.members) full in
      omega (arith, insert_few id_cmp nat_list_cmp_total request.member_id member group.members, below)

stayed : (topics : List Topic) (moment : ℕ) (request : HeartbeatRequest) (group : GroupParts) → AreMembers (length topics) group.members
    → refusal request group ≡ None → AreMembers (length topics) (stays topics moment request group).group.members
unfolding stays
stayed topics moment request group all granted =
    let known = each_lookup (IsMember (length topics)) (is_at (id_cmp request.member_id)) group.members all.each in
    let places = subscription topics request.subscribed_topic_names (member_at request.member_id group.members) known in
    with_one (length topics) request.member_id _ group.members all (record { rising = places.rising; hosted = places.hosted })
    (room request group _ (length topics) all granted)

-- ---- groups

record AreGroups (topics : ℕ) (groups : Groups) : Type 0 where
  order : IsStrictlySortedBy id_cmp (keys_of groups)
  each : AllByRecursion (λ group. IsGroup topics group.1) groups

members_at : (topics : ℕ) (id : List ℕ) (groups : Groups) → AreGroups topics groups → AreMembers topics (group_at id groups).members
members_at topics id groups all = go (lookup (is_at (id_cmp id)) groups) (each_lookup (IsGroup topics) (is_at (id_cmp id)) groups all.each) where
  go : (o : Option GroupParts) → OrNone (IsGroup topics) o → AreMembers topics (unwrap_or o no_group).members
  go None h = no_members topics
  go (Some group) h = h.members

put : (topics : ℕ) (id : List ℕ) (epoch : ℤ) (members : Members) (groups : Groups) → AreGroups topics groups → AreMembers topics members
    → AreGroups topics (put_group id epoch members groups)
put topics id epoch [] groups all some = record {
  order = sorted_remove id_cmp nat_list_cmp_total (is_at (id_cmp id)) groups all.order;
  each = each_remove (IsGroup topics) (is_at (id_cmp id)) groups all.each;
}
put topics id epoch (member ∷ members) groups all some = record {
  order = sorted_insert id_cmp nat_list_cmp_total id (record { epoch = epoch; members = member ∷ members }) groups all.order;
  each = each_insert (IsGroup topics) id_cmp id (record { epoch = epoch; members = member ∷ members }) groups all.each
      (record { some = omega arith; members = some });
}

done : (topics : List Topic) (moment : ℕ) (request : HeartbeatRequest) (groups : Groups) → AreGroups (length topics) groups
    → refusal request (group_at request.group_id groups) ≡ None
    → AreGroups (length topics) (with_group request.group_id (does topics moment request (group_at request.group_id groups)).group groups)
done topics moment request groups all granted = by (int_eq request.member_epoch leaving) (members_at (length topics) request.group_id groups all) where
  by : (b : Bool) → AreMembers (length topics) (group_at request.group_id groups).members
      → AreGroups (length topics) (with_group request.group_id
      (if b then leaves request (group_at request.group_id groups) else stays topics moment request (group_at request.group_id groups)).group groups)
  by true members = put (length topics) request.group_id (left request.member_id (group_at request.group_id groups)).epoch
      (left request.member_id (group_at request.group_id groups)).members groups all
      (without (length topics) request.member_id (group_at request.group_id groups) members)
  by false members = put (length topics) request.group_id (stays topics moment request (group_at request.group_id groups)).group.epoch
      (stays topics moment request (group_at request.group_id groups)).group.members groups all
      (stayed topics moment request (group_at request.group_id groups) members granted)

heartbeat_groups : (topics : List Topic) (moment : ℕ) (request : HeartbeatRequest) (groups : Groups) → AreGroups (length topics) groups
    → AreGroups (length topics) (heartbeat_in topics moment request groups).groups
heartbeat_groups topics moment request groups all = go (refusal request (group_at request.group_id groups)) refl where
  go : (r : Option Code) → refusal request (group_at request.group_id groups) ≡ r
      → AreGroups (length topics) (outcome r request.group_id (does topics moment request (group_at request.group_id groups)) groups).groups
  go (Some code) is = all
  go None is = done topics moment request groups all is

-- ---- expiry

some_members : (members : Members) → not (length members == 0) ≡ true → 1 ≤ length members
some_members [] full = absurd (cc)
some_members (member ∷ members) full = omega arith

expired_group : (topics moment : ℕ) (group : GroupParts) → AreMembers topics group.members → not (length (group_expired moment group).members == 0) ≡ true
    → IsGroup topics (group_expired moment group)
expired_group topics moment group all full = record {
  some = some_members (group_expired moment group).members full;
  members = record {
    few = omega (arith, length-filter_both (is_due moment) (λ member. not (is_due moment member)) (λ member. refl) group.members, all.few);
    order = sorted_filter id_cmp nat_list_cmp_total (λ member. not (is_due moment member)) group.members all.order;
    each = each_filter (IsMember topics) (λ member. not (is_due moment member)) group.members all.each;
  };
}

expired_groups : (topics moment : ℕ) (groups : Groups) → AreGroups topics groups → AreGroups topics (groups_expired moment groups)
expired_groups topics moment groups all = record {
  order = sorted_filter id_cmp nat_list_cmp_total has_members (map (λ group. (group.0, group_expired moment group.1)) groups)
      (rw (keys_of-map_values (group_expired moment) groups) all.order);
  each = each_changed (IsGroup topics) (IsGroup topics) (group_expired moment) has_members
      (λ group is full. expired_group topics moment group.1 is.members full) groups all.each;
}

-- ---- all

pub nothing_is_whole : (topics : List Topic) (clock : ℕ) → AreWhole (record { topics = topics; clock = clock; groups = [] })
unfolding IsStrictlySortedBy
nothing_is_whole topics clock = record { order = tt; each = tt }

pub whole_after_heartbeat : (now : ℕ) (request : HeartbeatRequest) (old : Memberships) → AreWhole old → AreWhole (heartbeat_step now request old).after
whole_after_heartbeat now request old whole =
    let groups = heartbeat_groups old.topics (max old.clock now) request old.groups (record { order = whole.order; each = whole.each }) in
    record { order = groups.order; each = groups.each }

pub whole_after_expiry : (now : ℕ) (old : Memberships) → AreWhole old → AreWhole (expire_step now old)
whole_after_expiry now old whole =
    let groups = expired_groups (length old.topics) (max old.clock now) old.groups (record { order = whole.order; each = whole.each }) in
    record { order = groups.order; each = groups.each }
