-- ListGroups in hand (KIP-932 and Kafka's message schemas, ListGroupsRequest and ListGroupsResponse, version 5): the share groups that
-- are there, in byte order of their ids, Stable where they have members, and Empty where they have a table alone. Filters are read
-- whatever the case of their letters, as Kafka's tools ask for the type `Share`, and one without texts has each. No group of another
-- type is there.
-- For example where `b` has members and `a` and `b` have tables, `a` is Empty and `b` is Stable, and with the states filter `stable`
-- `b` alone is listed (layer_rows, `groups by their ids, and those of one state`).
use Rattle.std.specs.Prelude.{◌++◌, ℕ, ℤ, pos, Bool, ◌||◌, ◌&&◌, ◌==◌, length, List, [], ◌∷◌, map, codes, if◌then◌else◌}
use Rattle.std.specs.List.{list_any, range_with_len}
use Rattle.std.specs.Ordering.{nat_cmp}
use Rattle.std.specs.Cmp.Lexicographic.{slice_cmp}
use Rattle.std.specs.BTreeMap.{insert_entry}
use Rattle.std.specs.Str.{str_eq_ignore_ascii_case}
use Rattle.share_model.specs.ErrorCodes.{NONE}
use Rattle.msgs_admin.specs.declared.list_groups_reply.ListedGroup.{ListedGroup}
use Rattle.msgs_admin.specs.declared.list_groups_request.ListGroupsRequest.{ListGroupsRequest}
use Rattle.msgs_admin.specs.ListGroupsReply.{list_groups_reply}
use Rattle.call_fold.specs.declared.call.Entry.{Entry}
use Rattle.call_fold.specs.declared.call.Entry.TheVariants.{Ask}
use Rattle.group_calls.specs.declared.listing.GroupState.{GroupState}
use Rattle.group_calls.specs.declared.listing.GroupState.TheVariants.{Empty, Stable}
use Rattle.group_calls.specs.declared.listing.GroupsAsk.{GroupsAsk}
use Rattle.group_calls.specs.declared.listing.GroupsAsk.TheVariants.{Tables, Members}
use Rattle.group_calls.specs.declared.listing.GroupsRow.{GroupsRow}
use Rattle.group_calls.specs.declared.listing.Wanted.{Wanted}

-- ---- what is asked

abbrev pub has_word : List (List ℕ) → List ℕ → Bool
has_word filter word = list_any (λ one. str_eq_ignore_ascii_case one word) filter

abbrev pub passes : List (List ℕ) → List ℕ → Bool
passes filter word = (length filter == 0) || has_word filter word

abbrev pub state_text : GroupState → List ℕ
state_text Empty = codes "Empty"
state_text Stable = codes "Stable"

abbrev pub wanted_of : ListGroupsRequest → Wanted
wanted_of request = record {
  empty = passes request.types_filter (codes "share") && passes request.states_filter (codes "Empty");
  stable = passes request.types_filter (codes "share") && passes request.states_filter (codes "Stable");
}

-- the shards of all partitions, and then that of the members
abbrev pub tables_entry : ℕ → Entry GroupsAsk GroupsRow
tables_entry shard = Ask (Tables shard)

abbrev pub groups_entries : ℕ → List (Entry GroupsAsk GroupsRow)
groups_entries shards = map tables_entry (range_with_len 0 shards) ++ Ask Members ∷ []

-- ---- the groups that are there, each by its id, in byte order of ids

abbrev pub Groups : Type 0
Groups = List (List ℕ × GroupState)

abbrev pub with_names : GroupState → List (List ℕ) → Groups → Groups
with_names state [] groups = groups
with_names state (name ∷ names) groups = with_names state names (insert_entry (slice_cmp nat_cmp) groups name state)

-- the members come last, so that who has some is Stable
abbrev pub with_rows : List GroupsRow → Groups → Groups
with_rows [] groups = groups
with_rows (row ∷ rows) groups = with_rows rows (with_names row.state row.names groups)

-- ---- the reply

abbrev pub wants : Wanted → GroupState → Bool
wants wanted Empty = wanted.empty
wants wanted Stable = wanted.stable

abbrev pub listed_group : List ℕ → GroupState → ListedGroup
listed_group name state = record {
  group_id = name;
  protocol_type = codes "share";
  group_state = state_text state;
  group_type = codes "share";
}

abbrev pub listed_groups : Wanted → Groups → List ListedGroup
listed_groups wanted [] = []
listed_groups wanted (group ∷ groups) =
    if wants wanted group.1 then listed_group group.0 group.1 ∷ listed_groups wanted groups else listed_groups wanted groups

abbrev pub groups_reply : Wanted → List GroupsRow → List ℕ
groups_reply wanted rows = list_groups_reply.bytes (record {
  throttle_time_ms = pos 0;
  error_code = NONE.0;
  groups = listed_groups wanted (with_rows rows []);
})
