use Rattle.std.proofs.Common.{◌≡◌, ◌∙◌, [], ◌∷◌, Some, None, Vec, Global, ap, rules}
use Rattle.std.specs.Map.{lookup, set_value}
use Rattle.std.specs.Str.{bytes_eq}
use Rattle.indexmap.specs.IndexMap.{insert_entry}
use Rattle.msgs_share.specs.declared.share_fetch_reply.FetchedPartition.{FetchedPartition}
use Rattle.share_calls.proofs.Grouping.{shown, put_there, put_last}
use Rattle.share_calls.proofs.groups.put_row.Goals as goal

pub returns-in-Some : goal.returns-in-Some
returns-in-Some c =
    let es = c.args.groups.now.entries in
    let id = c.args.row.topic_id in
    let after = c.push.new.self in
    let items = λ (v : Vec FetchedPartition Global). v.items in
    let wrote : (c.get_mut.follows.lender after).entries ≡ set_value (bytes_eq id) es after = (c.get_mut.follows.holds after).0 in
    let found : lookup (bytes_eq id) es ≡ Some c.in-Some.partitions.now = search rules in
    ap (shown items) wrote ∙ put_there items id c.args.row.partition es c.in-Some.partitions.now after found c.in_ok-push.ensures.items

pub returns : goal.returns
returns c =
    let es = c.args.groups.now.entries in
    let id = c.args.row.topic_id in
    let last = c.push-2.new.self in
    let items = λ (v : Vec FetchedPartition Global). v.items in
    let same : c.get_mut.follows.lender-at-none.entries ≡ es = search rules in
    let none : lookup (bytes_eq id) es ≡ None = search rules in
    let one : last.items ≡ c.args.row.partition ∷ [] = search rules in
    let put : c.insert.new.self.entries ≡ insert_entry bytes_eq es id last =
    c.in_ok-insert.ensures.entries ∙ ap (λ l. insert_entry bytes_eq l id last) same in
    ap (shown items) put ∙ put_last items id c.args.row.partition es last none one
