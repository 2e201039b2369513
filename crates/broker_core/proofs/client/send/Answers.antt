use Rattle.std.proofs.Common.{◌≡◌, Some, None, ap, ◌∙◌, rules}
use Rattle.std.specs.Map.{set_value}
use Rattle.conn_core.specs.Conns.{conn_after_bytes}
use Rattle.broker_model.specs.Machine.{named, conn_at}
use Rattle.broker_core.proofs.Stepping.{on_ok, changed_at, changed_none}
use Rattle.broker_core.proofs.client.send.Goals as goal

pub returns-in-None : goal.returns-in-None
returns-in-None c =
    let es = c.args.clients.now.entries in
    let same : c.get_mut.follows.lender-at-none.entries ≡ es = search rules in
    let none : conn_at c.args.id es ≡ None = search rules in
    same ∙ changed_none c.args.id (conn_after_bytes c.args.bytes.now) es none

pub returns-in-Some : goal.returns-in-Some
returns-in-Some c =
    let es = c.args.clients.now.entries in
    let after = c.feed.new.self in
    let wrote : (c.get_mut.follows.lender after).entries ≡ set_value (named c.args.id) es after = (c.get_mut.follows.holds after).0 in
    let found : conn_at c.args.id es ≡ Some c.in-Some.conn.now = search rules in
    on_ok c.feed.result
    (λ e. wrote ∙ ap (set_value (named c.args.id) es) e ∙ changed_at c.args.id (conn_after_bytes c.args.bytes.now) es c.in-Some.conn.now found)
    c.feed.ensures.bytes
