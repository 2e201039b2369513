use Rattle.std.proofs.Common.{◌≡◌, Some, cond, sym, ap, ◌∙◌, rules}
use Rattle.std.specs.Map.{set_value, remove_entry}
use Rattle.conn_core.specs.Conns.{is_gone}
use Rattle.broker_model.specs.Machine.{named, conn_at, left, ended_in}
use Rattle.broker_core.proofs.Stepping.{left_at}
use Rattle.broker_core.proofs.client.disconnect.Goals as goal

pub returns-in-Some : goal.returns-in-Some
returns-in-Some c =
    let es = c.args.clients.now.entries in
    let after = c.end.new.self in
    let kept = (c.get_mut.follows.lender after).entries in
    let wrote : kept ≡ set_value (named c.args.id) es after = (c.get_mut.follows.holds after).0 in
    let found : conn_at c.args.id es ≡ Some c.in-Some.conn.now = search rules in
    let gone : c.is_gone-gone.result ≡ is_gone after = search rules in
    let went : c.let_go.new.clients.entries ≡ cond (is_gone after) (remove_entry (named c.args.id) kept) kept = search rules in
    went ∙ ap (λ l. cond (is_gone after) (remove_entry (named c.args.id) l) l) wrote
    ∙ left_at c.args.id after c.in-Some.conn.now es found
    ∙ ap (λ x. left c.args.id x es) c.end.ensures
    ∙ sym (ap (λ o. ended_in c.args.id o es) found)
