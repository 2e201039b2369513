use Rattle.std.proofs.Common.{◌≡◌, ℤ, [], rules, subst, arith, to_z, of_z, w32}
use Rattle.std.proofs.lemmas.Int.{to_z-of_z}
use Rattle.share_calls.specs.Fetch.{fetch_reply}
use Rattle.share_calls.proofs.Replying.{replies}
use Rattle.share_calls.proofs.fetch.reply_with.Goals as goal

pub returns : goal.returns
returns c =
    let put = c.in_ok-put_fields.ensures.ok in
    let no_nodes : c.new-node_endpoints.result ≡ [] = search rules in
    let same : to_z w32 (of_z w32 c.args.lock_ms) ≡ c.args.lock_ms = grind (arith, to_z-of_z) in
    subst (λ (lock_ms : ℤ). c.into_bytes.result ≡ fetch_reply lock_ms c.args.code.0 c.args.responses) same
    (replies (to_z w32 (of_z w32 c.args.lock_ms)) c.args.code.0 c.args.responses c.new-node_endpoints.result c.new-out.result put.0 c.put_fields.new.out
    c.into_bytes.result c.new-out.ensures no_nodes c.into_bytes.ensures put.1 put.2)
