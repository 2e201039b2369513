use Rattle.std.proofs.Common.{◌≡◌, ℕ, List, [], OnOk, subst}
use Rattle.session_script.proofs.Behind.{reply_line}
use Rattle.session_script.proofs.putting.put_reply.Goals as goal

pub returns-clause-ok : goal.returns-clause-ok
returns-clause-ok c =
    let whole = reply_line [] _ _ _ _ _ c.args.conn c.args.frame.now c.in_ok-put.ensures.ok (rw c.from.ensures at c.in_ok-put_number.ensures.ok)
    c.in_ok-put-2.ensures.ok c.in_ok-put_hex.ensures.ok in
    subst (λ (l : List ℕ). OnOk c.put-3.result (c.put-3.new.self ≡ l)) whole c.put-3.ensures.ok
