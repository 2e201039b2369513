use Rattle.std.proofs.Common.{◌≡◌, ℕ, List, OnOk, subst}
use Rattle.gen_load.proofs.Texts.{bytes_line}
use Rattle.gen_load.proofs.lines.put_bytes.Goals as goal

pub returns : goal.returns
returns c =
    let whole = bytes_line _ _ _ _ _ _ c.args.conn c.args.size c.args.content.now c.in_ok-put.ensures.ok (rw c.from.ensures at c.in_ok-put_number.ensures.ok)
    c.in_ok-put-2.ensures.ok (rw c.to_be_bytes.ensures at c.in_ok-put_hex.ensures.ok) c.in_ok-put_hex-2.ensures.ok in
    subst (λ (l : List ℕ). OnOk c.put-3.result (c.put-3.new.self ≡ l)) whole c.put-3.ensures.ok
