use Rattle.std.proofs.Common.{◌≡◌, ℕ, List, OnOk, subst}
use Rattle.gen_load.proofs.Texts.{expiry_line}
use Rattle.gen_load.proofs.lines.put_expiry.Goals as goal

pub returns : goal.returns
returns c =
    let whole = expiry_line _ _ _ _ c.in_ok-put.ensures.ok (rw c.moment_of.ensures at c.in_ok-put_number.ensures.ok) in
    subst (λ (l : List ℕ). OnOk c.put-2.result (c.put-2.new.self ≡ l)) whole c.put-2.ensures.ok
