use Rattle.std.proofs.Common.{◌≡◌, List, ℕ, subst, sym}
use Rattle.msgs_base.proofs.Alike.{TellsBehind, tells_behind}
use Rattle.msgs_base.proofs.coordinator_of_all.behind_key.Goals as goal

pub returns : goal.returns
returns c =
    let put = c.in_ok-put_fields.ensures.ok in
    subst (TellsBehind c.args.told.now) (sym c.into_bytes.ensures)
    (tells_behind c.args.told.now c.new-out.result put.0 c.put_fields.new.out c.new-out.ensures put.1 put.2)
