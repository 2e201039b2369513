use Rattle.std.proofs.Common.{◌≡◌, List, ℕ, ◌++◌, subst}
use Rattle.std.specs.Prelude.{OnOk}
use Rattle.msgs_base.proofs.Spelled.{put_kept}
use Rattle.msgs_base.proofs.texts.TextsWire.put.Goals as goal

pub returns-clause-ok : goal.returns-clause-ok
returns-clause-ok c =
    let items : OnOk c.put_slice.result (c.put_slice.new.self ≡ c.put_array_len.new.self ++ c.self.inside.spelled) =
    subst (λ (l : List ℕ). OnOk c.put_slice.result (c.put_slice.new.self ≡ c.put_array_len.new.self ++ l)) c.as_slice.ensures c.put_slice.ensures.ok in
    rw (← c.self.view_is)
    (put_kept c.put_slice.result c.self.inside.count c.self.inside.spelled c.args.out.now c.put_array_len.new.self c.put_slice.new.self
    c.self.invariant c.in_ok-put_array_len.ensures.ok items)
