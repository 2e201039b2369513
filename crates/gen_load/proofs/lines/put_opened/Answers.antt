use Rattle.std.proofs.Common.{◌≡◌, ◌++◌, ℕ, List, OnOk, subst, sym}
use Rattle.gen_load.proofs.Texts.{opened_lines}
use Rattle.gen_load.proofs.lines.put_opened.Goals as goal

pub returns : goal.returns
returns c = subst (λ (l : List ℕ). OnOk c.put.result (c.put.new.self ≡ c.args.text.now ++ l)) (sym opened_lines) c.put.ensures.ok
