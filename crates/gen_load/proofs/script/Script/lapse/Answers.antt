use Rattle.std.proofs.Common.{arith}
use Rattle.gen_load.proofs.Adding.{adds_each, adds_no, then_ok}
use Rattle.gen_load.proofs.Few.{few_on}
use Rattle.gen_load.proofs.script.Script.lapse.Goals as goal

pub returns-then-round-ne0 : goal.returns-then-round-ne0
returns-then-round-ne0 c = adds_no 7 c.args.round _ _ c.if-round-ne0.true

pub fetch-requires : goal.fetch-requires
fetch-requires c = few_on 1000020 2000000 _ _ _ c.requires c.in_ok-expire.ensures (omega arith)

pub returns : goal.returns
returns c = adds_each 7 c.args.round _ _ _ c.fetch.result c.if-round-ne0.false
    (then_ok _ _ _ _ _ c.fetch.result c.in_ok-expire.ensures c.fetch.ensures)
