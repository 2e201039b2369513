use Rattle.std.proofs.Common.{arith, [], ◌∷◌}
use Rattle.share_model.specs.declared.ack.AckKind.TheVariants.{Release}
use Rattle.gen_load.specs.Session.Act.{expires, fetches, settles}
use Rattle.gen_load.proofs.Adding.{adds_then, then_ok}
use Rattle.gen_load.proofs.Few.{few_each, few_on}
use Rattle.gen_load.proofs.script.Script.round.Goals as goal

pub fetch-requires : goal.fetch-requires
fetch-requires c = few_on 1000000 2000000 _ _ _ c.requires c.in_ok-produce.ensures (omega arith)

pub release-requires : goal.release-requires
release-requires c =
    let two = adds_then _ _ _ _ _ c.in_ok-produce.ensures c.in_ok-fetch.ensures in
    few_on 1000000 1000010 _ _ _ c.requires two (omega arith)

pub lapse-requires : goal.lapse-requires
lapse-requires c =
    few_each 1000010 1000020 3 c.args.round _ _ (settles c.args.round Release ∷ fetches c.args.round ∷ [])
    (let two = adds_then _ _ _ _ _ c.in_ok-produce.ensures c.in_ok-fetch.ensures in few_on 1000000 1000010 _ _ _ c.requires two (omega arith))
    c.in_ok-release.ensures (omega arith)

pub settle-requires : goal.settle-requires
settle-requires c = few_each 1000020 2000000 7 c.args.round _ _ (expires c.args.round ∷ fetches c.args.round ∷ [])
    (few_each 1000010 1000020 3 c.args.round _ _ (settles c.args.round Release ∷ fetches c.args.round ∷ [])
    (let two = adds_then _ _ _ _ _ c.in_ok-produce.ensures c.in_ok-fetch.ensures in few_on 1000000 1000010 _ _ _ c.requires two (omega arith))
    c.in_ok-release.ensures (omega arith))
    c.in_ok-lapse.ensures (omega arith)

pub returns : goal.returns
returns c =
    let settled = rw c.verdict_of.ensures at c.in_ok-settle.ensures in
    let end = then_ok _ _ _ _ _ c.lose_power.result settled c.lose_power.ensures in
    let two = adds_then _ _ _ _ _ c.in_ok-produce.ensures c.in_ok-fetch.ensures in
    then_ok _ _ _ _ _ c.lose_power.result two
    (then_ok _ _ _ _ _ c.lose_power.result c.in_ok-release.ensures
    (then_ok _ _ _ _ _ c.lose_power.result c.in_ok-lapse.ensures end))
