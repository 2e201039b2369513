use Rattle.std.proofs.Common.{◌≡◌, ◌∙◌, ◌<◌, ◌+◌, ◌-◌, ◌++◌, ◌∷◌, [], take, drop, sym, ap, arith}
use Rattle.call_fold.proofs.Steps.{took, dropped}
use Rattle.call_fold.proofs.rows.next_rows.Goals as goal

pub loop-preserved : goal.loop-preserved
loop-preserved g c =
    let count = c.args.count in
    let at = c.loop.counter in
    let row = c.in-Some.row in
    let rest = c.pop_front.new.self.items in
    let first = c.loop.first.items in
    let all = c.args.rows.now.items in
    let lt : at < count = omega arith in
    let taken : first ++ take (count - at) (row ∷ rest) ≡ take count all =
    ap (λ l. first ++ take (count - at) l) (sym c.in-Some.ensures.items) ∙ c.loop.invariant.first in
    let left : drop (count - at) (row ∷ rest) ≡ drop count all = ap (drop (count - at)) (sym c.in-Some.ensures.items) ∙ c.loop.invariant.left in
    let pushed : c.push.new.self.items ≡ first ++ row ∷ [] = c.in_ok-push.ensures.items in
    record {
      first = ap (λ l. l ++ take (count - (at + 1)) rest) pushed ∙ took count at row rest first (take count all) lt taken;
      left = dropped count at row rest (drop count all) lt left;
      few = omega (arith, c.in_ok-push.ensures.len, c.loop.invariant.few);
    }
