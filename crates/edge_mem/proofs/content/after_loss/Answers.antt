use Rattle.std.proofs.Common.{◌≡◌, ◌+◌, ◌-◌, ◌≤◌, min, length, take, drop, ap, ◌∙◌, subst, arith, List, IfOk, length-drop}
use Rattle.edge_mem.specs.Events.{Event, replay}
use Rattle.edge_mem.specs.Steps.{changes}
use Rattle.edge_mem.proofs.Sounds.{take_capped, length_changes}
use Rattle.edge_mem.proofs.content.after_loss.Goals as goal

pub returns : goal.returns
returns c =
    let back = c.split_at.ensures.back in
    let long = length_changes (drop c.args.start c.args.log.now) in
    let fits : c.args.kept ≤ length (changes (drop c.args.start c.args.log.now)) = omega
    (arith, long, length-drop c.args.start c.args.log.now, c.requires.kept) in
    let more : c.min-more.result ≡ min c.args.choice (length (changes (drop c.args.start c.args.log.now)) - c.args.kept) = omega
    (arith, c.min-more.ensures, ap length back, long) in
    let same : take (c.args.kept + c.min-more.result) (changes c.split_at.result.1.now) ≡ take (c.args.kept + c.args.choice)
    (changes (drop c.args.start c.args.log.now)) =
    ap (λ (l : List _). take (c.args.kept + c.min-more.result) (changes l)) back
    ∙ take_capped (changes (drop c.args.start c.args.log.now)) c.args.kept c.args.choice c.min-more.result fits more in
    subst (λ (es : List Event). IfOk c.redone.result (λ v. v.items ≡ replay es c.args.era.now)) same c.redone.ensures
