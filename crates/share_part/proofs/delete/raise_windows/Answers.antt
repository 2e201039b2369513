use Rattle.std.proofs.Common.{◌≡◌, ◌∙◌, ◌+◌, ◌-◌, arith, refl, rules}
use Rattle.share_model.specs.Held.{without_range}
use Rattle.share_part.proofs.Raised.{range_from, windows_raised}
use Rattle.share_part.proofs.delete.raise_windows.Goals as goal

pub returns : goal.returns
returns g c =
    let one : (c.args.start - 1) + 1 ≡ c.args.start = (let some = c.requires in omega (arith, some)) in
    windows_raised _ (λ f. f.0.now ≡ c.args.start - 1) (g.W.Window.held) c.args.start
    (λ f k v b w h i t.
    let ended : g.W.Window.held w ≡ without_range 0 f.0.now (g.W.Window.held v) = search rules in
    let last : f.0.now + 1 ≡ c.args.start = omega (arith, i, one) in
    (search rules, ended ∙ range_from c.args.start f.0.now (g.W.Window.held v) last, search rules))
    _ _ _ refl c.retain.ensures.filtered
