use Rattle.std.proofs.Common.{◌≤◌, ◌≡◌, length, ap, sym, arith}
use Rattle.edge_mem.specs.Events.{Wrote, content_of}
use Rattle.edge_mem.specs.Laws.{next_wrote}
use Rattle.edge_mem.specs.Past.{content}
use Rattle.edge_mem.specs.Sound.{state_of}
use Rattle.edge_mem.proofs.Sounds.{changed_sound, view_then}
use Rattle.edge_mem.proofs.history.History.write.Goals as goal

pub invariant_of-self-2 : goal.invariant_of-self-2
invariant_of-self-2 c =
    let same : content c.args.self.now ≡ content_of (state_of c.self.inside.first.items c.self.inside.log.items) = sym (ap content c.self.view_is) in
    let le : c.args.place ≤ length (content_of (state_of c.self.inside.first.items c.self.inside.log.items)) = omega (arith, c.requires, ap length same) in
    changed_sound _ _ _ _ _ _ c.self.invariant _ (Wrote c.args.place c.args.bytes.now) _ c.in_ok-write_step.ensures.log
    (next_wrote _ _ _ le) c.in_ok-write_step.ensures.content

pub returns-clause-ok : goal.returns-clause-ok
returns-clause-ok c = view_then _ _ _ _ _ c.self.view_is c.in_ok-write_step.ensures.log
