use Rattle.std.proofs.Common.{subst, arith, ap, ◌∙◌, ℕ}
use Rattle.ack_ranges.specs.Pieces.{piece_at}
use Rattle.share_part.specs.Named.{named_from}
use Rattle.share_part.specs.Settling.{Acts, AreHeldBy, IsChange, change_of}
use Rattle.share_part.proofs.Doing.{ended}
use Rattle.share_part.proofs.Naming.{agreed}
use Rattle.share_part.proofs.Fewer.{held_all}
use Rattle.share_part.proofs.settle.acknowledge.Goals as goal

pub act_on_pieces-missing-requires-clause-spare : goal.act_on_pieces-missing-requires-clause-spare
act_on_pieces-missing-requires-clause-spare g c = let room = c.requires.room in
    held_all (g.W.Window.held c.args.window.now) c.clear.new.self.spare (omega (arith, room, c.clear.ensures.room))

pub returns-in-None-clause-judged : goal.returns-in-None-clause-judged
returns-in-None-clause-judged g c =
    let done = ended c.args.limit c.args.member.now (piece_at c.new-named.result) (g.W.Window.held c.args.window.now) c.act_on_pieces-missing.new.rows.list c.act_on_pieces-missing.result c.in-None.is c.act_on_pieces-missing.ensures.done in
    subst (λ (acts : Acts). AreHeldBy c.args.member.now acts (g.W.Window.held c.args.window.now)
    × IsChange c.args.limit acts c.args.log.now.batches (record { start = c.args.start; rows = c.args.stored.now.list; held = g.W.Window.held c.args.window.now }) (change_of c.moved_by.result c.moved_by.new.rows.list))
    (agreed c.start.result c.args.batches.now c.new-named.result c.new-named.ensures ∙ ap (λ (n : ℕ). named_from n c.args.batches.now) c.start.ensures.value)
    (done.theirs, c.moved_by.ensures.is c.args.limit (piece_at c.new-named.result) (g.W.Window.held c.args.window.now) done.rows_are)
