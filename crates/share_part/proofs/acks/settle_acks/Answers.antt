use Rattle.std.proofs.Common.{◌≡◌, subst, sym, ℕ, List}
use Rattle.coord_checkpoint.specs.Disks.{HasFailed}
use Rattle.share_coord.specs.States.{states_of}
use Rattle.share_model.specs.ForeignRules.{share_state_at}
use Rattle.share_model.specs.declared.ack.AckBatch.{AckBatch}
use Rattle.share_part.specs.Foreseeing.{JudgesGiven}
use Rattle.share_part.specs.Hosting.{key_of}
use Rattle.share_part.specs.Named.{named_from}
use Rattle.share_part.specs.Settling.{held_after}
use Rattle.share_part.specs.Shards.{held_in, with_held}
use Rattle.share_part.specs.Storing.{AcksOnce, SettlesGroup}
use Rattle.share_part.proofs.acks.settle_acks.Goals as goal

pub settle_given-requires-clause-judged : goal.settle_given-requires-clause-judged
settle_given-requires-clause-judged g c = subst (λ (l : List AckBatch). JudgesGiven c.args.conf.now.limit c.args.log.now.start c.args.visit.now.member l c.args.log.now.batches
    (held_in g.W.Window.held c.args.windows.now.entries c.args.visit.now.group)
    (share_state_at (states_of c.args.states.now.entries) (key_of c.args.conf.now c.args.visit.now.group)) c.args.rows.now.list c.args.acks.now)
    (sym c.as_slice.ensures.items) c.requires.judged

pub returns-clause-once : goal.returns-clause-once
returns-clause-once g c =
    let held = held_in g.W.Window.held c.args.windows.now.entries in
    let after = held_in g.W.Window.held c.settle_given.new.windows.entries in
    let group = c.args.visit.now.group in
    subst (λ (l : List AckBatch). AcksOnce c.args.log.now.start l ((c.settle_given.new.states ≡ c.args.states.now) × ((other : List ℕ) → after other ≡ held other))
    (SettlesGroup g.D.Disk.seen (HasFailed g.D.Disk.seen) c.args.conf.now c.args.log.now.batches group c.args.visit.now.member (named_from c.args.log.now.start l) (held group)
    c.args.tidies c.args.states.now c.settle_given.new.states ((other : List ℕ) → after other ≡ held other)
    ((other : List ℕ) → after other ≡ with_held held group (held_after (named_from c.args.log.now.start l) (held group)) other)) c.settle_given.result)
    c.as_slice.ensures.items c.settle_given.ensures.once
