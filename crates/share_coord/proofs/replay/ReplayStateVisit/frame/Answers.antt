use Rattle.std.proofs.Common.{◌≡◌, ◌∙◌, ap, subst, [], ◌∷◌, Ok, Option}
use Rattle.std.specs.Option.{IfSome}
use Rattle.checkpoint_journal.specs.Generations.{mark_of}
use Rattle.share_coord.specs.Stored.{AreAccepted, records_from, walked}
use Rattle.share_coord.specs.declared.walk.Walk.{Walk}
use Rattle.share_coord.proofs.Replaying.{refused_now, replays_more}
use Rattle.share_coord.proofs.replay.ReplayStateVisit.frame.Goals as goal

pub invariant_of-self-in_default-2 : goal.invariant_of-self-in_default-2
invariant_of-self-in_default-2 c =
    refused_now c.self.inside.seen.frames c.with-seen.result.frames c.self.inside.table.entries c.self.inside.walk c.self.inside.refused c.self.invariant c.in_default.is
    c.args.place c.args.bytes.now c.with-seen.ensures (c.take_frame.ensures.refused (c.in_ok-next.was ∙ ap Ok c.in_default-2.is))

pub invariant_of-self-2 : goal.invariant_of-self-2
invariant_of-self-2 c =
    let walk = c.self.inside.walk in
    let old = c.self.inside.table.entries in
    let new = c.take_frame.new.table.entries in
    let bytes = c.args.bytes.now in
    let next = subst (λ (o : Option Walk). IfSome o (λ w. (w ≡ walked walk (mark_of bytes)) × AreAccepted old (records_from walk (bytes ∷ [])) new))
    c.in-Some-2.is c.in_ok-next.ensures.taken in
    replays_more c.self.inside.seen.frames c.with-seen.result.frames old walk c.self.inside.refused c.self.invariant c.in_default.is
    c.args.place bytes c.with-seen.ensures new c.in-Some-2.next next.0 next.1
