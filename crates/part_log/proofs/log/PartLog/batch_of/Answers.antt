use Rattle.std.proofs.Common.{◌≤◌, List, subst, ap, arith}
use Rattle.std.specs.Prelude.{MatchOption}
use Rattle.share_model.specs.Logs.{IsSlot}
use Rattle.part_log.specs.Starts.{IsSlotOf}
use Rattle.log_index.specs.Indexes.{log_of as entries_log}
use Rattle.log_index.specs.Indexes.{IsPlaceOf as IsPlaceIn}
use Rattle.log_index.specs.declared.entry.Entry.{Entry}
use Rattle.part_log.specs.Holding.{kept_in, log_of}
use Rattle.part_log.specs.Logs.{IsPlaceOf, LogParts, log_in}
use Rattle.part_log.proofs.Indexing.{place_of_log, place_there}
use Rattle.part_log.proofs.log.PartLog.batch_of.Goals as goal

pub returns-then-offset-self : goal.returns-then-offset-self
returns-then-offset-self g c = λ s.
    let at = ap (λ (v : LogParts g.row.D.Denot). v.start) c.self.view_is in omega (arith, s.0, c.if-offset-self.true, at)

pub returns : goal.returns
returns g c =
    let frames = kept_in c.self.inside.seen.frames in
    let r = c.batch_of.result in
    let at = c.args.offset in
    subst (λ (v : LogParts g.row.D.Denot). MatchOption r (IsSlotOf (log_in v) at → ⊥) (λ place. (v.start ≤ at) × IsPlaceOf v.batches at place)) c.self.view_is
    (place_of_log (log_of c.self.inside.seen.frames c.self.inside.start) at r (omega (arith, c.if-offset-self.false))
    (place_there frames at r (subst (λ (es : List Entry). MatchOption r (IsSlot (entries_log es) at → ⊥) (IsPlaceIn es at)) c.self.invariant.indexed.entries c.batch_of.ensures)))
