use Rattle.std.proofs.Common.{arith, sym, subst}
use Rattle.share_model.specs.Runs.{IsCanonical}
use Rattle.share_model.specs.declared.run.Run.{Run}
use Rattle.offset_runs.proofs.Puts.{put_over-canonical, put_over-rows}
use Rattle.offset_runs.proofs.runs.Runs.put_reserved.Goals as goal

pub invariant_of-self : goal.invariant_of-self
invariant_of-self c =
    let middle : Run = record { first = c.args.first; last = c.args.last; state = c.args.row.state; count = c.args.row.count } in
    subst IsCanonical (sym c.put_over.ensures.runs) (put_over-canonical c.self.inside.list.items middle c.self.invariant (omega arith))

pub returns-clause-put : goal.returns-clause-put
returns-clause-put c =
    let middle : Run = record { first = c.args.first; last = c.args.last; state = c.args.row.state; count = c.args.row.count } in
    rw (c.put_over.ensures.runs, ← c.self.view_is) (put_over-rows c.self.inside.list.items middle c.self.invariant (omega arith))
