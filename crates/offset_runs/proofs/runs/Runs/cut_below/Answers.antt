use Rattle.std.proofs.Common.{sym, subst}
use Rattle.share_model.specs.Runs.{IsCanonical}
use Rattle.offset_runs.proofs.Cuts.{from_on-canonical, from_on-row_at}
use Rattle.offset_runs.proofs.runs.Runs.cut_below.Goals as goal

pub invariant_of-self : goal.invariant_of-self
invariant_of-self c = subst IsCanonical (sym c.cut_front.ensures.runs) (from_on-canonical c.self.inside.list.items c.args.offset c.self.invariant)

pub returns-clause-cut : goal.returns-clause-cut
returns-clause-cut c = rw (c.cut_front.ensures.runs, ← c.self.view_is) (λ o. from_on-row_at c.self.inside.list.items c.args.offset o c.self.invariant)
