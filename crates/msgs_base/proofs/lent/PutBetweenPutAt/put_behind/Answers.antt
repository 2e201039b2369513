use Rattle.msgs_base.proofs.Written.{starts_where}
use Rattle.msgs_base.proofs.lent.PutBetweenPutAt.put_behind.Goals as goal

pub returns-clause-ok : goal.returns-clause-ok
returns-clause-ok g c = rw c.is_between.ensures at c.put_where.ensures.ok

pub returns-clause-stands : goal.returns-clause-stands
returns-clause-stands g c = starts_where c.is_between.result (g.T.Versioned.schema c.args.version) _ _ c.args.self.2.now
    c.put_where.result c.put_where.ensures.ok c.put_where.ensures.err
