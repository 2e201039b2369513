use Rattle.std.proofs.Common.{◌∙◌, refl, sym, arith}
use Rattle.share_part.proofs.Gathering.{lengthened, closed, opened}
use Rattle.share_part.proofs.collector.Collector.add.Goals as goal

pub returns-in_default-clause-takes : goal.returns-in_default-clause-takes
returns-in_default-clause-takes c = λ log walk below h. opened log c.args.self.now _ walk c.args.slot c.args.last c.args.count h c.requires.order (below, c.requires.count)
    (omega (arith, c.with_records-self.ensures.left.0, c.requires.order)) c.with_records-self.ensures.left.1 c.with_records-self.ensures.left.2
    (omega (arith, c.with_records-self.ensures.taken.0, c.requires.order)) c.with_records-self.ensures.taken.1 refl refl
    c.in_default.is refl refl

pub returns-then-goes_on-clause-takes : goal.returns-then-goes_on-clause-takes
returns-then-goes_on-clause-takes c = λ log walk below h. lengthened log c.args.self.now _ walk c.args.slot c.args.last c.args.count h c.requires.order (below, c.requires.count)
    (omega (arith, c.with_records-self.ensures.left.0, c.requires.order)) c.with_records-self.ensures.left.1 c.with_records-self.ensures.left.2
    (omega (arith, c.with_records-self.ensures.taken.0, c.requires.order)) c.with_records-self.ensures.taken.1 refl refl
    c.in-Some.before c.in-Some.is (sym (c.goes_on.ensures c.args.last) ∙ c.if-goes_on.true) refl refl

pub returns-clause-takes : goal.returns-clause-takes
returns-clause-takes c = λ log walk below h. closed log c.args.self.now _ walk c.args.slot c.args.last c.args.count h c.requires.order (below, c.requires.count)
    (omega (arith, c.with_records-self.ensures.left.0, c.requires.order)) c.with_records-self.ensures.left.1 c.with_records-self.ensures.left.2
    (omega (arith, c.with_records-self.ensures.taken.0, c.requires.order)) c.with_records-self.ensures.taken.1 refl refl
    c.in-Some.before c.in-Some.is (sym (c.goes_on.ensures c.args.last) ∙ c.if-goes_on.false) c.in_ok-push.ensures.items refl
