use Rattle.std.proofs.Common.{inl, inr, ◌∙◌, sym}
use Rattle.std.proofs.lemmas.Bool.{false≢true}
use Rattle.tape_merge.proofs.Seeing.{fresh_not, seen_fit, seen_misfit, stale_was}
use Rattle.tape_merge.proofs.matching.see_part.Goals as goal

pub returns-then-not-fresh : goal.returns-then-not-fresh
returns-then-not-fresh c = λ tapes upto count of is h.
    seen_misfit tapes c.args.links.now upto count c.args.seen.now.named.keys c.args.seen.now.least h c.args.link c.args.step c.args.shard of is c.insert.new.self.keys
    c.in_ok-fresh.ensures.updates.0 (inl (stale_was c.in_ok-fresh.fresh _ c.in_ok-fresh.ensures.added c.if-not-fresh.true)) c.lesser-twice.result
    c.lesser-twice.ensures.less c.lesser-twice.ensures.which

pub returns-then-not-asked : goal.returns-then-not-asked
returns-then-not-asked c = λ tapes upto count of is h.
    seen_misfit tapes c.args.links.now upto count c.args.seen.now.named.keys c.args.seen.now.least h c.args.link c.args.step c.args.shard of is c.insert.new.self.keys
    c.in_ok-fresh.ensures.updates.0 (inr (λ asks. false≢true (sym c.if-not-asked.true ∙ c.asks-asked.ensures.1 asks))) c.lesser-strange.result
    c.lesser-strange.ensures.less c.lesser-strange.ensures.which

pub returns : goal.returns
returns c = λ tapes upto count of is h.
    seen_fit tapes c.args.links.now upto count c.args.seen.now.named.keys c.args.seen.now.least h c.args.link c.args.step c.args.shard of is c.insert.new.self.keys
    c.in_ok-fresh.ensures.updates.0 (fresh_not c.in_ok-fresh.fresh _ c.in_ok-fresh.ensures.added c.if-not-fresh.false) (c.asks-asked.ensures.0 c.if-not-asked.false)
