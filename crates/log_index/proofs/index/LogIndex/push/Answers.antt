use Rattle.std.proofs.Common.{◌≤◌, List, sym, subst, arith}
use Rattle.share_model.specs.Logs.{IsLog, end_of}
use Rattle.log_index.specs.Indexes.{IndexParts, log_of}
use Rattle.log_index.specs.declared.entry.Entry.{Entry}
use Rattle.log_index.proofs.Searching.{rises_push}
use Rattle.log_index.proofs.index.LogIndex.push.Goals as goal

pub invariant_of-self-2 : goal.invariant_of-self-2
invariant_of-self-2 c =
    let behind = subst (λ (p : IndexParts). end_of (log_of p.entries) ≤ c.args.base) (sym c.self.view_is) c.requires.behind in
    subst (λ (es : List Entry). IsLog (log_of es)) (sym c.in_ok-push.ensures.items)
    (rises_push 0 c.self.inside.entries.items _ c.self.invariant c.requires.order (omega arith) behind)
