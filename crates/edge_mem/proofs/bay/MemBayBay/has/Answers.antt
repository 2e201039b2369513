use Rattle.std.proofs.Common.{◌≡◌, sym, ap, ◌∙◌, is_some}
use Rattle.edge_mem.specs.Bays.{BayState, found}
use Rattle.edge_mem.proofs.Slots.{is_there, untouched}
use Rattle.edge_mem.proofs.bay.MemBayBay.has.Goals as goal

there : (c : goal.After-is_some) → c.is_some.result ≡ is_some (found c.args.self.now.slots c.args.name.now)
there c = c.is_some.ensures
    ∙ is_there c.self.inside.slots.items _ c.args.name.now _ _ c.deref.ensures.value c.as_bytes.ensures.same c.position.ensures.at
    ∙ ap (λ (b : BayState). is_some (found b.slots c.args.name.now)) c.self.view_is

pub returns-clause-there : goal.returns-clause-there
returns-clause-there c = there c

pub returns-clause-empty : goal.returns-clause-empty
returns-clause-empty c = λ none. untouched (found c.args.self.now.slots c.args.name.now) (sym (there c) ∙ none)
