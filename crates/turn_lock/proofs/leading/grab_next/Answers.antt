use Rattle.std.proofs.Common.{rules, ◌≡◌, ◌-◌, ◌++◌, ◌∷◌, [], sym, subst, ap}
use Rattle.turn_lock.specs.Rule.{HasBoxes, IsLeading}
use Rattle.turn_lock.proofs.Tops.{grabs_on}
use Rattle.turn_lock.proofs.leading.grab_next.Goals as goal

pub returns-in-Some-clause-boxes : goal.returns-in-Some-clause-boxes
returns-in-Some-clause-boxes g c = λ old h. let more : c.push_reserved.new.self.items ≡ c.args.asks.now.items ++ (c.args.word - 1, c.in-Some.event) ∷ [] = search rules in
    grabs_on c.args.word old c.args.place.now.me c.grab_one.new.place.me c.in-Some.event c.args.asks.now.items c.push_reserved.new.self.items c.in-Some.ensures.some more h

pub returns-in-Some-clause-leads : goal.returns-in-Some-clause-leads
returns-in-Some-clause-leads g c = let x = c.in-Some.ensures.some in (x.1, x.2 ++ (x.0, c.in-Some.event) ∷ [], ap (λ m. m.0.role) x.5)

pub returns-in-None-clause-boxes : goal.returns-in-None-clause-boxes
returns-in-None-clause-boxes g c = λ old h. subst (λ m. HasBoxes old m c.args.asks.now.items) (sym c.in-None.ensures.none) h

pub returns-in-None-clause-leads : goal.returns-in-None-clause-leads
returns-in-None-clause-leads g c = subst (λ m. IsLeading m) (sym c.in-None.ensures.none) c.requires.leads
