use Rattle.std.proofs.Common.{◌≡◌, ◌∙◌}
use Rattle.call_fold.proofs.Steps.{known_step, asked_step}
use Rattle.call_fold.proofs.call.known_rows.Goals.{in-Known+in_ok-push_back-in-Known, in-Ask}
use Rattle.call_fold.proofs.call.known_rows.Goals as goal

pub loop-entry-preserved : goal.loop-entry-preserved
loop-entry-preserved g c = elim c.match-entry.branch [
  | in-Known+in_ok-push_back-in-Known w ↦
      let moved : c.match-entry.rows.items ≡ w.push_back.new.self.items = λ i. (w.rows-is i).items in
      known_step c.in-Some.entry w.in-Known.row _ _ _ _ _ w.in-Known.is c.in-Some.ensures.items (moved ∙ w.in_ok-push_back-in-Known.ensures.items) c.loop-entry.invariant
  | in-Ask w ↦
      let same : c.match-entry.rows.items ≡ c.loop-entry.rows.items = λ i. (w.rows-is i).items in
      asked_step c.in-Some.entry w.in-Ask.field-0 _ _ _ _ _ w.in-Ask.is c.in-Some.ensures.items same c.loop-entry.invariant
]
