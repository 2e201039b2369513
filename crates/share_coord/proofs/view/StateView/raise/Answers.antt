use Rattle.std.proofs.Common.{◌≡◌, ◌∙◌, rules, sym, ap, subst, true, false, int_lt, to_z, of_z, w64}
use Rattle.std.proofs.lemmas.Int.{to_z-of_z}
use Rattle.share_model.specs.ShareStates.{ShareState}
use Rattle.share_coord.specs.Raising.{raised_to, rises}
use Rattle.share_coord.specs.Views.{ViewParts}
use Rattle.share_coord.proofs.Lifting.{cut_kept, cut_raises, cut_stored, offset_fits}
use Rattle.share_coord.proofs.Raising.{raised_same, rises_below, rises_not}
use Rattle.share_coord.proofs.view.StateView.raise.Goals as goal

pub complete_of-complete-requires : goal.complete_of-complete-requires
complete_of-complete-requires c =
    cut_stored (to_z w64 (of_z w64 c.args.start)) c.self.inside.runs.list c.cut_at.new.runs.list c.self.invariant.0.runs c.canonical.ensures c.cut_at.ensures.rows

pub invariant_of-self : goal.invariant_of-self
invariant_of-self c =
    let s : ShareState = record {
      state_epoch = c.self.inside.state_epoch;
      leader_epoch = c.self.inside.leader_epoch;
      start = c.self.inside.start;
      runs = c.self.inside.runs.list;
    } in
    let low : int_lt s.start c.args.start ≡ true = search rules in (
      cut_kept s (to_z w64 (of_z w64 c.args.start)) c.args.start c.cut_at.new.runs.list (to_z-of_z w64 c.args.start c.ranges.start) low c.self.invariant.0 c.canonical.ensures
          c.cut_at.ensures.rows (offset_fits c.args.start c.ranges.start) c.cut_at.ensures.few,
      c.complete_of-complete.ensures,
    )

pub returns-clause-state : goal.returns-clause-state
returns-clause-state c =
    let s : ShareState = record {
      state_epoch = c.self.inside.state_epoch;
      leader_epoch = c.self.inside.leader_epoch;
      start = c.self.inside.start;
      runs = c.self.inside.runs.list;
    } in
    let low : int_lt s.start c.args.start ≡ true = search rules in
    cut_raises s (to_z w64 (of_z w64 c.args.start)) c.args.start c.cut_at.new.runs.list (to_z-of_z w64 c.args.start c.ranges.start) low c.self.invariant.0 c.canonical.ensures
    c.cut_at.ensures.rows ∙ ap (λ (v : ViewParts). raised_to c.args.start v.state) c.self.view_is

pub returns-clause-told : goal.returns-clause-told
returns-clause-told c =
    let s : ShareState = record {
      state_epoch = c.self.inside.state_epoch;
      leader_epoch = c.self.inside.leader_epoch;
      start = c.self.inside.start;
      runs = c.self.inside.runs.list;
    } in
    let low : int_lt s.start c.args.start ≡ true = search rules in
    sym (rises_below s c.args.start c.self.invariant.0.start low) ∙ ap (λ (v : ViewParts). rises c.args.start v.state) c.self.view_is

pub returns-then-not-rises-clause-state : goal.returns-then-not-rises-clause-state
returns-then-not-rises-clause-state c =
    let s : ShareState = record {
      state_epoch = c.self.inside.state_epoch;
      leader_epoch = c.self.inside.leader_epoch;
      start = c.self.inside.start;
      runs = c.self.inside.runs.list;
    } in
    let high : int_lt s.start c.args.start ≡ false = search rules in
    subst (λ (v : ViewParts). v.state ≡ raised_to c.args.start v.state) c.self.view_is (raised_same s c.args.start high)

pub returns-then-not-rises-clause-told : goal.returns-then-not-rises-clause-told
returns-then-not-rises-clause-told c =
    let s : ShareState = record {
      state_epoch = c.self.inside.state_epoch;
      leader_epoch = c.self.inside.leader_epoch;
      start = c.self.inside.start;
      runs = c.self.inside.runs.list;
    } in
    let high : int_lt s.start c.args.start ≡ false = search rules in
    subst (λ (v : ViewParts). false ≡ rises c.args.start v.state) c.self.view_is (sym (rises_not s c.args.start high))
