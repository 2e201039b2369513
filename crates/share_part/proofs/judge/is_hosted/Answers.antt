use Rattle.std.proofs.Common.{◌≡◌, ◌∙◌, ◌≤◌, arith, sym, ap, subst, ℕ}
use Rattle.share_model.specs.ForeignRules.{size_of}
use Rattle.share_model.specs.Runs.{IsCanonical}
use Rattle.share_coord.specs.Views.{ViewParts}
use Rattle.share_part.specs.Judging.{RowsMayStand}
use Rattle.share_part.proofs.judge.is_hosted.Goals as goal

pub returns : goal.returns
returns g c =
    let runs : c.list.result.now ≡ c.args.view.now.state.runs = c.list.ensures.same ∙ ap (λ (v : ViewParts). v.state.runs) c.view.view_is in (
      λ is. record {
        key_is = c.has_key.ensures.0 c.if-not-has_key.false;
        epochs = c.has_no_epochs.ensures.0 c.if-not-has_no_epochs.false;
        start = (
            let s = c.starts_within.ensures.0 c.if-not-starts_within.false in
            (s.0, s.1, subst (λ (n : ℕ). n ≤ s.0) c.start.ensures.value s.2, subst (λ (n : ℕ). s.0 ≤ n) c.end.ensures.end s.3)
            );
        canonical = subst IsCanonical (ap (λ (v : ViewParts). v.state.runs) c.view.view_is) c.list.ensures.canonical;
        rows = subst (λ (n : ℕ). RowsMayStand c.args.log.now.batches n c.args.view.now.state.runs) c.start_of.ensures
            (subst (RowsMayStand c.args.log.now.batches c.start_of.result) runs (c.rows_may_stand.ensures.0 is));
      },
      λ h. c.rows_may_stand.ensures.1 (subst (RowsMayStand c.args.log.now.batches c.start_of.result) (sym runs)
          (subst (λ (n : ℕ). RowsMayStand c.args.log.now.batches n c.args.view.now.state.runs) (sym c.start_of.ensures) h.rows)),
    )

pub rows_may_stand-requires-clause-above : goal.rows_may_stand-requires-clause-above
rows_may_stand-requires-clause-above g c =
    let s = c.starts_within.ensures.0 c.if-not-starts_within.false in
    let size : size_of c.args.view.now.state.start ≡ s.0 = ap size_of s.1 in
    let le = s.2 in
    omega (arith, le, size, c.start.ensures.value, c.start_of.ensures)
