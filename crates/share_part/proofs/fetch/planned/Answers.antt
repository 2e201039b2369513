use Rattle.std.proofs.Common.{◌≡◌, ◌∙◌, arith, sym, ap, subst, Some, None, Option}
use Rattle.std.specs.Prelude.{IfOk}
use Rattle.std.specs.Option.{option_map}
use Rattle.share_model.specs.Keys.{KeyParts}
use Rattle.share_model.specs.ShareStates.{ShareState}
use Rattle.share_model.specs.declared.reset.Reset.{Reset}
use Rattle.part_log.specs.Logs.{log_in}
use Rattle.share_coord.specs.Stored.{kept_at}
use Rattle.share_coord.specs.Views.{ViewParts}
use Rattle.share_part.specs.Collecting.{IsPlanOf}
use Rattle.share_part.specs.Shards.{first_start}
use Rattle.share_part.specs.Tables.{MayGoOut, Table}
use Rattle.share_part.specs.Walks.{acquired}
use Rattle.share_part.proofs.Planning.{lie_new, lie_there, rows_go_out, table_above, table_there, table_new}
use Rattle.share_part.proofs.Seeing.{view_of}
use Rattle.share_part.proofs.fetch.planned.Goals as goal

pub plan-requires-clause-rows : goal.plan-requires-clause-rows
plan-requires-clause-rows g c =
    let there = subst (λ (k : KeyParts). Some c.in-Some-look.view.now.state ≡ option_map view_of (kept_at c.args.states.now.entries k)) c.key.ensures c.in-Some-look.ensures in
    subst (λ (v : ViewParts). MayGoOut v.state.runs) (sym c.view.view_is)
    (rows_go_out g.W.Window.held c.args.conf.now (log_in c.args.log.now) c.args.states.now.entries c.args.windows.now.entries c.args.group.now c.in-Some-look.view.now.state there c.requires.hosted)

pub plan-requires-clause-above : goal.plan-requires-clause-above
plan-requires-clause-above g c =
    let there = subst (λ (k : KeyParts). Some c.in-Some-look.view.now.state ≡ option_map view_of (kept_at c.args.states.now.entries k)) c.key.ensures c.in-Some-look.ensures in
    let le = table_above g.W.Window.held c.args.conf.now (log_in c.args.log.now) c.args.states.now.entries c.args.windows.now.entries c.args.group.now c.in-Some-look.view.now.state there c.requires.hosted in
    omega (arith, le, c.start_of.ensures)

pub plan-requires-clause-lie : goal.plan-requires-clause-lie
plan-requires-clause-lie g c =
    let there = subst (λ (k : KeyParts). Some c.in-Some-look.view.now.state ≡ option_map view_of (kept_at c.args.states.now.entries k)) c.key.ensures c.in-Some-look.ensures in
    lie_there g.W.Window.held c.args.conf.now (log_in c.args.log.now) c.args.states.now.entries c.args.windows.now.entries c.args.group.now c.in-Some-look.view.now.state there c.requires.hosted c.requires.well
    c.requires.sound.rises c.in-Some.window.now c.in-Some.ensures.value c.view.inside.runs.list (ap (λ (v : ViewParts). v.state.runs) c.view.view_is)

pub plan-requires-in-None-clause-lie : goal.plan-requires-in-None-clause-lie
plan-requires-in-None-clause-lie g c =
    let absent = subst (λ (k : KeyParts). ◌≡◌ {A = Option ShareState} None (option_map view_of (kept_at c.args.states.now.entries k))) c.key.ensures c.in-None.ensures in
    lie_new g.W.Window.held c.args.conf.now (log_in c.args.log.now) c.args.states.now.entries c.args.windows.now.entries c.args.group.now absent c.requires.well
    c.in-Some.window.now c.in-Some.ensures.value c.new-rows.result.list c.new-rows.ensures

pub returns-in-Some-look-clause-is : goal.returns-in-Some-look-clause-is
returns-in-Some-look-clause-is g c =
    let there = subst (λ (k : KeyParts). Some c.in-Some-look.view.now.state ≡ option_map view_of (kept_at c.args.states.now.entries k)) c.key.ensures c.in-Some-look.ensures in
    subst (λ (t : Table). IfOk c.plan.result (λ plan. IsPlanOf c.args.log.now.batches plan (acquired c.args.log.now.batches t c.args.limits)))
    (table_there g.W.Window.held c.args.conf.now (log_in c.args.log.now) c.args.states.now.entries c.args.windows.now.entries c.args.group.now c.in-Some-look.view.now.state there
    c.in-Some.window.now c.in-Some.ensures.value c.start_of.result c.view.inside.runs.list c.start_of.ensures (ap (λ (v : ViewParts). v.state.runs) c.view.view_is))
    c.plan.ensures.is

pub returns-in-None-clause-is : goal.returns-in-None-clause-is
returns-in-None-clause-is g c =
    let absent = subst (λ (k : KeyParts). ◌≡◌ {A = Option ShareState} None (option_map view_of (kept_at c.args.states.now.entries k))) c.key.ensures c.in-None.ensures in
    subst (λ (t : Table). IfOk c.plan-in-None.result (λ plan. IsPlanOf c.args.log.now.batches plan (acquired c.args.log.now.batches t c.args.limits)))
    (table_new g.W.Window.held c.args.conf.now (log_in c.args.log.now) c.args.states.now.entries c.args.windows.now.entries c.args.group.now absent
    c.in-Some.window.now c.in-Some.ensures.value c.first_start.result c.new-rows.result.list
    (c.first_start.ensures.start ∙ ap (λ (r : Reset). first_start r (log_in c.args.log.now)) c.reset.ensures)
    c.new-rows.ensures)
    c.plan-in-None.ensures.is
