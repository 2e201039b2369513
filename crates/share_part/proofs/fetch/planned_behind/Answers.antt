use Rattle.std.proofs.Common.{◌≡◌, sym, ap, subst, Some, None, Option}
use Rattle.std.specs.Option.{option_map}
use Rattle.share_model.specs.Keys.{KeyParts}
use Rattle.share_model.specs.ShareStates.{ShareState}
use Rattle.share_coord.specs.Views.{ViewParts}
use Rattle.part_log.specs.Logs.{log_in}
use Rattle.share_coord.specs.Stored.{kept_at}
use Rattle.share_part.proofs.Planning.{all_ok, behind, changed_above, changed_canonical, changed_lies, changed_out, lie_there, none_lost, rows_go_out}
use Rattle.share_part.specs.Named.{named_from}
use Rattle.share_part.specs.Settling.{change_of}
use Rattle.share_part.specs.Tables.{MayGoOut}
use Rattle.share_part.proofs.Seeing.{view_of}
use Rattle.share_part.proofs.fetch.planned_behind.Goals as goal

pub unreachable-requires-in_default-look : goal.unreachable-requires-in_default-look
unreachable-requires-in_default-look g c = none_lost g.W.Window.held c.args.conf.now (log_in c.args.log.now) c.args.states.now.entries c.args.windows.now.entries c.args.visit.now.group
    (named_from c.args.log.now.start c.args.visit.now.acks) (change_of c.args.moved.now c.args.rows.now.list) c.requires.change
    (subst (λ (k : KeyParts). ◌≡◌ {A = Option ShareState} None (option_map view_of (kept_at c.args.states.now.entries k))) c.key.ensures c.in_default-look.ensures)

pub plan_laid-requires-clause-rows : goal.plan_laid-requires-clause-rows
plan_laid-requires-clause-rows g c =
    let there = subst (λ (k : KeyParts). Some c.in-Some-look.view.now.state ≡ option_map view_of (kept_at c.args.states.now.entries k)) c.key.ensures c.in-Some-look.ensures in
    subst (λ (v : ViewParts). MayGoOut v.state.runs) (sym c.view.view_is)
    (rows_go_out g.W.Window.held c.args.conf.now (log_in c.args.log.now) c.args.states.now.entries c.args.windows.now.entries c.args.visit.now.group c.in-Some-look.view.now.state there c.requires.hosted)

pub plan_laid-requires-clause-above : goal.plan_laid-requires-clause-above
plan_laid-requires-clause-above g c =
    let there = subst (λ (k : KeyParts). Some c.in-Some-look.view.now.state ≡ option_map view_of (kept_at c.args.states.now.entries k)) c.key.ensures c.in-Some-look.ensures in
    changed_above g.W.Window.held c.args.conf.now (log_in c.args.log.now) c.args.states.now.entries c.args.windows.now.entries c.args.visit.now.group
    (named_from c.args.log.now.start c.args.visit.now.acks) (change_of c.args.moved.now c.args.rows.now.list) c.requires.change c.in-Some-look.view.now.state there c.in-Some.window.now c.in-Some.ensures.value
    c.start_of.result c.view.inside.runs.list c.list.result.now c.start_of.ensures (ap (λ (v : ViewParts). v.state.runs) c.view.view_is) c.list.ensures.same
    c.unwrap_or-start.result c.unwrap_or-start.ensures c.requires.hosted

pub plan_laid-requires-clause-canonical : goal.plan_laid-requires-clause-canonical
plan_laid-requires-clause-canonical g c =
    let there = subst (λ (k : KeyParts). Some c.in-Some-look.view.now.state ≡ option_map view_of (kept_at c.args.states.now.entries k)) c.key.ensures c.in-Some-look.ensures in
    changed_canonical g.W.Window.held c.args.conf.now (log_in c.args.log.now) c.args.states.now.entries c.args.windows.now.entries c.args.visit.now.group
    (named_from c.args.log.now.start c.args.visit.now.acks) (change_of c.args.moved.now c.args.rows.now.list) c.requires.change c.in-Some-look.view.now.state there c.in-Some.window.now c.in-Some.ensures.value
    c.start_of.result c.view.inside.runs.list c.list.result.now c.start_of.ensures (ap (λ (v : ViewParts). v.state.runs) c.view.view_is) c.list.ensures.same
    c.unwrap_or-start.result c.unwrap_or-start.ensures

pub plan_laid-requires-clause-changed : goal.plan_laid-requires-clause-changed
plan_laid-requires-clause-changed g c =
    let there = subst (λ (k : KeyParts). Some c.in-Some-look.view.now.state ≡ option_map view_of (kept_at c.args.states.now.entries k)) c.key.ensures c.in-Some-look.ensures in
    changed_out g.W.Window.held c.args.conf.now (log_in c.args.log.now) c.args.states.now.entries c.args.windows.now.entries c.args.visit.now.group
    (named_from c.args.log.now.start c.args.visit.now.acks) (change_of c.args.moved.now c.args.rows.now.list) c.requires.change c.in-Some-look.view.now.state there c.in-Some.window.now c.in-Some.ensures.value
    c.start_of.result c.view.inside.runs.list c.list.result.now c.start_of.ensures (ap (λ (v : ViewParts). v.state.runs) c.view.view_is) c.list.ensures.same
    c.unwrap_or-start.result c.unwrap_or-start.ensures c.requires.limit.few

pub plan_laid-requires-clause-lie : goal.plan_laid-requires-clause-lie
plan_laid-requires-clause-lie g c =
    let there = subst (λ (k : KeyParts). Some c.in-Some-look.view.now.state ≡ option_map view_of (kept_at c.args.states.now.entries k)) c.key.ensures c.in-Some-look.ensures in
    changed_lies g.W.Window.held c.args.conf.now (log_in c.args.log.now) c.args.states.now.entries c.args.windows.now.entries c.args.visit.now.group
    (named_from c.args.log.now.start c.args.visit.now.acks) (change_of c.args.moved.now c.args.rows.now.list) c.requires.change c.in-Some-look.view.now.state there c.in-Some.window.now c.in-Some.ensures.value
    c.start_of.result c.view.inside.runs.list c.list.result.now c.start_of.ensures (ap (λ (v : ViewParts). v.state.runs) c.view.view_is) c.list.ensures.same
    c.unwrap_or-start.result c.unwrap_or-start.ensures
    (lie_there g.W.Window.held c.args.conf.now (log_in c.args.log.now) c.args.states.now.entries c.args.windows.now.entries c.args.visit.now.group c.in-Some-look.view.now.state there c.requires.hosted c.requires.well
    c.requires.sound.rises c.in-Some.window.now c.in-Some.ensures.value c.view.inside.runs.list (ap (λ (v : ViewParts). v.state.runs) c.view.view_is))

pub returns-clause-is : goal.returns-clause-is
returns-clause-is g c =
    let there = subst (λ (k : KeyParts). Some c.in-Some-look.view.now.state ≡ option_map view_of (kept_at c.args.states.now.entries k)) c.key.ensures c.in-Some-look.ensures in
    all_ok _ _ c.plan_laid.result
    (behind g.W.Window.held c.args.conf.now (log_in c.args.log.now) c.args.states.now.entries c.args.windows.now.entries c.args.visit.now.group
    (named_from c.args.log.now.start c.args.visit.now.acks) (change_of c.args.moved.now c.args.rows.now.list) c.requires.change c.in-Some-look.view.now.state there c.in-Some.window.now c.in-Some.ensures.value
    c.start_of.result c.view.inside.runs.list c.list.result.now c.start_of.ensures (ap (λ (v : ViewParts). v.state.runs) c.view.view_is) c.list.ensures.same
    c.unwrap_or-start.result c.unwrap_or-start.ensures c.requires.sound.rises c.args.limits) c.plan_laid.ensures.is
