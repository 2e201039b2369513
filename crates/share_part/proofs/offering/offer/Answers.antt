use Rattle.std.proofs.Common.{◌≡◌, ◌∙◌, arith, sym, ap, subst, ℕ, Some, None, Option}
use Rattle.std.specs.Option.{option_map}
use Rattle.part_log.specs.Logs.{log_in}
use Rattle.share_coord.specs.States.{states_of}
use Rattle.share_coord.specs.Stored.{kept_at}
use Rattle.share_coord.specs.Views.{ViewParts}
use Rattle.share_model.specs.ForeignRules.{share_state_at}
use Rattle.share_model.specs.Held.{Held}
use Rattle.share_model.specs.Keys.{KeyParts}
use Rattle.share_model.specs.ShareStates.{ShareState}
use Rattle.share_part.specs.Collecting.{LieAtSlots}
use Rattle.share_part.specs.Hosting.{key_of}
use Rattle.share_part.specs.Offering.{offer_of}
use Rattle.share_part.specs.Shards.{held_in}
use Rattle.share_part.specs.Tables.{MayGoOut}
use Rattle.share_part.proofs.Offered.{lie_known, offered_is}
use Rattle.share_part.proofs.Planning.{rows_go_out, table_above}
use Rattle.share_part.proofs.Seeing.{state_seen, view_of}
use Rattle.share_part.proofs.offering.offer.Goals as goal

pub returns-in_default : goal.returns-in_default
returns-in_default g c =
    let absent = subst (λ (k : KeyParts). ◌≡◌ {A = Option ShareState} None (option_map view_of (kept_at c.args.states.now.entries k))) c.key.ensures c.in_default.ensures in
    sym (ap (offer_of c.args.log.now.batches (held_in g.W.Window.held c.args.windows.now.entries c.args.group.now))
    (state_seen c.args.states.now.entries (key_of c.args.conf.now c.args.group.now) ∙ sym absent))

pub least_available-requires-clause-above : goal.least_available-requires-clause-above
least_available-requires-clause-above g c =
    let known = subst (λ (k : KeyParts). Some c.in-Some.view.now.state ≡ option_map view_of (kept_at c.args.states.now.entries k)) c.key.ensures c.in-Some.ensures in
    let le = table_above g.W.Window.held c.args.conf.now (log_in c.args.log.now) c.args.states.now.entries c.args.windows.now.entries c.args.group.now c.in-Some.view.now.state known c.requires.hosted in
    omega (arith, le, c.start_of.ensures)

pub least_available-requires-clause-rows : goal.least_available-requires-clause-rows
least_available-requires-clause-rows g c =
    let known = subst (λ (k : KeyParts). Some c.in-Some.view.now.state ≡ option_map view_of (kept_at c.args.states.now.entries k)) c.key.ensures c.in-Some.ensures in
    subst (λ (v : ViewParts). MayGoOut v.state.runs) (sym c.view.view_is)
    (rows_go_out g.W.Window.held c.args.conf.now (log_in c.args.log.now) c.args.states.now.entries c.args.windows.now.entries c.args.group.now c.in-Some.view.now.state known c.requires.hosted)

pub least_available-requires-clause-lie : goal.least_available-requires-clause-lie
least_available-requires-clause-lie g c =
    let known = subst (λ (k : KeyParts). Some c.in-Some.view.now.state ≡ option_map view_of (kept_at c.args.states.now.entries k)) c.key.ensures c.in-Some.ensures in
    subst (λ (v : ViewParts). LieAtSlots c.args.log.now.batches v.state.runs (g.W.Window.held c.window_of-window.result.now)) (sym c.view.view_is)
    (subst (λ (h : Held). LieAtSlots c.args.log.now.batches c.in-Some.view.now.state.runs h) (sym c.window_of-window.ensures)
    (lie_known c.args.conf.now (log_in c.args.log.now) (states_of c.args.states.now.entries) c.args.group.now c.in-Some.view.now.state
    (held_in g.W.Window.held c.args.windows.now.entries c.args.group.now)
    (state_seen c.args.states.now.entries (key_of c.args.conf.now c.args.group.now) ∙ sym known) c.requires.hosted c.requires.sound.rises c.requires.well))

pub returns-in-Some-least_available : goal.returns-in-Some-least_available
returns-in-Some-least_available g c =
    let known = subst (λ (k : KeyParts). Some c.in-Some.view.now.state ≡ option_map view_of (kept_at c.args.states.now.entries k)) c.key.ensures c.in-Some.ensures in
    offered_is c.args.log.now.batches (held_in g.W.Window.held c.args.windows.now.entries c.args.group.now)
    (share_state_at (states_of c.args.states.now.entries) (key_of c.args.conf.now c.args.group.now)) c.in-Some.view.now.state
    (state_seen c.args.states.now.entries (key_of c.args.conf.now c.args.group.now) ∙ sym known)
    c.start_of.result c.view.inside.runs.list (g.W.Window.held c.window_of-window.result.now)
    c.start_of.ensures (ap (λ (v : ViewParts). v.state.runs) c.view.view_is) c.window_of-window.ensures
    (Some c.in-Some-least_available.offset) (sym c.in-Some-least_available.is ∙ c.least_available.ensures)

pub returns : goal.returns
returns g c =
    let known = subst (λ (k : KeyParts). Some c.in-Some.view.now.state ≡ option_map view_of (kept_at c.args.states.now.entries k)) c.key.ensures c.in-Some.ensures in
    offered_is c.args.log.now.batches (held_in g.W.Window.held c.args.windows.now.entries c.args.group.now)
    (share_state_at (states_of c.args.states.now.entries) (key_of c.args.conf.now c.args.group.now)) c.in-Some.view.now.state
    (state_seen c.args.states.now.entries (key_of c.args.conf.now c.args.group.now) ∙ sym known)
    c.start_of.result c.view.inside.runs.list (g.W.Window.held c.window_of-window.result.now)
    c.start_of.ensures (ap (λ (v : ViewParts). v.state.runs) c.view.view_is) c.window_of-window.ensures
    None (sym c.in-None.is ∙ c.least_available.ensures)
