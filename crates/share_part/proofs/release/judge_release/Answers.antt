use Rattle.std.proofs.Common.{◌≡◌, ◌∙◌, ap, subst, sym, arith, length, Some, None, Option}
use Rattle.std.specs.Option.{option_map}
use Rattle.share_coord.specs.Stored.{kept_at}
use Rattle.share_model.specs.ForeignRules.{share_state_at}
use Rattle.share_model.specs.Held.{Held}
use Rattle.share_model.specs.Keys.{KeyParts}
use Rattle.share_model.specs.Runs.{IsCanonical}
use Rattle.share_model.specs.ShareStates.{ShareState}
use Rattle.share_coord.specs.Views.{ViewParts}
use Rattle.share_part.specs.Hosting.{HoldsWell, key_of}
use Rattle.share_coord.specs.States.{states_of}
use Rattle.share_part.specs.Settling.{AreBelow, is_chosen}
use Rattle.share_part.specs.Shards.{held_in, held_of}
use Rattle.lock_index.specs.Windows.{IsRising}
use Rattle.share_part.proofs.Staying.{few_held}
use Rattle.share_part.proofs.Releases.{none_released_of, released_there, well_below}
use Rattle.part_log.specs.Logs.{log_in}
use Rattle.share_part.proofs.Seeing.{starts_above, state_seen, view_of}
use Rattle.share_part.proofs.Verdicts.{no_state}
use Rattle.share_part.proofs.release.judge_release.Goals as goal

pub release-requires-clause-below : goal.release-requires-clause-below
release-requires-clause-below g c = subst (λ (h : Held). AreBelow h) (sym (ap (held_of g.W.Window.held) c.in-Some.ensures.value))
    (well_below c.args.log.now.batches (share_state_at (states_of c.args.states.now.entries) (key_of c.args.conf.now c.args.group.now))
    (held_in g.W.Window.held c.args.windows.now.entries c.args.group.now) c.requires.sound c.requires.well)

pub returns-in-Some-look-clause-judged : goal.returns-in-Some-look-clause-judged
returns-in-Some-look-clause-judged g c =
    let there = subst (λ (k : KeyParts). Some c.in-Some-look.view.now.state ≡ option_map view_of (kept_at c.args.states.now.entries k)) c.key.ensures c.in-Some-look.ensures in
    released_there g.W.Window.held c.args.states.now.entries c.args.windows.now.entries c.args.group.now (key_of c.args.conf.now c.args.group.now)
    c.args.whose.now c.args.conf.now.limit c.args.log.now.batches c.in-Some-look.view.now.state there
    c.in-Some.window.now c.in-Some.ensures.value c.start_of.result c.view.inside.runs.list c.start_of.ensures (ap (λ (v : ViewParts). v.state.runs) c.view.view_is)
    c.limit.result c.limit.ensures.same c.release.new.rows.list c.release.result c.release.ensures.judged

pub returns-in-Some-look-clause-below : goal.returns-in-Some-look-clause-below
returns-in-Some-look-clause-below g c = well_below c.args.log.now.batches (share_state_at (states_of c.args.states.now.entries) (key_of c.args.conf.now c.args.group.now))
    (held_in g.W.Window.held c.args.windows.now.entries c.args.group.now) c.requires.sound c.requires.well

pub returns-in-None-clause-judged : goal.returns-in-None-clause-judged
returns-in-None-clause-judged g c =
    let absent = subst (λ (k : KeyParts). ◌≡◌ {A = Option ShareState} None (option_map view_of (kept_at c.args.states.now.entries k))) c.key.ensures c.in-None.ensures in
    none_released_of (is_chosen c.args.whose.now) (held_in g.W.Window.held c.args.windows.now.entries c.args.group.now)
    (subst (λ (o : Option ShareState). HoldsWell c.args.log.now.batches o (held_in g.W.Window.held c.args.windows.now.entries c.args.group.now))
    (no_state g.W.Window.held c.args.states.now.entries c.args.windows.now.entries c.args.group.now (key_of c.args.conf.now c.args.group.now) absent) c.requires.well)

pub returns-in-None-clause-below : goal.returns-in-None-clause-below
returns-in-None-clause-below g c = well_below c.args.log.now.batches (share_state_at (states_of c.args.states.now.entries) (key_of c.args.conf.now c.args.group.now))
    (held_in g.W.Window.held c.args.windows.now.entries c.args.group.now) c.requires.sound c.requires.well

pub release-requires-clause-room : goal.release-requires-clause-room
release-requires-clause-room g c =
    let held = ap (held_of g.W.Window.held) c.in-Some.ensures.value in
    let few = few_held c.args.log.now.batches (share_state_at (states_of c.args.states.now.entries) (key_of c.args.conf.now c.args.group.now))
    (held_in g.W.Window.held c.args.windows.now.entries c.args.group.now) c.requires.sound.rises (subst IsRising held c.known.ensures) c.requires.well in
    let room = c.requires.room in
    omega (arith, ap length held, few, room)

pub release-requires-clause-above : goal.release-requires-clause-above
release-requires-clause-above g c =
    let there = subst (λ (k : KeyParts). Some c.in-Some-look.view.now.state ≡ option_map view_of (kept_at c.args.states.now.entries k)) c.key.ensures c.in-Some-look.ensures in
    let le = starts_above c.args.conf.now (log_in c.args.log.now) (states_of c.args.states.now.entries) (key_of c.args.conf.now c.args.group.now) c.in-Some-look.view.now.state
    c.requires.hosted (state_seen c.args.states.now.entries (key_of c.args.conf.now c.args.group.now) ∙ sym there) in
    omega (arith, le, c.start_of.ensures)

pub returns-in_default-clause-canonical : goal.returns-in_default-clause-canonical
returns-in_default-clause-canonical g c = λ moved is state at. absurd (let clash : ⊥ = cc in clash)

pub returns-in-None-clause-canonical : goal.returns-in-None-clause-canonical
returns-in-None-clause-canonical g c = λ moved is state at. absurd (let clash : ⊥ = cc in clash)

pub returns-in-Some-look-clause-canonical : goal.returns-in-Some-look-clause-canonical
returns-in-Some-look-clause-canonical g c = λ moved is state at.
    let there = subst (λ (k : KeyParts). Some c.in-Some-look.view.now.state ≡ option_map view_of (kept_at c.args.states.now.entries k)) c.key.ensures c.in-Some-look.ensures in
    let found : ◌≡◌ {A = Option ShareState} (Some c.in-Some-look.view.now.state) (Some state) =
    there ∙ sym (state_seen c.args.states.now.entries (key_of c.args.conf.now c.args.group.now)) ∙ at in
    let same : c.in-Some-look.view.now.state ≡ state = cc in
    subst IsCanonical (ap (λ (v : ViewParts). v.state.runs) c.view.view_is ∙ ap (λ (s : ShareState). s.runs) same) c.list-stored.ensures.canonical
