use Rattle.std.proofs.Common.{◌≡◌, ◌∙◌, refl, ap, subst, sym, arith, length, Some, None, Option}
use Rattle.std.specs.Option.{option_map}
use Rattle.share_model.specs.ForeignRules.{share_state_at}
use Rattle.share_model.specs.Keys.{KeyParts}
use Rattle.share_model.specs.Runs.{IsCanonical}
use Rattle.share_model.specs.ShareStates.{ShareState}
use Rattle.share_coord.specs.Views.{ViewParts}
use Rattle.share_coord.specs.Stored.{kept_at}
use Rattle.share_part.specs.Hosting.{key_of}
use Rattle.share_part.specs.Named.{named_from}
use Rattle.share_coord.specs.States.{states_of}
use Rattle.share_part.specs.Shards.{held_in, held_of}
use Rattle.lock_index.specs.Windows.{IsRising}
use Rattle.share_part.proofs.Staying.{few_held}
use Rattle.share_part.proofs.Verdicts.{idle_held, judged_there, missing_judged, no_state, nothing_held}
use Rattle.part_log.specs.Logs.{log_in}
use Rattle.share_part.proofs.Seeing.{starts_above, state_seen, view_of}
use Rattle.share_part.proofs.acks.judge_group.Goals as goal

pub returns-in_default-clause-judged : goal.returns-in_default-clause-judged
returns-in_default-clause-judged g c = missing_judged c.args.conf.now.limit c.args.member.now (named_from c.args.log.now.start c.args.batches.now) c.args.log.now.batches
    (held_in g.W.Window.held c.args.windows.now.entries c.args.group.now) (share_state_at (states_of c.args.states.now.entries) (key_of c.args.conf.now c.args.group.now)) c.args.rows.now.list c.args.first
    (nothing_held g.W.Window.held c.args.states.now.entries c.args.windows.now.entries c.args.group.now (key_of c.args.conf.now c.args.group.now) c.in_default.ensures.value) c.requires.first

pub returns-in-Some-look-clause-judged : goal.returns-in-Some-look-clause-judged
returns-in-Some-look-clause-judged g c =
    let there = subst (λ (k : KeyParts). Some c.in-Some-look.view.now.state ≡ option_map view_of (kept_at c.args.states.now.entries k)) c.key.ensures c.in-Some-look.ensures in
    judged_there g.W.Window.held c.args.states.now.entries c.args.windows.now.entries c.args.group.now (key_of c.args.conf.now c.args.group.now)
    c.args.conf.now.limit c.args.log.now.start c.args.member.now c.args.log.now.batches c.in-Some-look.view.now.state there
    c.in-Some.window.now c.in-Some.ensures.value c.start_of.result c.view.inside.runs.list c.start_of.ensures (ap (λ (v : ViewParts). v.state.runs) c.view.view_is)
    c.limit.result c.limit.ensures.same c.args.batches.now c.args.batches.now refl c.acknowledge.new.rows.list c.acknowledge.result c.acknowledge.ensures.judged

pub returns-in-None-clause-judged : goal.returns-in-None-clause-judged
returns-in-None-clause-judged g c =
    let absent = subst (λ (k : KeyParts). ◌≡◌ {A = Option ShareState} None (option_map view_of (kept_at c.args.states.now.entries k))) c.key.ensures c.in-None.ensures in
    missing_judged c.args.conf.now.limit c.args.member.now (named_from c.args.log.now.start c.args.batches.now) c.args.log.now.batches
    (held_in g.W.Window.held c.args.windows.now.entries c.args.group.now) (share_state_at (states_of c.args.states.now.entries) (key_of c.args.conf.now c.args.group.now)) c.args.rows.now.list c.args.first
    (idle_held c.args.log.now.batches (share_state_at (states_of c.args.states.now.entries) (key_of c.args.conf.now c.args.group.now)) (held_in g.W.Window.held c.args.windows.now.entries c.args.group.now)
    (no_state g.W.Window.held c.args.states.now.entries c.args.windows.now.entries c.args.group.now (key_of c.args.conf.now c.args.group.now) absent) c.requires.well) c.requires.first

pub acknowledge-requires-clause-room : goal.acknowledge-requires-clause-room
acknowledge-requires-clause-room g c =
    let held = ap (held_of g.W.Window.held) c.in-Some.ensures.value in
    let few = few_held c.args.log.now.batches (share_state_at (states_of c.args.states.now.entries) (key_of c.args.conf.now c.args.group.now))
    (held_in g.W.Window.held c.args.windows.now.entries c.args.group.now) c.requires.sound.rises (subst IsRising held c.known.ensures) c.requires.well in
    let room = c.requires.room in
    omega (arith, ap length held, few, room)

pub acknowledge-requires-clause-above : goal.acknowledge-requires-clause-above
acknowledge-requires-clause-above g c =
    let there = subst (λ (k : KeyParts). Some c.in-Some-look.view.now.state ≡ option_map view_of (kept_at c.args.states.now.entries k)) c.key.ensures c.in-Some-look.ensures in
    let le = starts_above c.args.conf.now (log_in c.args.log.now) (states_of c.args.states.now.entries) (key_of c.args.conf.now c.args.group.now) c.in-Some-look.view.now.state
    c.requires.hosted (state_seen c.args.states.now.entries (key_of c.args.conf.now c.args.group.now) ∙ sym there) in
    omega (arith, le, c.start_of.ensures)

pub returns-in_default-clause-canonical : goal.returns-in_default-clause-canonical
returns-in_default-clause-canonical g c = λ moved is state at. absurd (let clash : ⊥ = cc in clash)

pub returns-in-None-clause-canonical : goal.returns-in-None-clause-canonical
returns-in-None-clause-canonical g c = λ moved is state at. absurd (let clash : ⊥ = cc in clash)

pub returns-in-Some-look-clause-canonical : goal.returns-in-Some-look-clause-canonical
returns-in-Some-look-clause-canonical g c = λ moved is state at.
    let there = subst (λ (k : KeyParts). Some c.in-Some-look.view.now.state ≡ option_map view_of (kept_at c.args.states.now.entries k)) c.key.ensures c.in-Some-look.ensures in
    let found : ◌≡◌ {A = Option ShareState} (Some c.in-Some-look.view.now.state) (Some state) =
    there ∙ sym (state_seen c.args.states.now.entries (key_of c.args.conf.now c.args.group.now)) ∙ at in
    let same : c.in-Some-look.view.now.state ≡ state = cc in
    subst IsCanonical (ap (λ (v : ViewParts). v.state.runs) c.view.view_is ∙ ap (λ (s : ShareState). s.runs) same) c.list-stored.ensures.canonical
