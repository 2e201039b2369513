use Rattle.std.proofs.Common.{◌≡◌, ◌∙◌, sym, ap, subst, Some, None, Option}
use Rattle.std.specs.Option.{option_map}
use Rattle.part_log.specs.Logs.{log_in}
use Rattle.share_coord.specs.Stored.{kept_at}
use Rattle.share_model.specs.Held.{Held}
use Rattle.share_model.specs.Keys.{KeyParts}
use Rattle.share_model.specs.ShareStates.{ShareState}
use Rattle.share_model.specs.declared.table_summary.TableSummary.{TableSummary}
use Rattle.share_part.specs.Describing.{summary_of}
use Rattle.share_part.specs.Hosting.{key_of}
use Rattle.share_part.specs.Shards.{held_in}
use Rattle.share_part.specs.Tables.{table_of}
use Rattle.share_part.proofs.Described.{lies_between, starts_within}
use Rattle.share_part.proofs.Seeing.{state_seen, view_of}
use Rattle.share_part.proofs.describing.describe.Goals as goal

pub returns-in_default : goal.returns-in_default
returns-in_default g c =
    let absent = subst (λ (k : KeyParts). ◌≡◌ {A = Option ShareState} None (option_map view_of (kept_at c.args.states.now.entries k))) c.key.ensures c.in_default.ensures in
    sym (ap (option_map (λ (state : ShareState). summary_of c.args.log.now.batches (table_of state (held_in g.W.Window.held c.args.windows.now.entries c.args.group.now))))
    (state_seen c.args.states.now.entries (key_of c.args.conf.now c.args.group.now) ∙ sym absent))

pub summary-requires-clause-runs : goal.summary-requires-clause-runs
summary-requires-clause-runs g c =
    let there = subst (λ (k : KeyParts). Some c.in-Some.view.now.state ≡ option_map view_of (kept_at c.args.states.now.entries k)) c.key.ensures c.in-Some.ensures in
    let known = state_seen c.args.states.now.entries (key_of c.args.conf.now c.args.group.now) ∙ sym there in
    lies_between c.args.conf.now (log_in c.args.log.now) (key_of c.args.conf.now c.args.group.now) c.in-Some.view.now.state c.requires.sound.rises
    (c.requires.hosted (key_of c.args.conf.now c.args.group.now) c.in-Some.view.now.state known)

pub summary-requires-clause-order : goal.summary-requires-clause-order
summary-requires-clause-order g c =
    let there = subst (λ (k : KeyParts). Some c.in-Some.view.now.state ≡ option_map view_of (kept_at c.args.states.now.entries k)) c.key.ensures c.in-Some.ensures in
    let known = state_seen c.args.states.now.entries (key_of c.args.conf.now c.args.group.now) ∙ sym there in
    starts_within c.args.conf.now (log_in c.args.log.now) (key_of c.args.conf.now c.args.group.now) c.in-Some.view.now.state
    (c.requires.hosted (key_of c.args.conf.now c.args.group.now) c.in-Some.view.now.state known)

pub returns : goal.returns
returns g c =
    let there = subst (λ (k : KeyParts). Some c.in-Some.view.now.state ≡ option_map view_of (kept_at c.args.states.now.entries k)) c.key.ensures c.in-Some.ensures in
    let known = state_seen c.args.states.now.entries (key_of c.args.conf.now c.args.group.now) ∙ sym there in
    ap (λ (s : TableSummary). Some s)
    (c.summary.ensures ∙ ap (λ (h : Held). summary_of c.args.log.now.batches (table_of c.in-Some.view.now.state h)) c.window_of-window.ensures)
    ∙ sym (ap (option_map (λ (state : ShareState). summary_of c.args.log.now.batches (table_of state (held_in g.W.Window.held c.args.windows.now.entries c.args.group.now)))) known)
