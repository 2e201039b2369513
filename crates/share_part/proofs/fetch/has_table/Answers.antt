use Rattle.std.proofs.Common.{◌≡◌, ◌∙◌, refl, sym, subst, Some, None, Option}
use Rattle.std.specs.Prelude.{IsSome}
use Rattle.std.specs.Option.{option_map}
use Rattle.share_coord.specs.Stored.{kept_at}
use Rattle.share_model.specs.Keys.{KeyParts}
use Rattle.share_model.specs.ShareStates.{ShareState}
use Rattle.share_part.specs.Hosting.{key_of}
use Rattle.share_part.proofs.Seeing.{state_seen, view_of}
use Rattle.share_part.proofs.fetch.has_table.Goals as goal

pub returns-in-Some-clause-there : goal.returns-in-Some-clause-there
returns-in-Some-clause-there g c = λ is.
    let there = subst (λ (k : KeyParts). Some c.in-Some.field-0.now.state ≡ option_map view_of (kept_at c.args.states.now.entries k)) c.key.ensures c.in-Some.ensures in
    subst (λ (o : Option ShareState). IsSome o) (sym (state_seen c.args.states.now.entries (key_of c.args.conf.now c.args.group.now) ∙ sym there)) refl

pub returns-in-None-clause-none : goal.returns-in-None-clause-none
returns-in-None-clause-none g c = λ is.
    let there = subst (λ (k : KeyParts). ◌≡◌ {A = Option ShareState} None (option_map view_of (kept_at c.args.states.now.entries k))) c.key.ensures c.in-None.ensures in
    state_seen c.args.states.now.entries (key_of c.args.conf.now c.args.group.now) ∙ sym there
