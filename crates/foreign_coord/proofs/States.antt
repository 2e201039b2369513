-- The states of a store, and the codes of its refusals.
use Rattle.std.proofs.Common.{◌≡◌, ◌∙◌, refl, ap, ℤ, pos, negsuc, List, [], ◌∷◌, Option, Some, None, Bool, true, false, cond, int_lt, ◌||◌, not, if◌then◌else◌}
use Rattle.std.specs.List.{list_all}
use Rattle.std.specs.Option.{option_map}
use Rattle.std.specs.declared.cmp.Ordering.{Ordering}
use Rattle.std.specs.declared.cmp.Ordering.TheVariants.{Less, Equal, Greater}
use Rattle.std.specs.Ordering.{match_ordering}
use Rattle.std.specs.BTreeMap.{insert_entry, is_at}
use Rattle.std.specs.Map.{remove_entry}
use Rattle.share_model.specs.ForeignRules.{ShareStates, share_state_at, init_known, init_code, write_known, write_code}
use Rattle.share_model.specs.Keys.{KeyParts, key_cmp}
use Rattle.share_model.specs.ShareStates.{ShareState, is_writable}
use Rattle.share_model.specs.ErrorCodes.{NONE, INVALID_REQUEST, FENCED_LEADER_EPOCH, FENCED_STATE_EPOCH}
use Rattle.share_model.specs.declared.fault.Code.{Code}
use Rattle.share_model.specs.declared.run.Run.{Run}
use Rattle.share_coord.specs.Stored.{Entries, based, based_kept, kept_at, with_kept, without_key}
use Rattle.share_coord.specs.Calls.{fenced_state, fenced_init, fenced_write, init_refusal, write_refusal}
use Rattle.share_coord.specs.declared.fault.CoordFault.{CoordFault}
use Rattle.share_coord.specs.declared.fault.CoordFault.TheVariants.{Invalid, FencedLeader, FencedState}
use Rattle.share_coord.specs.Parts.{KeptState}
use Rattle.share_coord.proofs.Held.{states_based}
use Rattle.share_coord.proofs.Keys.{some_none}
use Rattle.share_coord.specs.States.{states_of}
use Rattle.foreign_coord.specs.Codes.{code_in}

abbrev pub view_of : KeptState → ShareState
view_of kept = kept.view

found : (b : Bool) (x : KeptState) (rest : Option KeptState) (theirs : Option ShareState) → theirs ≡ option_map view_of rest
    → cond b (Some x.view) theirs ≡ option_map view_of (cond b (Some x) rest)
found true x rest theirs e = refl
found false x rest theirs e = e

pub state_seen : (es : Entries) (key : KeyParts) → share_state_at (states_of es) key ≡ option_map view_of (kept_at es key)
state_seen [] key = refl
state_seen (e ∷ es) key = found (is_at (key_cmp key) e.0) e.1 (kept_at es key) (share_state_at (states_of es) key) (state_seen es key)

by_order : (r : Ordering) (a b c : Entries) (d : ShareStates) → states_of c ≡ d → states_of (match_ordering r a b c) ≡ match_ordering r (states_of a) (states_of b) d
by_order Less a b c d e = refl
by_order Equal a b c d e = refl
by_order Greater a b c d e = e

pub with_seen : (es : Entries) (key : KeyParts) (kept : KeptState) → states_of (with_kept es key kept) ≡ insert_entry key_cmp (states_of es) key kept.view
with_seen [] key kept = refl
with_seen (e ∷ es) key kept = by_order (key_cmp key e.0) ((key, kept) ∷ e ∷ es) ((e.0, kept) ∷ es) (e ∷ with_kept es key kept)
    ((e.0, e.1.view) ∷ insert_entry key_cmp (states_of es) key kept.view) (ap (λ (l : ShareStates). (e.0, e.1.view) ∷ l) (with_seen es key kept))

by_test : (b : Bool) (a c : Entries) (d : ShareStates) → states_of c ≡ d → states_of (cond b a c) ≡ cond b (states_of a) d
by_test true a c d e = refl
by_test false a c d e = e

pub without_seen : (es : Entries) (key : KeyParts) → states_of (without_key es key) ≡ remove_entry (is_at (key_cmp key)) (states_of es)
without_seen [] key = refl
without_seen (e ∷ es) key = by_test (is_at (key_cmp key) e.0) es (e ∷ without_key es key) ((e.0, e.1.view) ∷ remove_entry (is_at (key_cmp key)) (states_of es))
    (ap (λ (l : ShareStates). (e.0, e.1.view) ∷ l) (without_seen es key))

kept_none : (b : Bool) (x : KeptState) (rest : Option KeptState) (e : KeyParts × KeptState) (es fs : Entries) → cond b (Some x) rest ≡ None → (rest ≡ None → fs ≡ es) → cond b es (e ∷ fs) ≡ e ∷ es
kept_none true x rest e es fs none f = absurd (some_none x none)
kept_none false x rest e es fs none f = ap (λ (l : Entries). e ∷ l) (f none)

-- as a checkpoint leaves it, or as it was
pub with_based : (c : Bool) (es : Entries) (key : KeyParts) (kept : KeptState) → states_of (with_kept (based c es) key kept) ≡ insert_entry key_cmp (states_of es) key kept.view
with_based c es key kept = with_seen (based c es) key kept ∙ ap (λ (l : ShareStates). insert_entry key_cmp l key kept.view) (states_based c es)

pub without_based : (c : Bool) (es : Entries) (key : KeyParts) → states_of (without_key (based c es) key) ≡ remove_entry (is_at (key_cmp key)) (states_of es)
without_based c es key = without_seen (based c es) key ∙ ap (λ (l : ShareStates). remove_entry (is_at (key_cmp key)) l) (states_based c es)

pub kept_view : (c : Bool) (kept : KeptState) → (based_kept c kept).view ≡ kept.view
kept_view true kept = refl
kept_view false kept = refl

pub without_none : (es : Entries) (key : KeyParts) → kept_at es key ≡ None → without_key es key ≡ es
without_none [] key none = refl
without_none (e ∷ es) key none =
    kept_none (is_at (key_cmp key) e.0) e.1 (kept_at es key) e es (without_key es key) none (without_none es key)

-- ---- codes

abbrev pub code_or : Option CoordFault → Code
code_or None = NONE
code_or (Some fault) = code_in fault

if_code : (b : Bool) (x y : Option CoordFault) (c d : Code) → c ≡ code_or x → d ≡ code_or y → (if b then c else d) ≡ code_or (if b then x else y)
if_code true x y c d p q = p
if_code false x y c d p q = q

state_code : (kept : KeptState) (epoch : ℤ) → init_known (Some kept.view) epoch ≡ code_or (fenced_state kept epoch)
state_code kept epoch = if_code (int_lt epoch kept.view.state_epoch) (Some (FencedState kept.view.state_epoch)) None FENCED_STATE_EPOCH NONE refl refl

init_known_code : (known : Option KeptState) (epoch : ℤ) → init_known (option_map view_of known) epoch ≡ code_or (fenced_init known epoch)
init_known_code None epoch = refl
init_known_code (Some kept) epoch = state_code kept epoch

write_known_code : (known : Option KeptState) (state leader : ℤ) → write_known (option_map view_of known) state leader ≡ code_or (fenced_write known state leader)
write_known_code None state leader = refl
write_known_code (Some kept) state leader = if_code (int_lt leader kept.view.leader_epoch) (Some (FencedLeader kept.view.leader_epoch)) (fenced_state kept state)
    FENCED_LEADER_EPOCH (init_known (Some kept.view) state) refl (state_code kept state)

pub init_code_is : (es : Entries) (key : KeyParts) (state start : ℤ) → init_code (share_state_at (states_of es) key) state start ≡ code_or (init_refusal (kept_at es key) state start)
init_code_is es key state start = ap (λ (o : Option ShareState). init_code o state start) (state_seen es key)
    ∙ if_code (int_lt state (pos 0) || int_lt start (negsuc 0)) (Some Invalid) (fenced_init (kept_at es key) state) INVALID_REQUEST
    (init_known (option_map view_of (kept_at es key)) state) refl (init_known_code (kept_at es key) state)

pub write_code_is : (es : Entries) (key : KeyParts) (state leader start : ℤ) (runs : List Run)
    → write_code (share_state_at (states_of es) key) state leader start runs ≡ code_or (write_refusal (kept_at es key) state leader start runs)
write_code_is es key state leader start runs = ap (λ (o : Option ShareState). write_code o state leader start runs) (state_seen es key)
    ∙ if_code ((int_lt state (pos 0) || int_lt leader (pos 0)) || (int_lt start (negsuc 0) || not (list_all is_writable runs))) (Some Invalid)
    (fenced_write (kept_at es key) state leader) INVALID_REQUEST (write_known (option_map view_of (kept_at es key)) state leader) refl
    (write_known_code (kept_at es key) state leader)
