-- What the store does is what the rules of the calls say.
use Rattle.std.proofs.Common.{◌≡◌, ◌≢◌, inl, inr, ◌∙◌, refl, sym, ap, arith, ℕ, ℤ, pos, negsuc, List, Option, Some, None, Bool, true, false, int_lt, if◌then◌else◌}
use Rattle.std.specs.Option.{option_map}
use Rattle.share_model.specs.ForeignRules.{code_alone}
use Rattle.share_model.specs.ForeignRules.{Initialises, Writes, read_known, read_share_state}
use Rattle.std.specs.BTreeMap.{insert_entry}
use Rattle.share_model.specs.Keys.{KeyParts, key_cmp}
use Rattle.share_model.specs.ErrorCodes.{NONE, INVALID_REQUEST, FENCED_LEADER_EPOCH, KAFKA_STORAGE_ERROR}
use Rattle.share_model.specs.declared.fault.Code.{Code}
use Rattle.share_model.specs.declared.foreign.ForeignAnswer.{ForeignAnswer}
use Rattle.share_model.specs.declared.run.Run.{Run}
use Rattle.share_model.specs.ShareStates.{ShareState, start_after}
use Rattle.share_coord.specs.Stored.{Entries, kept_at}
use Rattle.share_coord.specs.Calls.{IsInitialised, IsWritten, IsTooMany, counted, init_refusal, write_refusal}
use Rattle.share_coord.specs.declared.fault.CoordFault.{CoordFault}
use Rattle.share_coord.specs.declared.fault.CoordFault.TheVariants.{Invalid, Unknown, FencedLeader, FencedState, TooMany, Store, NoMemory}
use Rattle.share_coord.specs.States.{states_of}
use Rattle.foreign_coord.specs.Codes.{code_in}
use Rattle.foreign_coord.proofs.States.{kept_view, view_of, state_seen, with_based, code_or, init_code_is, write_code_is}

-- a refusal by numbers
abbrev pub IsNumeric : CoordFault → Type 0
IsNumeric Invalid = Unit {0}
IsNumeric Unknown = Unit {0}
IsNumeric (FencedLeader n) = Unit {0}
IsNumeric (FencedState n) = Unit {0}
IsNumeric (TooMany n) = ⊥
IsNumeric (Store fault) = ⊥
IsNumeric NoMemory = ⊥

pub number_of : Code → ℕ
number_of c = mag c.0
  where
    mag : ℤ → ℕ
    mag (pos n) = n
    mag (negsuc n) = n

pub numeric_code : (e : CoordFault) → IsNumeric e → code_in e ≢ NONE
unfolding number_of
numeric_code Invalid h is = let n : 42 ≡ 0 = ap number_of is in omega (arith, n)
numeric_code Unknown h is = let n : 3 ≡ 0 = ap number_of is in omega (arith, n)
numeric_code (FencedLeader k) h is = let n : 74 ≡ 0 = ap number_of is in omega (arith, n)
numeric_code (FencedState k) h is = let n : 124 ≡ 0 = ap number_of is in omega (arith, n)
numeric_code (TooMany k) h is = h
numeric_code (Store f) h is = h
numeric_code NoMemory h is = h

-- a refusal that isn't one of the store's device
abbrev pub IsOther : CoordFault → Type 0
IsOther Invalid = Unit {0}
IsOther Unknown = Unit {0}
IsOther (FencedLeader n) = Unit {0}
IsOther (FencedState n) = Unit {0}
IsOther (TooMany n) = Unit {0}
IsOther (Store fault) = ⊥
IsOther NoMemory = Unit {0}

pub other_code : (e : CoordFault) → IsOther e → code_in e ≢ KAFKA_STORAGE_ERROR
unfolding number_of
other_code Invalid h is = let n : 42 ≡ 56 = ap number_of is in omega (arith, n)
other_code Unknown h is = let n : 3 ≡ 56 = ap number_of is in omega (arith, n)
other_code (FencedLeader k) h is = let n : 74 ≡ 56 = ap number_of is in omega (arith, n)
other_code (FencedState k) h is = let n : 124 ≡ 56 = ap number_of is in omega (arith, n)
other_code (TooMany k) h is = let n : 42 ≡ 56 = ap number_of is in omega (arith, n)
other_code (Store f) h is = h
other_code NoMemory h is = let n : 0 ≡ 56 = ap number_of is in omega (arith, n)

pub none_code : NONE ≢ KAFKA_STORAGE_ERROR
unfolding number_of
none_code is = let n : 0 ≡ 56 = ap number_of is in omega (arith, n)

-- a read is not answered with the code of a store fault
either_code : (b : Bool) (x y : ForeignAnswer) → x.code ≢ KAFKA_STORAGE_ERROR → y.code ≢ KAFKA_STORAGE_ERROR → (if b then x else y).code ≢ KAFKA_STORAGE_ERROR
either_code true x y p q = p
either_code false x y p q = q

known_code : (known : Option ShareState) (leader : ℤ) → (read_known known leader).code ≢ KAFKA_STORAGE_ERROR
known_code None leader = other_code Unknown tt
known_code (Some known) leader = either_code (int_lt leader known.leader_epoch) (code_alone FENCED_LEADER_EPOCH)
    (record { code = NONE; state_epoch = known.state_epoch; start = known.start; runs = known.runs }) (other_code (FencedLeader (pos 0)) tt) none_code

pub read_code : (known : Option ShareState) (leader : ℤ) → (read_share_state known leader).code ≢ KAFKA_STORAGE_ERROR
read_code known leader = either_code (int_lt leader (pos 0)) (code_alone INVALID_REQUEST) (read_known known leader) (other_code Invalid tt) (known_code known leader)

module _ (old : Entries) (key : KeyParts) (state start : ℤ) where
  pub init_granted : (new : Entries) → IsInitialised old key state start new → Initialises (states_of old) key state start (code_alone NONE) (states_of new)
  init_granted new is =
      let code = init_code_is old key state start ∙ ap code_or is.granted in
      (ap code_alone (sym code), inr (code, ap states_of is.is ∙ with_based is.checkpointed old key _))

  pub init_refused : (e : CoordFault) → init_refusal (kept_at old key) state start ≡ Some e → IsNumeric e
      → Initialises (states_of old) key state start (code_alone (code_in e)) (states_of old)
  init_refused e some numeric =
      let code = init_code_is old key state start ∙ ap code_or some in
      (ap code_alone (sym code), inl ((λ none. numeric_code e numeric (sym code ∙ none)), refl))

module _ (old : Entries) (key : KeyParts) (state leader start : ℤ) (runs : List Run) where
  pub write_granted : (new : Entries) → IsWritten old key state leader start runs new → Writes (states_of old) key state leader start runs (code_alone NONE) (states_of new)
  write_granted new is =
      let code = write_code_is old key state leader start runs ∙ ap code_or is.granted in
      inr (
        code,
        inr (
          refl,
          record {
            known = is.kept.view;
            written = is.written;
            laid = is.laid;
            is_known = state_seen old key ∙ ap (option_map view_of) is.known;
            are_written = is.are_written;
            are_laid = is.are_laid;
            few_written = is.few_written;
            few = is.few;
            is = ap states_of is.is ∙ (with_based is.checkpointed old key _
                ∙ ap (λ (v : ShareState). insert_entry key_cmp (states_of old) key
                (record { state_epoch = state; leader_epoch = leader; start = start_after v.start start; runs = is.laid }))
                (kept_view is.checkpointed (counted is.kept (start_after is.kept.view.start start))));
          },
        ),
      )

  pub write_refused : (e : CoordFault) → write_refusal (kept_at old key) state leader start runs ≡ Some e → IsNumeric e
      → Writes (states_of old) key state leader start runs (code_alone (code_in e)) (states_of old)
  write_refused e some numeric =
      let code = write_code_is old key state leader start runs ∙ ap code_or some in
      inl ((λ none. numeric_code e numeric (sym code ∙ none)), ap code_alone (sym code), refl)

  pub write_many : (n : ℕ) → write_refusal (kept_at old key) state leader start runs ≡ None → IsTooMany old key start runs n
      → Writes (states_of old) key state leader start runs (code_alone INVALID_REQUEST) (states_of old)
  write_many n none is =
      let code = write_code_is old key state leader start runs ∙ ap code_or none in
      let many = is.many in
      let count = is.count_is in
      inr (
        code,
        inl (
          refl,
          record {
            known = is.kept.view;
            written = is.written;
            laid = is.laid;
            is_known = state_seen old key ∙ ap (option_map view_of) is.known;
            are_written = is.are_written;
            are_laid = is.are_laid;
            many = omega (arith, many, count);
          },
          refl,
        ),
      )
