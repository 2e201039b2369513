-- A removal, where no checkpoint is made before it, and behind one.
use Rattle.std.proofs.Common.{◌≡◌, refl, sym, ◌∙◌, subst, Bool, true, false, Option}
use Rattle.std.specs.Option.{IfSome, IsSome}
use Rattle.share_model.specs.Keys.{KeyParts}
use Rattle.state_records.specs.States.{IsKey}
use Rattle.state_records.specs.declared.record.StateRecord.{StateRecord}
use Rattle.state_records.specs.declared.record.StateRecord.TheVariants.{Removal}
use Rattle.share_coord.specs.Calls.{IsForgotten}
use Rattle.share_coord.specs.Planning.{GoesOn, LeadsTo, record_of}
use Rattle.share_coord.specs.Putting.{FitFrames, FitsFrame, IsOfKey, IsPut}
use Rattle.share_coord.specs.Stored.{Entries, based, based_kept, kept_at, without_key}
use Rattle.share_coord.specs.Unwritten.{IsKeptOf}
use Rattle.share_coord.specs.declared.plan.Fresh.{Fresh}
use Rattle.share_coord.proofs.Keys.{forgets, kept_based, known_by}
use Rattle.share_coord.proofs.Planning.{at_some, fit_fresh, fresh_of, if_some}
use Rattle.share_coord.proofs.Sizes.{removal_fits}
use Rattle.share_coord.proofs.Unwritten.{alike_known, alike_without}

abbrev pub IsFreshRemoval : KeyParts → Fresh → Type 0
IsFreshRemoval key f = f.written ≡ Removal key

module _ (key : KeyParts) (fresh : Option Fresh) (is_fresh : IfSome fresh (IsFreshRemoval key)) where
  -- it is the same record in either case
  pub removal_is : (c : Bool) (one : StateRecord) → IsPut (Removal key) (record_of fresh) c one → one ≡ Removal key
  removal_is false one is = is
  removal_is true one is = let f = fresh_of fresh one is in f.2 ∙ at_some (IsFreshRemoval key) fresh f.0 f.1 is_fresh

  removal_fit : (r : StateRecord) → r ≡ Removal key → IsKey key → FitsFrame r
  removal_fit r is fits = (removal_fits r key is fits, subst IsOfKey (sym is) tt)

  pub removal_both : IsKey key → FitFrames (Removal key) (record_of fresh)
  removal_both fits = (
    removal_fit (Removal key) refl fits,
    fit_fresh fresh (if_some (IsFreshRemoval key) (λ f. FitsFrame f.written) fresh (λ f h. removal_fit f.written h fits) is_fresh),
  )

pub removals_go : (old : Entries) (key : KeyParts) (fresh : Option Fresh) → IsSome (kept_at old key) → IfSome fresh (IsFreshRemoval key)
    → GoesOn old (Removal key) (record_of fresh) (λ b. without_key (based b old) key)
removals_go old key fresh there is_fresh c one is base from =
    let known = known_by (kept_at old key) there in
    let f = alike_known IsKeptOf base (based c old) key (based_kept c known.0) from (kept_based c old key known.0 known.1) in
    subst (λ (r : StateRecord). LeadsTo base r (without_key (based c old) key)) (sym (removal_is key fresh is_fresh c one is)) (
      without_key base key,
      record { kept = f.0; known = f.1; is = refl },
      alike_without IsKeptOf base (based c old) key from,
    )

pub removals_left : (old : Entries) (key : KeyParts) (fresh : Option Fresh) → IsSome (kept_at old key) → (c : Bool) (one : StateRecord)
    → IsPut (Removal key) (record_of fresh) c one → IsForgotten old key (without_key (based c old) key)
removals_left old key fresh there c one is = forgets c old key there
