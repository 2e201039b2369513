-- What a call on foreign state answers and leaves by the rules is one.
use Rattle.std.proofs.Common.{◌≡◌, ◌<◌, ◌≤◌, inl, inr, sym, ◌∙◌, subst, arith, ℕ, ℤ, List, length, max, Option, Some, None}
use Rattle.std.specs.BTreeMap.{insert_entry}
use Rattle.share_model.specs.Keys.{KeyParts, key_cmp}
use Rattle.share_model.specs.ShareStates.{ShareState, AreWritten, AreLaid, start_after}
use Rattle.share_model.specs.ForeignRules.{ShareStates, Does, Initialises, Writes, WritesBatches, IsGranted, IsOverLimit, share_state_at, runs_of}
use Rattle.share_model.specs.declared.foreign.ForeignAnswer.{ForeignAnswer}
use Rattle.share_model.specs.declared.foreign.ForeignOp.{ForeignOp}
use Rattle.share_model.specs.declared.foreign.ForeignOp.TheVariants.{Init, Read, Write, Delete}
use Rattle.share_model.specs.declared.run.Run.{Run}
use Rattle.share_model.proofs.OneList.{one_list}

-- rows that are written, and rows that are laid, are told by one list of runs
written_once : (runs one other : List Run) → AreWritten runs one → AreWritten runs other → one ≡ other
written_once runs one other p q = one_list one other p.canonical q.canonical (λ o. p.rows o ∙ sym (q.rows o))

laid_once : (start : ℤ) (under over one other : List Run) → AreLaid start under over one → AreLaid start under over other → one ≡ other
laid_once start under over one other p q = one_list one other p.canonical q.canonical (λ o. p.rows o ∙ sym (q.rows o))

some_is : {A : Type 0} (a b : A) (o : Option A) → o ≡ Some a → o ≡ Some b → a ≡ b
some_is a b o p q = cc

module _ (old : ShareStates) (key : KeyParts) where
  -- what a write of these runs finds and makes
  record Finds (start : ℤ) (runs : List Run) (known : ShareState) (written laid : List Run) : Type 0 where
    is_known : share_state_at old key ≡ Some known
    are_written : AreWritten runs written
    are_laid : AreLaid (start_after known.start start) known.runs written laid

  record Same (known also : ShareState) (written others laid over : List Run) : Type 0 where
    known_same : known ≡ also
    written_same : written ≡ others
    laid_same : laid ≡ over

  finds_once : (start : ℤ) (runs : List Run) (known also : ShareState) (written others laid over : List Run)
      → Finds start runs known written laid → Finds start runs also others over → Same known also written others laid over
  finds_once start runs known also written others laid over p q =
      let k = some_is known also (share_state_at old key) p.is_known q.is_known in
      let w = written_once runs written others p.are_written q.are_written in
      record {
        known_same = k;
        written_same = w;
        laid_same = laid_once (start_after also.start start) also.runs others laid over
            (subst (λ (w : List Run). AreLaid (start_after also.start start) also.runs w laid) w
            (subst (λ (k : ShareState). AreLaid (start_after k.start start) k.runs written laid) k p.are_laid)) q.are_laid;
      }

  module _ (state_epoch leader_epoch start : ℤ) (runs : List Run) where
    granted_finds : (new : ShareStates) (g : IsGranted old key state_epoch leader_epoch start runs new) → Finds start runs g.known g.written g.laid
    granted_finds new g = record { is_known = g.is_known; are_written = g.are_written; are_laid = g.are_laid }

    over_finds : (o : IsOverLimit old key start runs) → Finds start runs o.known o.written o.laid
    over_finds o = record { is_known = o.is_known; are_written = o.are_written; are_laid = o.are_laid }

    granted_once : (one other : ShareStates) → IsGranted old key state_epoch leader_epoch start runs one
        → IsGranted old key state_epoch leader_epoch start runs other → one ≡ other
    granted_once one other p q =
        let s = finds_once start runs p.known q.known p.written q.written p.laid q.laid (granted_finds one p) (granted_finds other q) in
        p.is ∙ (λ i. insert_state (s.known_same i) (s.laid_same i)) ∙ sym q.is where
          insert_state : ShareState → List Run → ShareStates
          insert_state known laid =
              insert_entry key_cmp old key (record { state_epoch = state_epoch; leader_epoch = leader_epoch; start = start_after known.start start; runs = laid })

    too_many : (w l : ℕ) → 1000000 < max w l → w ≤ 1000000 → l ≤ 1000000 → ⊥
    too_many w l many few laid = omega arith

    -- a write that is granted isn't one of too many runs
    over_or_granted : (new : ShareStates) → IsOverLimit old key start runs → IsGranted old key state_epoch leader_epoch start runs new → ⊥
    over_or_granted new o g =
        let s = finds_once start runs o.known g.known o.written g.written o.laid g.laid (over_finds o) (granted_finds new g) in
        too_many (length g.written) (length g.laid)
        (subst (λ (w : List Run). 1000000 < max (length w) (length g.laid)) s.written_same
        (subst (λ (l : List Run). 1000000 < max (length o.written) (length l)) s.laid_same o.many)) g.few_written g.few

    abbrev One : ForeignAnswer → ForeignAnswer → ShareStates → ShareStates → Type 0
    One answer also one other = (answer ≡ also) × (one ≡ other)

    writes_once : (answer also : ForeignAnswer) (one other : ShareStates) → Writes old key state_epoch leader_epoch start runs answer one
        → Writes old key state_epoch leader_epoch start runs also other → One answer also one other
    writes_once answer also one other (inl p) (inl q) = (p.1 ∙ sym q.1, p.2 ∙ sym q.2)
    writes_once answer also one other (inl p) (inr q) = absurd (p.0 q.0)
    writes_once answer also one other (inr p) (inl q) = absurd (q.0 p.0)
    writes_once answer also one other (inr (none, inl p)) (inr (also_none, inl q)) = (p.0 ∙ sym q.0, p.2 ∙ sym q.2)
    writes_once answer also one other (inr (none, inl p)) (inr (also_none, inr q)) = absurd (over_or_granted other p.1 q.1)
    writes_once answer also one other (inr (none, inr p)) (inr (also_none, inl q)) = absurd (over_or_granted one q.1 p.1)
    writes_once answer also one other (inr (none, inr p)) (inr (also_none, inr q)) = (p.0 ∙ sym q.0, granted_once one other p.1 q.1)

  batches_once : (state_epoch leader_epoch start : ℤ) (runs : Option (List Run)) (answer also : ForeignAnswer) (one other : ShareStates)
      → WritesBatches old key state_epoch leader_epoch start runs answer one → WritesBatches old key state_epoch leader_epoch start runs also other
      → (answer ≡ also) × (one ≡ other)
  batches_once state_epoch leader_epoch start None answer also one other p q = (p.0 ∙ sym q.0, p.1 ∙ sym q.1)
  batches_once state_epoch leader_epoch start (Some runs) answer also one other p q =
      writes_once state_epoch leader_epoch start runs answer also one other p q

  init_once : (state_epoch start : ℤ) (answer also : ForeignAnswer) (one other : ShareStates) → Initialises old key state_epoch start answer one
      → Initialises old key state_epoch start also other → (answer ≡ also) × (one ≡ other)
  init_once state_epoch start answer also one other (told, inl p) (tells, inl q) = (told ∙ sym tells, p.1 ∙ sym q.1)
  init_once state_epoch start answer also one other (told, inl p) (tells, inr q) = absurd (p.0 q.0)
  init_once state_epoch start answer also one other (told, inr p) (tells, inl q) = absurd (q.0 p.0)
  init_once state_epoch start answer also one other (told, inr p) (tells, inr q) = (told ∙ sym tells, p.1 ∙ sym q.1)

pub does_once : (old : ShareStates) (op : ForeignOp) (answer also : ForeignAnswer) (one other : ShareStates) → Does old op answer one
    → Does old op also other → (answer ≡ also) × (one ≡ other)
does_once old (Init key state_epoch start) answer also one other p q = init_once old key state_epoch start answer also one other p q
does_once old (Read key leader_epoch) answer also one other p q = (p.0 ∙ sym q.0, p.1 ∙ sym q.1)
does_once old (Write key state_epoch leader_epoch start batches) answer also one other p q =
    batches_once old key state_epoch leader_epoch start (runs_of batches) answer also one other p q
does_once old (Delete key) answer also one other p q = (p.0 ∙ sym q.0, p.1 ∙ sym q.1)
