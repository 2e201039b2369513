-- What acknowledgements come to on the table of a group.
use Rattle.std.proofs.Common.{◌≡◌, ◌∙◌, refl, sym, ap, subst, arith, ℕ, List, [], ◌∷◌, Option, Some, None}
use Rattle.std.specs.Prelude.{IsSome}
use Rattle.std.specs.BTreeMap.{is_at}
use Rattle.std.specs.Cmp.Lexicographic.{slice_cmp}
use Rattle.std.specs.Map.{lookup}
use Rattle.std.specs.Option.{option_map}
use Rattle.std.specs.Ordering.{nat_cmp}
use Rattle.ack_ranges.proofs.Looks.{here, begins_at}
use Rattle.ack_ranges.specs.Pieces.{IsCanonical, piece_at}
use Rattle.ack_ranges.specs.declared.piece.Piece.{Piece}
use Rattle.share_model.specs.ForeignRules.{share_state_at, size_of}
use Rattle.share_model.specs.Held.{Held, hold_at}
use Rattle.share_model.specs.Keys.{KeyParts}
use Rattle.share_model.specs.Logs.{Batch}
use Rattle.share_model.specs.ShareStates.{ShareState}
use Rattle.share_model.specs.declared.ack.AckBatch.{AckBatch}
use Rattle.share_model.specs.declared.ack.AckKind.{AckKind}
use Rattle.share_model.specs.declared.run.Run.{Run}
use Rattle.share_coord.specs.Stored.{Entries, kept_at}
use Rattle.share_part.specs.Acting.{IsFirstNamed, JudgesGroup}
use Rattle.share_part.specs.Hosting.{HoldsWell}
use Rattle.share_part.specs.Named.{AreNamed, named_from}
use Rattle.share_coord.specs.States.{states_of}
use Rattle.share_part.specs.Settling.{Acts, IsHeldBy, IsLeastMissing, Judges}
use Rattle.share_part.specs.Shards.{held_in, held_of}
use Rattle.share_part.specs.Tables.{Table, table_of}
use Rattle.share_part.specs.declared.settle.Judged.{Judged}
use Rattle.share_part.specs.declared.settle.Judged.TheVariants.{NotHeld}
use Rattle.share_part.proofs.Seeing.{state_seen, view_of}

module _ (start : ℕ) (batches : List AckBatch) (pieces : List Piece) (are : AreNamed start batches pieces) where
  pub first_is : (p : Piece) (rest : List Piece) → pieces ≡ p ∷ rest → IsFirstNamed (named_from start batches) p.first
  first_is p rest is =
      let whole = subst IsCanonical is are.canonical in
      let said : (o : ℕ) → named_from start batches o ≡ piece_at (p ∷ rest) o = λ o. sym (are.same o) ∙ ap (λ (l : List Piece). piece_at l o) is in
      record {
        named = subst (λ (k : Option AckKind). IsSome k) (sym (said p.first ∙ here p rest p.first (omega arith) whole.0)) refl;
        before = λ o lt. said o ∙ begins_at p rest o whole lt;
      }

  pub none_named : pieces ≡ [] → (o : ℕ) → named_from start batches o ≡ None
  none_named is o = sym (are.same o) ∙ ap (λ (l : List Piece). piece_at l o) is

-- where nothing is held, the first offset that is named is missing
pub first_missing : (member : List ℕ) (acts : Acts) (held : Held) (first : ℕ) → held ≡ [] → IsFirstNamed acts first → IsLeastMissing member acts held first
first_missing member acts held first none is = record {
  named = is.named;
  missing = λ theirs. subst (λ (h : Held). IsHeldBy member (hold_at h first)) none theirs;
  below = λ o lt some. absurd (nothing (acts o) (is.before o lt) some);
}
  where
    nothing : (k : Option AckKind) → k ≡ None → IsSome k → ⊥
    nothing None e some = let clash : ⊥ = cc in clash
    nothing (Some k) e some = let clash : ⊥ = cc in clash

pub missing_judged : (limit : ℕ) (member : List ℕ) (acts : Acts) (log : List Batch) (held : Held) (state : Option ShareState) (rows : List Run) (first : ℕ) → held ≡ []
    → IsFirstNamed acts first → JudgesGroup limit member acts log held state rows (NotHeld first)
missing_judged limit member acts log held None rows first none is = (first, refl, first_missing member acts held first none is)
missing_judged limit member acts log held (Some state) rows first none is = first_missing member acts held first none is

-- a group without a table holds nothing
pub idle_held : (log : List Batch) (state : Option ShareState) (held : Held) → state ≡ None → HoldsWell log state held → held ≡ []
idle_held log None held none well = well
idle_held log (Some state) held none well = absurd (let clash : ⊥ = cc in clash)

module _ {W : Type 0} (holding : W → Held) (entries : Entries) (windows : List (List ℕ × W)) (group : List ℕ) (key : KeyParts) where
  pub nothing_held : None ≡ lookup (is_at (slice_cmp nat_cmp group)) windows → held_in holding windows group ≡ []
  nothing_held none = sym (ap (held_of holding) none)

  pub no_state : ◌≡◌ {A = Option ShareState} None (option_map view_of (kept_at entries key)) → share_state_at (states_of entries) key ≡ None
  no_state none = state_seen entries key ∙ sym none

  pub judged_there : (limit first : ℕ) (member : List ℕ) (log : List Batch) (state : ShareState) → Some state ≡ option_map view_of (kept_at entries key)
      → (w : W) → Some w ≡ lookup (is_at (slice_cmp nat_cmp group)) windows → (start : ℕ) (rows : List Run) → start ≡ size_of state.start → rows ≡ state.runs
      → (its : ℕ) → its ≡ limit → (named acks : List AckBatch) → named ≡ acks → (put : List Run) (judged : Judged)
      → Judges its member (named_from first named) log (record { start = start; rows = rows; held = holding w }) put judged
      → JudgesGroup limit member (named_from first acks) log (held_in holding windows group) (share_state_at (states_of entries) key) put judged
  judged_there limit first member log state there w in_map start rows at are its same named acks alike put judged judges =
      let known : share_state_at (states_of entries) key ≡ Some state = state_seen entries key ∙ sym there in
      let held : holding w ≡ held_in holding windows group = ap (held_of holding) in_map in
      let table : ◌≡◌ {A = Table} (record { start = start; rows = rows; held = holding w }) (table_of state (held_in holding windows group)) =
      λ i. record { start = at i; rows = are i; held = held i } in
      subst (λ (o : Option ShareState). JudgesGroup limit member (named_from first acks) log (held_in holding windows group) o put judged) (sym known)
      (subst (λ (t : Table). Judges limit member (named_from first acks) log t put judged) table
      (subst (λ (l : List AckBatch). Judges limit member (named_from first l) log (record { start = start; rows = rows; held = holding w }) put judged) alike
      (subst (λ (n : ℕ). Judges n member (named_from first named) log (record { start = start; rows = rows; held = holding w }) put judged) same judges)))
