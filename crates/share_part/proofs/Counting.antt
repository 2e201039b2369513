-- The counts of records that are released.
use Rattle.std.proofs.Common.{◌≡◌, ◌⊎◌, ⊎_elim, ◌∙◌, inl, inr, ap, arith, ℕ, ◌<◌, ◌≤◌, List, Option, Some, None, Bool, true, false}
use Rattle.std.proofs.lemmas.Bool.{cases_lt}
use Rattle.std.proofs.lemmas.Bool.Decides.{nat_tests}
use Rattle.std.specs.Prelude.{nat_le, nat_lt, if◌then◌else◌}
use Rattle.std.specs.Option.{option_or}
use Rattle.share_model.specs.ForeignRules.{size_of}
use Rattle.share_model.specs.Held.{hold_at}
use Rattle.share_model.specs.Logs.{Batch, IsSlot}
use Rattle.share_model.specs.Runs.{row_at}
use Rattle.share_model.specs.ShareStates.{ShareState}
use Rattle.share_model.specs.declared.hold.Hold.{Hold}
use Rattle.share_model.specs.declared.row.RowState.TheVariants.{Available, Archived}
use Rattle.share_part.specs.Settling.{IsOpen, IsSettled, act_row, is_closed, release_of, releases_if, releasing, stored_after}
use Rattle.share_part.specs.Tables.{Table}

module _ (limit : ℕ) (chosen : Hold → Bool) (log : List Batch) (table : Table) (next : ShareState) (s : IsSettled limit (releasing chosen table.held) log table next)
    (offset : ℕ) (hold : Hold) (at : hold_at table.held offset ≡ Some hold) (picked : chosen hold ≡ true) where
  stored : stored_after limit (releasing chosen table.held) table offset ≡ Some (record { state = if nat_le limit hold.count then Archived else Available; count = hold.count })
  stored =
      ap (λ (h : Option Hold). option_or (act_row limit (releases_if chosen h) h) (row_at table.rows offset)) at
      ∙ ap (λ (b : Bool). option_or (act_row limit (release_of b) (Some hold)) (row_at table.rows offset)) picked

  row_is : s.start ≤ offset → row_at next.runs offset ≡ Some (record { state = if nat_le limit hold.count then Archived else Available; count = hold.count })
  row_is from =
      let behind : nat_lt offset s.start ≡ false = grind (arith, nat_tests) in
      s.rows offset ∙ ap (λ (b : Bool). if b then None else stored_after limit (releasing chosen table.held) table offset) behind ∙ stored

  pub below_limit : hold.count < limit → IsSlot log offset → table.start ≤ offset → row_at next.runs offset ≡ Some (record { state = Available; count = hold.count })
  below_limit lt slot from =
      let under : nat_le limit hold.count ≡ false = grind (arith, nat_tests) in
      let opened : IsOpen log (stored_after limit (releasing chosen table.held) table) offset = record {
        slot = slot;
        open_is = ap is_closed stored ∙ ap (λ (b : Bool). is_closed (Some (record { state = if b then Archived else Available; count = hold.count }))) under;
      } in
      let starts : s.start ≤ offset = ⊎_elim (λ x. x.2 offset from opened) (λ x. absurd (x.1 offset from opened)) s.start_is in
      row_is starts ∙ ap (λ (b : Bool). Some (record { state = if b then Archived else Available; count = hold.count })) under

  pub at_limit : limit ≤ hold.count → (offset < size_of next.start) ⊎ (row_at next.runs offset ≡ Some (record { state = Archived; count = hold.count }))
  at_limit le =
      let over : nat_le limit hold.count ≡ true = grind (arith, nat_tests) in
      let start : size_of next.start ≡ s.start = ap size_of s.start_told in
      ⊎_elim
      (λ (lt : offset < s.start). inl (omega (arith, lt, start)))
      (λ (ge : s.start ≤ offset). inr (row_is ge ∙ ap (λ (b : Bool). Some (record { state = if b then Archived else Available; count = hold.count })) over))
      (cases_lt offset s.start)
