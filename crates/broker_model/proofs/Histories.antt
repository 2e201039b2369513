-- Foreign state is what the list of accepted calls gives.
use Rattle.std.proofs.Common.{◌≡◌, ◌≢◌, inl, inr, ℕ, ℤ, pos, int_eq, int_cmp, Bool, true, false, cond, List, [], ◌∷◌, ◌++◌, Option, Some, None, if◌then◌else◌, refl, sym, ap, ◌∙◌, subst}
use Rattle.std.proofs.lemmas.Bool.{true≢false}
use Rattle.std.proofs.lemmas.Map.Lookups.{CmpEqualImpliesEq, exact_signed, exact_bytes, exact_unsigned}
use Rattle.std.specs.Cmp.{IsTotalOrder, then_total, on_total, nat_cmp_total}
use Rattle.std.specs.Cmp.Lexicographic.{slice_cmp, nat_list_cmp_total}
use Rattle.std.specs.List.{AllByRecursion}
use Rattle.std.specs.Map.{remove_entry}
use Rattle.std.specs.BTreeMap.{insert_entry, is_at}
use Rattle.std.specs.Option.{option_or}
use Rattle.std.specs.Ordering.{nat_cmp, ordering_then}
use Rattle.std.specs.declared.cmp.Ordering.{Ordering}
use Rattle.std.specs.declared.cmp.Ordering.TheVariants.{Less, Equal, Greater}
use Rattle.share_model.specs.ForeignRules.{code_alone}
use Rattle.share_model.specs.Keys.{KeyParts, key_cmp}
use Rattle.share_model.specs.Runs.{IsCanonical, row_at}
use Rattle.share_model.specs.ShareStates.{ShareState, start_after, is_below}
use Rattle.share_model.specs.ForeignRules.{ShareStates, Does, Initialises, Writes, WritesBatches, IsGranted, share_state_at, init_code, write_code, runs_of}
use Rattle.share_model.specs.declared.fault.Code.{Code}
use Rattle.share_model.specs.ErrorCodes.{NONE}
use Rattle.share_model.specs.declared.foreign.ForeignAnswer.{ForeignAnswer}
use Rattle.share_model.specs.declared.foreign.ForeignOp.{ForeignOp}
use Rattle.share_model.specs.declared.foreign.ForeignOp.TheVariants.{Init, Read, Write, Delete}
use Rattle.share_model.specs.declared.foreign.StateBatch.{StateBatch}
use Rattle.share_model.specs.declared.row.Row.{Row}
use Rattle.share_model.specs.declared.run.Run.{Run}
use Rattle.foreign_coord.specs.Shards.{is_granted}
use Rattle.broker_model.specs.History.{Call, AreDone, AcceptedCall, is_of, with_call, history_after, state_epoch_of, leader_epoch_of, start_of, row_given, PassesOver, HasRow, IsToldBy}
use Rattle.broker_model.specs.History.AcceptedCall.{AcceptedInit, AcceptedWrite}
use Rattle.broker_model.proofs.Maps.{Rises, equal_is, at_is, at_self, set_found, set_other, removed_other, removed_gone, rises_set, rises_removed}

-- ---- keys

pub keys_total : IsTotalOrder key_cmp
keys_total = then_total (on_total (λ k. k.group) nat_list_cmp_total) (then_total (on_total (λ k. k.topic) nat_list_cmp_total) (on_total (λ k. k.part) nat_cmp_total))

both_equal : (a b : Ordering) → ordering_then a b ≡ Equal → (a ≡ Equal) × (b ≡ Equal)
both_equal Less b e = absurd (cc)
both_equal Equal b e = (refl, e)
both_equal Greater b e = absurd (cc)

pub keys_exact : CmpEqualImpliesEq key_cmp
keys_exact a b e =
    let front = both_equal (slice_cmp nat_cmp a.group b.group) (ordering_then (slice_cmp nat_cmp a.topic b.topic) (nat_cmp a.part b.part)) e in
    let rest = both_equal (slice_cmp nat_cmp a.topic b.topic) (nat_cmp a.part b.part) front.1 in
    let group = exact_bytes a.group b.group front.0 in
    let topic = exact_bytes a.topic b.topic rest.0 in
    let part = exact_unsigned a.part b.part rest.1 in
    λ i. record { group = group i; topic = topic i; part = part i }

-- ---- rows, from the newest write back

abbrev pub row_in : List AcceptedCall → ℕ → Option Row
row_in [] offset = None
row_in (AcceptedInit state_epoch start ∷ earlier) offset = None
row_in (AcceptedWrite state_epoch leader_epoch start batches ∷ earlier) offset =
    if is_below offset (start_of (AcceptedWrite state_epoch leader_epoch start batches ∷ earlier)) then None
    else option_or (row_given (runs_of batches) offset) (row_in earlier offset)

none_some : {A : Type 0} (x : A) → None ≡ Some x → ⊥
none_some x e = cc

some_same : {A : Type 0} (x y : A) → Some x ≡ Some y → x ≡ y
some_same x y e = cc

tail_is : {A : Type 0} (x y : A) (xs ys : List A) → x ∷ xs ≡ y ∷ ys → xs ≡ ys
tail_is x y xs ys e = cc

module _ (offset : ℕ) (row : Row) where
  -- a row is that of such a write

  module _ (state_epoch leader_epoch start : ℤ) (batches : List StateBatch) (earlier : List AcceptedCall)
      (kept : is_below offset (start_of (AcceptedWrite state_epoch leader_epoch start batches ∷ earlier)) ≡ false) where
    abbrev write : AcceptedCall
    write = AcceptedWrite state_epoch leader_epoch start batches

    own_row : row_given (runs_of batches) offset ≡ Some row → HasRow (write ∷ earlier) offset row
    own_row gives = record {
      later = [];
      state_epoch = state_epoch;
      leader_epoch = leader_epoch;
      start = start;
      batches = batches;
      earlier = earlier;
      split = refl;
      gives = gives;
      latest = tt;
      starts = λ newer since is. own_starts newer since is;
    } where
      own_starts : (newer since : List AcceptedCall) → [] ≡ newer ++ since → is_below offset (start_of (since ++ (write ∷ earlier))) ≡ false
      own_starts [] since is = subst (λ (l : List AcceptedCall). is_below offset (start_of (l ++ (write ∷ earlier))) ≡ false) is kept
      own_starts (n ∷ newer) since is = absurd (cc)

    older_row : row_given (runs_of batches) offset ≡ None → HasRow earlier offset row → HasRow (write ∷ earlier) offset row
    older_row passes h = record {
      later = write ∷ h.later;
      state_epoch = h.state_epoch;
      leader_epoch = h.leader_epoch;
      start = h.start;
      batches = h.batches;
      earlier = h.earlier;
      split = ap (λ (l : List AcceptedCall). write ∷ l) h.split;
      gives = h.gives;
      latest = (passes, h.latest);
      starts = λ newer since is. older_starts newer since is;
    } where
      older : List AcceptedCall
      older = AcceptedWrite h.state_epoch h.leader_epoch h.start h.batches ∷ h.earlier

      older_starts : (newer since : List AcceptedCall) → write ∷ h.later ≡ newer ++ since → is_below offset (start_of (since ++ older)) ≡ false
      older_starts [] since is =
          subst (λ (l : List AcceptedCall). is_below offset (start_of (l ++ older)) ≡ false) is
          (subst (λ (l : List AcceptedCall). is_below offset (start_of (write ∷ l)) ≡ false) h.split kept)
      older_starts (n ∷ newer) since is = h.starts newer since (tail_is write n h.later (newer ++ since) is)

    from_parts : (given : Option Row) → row_given (runs_of batches) offset ≡ given → (row_in earlier offset ≡ Some row → HasRow earlier offset row)
        → option_or given (row_in earlier offset) ≡ Some row → HasRow (write ∷ earlier) offset row
    from_parts None is more e = older_row is (more e)
    from_parts (Some own) is more e = own_row (is ∙ e)

  from_test : (below : Bool) (state_epoch leader_epoch start : ℤ) (batches : List StateBatch) (earlier : List AcceptedCall)
      → is_below offset (start_of (AcceptedWrite state_epoch leader_epoch start batches ∷ earlier)) ≡ below
      → (row_in earlier offset ≡ Some row → HasRow earlier offset row)
      → cond below None (option_or (row_given (runs_of batches) offset) (row_in earlier offset)) ≡ Some row
      → HasRow (AcceptedWrite state_epoch leader_epoch start batches ∷ earlier) offset row
  from_test true s l start batches earlier is more e = absurd (none_some row e)
  from_test false s l start batches earlier is more e = from_parts s l start batches earlier is (row_given (runs_of batches) offset) refl more e

  has_row : (history : List AcceptedCall) → row_in history offset ≡ Some row → HasRow history offset row
  has_row [] e = absurd (none_some row e)
  has_row (AcceptedInit state_epoch start ∷ earlier) e = absurd (none_some row e)
  has_row (AcceptedWrite s l start batches ∷ earlier) e =
      from_test (is_below offset (start_of (AcceptedWrite s l start batches ∷ earlier))) s l start batches earlier refl (has_row earlier) e

  -- such a write's row is the row

  module _ (state_epoch leader_epoch start : ℤ) (batches : List StateBatch) (earlier : List AcceptedCall)
      (gives : row_given (runs_of batches) offset ≡ Some row) where
    abbrev old : List AcceptedCall
    old = AcceptedWrite state_epoch leader_epoch start batches ∷ earlier

    row_behind : (later : List AcceptedCall) → AllByRecursion (PassesOver offset) later
        → ((newer since : List AcceptedCall) → later ≡ newer ++ since → is_below offset (start_of (since ++ old)) ≡ false)
        → row_in (later ++ old) offset ≡ Some row
    row_behind [] passes starts =
        ap (λ (b : Bool). cond b None (option_or (row_given (runs_of batches) offset) (row_in earlier offset))) (starts [] [] refl)
        ∙ ap (λ (r : Option Row). option_or r (row_in earlier offset)) gives
    row_behind (AcceptedInit s t ∷ later) passes starts = absurd passes.0
    row_behind (AcceptedWrite s l t more ∷ later) passes starts =
        ap (λ (b : Bool). cond b None (option_or (row_given (runs_of more) offset) (row_in (later ++ old) offset)))
        (starts [] (AcceptedWrite s l t more ∷ later) refl)
        ∙ ap (λ (r : Option Row). option_or r (row_in (later ++ old) offset)) passes.0
        ∙ row_behind later passes.1 (λ newer since is. starts (AcceptedWrite s l t more ∷ newer) since (ap (λ (x : List AcceptedCall). AcceptedWrite s l t more ∷ x) is))

  is_row : (history : List AcceptedCall) → HasRow history offset row → row_in history offset ≡ Some row
  is_row history h =
      ap (λ (l : List AcceptedCall). row_in l offset) h.split
      ∙ row_behind h.state_epoch h.leader_epoch h.start h.batches h.earlier h.gives h.later h.latest h.starts

-- ---- what is known of a key

pub record IsKnown (newest : AcceptedCall) (earlier : List AcceptedCall) (state : ShareState) : Type 0 where
  pub state_epoch : state.state_epoch ≡ state_epoch_of newest
  pub leader_epoch : state.leader_epoch ≡ leader_epoch_of newest
  pub start : state.start ≡ start_of (newest ∷ earlier)
  pub canonical : IsCanonical state.runs
  pub rows : (offset : ℕ) → row_at state.runs offset ≡ row_in (newest ∷ earlier) offset

abbrev pub Known : List AcceptedCall → Option ShareState → Type 0
Known [] known = known ≡ None
Known (newest ∷ earlier) known = (state : ShareState) × (known ≡ Some state) × IsKnown newest earlier state

pub told_by : (history : List AcceptedCall) (known : Option ShareState) → Known history known → IsToldBy history known
told_by [] known k = k
told_by (newest ∷ earlier) known k = (
  k.0,
  k.1,
  record {
    state_epoch = k.2.state_epoch;
    leader_epoch = k.2.leader_epoch;
    start = k.2.start;
    canonical = k.2.canonical;
    rows = λ offset row. (
      λ e. has_row offset row (newest ∷ earlier) (sym (k.2.rows offset) ∙ e),
      λ h. k.2.rows offset ∙ is_row offset row (newest ∷ earlier) h,
    );
  },
)

-- ---- a call

granted_code : (code : Code) → is_granted (code_alone code) ≡ true → code ≡ NONE
granted_code code e = let make : ℤ → Code = λ n. record { 0 = n } in ap make (int_same code.0 (pos 0) e) where
  int_same : (x y : ℤ) → int_eq x y ≡ true → x ≡ y
  int_same x y e = exact_signed x y (equal_is (int_cmp x y) e)

refused_code : (code : Code) → code ≢ NONE → is_granted (code_alone code) ≡ false
refused_code code refused = go (is_granted (code_alone code)) refl where
  go : (b : Bool) → is_granted (code_alone code) ≡ b → b ≡ false
  go true is = absurd (refused (granted_code code is))
  go false is = refl

-- the histories of all keys, and what is known by them
abbrev pub Histories : Type 0
Histories = KeyParts → List AcceptedCall

pub record AreKnown (histories : Histories) (states : ShareStates) : Type 0 where
  pub rises : Rises key_cmp keys_total keys_exact states
  pub known : (key : KeyParts) → Known (histories key) (share_state_at states key)

abbrev then_histories : ForeignOp → ForeignAnswer → Histories → Histories
then_histories op answer histories key = if is_granted answer then with_call key op (histories key) else histories key

module _ (histories : Histories) (old : ShareStates) (before : AreKnown histories old) where
  -- a call that is refused changes nothing
  refused : (op : ForeignOp) (answer : ForeignAnswer) (new : ShareStates) → is_granted answer ≡ false → new ≡ old
      → AreKnown (then_histories op answer histories) new
  refused op answer new denied is = record {
    rises = subst (λ (s : ShareStates). Rises key_cmp keys_total keys_exact s) (sym is) before.rises;
    known = λ key. subst (λ (s : ShareStates). Known (then_histories op answer histories key) (share_state_at s key)) (sym is)
        (subst (λ (b : Bool). Known (cond b (with_call key op (histories key)) (histories key)) (share_state_at old key)) (sym denied) (before.known key));
  }

  differs : (key owner : KeyParts) → is_of key owner ≡ false → key ≢ owner
  differs key owner away same =
      true≢false (sym (at_self key_cmp keys_total keys_exact owner) ∙ ap (λ (k : KeyParts). is_of k owner) (sym same) ∙ away)

  -- a key whose state is set
  module _ (owner : KeyParts) (state : ShareState) (newest : AcceptedCall) (is_known : IsKnown newest (histories owner) state) where
    set_known : (key : KeyParts) → Known (if is_of key owner then newest ∷ histories key else histories key)
        (share_state_at (insert_entry key_cmp old owner state) key)
    set_known key = go (is_of key owner) refl where
      go : (b : Bool) → is_of key owner ≡ b → Known (cond b (newest ∷ histories key) (histories key))
          (share_state_at (insert_entry key_cmp old owner state) key)
      go true is =
          let same : key ≡ owner = at_is key_cmp keys_total keys_exact key owner is in
          subst (λ (k : KeyParts). Known (newest ∷ histories k) (share_state_at (insert_entry key_cmp old owner state) k)) (sym same)
          (state, set_found key_cmp keys_total keys_exact owner state old, is_known)
      go false is =
          subst (λ (s : Option ShareState). Known (histories key) s)
          (sym (set_other key_cmp keys_total keys_exact owner state key (differs key owner is) old)) (before.known key)

  granted : (op : ForeignOp) (answer : ForeignAnswer) (new : ShareStates) → answer ≡ code_alone NONE → Rises key_cmp keys_total keys_exact new
      → ((key : KeyParts) → Known (with_call key op (histories key)) (share_state_at new key)) → AreKnown (then_histories op answer histories) new
  granted op answer new told rises known = record {
    rises = rises;
    known = λ key. subst (λ (a : ForeignAnswer). Known (then_histories op a histories key) (share_state_at new key)) (sym told) (known key);
  }

  -- ---- each kind of call

  inits : (owner : KeyParts) (state_epoch start : ℤ) (answer : ForeignAnswer) (new : ShareStates) → Initialises old owner state_epoch start answer new
      → AreKnown (then_histories (Init owner state_epoch start) answer histories) new
  inits owner state_epoch start answer new (told, inl kept) =
      refused (Init owner state_epoch start) answer new
      (ap is_granted told ∙ refused_code (init_code (share_state_at old owner) state_epoch start) kept.0) kept.1
  inits owner state_epoch start answer new (told, inr made_now) =
      granted (Init owner state_epoch start) answer new (told ∙ ap code_alone made_now.0)
      (subst (λ (s : ShareStates). Rises key_cmp keys_total keys_exact s) (sym made_now.1) (rises_set key_cmp keys_total keys_exact owner made old before.rises))
      (λ key. subst (λ (s : ShareStates). Known (with_call key (Init owner state_epoch start) (histories key)) (share_state_at s key)) (sym made_now.1)
      (set_known owner made (AcceptedInit state_epoch start) made_known key)) where
        made : ShareState
        made = record { state_epoch = state_epoch; leader_epoch = pos 0; start = start; runs = [] }

        made_known : IsKnown (AcceptedInit state_epoch start) (histories owner) made
        made_known = record { state_epoch = refl; leader_epoch = refl; start = refl; canonical = tt; rows = λ offset. refl }

  reads : (owner : KeyParts) (leader_epoch : ℤ) (answer : ForeignAnswer) (new : ShareStates) → new ≡ old
      → AreKnown (then_histories (Read owner leader_epoch) answer histories) new
  reads owner leader_epoch answer new is = record {
    rises = subst (λ (s : ShareStates). Rises key_cmp keys_total keys_exact s) (sym is) before.rises;
    known = λ key. subst (λ (s : ShareStates). Known (then_histories (Read owner leader_epoch) answer histories key) (share_state_at s key)) (sym is)
        (subst (λ (h : List AcceptedCall). Known h (share_state_at old key)) (sym (either (is_granted answer) (histories key))) (before.known key));
  } where
    either : (b : Bool) (h : List AcceptedCall) → cond b h h ≡ h
    either true h = refl
    either false h = refl

  deletes : (owner : KeyParts) (answer : ForeignAnswer) (new : ShareStates) → answer ≡ code_alone NONE → new ≡ remove_entry (is_at (key_cmp owner)) old
      → AreKnown (then_histories (Delete owner) answer histories) new
  deletes owner answer new told is =
      granted (Delete owner) answer new told
      (subst (λ (s : ShareStates). Rises key_cmp keys_total keys_exact s) (sym is) (rises_removed key_cmp keys_total keys_exact (is_at (key_cmp owner)) old before.rises))
      (λ key. subst (λ (s : ShareStates). Known (with_call key (Delete owner) (histories key)) (share_state_at s key)) (sym is) (gone key)) where
        gone : (key : KeyParts) → Known (if is_of key owner then [] else histories key) (share_state_at (remove_entry (is_at (key_cmp owner)) old) key)
        gone key = go (is_of key owner) refl where
          go : (b : Bool) → is_of key owner ≡ b → Known (cond b [] (histories key)) (share_state_at (remove_entry (is_at (key_cmp owner)) old) key)
          go true away =
              let same : key ≡ owner = at_is key_cmp keys_total keys_exact key owner away in
              subst (λ (k : KeyParts). share_state_at (remove_entry (is_at (key_cmp owner)) old) k ≡ None) (sym same)
              (removed_gone key_cmp keys_total keys_exact owner old before.rises)
          go false away =
              subst (λ (s : Option ShareState). Known (histories key) s)
              (sym (removed_other key_cmp keys_total keys_exact owner key (differs key owner away) old)) (before.known key)

  module _ (owner : KeyParts) (state_epoch leader_epoch start : ℤ) (batches : List StateBatch) (answer : ForeignAnswer) (new : ShareStates) where
    abbrev asked : ForeignOp
    asked = Write owner state_epoch leader_epoch start batches

    module _ (runs : List Run) (is_runs : runs_of batches ≡ Some runs) where
      module _ (g : IsGranted old owner state_epoch leader_epoch start runs new) where
        abbrev written : ShareState
        written = record { state_epoch = state_epoch; leader_epoch = leader_epoch; start = start_after g.known.start start; runs = g.laid }

        abbrev laid_row : ℤ → Option Row → Option Row → ℕ → Option Row
        laid_row from over under offset = if is_below offset (start_after from start) then None else option_or over under

        written_over : (history : List AcceptedCall) → Known history (Some g.known) → IsKnown (AcceptedWrite state_epoch leader_epoch start batches) history written
        written_over [] none = absurd (none_some g.known (sym none))
        written_over (newest ∷ earlier) k =
            let same : g.known ≡ k.0 = some_same g.known k.0 k.1 in
            let from : g.known.start ≡ start_of (newest ∷ earlier) = ap (λ (s : ShareState). s.start) same ∙ k.2.start in
            record {
              state_epoch = refl;
              leader_epoch = refl;
              start = ap (λ (n : ℤ). start_after n start) from;
              canonical = g.are_laid.canonical;
              rows = λ offset.
                  g.are_laid.rows offset
                  ∙ (λ i. laid_row (from i)
                  ((g.are_written.rows offset ∙ sym (ap (λ (r : Option (List Run)). row_given r offset) is_runs)) i)
                  ((ap (λ (s : ShareState). row_at s.runs offset) same ∙ k.2.rows offset) i) offset);
            }

        writes_granted : answer ≡ code_alone NONE → AreKnown (then_histories asked answer histories) new
        writes_granted told =
            let known = written_over (histories owner) (subst (λ (s : Option ShareState). Known (histories owner) s) g.is_known (before.known owner)) in
            granted asked answer new told
            (subst (λ (s : ShareStates). Rises key_cmp keys_total keys_exact s) (sym g.is) (rises_set key_cmp keys_total keys_exact owner written old before.rises))
            (λ key. subst (λ (s : ShareStates). Known (with_call key asked (histories key)) (share_state_at s key)) (sym g.is)
            (set_known owner written (AcceptedWrite state_epoch leader_epoch start batches) known key))

      writes_runs : Writes old owner state_epoch leader_epoch start runs answer new → AreKnown (then_histories asked answer histories) new
      writes_runs (inl kept) =
          refused asked answer new
          (ap is_granted kept.1 ∙ refused_code (write_code (share_state_at old owner) state_epoch leader_epoch start runs) kept.0) kept.2
      writes_runs (inr (passed, inl many)) = refused asked answer new (ap is_granted many.0) many.2
      writes_runs (inr (passed, inr g)) = writes_granted g.1 g.0

    writes : (runs : Option (List Run)) → runs_of batches ≡ runs → WritesBatches old owner state_epoch leader_epoch start runs answer new
        → AreKnown (then_histories asked answer histories) new
    writes None is p = refused asked answer new (ap is_granted p.0) p.1
    writes (Some runs) is p = writes_runs runs is p

  does_known : (op : ForeignOp) (answer : ForeignAnswer) (new : ShareStates) → Does old op answer new → AreKnown (then_histories op answer histories) new
  does_known (Init owner state_epoch start) answer new p = inits owner state_epoch start answer new p
  does_known (Read owner leader_epoch) answer new p = reads owner leader_epoch answer new p.1
  does_known (Write owner state_epoch leader_epoch start batches) answer new p =
      writes owner state_epoch leader_epoch start batches answer new (runs_of batches) refl p
  does_known (Delete owner) answer new p = deletes owner answer new p.0 p.1

-- ---- all calls

pub all_known : (calls : List Call) (histories : Histories) (first last : ShareStates) → AreDone first calls last → AreKnown histories first
    → AreKnown (λ key. history_after key (histories key) calls) last
all_known [] histories first last is known = subst (λ (s : ShareStates). AreKnown histories s) (sym is) known
all_known (call ∷ calls) histories first last p known =
    all_known calls (then_histories call.op call.answer histories) p.0 last p.2 (does_known histories first known call.op call.answer p.0 p.1)
