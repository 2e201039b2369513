-- What a call on a partition that meets no fault answers and leaves is one.
use Rattle.std.proofs.Common.{◌≡◌, ◌<◌, ◌+◌, ◌-◌, inl, inr, refl, sym, ap, ◌∙◌, subst, arith, ℕ, ℤ, zero, suc, pos, List, [], ◌∷◌, ◌++◌, Bool, true, false, Option, Some, None, if◌then◌else◌}
use Rattle.std.proofs.lemmas.Bool.Decides.{nat_tests}
use Rattle.std.proofs.lemmas.Bool.{true≢false}
use Rattle.std.specs.Prelude.{◌⊎◌, IfOk, IsSome, is_some, nat_eq, nat_lt, ◌&&◌}
use Rattle.std.specs.BTreeMap.{insert_entry}
use Rattle.edge_io.specs.Causes.{Rose}
use Rattle.ack_ranges.proofs.Faults.{no_fault, one_fault}
use Rattle.rec_batch.proofs.OneFault.{one_first_fault}
use Rattle.rec_batch.specs.declared.form.Form.TheVariants.{Produced as ProducedForm}
use Rattle.share_model.specs.ForeignRules.{share_state_at}
use Rattle.share_model.specs.Held.{Held}
use Rattle.share_model.specs.Keys.{key_cmp}
use Rattle.share_model.specs.Logs.{Batch as LogBatch}
use Rattle.share_model.specs.ForeignRules.{ShareStates}
use Rattle.share_model.specs.ShareStates.{ShareState}
use Rattle.share_model.specs.declared.ack.AckFault.{AckFault}
use Rattle.share_model.specs.declared.delete.DeleteAnswer.{DeleteAnswer}
use Rattle.share_model.specs.declared.delete.DeleteAnswer.TheVariants.{Done as Deleted, OutOfRange, Store as delete_store}
use Rattle.share_model.specs.declared.delete.Placed.{Placed}
use Rattle.share_model.specs.declared.fault.BatchFault.{BatchFault}
use Rattle.share_model.specs.declared.hold.Grant.{Grant}
use Rattle.share_model.specs.declared.row.Row.{Row}
use Rattle.share_model.specs.declared.fault.StoreFault.TheVariants.{Device}
use Rattle.share_model.specs.declared.visit.AckOutcome.{AckOutcome}
use Rattle.share_model.specs.declared.visit.AckOutcome.TheVariants.{Done as acknowledged, Malformed, NotHeld, Store as ack_store}
use Rattle.share_model.specs.declared.visit.ExpireAnswer.{ExpireAnswer}
use Rattle.share_model.specs.declared.visit.Then.{Then}
use Rattle.share_model.specs.declared.visit.Then.TheVariants.{Nothing, Release, Fetch}
use Rattle.share_model.specs.declared.visit.ThenOutcome.{ThenOutcome}
use Rattle.share_model.specs.declared.visit.ThenOutcome.TheVariants.{Done as followed, Store as then_store}
use Rattle.share_model.specs.declared.visit.Visit.{Visit}
use Rattle.share_model.specs.declared.visit.VisitAnswer.{VisitAnswer}
use Rattle.share_model.proofs.OneList.{one_list}
use Rattle.part_log.specs.Shards.{LogShardState, Raises, StepsLog, log_at}
use Rattle.part_log.specs.Starts.{Log}
use Rattle.share_part.specs.Acknowledging.{Acknowledges, AreSettled, StoresActs}
use Rattle.share_part.specs.Deleting.{Deletes as DeletesPart, DeletesBelow, DeletesNothing, IsRaisedTo, StepsDelete, target_of}
use Rattle.share_part.specs.Expiring.{StepsGroups, due_count, ending, more_freed}
use Rattle.share_part.specs.Following.{Acquires, Does, Fetches, FetchesFirst, Follows, MakesTable, Reading, fault_of, releases_of}
use Rattle.share_part.specs.Hosting.{PartConfParts, key_of}
use Rattle.share_part.specs.Named.{named_from}
use Rattle.share_part.specs.Settling.{Acts, IsLeastMissing, IsNextStart, IsSettled, stored_after}
use Rattle.share_part.specs.Shards.{IsStill, PartShardState, StepsProduce, base_in, new_state, with_clock_raised, with_held}
use Rattle.share_part.specs.Tables.{Table, table_of, with_holds}
use Rattle.share_part.specs.Visits.{StepsVisit}
use Rattle.share_part.specs.Walks.{AreApart, AreRunsOf, FollowsGrant, acquired, offsets_with, written_out}
use Rattle.share_part.specs.declared.limits.Limits.{Limits}
use Rattle.call_fold.specs.declared.part.Produced.{Produced}
use Rattle.call_fold.specs.declared.part.Produced.TheVariants.{Base, Batch, Store}
use Rattle.broker_model.specs.Hosted.{Hosted}
use Rattle.broker_model.specs.Shards.{Counts, PartCall, StepsPart, result_of, store_fault_of_ack, store_fault_of_delete, store_fault_of_expiry, store_fault_of_log, store_fault_of_then, Ends}
use Rattle.broker_model.specs.Shards.PartCall.{Visits, Produces, Looks, Expires, Deletes}
use Rattle.broker_model.specs.Alike.{PartMetNoFault}
use Rattle.broker_model.proofs.Lists.{none_not, some_same}

-- ---- the grants of what is taken

-- an offset and its count in front of grants
abbrev joined : ℕ × ℕ → List Grant → List Grant
joined t [] = record { first = t.0; last = t.0; count = t.1 } ∷ []
joined t (g ∷ grants) =
    if nat_eq g.first (t.0 + 1) && nat_eq g.count t.1 then record { first = t.0; last = g.last; count = t.1 } ∷ grants
    else record { first = t.0; last = t.0; count = t.1 } ∷ g ∷ grants

abbrev joined_all : List (ℕ × ℕ) → List Grant
joined_all [] = []
joined_all (t ∷ taken) = joined t (joined_all taken)

abbrev grant_of : ℕ → ℕ → ℕ → Grant
grant_of first last count = record { first = first; last = last; count = count }

goes_on : (first count : ℕ) → (nat_eq (first + 1) (first + 1) && nat_eq count count) ≡ true
goes_on first count = grind (arith, nat_tests)

front_apart : (first count : ℕ) (grants : List Grant) → FollowsGrant (grant_of first first count) grants
    → joined (first, count) grants ≡ grant_of first first count ∷ grants
front_apart first count [] f = refl
front_apart first count (h ∷ grants) f =
    ap (λ (b : Bool). if b then grant_of first h.last count ∷ grants else grant_of first first count ∷ h ∷ grants) f

follows_as : (a b last count : ℕ) (grants : List Grant) → FollowsGrant (grant_of a last count) grants → FollowsGrant (grant_of b last count) grants
follows_as a b last count [] f = f
follows_as a b last count (h ∷ grants) f = f

grant_back : (n first last count : ℕ) (grants : List Grant) (taken : List (ℕ × ℕ)) → last ≡ first + n → joined_all taken ≡ grants
    → FollowsGrant (grant_of first last count) grants → joined_all (offsets_with first (suc n) count ++ taken) ≡ grant_of first last count ∷ grants
grant_back zero first last count grants taken e is f =
    let same : last ≡ first = omega (arith, e) in
    ap (joined (first, count)) is
    ∙ front_apart first count grants (subst (λ (l : ℕ). FollowsGrant (grant_of first l count) grants) same f)
    ∙ (λ i. grant_of first (sym same i) count ∷ grants)
grant_back (suc n) first last count grants taken e is f =
    ap (joined (first, count))
    (grant_back n (first + 1) last count grants taken (omega (arith, e)) is (follows_as first (first + 1) last count grants f))
    ∙ ap (λ (b : Bool). if b then grant_of first last count ∷ grants else grant_of first first count ∷ grant_of (first + 1) last count ∷ grants)
    (goes_on first count)

grants_back : (grants : List Grant) → AreApart grants → joined_all (written_out grants) ≡ grants
grants_back [] apart = refl
grants_back (g ∷ grants) apart =
    let many : (g.last + 1) - g.first ≡ suc (g.last - g.first) = (let le = apart.0 in omega (arith, le)) in
    ap (λ (n : ℕ). joined_all (offsets_with g.first n g.count ++ written_out grants)) many
    ∙ grant_back (g.last - g.first) g.first g.last g.count grants (written_out grants) (let le = apart.0 in omega (arith, le))
    (grants_back grants apart.2) apart.1

grants_once : (taken : List (ℕ × ℕ)) (xs ys : List Grant) → AreRunsOf taken xs → AreRunsOf taken ys → xs ≡ ys
grants_once taken xs ys p q = sym (grants_back xs p.apart) ∙ ap joined_all (p.offsets ∙ sym q.offsets) ∙ grants_back ys q.apart

-- ---- acts on a table

next_once : (log : List LogBatch) (stored : ℕ → Option Row) (start a b : ℕ) → IsNextStart log stored start a → IsNextStart log stored start b → a ≡ b
next_once log stored start a b (inl p) (inl q) = let le = p.2 b q.1 q.0 in let ge = q.2 a p.1 p.0 in omega (arith, le, ge)
next_once log stored start a b (inl p) (inr q) = absurd (q.1 a p.1 p.0)
next_once log stored start a b (inr p) (inl q) = absurd (p.1 b q.1 q.0)
next_once log stored start a b (inr p) (inr q) = p.0 ∙ sym q.0

settled_once : (limit : ℕ) (acts : Acts) (log : List LogBatch) (table : Table) (one other : ShareState) → IsSettled limit acts log table one
    → IsSettled limit acts log table other → one ≡ other
settled_once limit acts log table one other p q =
    let starts = next_once log (stored_after limit acts table) table.start p.start q.start p.start_is q.start_is in
    let runs : one.runs ≡ other.runs = one_list one.runs other.runs p.canonical q.canonical
    (λ o. p.rows o ∙ ap (λ (s : ℕ). if nat_lt o s then None else stored_after limit acts table o) starts ∙ sym (q.rows o)) in
    λ i. record {
      state_epoch = (p.epochs.0 ∙ sym q.epochs.0) i;
      leader_epoch = (p.epochs.1 ∙ sym q.epochs.1) i;
      start = (p.start_told ∙ ap pos starts ∙ sym q.start_told) i;
      runs = runs i;
    }

are_settled_once : (conf : PartConfParts) (a : PartShardState) (group : List ℕ) (acts : Acts) (one other : ShareStates) → AreSettled conf a group acts one
    → AreSettled conf a group acts other → one ≡ other
are_settled_once conf a group acts one other p q =
    let known = some_same p.state q.state (sym p.known ∙ q.known) in
    let next = settled_once conf.limit acts a.log.batches (table_of q.state (a.held group)) p.next q.next
    (subst (λ (s : ShareState). IsSettled conf.limit acts a.log.batches (table_of s (a.held group)) p.next) known p.settled) q.settled in
    p.is ∙ ap (insert_entry key_cmp a.states (key_of conf group)) next ∙ sym q.is

-- what a write may change
pub record IsSame (one other : PartShardState) : Type 0 where
  pub states : one.states ≡ other.states
  pub pending : one.pending ≡ other.pending
  pub held : one.held ≡ other.held

none_some : (acts : Acts) (o : ℕ) → acts o ≡ None → IsSome (acts o) → ⊥
none_some acts o none some = true≢false (sym some ∙ ap is_some none)

stores_once : (conf : PartConfParts) (rose also : Type 0) (end at : ℕ) (a : PartShardState) (group : List ℕ) (acts : Acts) (one other : PartShardState)
    → StoresActs conf rose end a group acts one None → StoresActs conf also at a group acts other None → IsSame one other
stores_once conf rose also end at a group acts one other (inl p) (inl q) = record {
  states = p.1.states ∙ sym q.1.states;
  pending = p.1.pending ∙ sym q.1.pending;
  held = p.1.held ∙ sym q.1.held;
}
stores_once conf rose also end at a group acts one other (inl p) (inr q) = absurd (none_some acts q.0.0 (p.0 q.0.0) q.0.1)
stores_once conf rose also end at a group acts one other (inr p) (inl q) = absurd (none_some acts p.0.0 (q.0 p.0.0) p.0.1)
stores_once conf rose also end at a group acts one other (inr p) (inr q) = record {
  states = are_settled_once conf a group acts one.states other.states p.1.states q.1.states;
  pending = p.1.nothing ∙ sym q.1.nothing;
  held = p.1.held ∙ sym q.1.held;
}

-- ---- acknowledgements

least_once : (member : List ℕ) (acts : Acts) (held : Held) (a b : ℕ) → IsLeastMissing member acts held a → IsLeastMissing member acts held b → a ≡ b
least_once member acts held a b p q = by_tests (nat_lt a b) refl (nat_lt b a) refl where
  below : (x y : ℕ) → nat_lt x y ≡ true → x < y
  below x y e = grind (arith, nat_tests)

  neither : nat_lt a b ≡ false → nat_lt b a ≡ false → a ≡ b
  neither e f = grind (arith, nat_tests)

  by_tests : (s : Bool) → nat_lt a b ≡ s → (t : Bool) → nat_lt b a ≡ t → a ≡ b
  by_tests true e t f = absurd (p.missing (q.below a (below a b e) p.named))
  by_tests false e true f = absurd (q.missing (p.below b (below b a f) q.named))
  by_tests false e false f = neither e f

module _ (conf : PartConfParts) (rose also : Type 0) (end at : ℕ) (a : PartShardState) (visit : Visit) (one other : PartShardState) where
  abbrev Acked : AckOutcome → AckOutcome → Type 0
  Acked ack told = (ack ≡ told) × IsSame one other

  acks_once : (ack told : AckOutcome) → store_fault_of_ack ack ≡ None → store_fault_of_ack told ≡ None → Acknowledges conf rose end a visit one ack
      → Acknowledges conf also at a visit other told → Acked ack told
  acks_once acknowledged acknowledged n m p q = (refl, stores_once conf rose also end at a visit.group (named_from a.log.start visit.acks) one other p.1 q.1)
  acks_once acknowledged (Malformed fault) n m p q = absurd (no_fault visit.acks fault q.0 p.0.0)
  acks_once acknowledged (NotHeld offset) n m p q = absurd (q.1.missing (p.0.1 offset q.1.named))
  acks_once (Malformed fault) acknowledged n m p q = absurd (no_fault visit.acks fault p.0 q.0.0)
  acks_once (Malformed fault) (Malformed more) n m p q = (
    ap (λ (f : AckFault). Malformed f) (one_fault visit.acks fault more p.0 q.0),
    record { states = p.1.states ∙ sym q.1.states; pending = p.1.pending ∙ sym q.1.pending; held = p.1.held ∙ sym q.1.held },
  )
  acks_once (Malformed fault) (NotHeld offset) n m p q = absurd (no_fault visit.acks fault p.0 q.0)
  acks_once (NotHeld offset) acknowledged n m p q = absurd (p.1.missing (q.0.1 offset p.1.named))
  acks_once (NotHeld offset) (Malformed fault) n m p q = absurd (no_fault visit.acks fault q.0 p.0)
  acks_once (NotHeld offset) (NotHeld more) n m p q = (
    ap (λ (o : ℕ). NotHeld o) (least_once visit.member (named_from a.log.start visit.acks) (a.held visit.group) offset more p.1 q.1),
    record { states = p.2.states ∙ sym q.2.states; pending = p.2.pending ∙ sym q.2.pending; held = p.2.held ∙ sym q.2.held },
  )
  acks_once acknowledged (ack_store fault) n m p q = absurd (none_not fault (sym m))
  acks_once (Malformed more) (ack_store fault) n m p q = absurd (none_not fault (sym m))
  acks_once (NotHeld offset) (ack_store fault) n m p q = absurd (none_not fault (sym m))
  acks_once (ack_store fault) told n m p q = absurd (none_not fault (sym n))

-- ---- what follows

done_only : (o : ThenOutcome) → store_fault_of_then o ≡ None → o ≡ followed
done_only followed e = refl
done_only (then_store fault) e = absurd (none_not fault (sym e))

module _ (conf : PartConfParts) (rose also : Type 0) (end at : ℕ) (a : PartShardState) (visit : Visit) (answer told : VisitAnswer) (one other : PartShardState)
    (clocks : one.clock ≡ other.clock) (none : store_fault_of_then answer.then ≡ None) (nothing : store_fault_of_then told.then ≡ None) where
  record IsThen : Type 0 where
    outcome : answer.then ≡ told.then
    grants : answer.grants ≡ told.grants
    batches : answer.batches ≡ told.batches
    same : IsSame one other

  record IsTaken : Type 0 where
    grants : answer.grants ≡ told.grants
    batches : answer.batches ≡ told.batches
    held : one.held ≡ other.held

  outcomes : answer.then ≡ told.then
  outcomes = done_only answer.then none ∙ sym (done_only told.then nothing)

  acquires_once : (state : ShareState) (limits : Limits) → Acquires conf true a state visit limits answer one → Acquires conf true a state visit limits told other → IsTaken
  acquires_once state limits p q =
      let taken = (acquired a.log.batches (table_of state (a.held visit.group)) limits).taken in
      record {
        grants = grants_once taken answer.grants told.grants p.grants q.grants;
        batches = p.batches refl ∙ sym (q.batches refl);
        held = p.held
            ∙ ap (λ (c : ℕ). with_held a.held visit.group (with_holds visit.member (c + conf.lock_ms) taken (a.held visit.group))) clocks
            ∙ sym q.held;
      }

  first_once : (limits : Limits) → FetchesFirst conf true a visit limits answer one → FetchesFirst conf true a visit limits told other → IsThen
  first_once limits p q =
      let t = acquires_once (new_state conf (log_at a.log)) limits p.acquires q.acquires in
      record {
        outcome = outcomes;
        grants = t.grants;
        batches = t.batches;
        same = record { states = p.states ∙ sym q.states; pending = p.nothing ∙ sym q.nothing; held = t.held };
      }

  fetches_once : (limits : Limits) (o : Option ShareState) → Fetches conf true rose end a visit limits answer one o → Fetches conf true also at a visit limits told other o → IsThen
  fetches_once limits None p q = first_once limits
      (subst (λ (t : ThenOutcome). MakesTable conf true rose end a visit limits answer one t) (done_only answer.then none) p)
      (subst (λ (t : ThenOutcome). MakesTable conf true also at a visit limits told other t) (done_only told.then nothing) q)
  fetches_once limits (Some state) p q =
      let t = acquires_once state limits p.acquires q.acquires in
      record {
        outcome = outcomes;
        grants = t.grants;
        batches = t.batches;
        same = record { states = p.states ∙ sym q.states; pending = p.pending ∙ sym q.pending; held = t.held };
      }

  then_once : (t : Then) → Does conf true rose end a visit answer one t → Does conf true also at a visit told other t → IsThen
  then_once Nothing p q = record {
    outcome = outcomes;
    grants = p.0.grants ∙ sym q.0.grants;
    batches = p.0.batches ∙ sym q.0.batches;
    same = record { states = p.1.states ∙ sym q.1.states; pending = p.1.pending ∙ sym q.1.pending; held = p.1.held ∙ sym q.1.held };
  }
  then_once Release p q = record {
    outcome = outcomes;
    grants = p.0.grants ∙ sym q.0.grants;
    batches = p.0.batches ∙ sym q.0.batches;
    same = stores_once conf rose also end at a visit.group (releases_of visit.member (a.held visit.group)) one other
        (subst (λ (t : ThenOutcome). StoresActs conf rose end a visit.group (releases_of visit.member (a.held visit.group)) one (fault_of t))
        (done_only answer.then none) p.1)
        (subst (λ (t : ThenOutcome). StoresActs conf also at a visit.group (releases_of visit.member (a.held visit.group)) other (fault_of t))
        (done_only told.then nothing) q.1);
  }
  then_once (Fetch records bytes first) p q =
      fetches_once (record { records = records; bytes = bytes; first = first }) (share_state_at a.states (key_of conf visit.group)) p q

  unread_not : (told : ThenOutcome) → store_fault_of_then told ≡ None → told ≡ then_store Device → ⊥
  unread_not told none is = none_not Device (sym none ∙ ap store_fault_of_then is)

  follows_once : (unread lost : Type 0) (failed missed : Bool) → Follows conf true unread rose end a visit answer one failed
      → Follows conf true lost also at a visit told other missed → IsThen × (failed ≡ missed)
  follows_once unread lost false false p q = (then_once visit.then p q, refl)
  follows_once unread lost true missed p q = absurd (unread_not answer.then none p.empty.outcome_is)
  follows_once unread lost false true p q = absurd (unread_not told.then nothing q.empty.outcome_is)

-- ---- a visit

same_shards : (one other : PartShardState) → IsSame one other → one.log ≡ other.log → one.clock ≡ other.clock → one ≡ other
same_shards one other same log clock =
    λ i. record { log = log i; states = same.states i; pending = same.pending i; held = same.held i; clock = clock i }

abbrev Once : {A : Type 0} → A → A → PartShardState → PartShardState → Type 0
Once answer told one other = (answer ≡ told) × (one ≡ other)

-- how a machine's fetch read its batches
abbrev machine_reading : Type 0 → Bool → Reading
machine_reading rose failed = record { told = true; rose = rose; failed = failed }

visit_once : (conf : PartConfParts) (unread lost : Type 0) (c l e x d m f y : ℕ) (a one other : PartShardState) (now : ℕ) (visit : Visit)
    (answer told : VisitAnswer) (failed missed : Bool) → PartMetNoFault (Visits visit answer failed) → PartMetNoFault (Visits visit told missed)
    → StepsVisit conf (machine_reading unread failed) c l e x a now visit answer one
    → StepsVisit conf (machine_reading lost missed) d m f y a now visit told other → Once answer told one other × (failed ≡ missed)
visit_once conf unread lost c l e x d m f y a one other now visit answer told failed missed none nothing p q =
    let acks = acks_once conf (Rose c p.counted) (Rose d q.counted) e f a visit p.between q.between answer.ack told.ack none.0 nothing.0 p.acks.does q.acks.does in
    let mids : p.between ≡ q.between = same_shards p.between q.between acks.1 (p.acks.log ∙ sym q.acks.log) (p.acks.clock ∙ sym q.acks.clock) in
    let clocks : one.clock ≡ other.clock = p.clock ∙ sym q.clock in
    let r = follows_once conf (Rose p.counted l) (Rose q.counted m) p.at q.at q.between visit answer told one other clocks none.1 nothing.1 unread lost failed missed
    (subst (λ (b : PartShardState). Follows conf true unread (Rose p.counted l) p.at b visit answer one failed) mids p.does) q.does in (
      (
        λ i. record { ack = acks.0 i; «then» = r.0.outcome i; grants = r.0.grants i; batches = r.0.batches i },
        same_shards one other r.0.same (p.log ∙ sym q.log) clocks,
      ),
      r.1,
    )

-- ---- an expiry

groups_once : (conf : PartConfParts) (c l e x d m f y : ℕ) (groups : List (List ℕ)) (freed : ℕ) (a one other : PartShardState) (answer told : ExpireAnswer)
    → store_fault_of_expiry answer ≡ None → store_fault_of_expiry told ≡ None → StepsGroups conf c l e x groups freed a answer one
    → StepsGroups conf d m f y groups freed a told other → Once answer told one other
groups_once conf c l e x d m f y [] freed a one other answer told none nothing p q = (p.0 ∙ sym q.0, p.1 ∙ sym q.1)
groups_once conf c l e x d m f y (group ∷ groups) freed a one other answer told none nothing (inr p) q =
    absurd (none_not p.0 (sym none ∙ ap store_fault_of_expiry p.1))
groups_once conf c l e x d m f y (group ∷ groups) freed a one other answer told none nothing (inl p) (inr q) =
    absurd (none_not q.0 (sym nothing ∙ ap store_fault_of_expiry q.1))
groups_once conf c l e x d m f y (group ∷ groups) freed a one other answer told none nothing (inl p) (inl q) =
    let mids : p.0 ≡ q.0 = same_shards p.0 q.0 (stores_once conf (Rose c p.1) (Rose d q.1) e f a group (ending a.clock (a.held group)) p.0 q.0 p.3.stores q.3.stores)
    (p.3.log ∙ sym q.3.log) (p.3.clock ∙ sym q.3.clock) in
    groups_once conf p.1 l p.2 x q.1 m q.2 y groups (more_freed freed (due_count a.clock (a.held group))) q.0 one other answer told none nothing
    (subst (λ (b : PartShardState). StepsGroups conf p.1 l p.2 x groups (more_freed freed (due_count a.clock (a.held group))) b answer one) mids p.5) q.5

-- ---- a batch

abbrev TellsStart : ℕ → Produced → Type 0
TellsStart start produced = IfOk (result_of produced) (λ (at : Placed). at.start ≡ start)

log_once : (rose also : Type 0) (end there : ℕ) (old one other : LogShardState) (batch : List ℕ) (produced told : Produced) (start : ℕ) → store_fault_of_log produced ≡ None
    → store_fault_of_log told ≡ None → StepsLog rose end old batch (base_in (result_of produced)) one → StepsLog also there old batch (base_in (result_of told)) other
    → TellsStart start produced → TellsStart start told → (produced ≡ told) × (one ≡ other)
log_once rose also end there old one other batch (Base at) (Base more) start n m p q s t = (
  λ i. Base (record { base = (p.base_is ∙ sym q.base_is) i; start = (s ∙ sym t) i }),
  λ i. record { batches = (p.batches ∙ sym q.batches) i; start = (p.start ∙ sym q.start) i; pending = (p.nothing ∙ sym q.nothing) i },
)
log_once rose also end there old one other batch (Base at) (Batch fault) start n m p q s t = absurd (p.form fault q.0)
log_once rose also end there old one other batch (Base at) (Store fault) start n m p q s t = absurd (none_not fault (sym m))
log_once rose also end there old one other batch (Batch fault) (Base at) start n m p q s t = absurd (q.form fault p.0)
log_once rose also end there old one other batch (Batch fault) (Batch more) start n m p q s t =
    (ap (λ (f : BatchFault). Batch f) (one_first_fault ProducedForm batch fault more p.0 q.0), p.1 ∙ sym q.1)
log_once rose also end there old one other batch (Batch fault) (Store more) start n m p q s t = absurd (none_not more (sym m))
log_once rose also end there old one other batch (Store fault) told start n m p q s t = absurd (none_not fault (sym n))

produce_once : (rose also : Type 0) (end there : ℕ) (a one other : PartShardState) (now : ℕ) (batch : List ℕ) (produced told : Produced)
    → store_fault_of_log produced ≡ None → store_fault_of_log told ≡ None → StepsProduce rose end a now batch (result_of produced) one
    → StepsProduce also there a now batch (result_of told) other → Once produced told one other
produce_once rose also end there a one other now batch produced told none nothing p q =
    let l = log_once rose also end there a.log one.log other.log batch produced told a.log.start none nothing p.log q.log p.start q.start in (
      l.0,
      same_shards one other
          (record { states = p.still.states ∙ sym q.still.states; pending = p.still.pending ∙ sym q.still.pending; held = p.still.held ∙ sym q.still.held })
          l.1 (p.clock ∙ sym q.clock),
    )

-- ---- a delete

-- the offset is one
one_target : (log : Log) (to : ℤ) (a b : ℕ) → target_of log to ≡ Some a → target_of log to ≡ Some b → a ≡ b
one_target log to a b p q = some_same a b (sym p ∙ q)

module _ (rose also : Type 0) (end there : ℕ) (a one other : PartShardState) (to : ℤ) where
  abbrev IsOne : DeleteAnswer → DeleteAnswer → Type 0
  IsOne answer told = (answer ≡ told) × (one.log ≡ other.log) × IsSame one other

  still_one : IsStill a one → IsStill a other → IsSame one other
  still_one p q = record { states = p.states ∙ sym q.states; pending = p.pending ∙ sym q.pending; held = p.held ∙ sym q.held }

  raised_one : (target : ℕ) → IsRaisedTo target a one → IsRaisedTo target a other → IsSame one other
  raised_one target p q = record {
    states = p.states ∙ sym q.states;
    pending = p.pending ∙ sym q.pending;
    held = λ i group. (p.held group ∙ sym (q.held group)) i;
  }

  log_raised : (target : ℕ) → Raises end a.log target one.log → Raises there a.log target other.log → one.log ≡ other.log
  log_raised target p q = λ i. record {
    batches = (p.batches ∙ sym q.batches) i;
    start = (p.start_is ∙ sym q.start_is) i;
    pending = (p.nothing ∙ sym q.nothing) i;
  }

  done_one : (target start more : ℕ) → DeletesNothing a target start one ⊎ DeletesBelow end a target start one
      → DeletesNothing a target more other ⊎ DeletesBelow there a target more other → IsOne (Deleted start) (Deleted more)
  done_one target start more (inl p) (inl q) =
      (ap (λ (n : ℕ). Deleted n) (p.start_is ∙ sym q.start_is), p.log ∙ sym q.log, still_one p.still q.still)
  done_one target start more (inl p) (inr q) = let clash : ⊥ = omega (arith, p.gone, q.log.allowed.above) in absurd clash
  done_one target start more (inr p) (inl q) = let clash : ⊥ = omega (arith, q.gone, p.log.allowed.above) in absurd clash
  done_one target start more (inr p) (inr q) =
      (ap (λ (n : ℕ). Deleted n) (p.start_is ∙ sym q.start_is), log_raised target p.log q.log, raised_one target p.tables q.tables)

  does_one : (answer told : DeleteAnswer) → store_fault_of_delete answer ≡ None → store_fault_of_delete told ≡ None
      → DeletesPart rose end a to answer one → DeletesPart also there a to told other → IsOne answer told
  does_one (Deleted start) (Deleted more) n m p q =
      done_one p.0 start more p.2 (subst (λ (t : ℕ). DeletesNothing a t more other ⊎ DeletesBelow there a t more other)
      (one_target (log_at a.log) to q.0 p.0 q.1 p.1) q.2)
  does_one (Deleted start) (OutOfRange at) n m p q = absurd (none_not p.0 (sym q.0 ∙ p.1))
  does_one (Deleted start) (delete_store fault) n m p q = absurd (none_not fault (sym m))
  does_one (OutOfRange at) (Deleted start) n m p q = absurd (none_not q.0 (sym p.0 ∙ q.1))
  does_one (OutOfRange at) (OutOfRange more) n m p q = (ap (λ (e : ℕ). OutOfRange e) (p.1 ∙ sym q.1), p.2 ∙ sym q.2, still_one p.3 q.3)
  does_one (OutOfRange at) (delete_store fault) n m p q = absurd (none_not fault (sym m))
  does_one (delete_store fault) told n m p q = absurd (none_not fault (sym n))

delete_once : (rose also : Type 0) (end there : ℕ) (a one other : PartShardState) (now : ℕ) (to : ℤ) (answer told : DeleteAnswer)
    → store_fault_of_delete answer ≡ None → store_fault_of_delete told ≡ None → StepsDelete rose end a now to answer one
    → StepsDelete also there a now to told other → Once answer told one other
delete_once rose also end there a one other now to answer told none nothing p q =
    let d = does_one rose also end there a one other to answer told none nothing p.does q.does in
    (d.0, same_shards one other d.2 d.1 (p.clock ∙ sym q.clock))

-- ---- a call on a partition

-- they ask the same
abbrev pub AskSame : PartCall → PartCall → Type 0
AskSame (Visits visit answer unread) (Visits other told missed) = visit ≡ other
AskSame (Produces batch produced) (Produces other told) = batch ≡ other
AskSame (Looks group looked) (Looks other told) = group ≡ other
AskSame (Expires answer) (Expires told) = Unit {0}
AskSame (Deletes to answer) (Deletes at told) = to ≡ at
AskSame did done = ⊥

module _ (counts also : Counts) (ends there : Ends) (now : ℕ) (h : Hosted) (a one other : PartShardState) where
  pub part_once : (did done : PartCall) → AskSame did done → PartMetNoFault did → PartMetNoFault done → StepsPart true counts ends now h a did one
      → StepsPart true also there now h a done other → Once did done one other
  part_once (Visits visit answer unread) (Visits asked told missed) same none nothing p q =
      let r = visit_once h.conf _ _ _ _ _ _ _ _ _ _ a one other now asked answer told unread missed none nothing
      (subst (λ (v : Visit). StepsPart true counts ends now h a (Visits v answer unread) one) same p) q in
      ((λ i. Visits (same i) (r.0.0 i) (r.1 i)), r.0.1)
  part_once (Produces batch produced) (Produces asked told) same none nothing p q =
      let r = produce_once _ _ _ _ a one other now asked produced told none nothing
      (subst (λ (b : List ℕ). StepsPart true counts ends now h a (Produces b produced) one) same p) q in
      ((λ i. Produces (same i) (r.0 i)), r.1)
  part_once (Looks group looked) (Looks asked told) same none nothing p q =
      let r = subst (λ (g : List ℕ). StepsPart true counts ends now h a (Looks g looked) one) same p in
      ((λ i. Looks (same i) ((r.0 ∙ sym q.0) i)), r.1 ∙ sym q.1)
  part_once (Expires answer) (Expires told) same none nothing p q =
      let r = groups_once h.conf _ _ _ _ _ _ _ _ _ 0 (with_clock_raised now a) one other answer told none nothing p.groups q.groups in
      ((λ i. Expires (r.0 i)), r.1)
  part_once (Deletes to answer) (Deletes at told) same none nothing p q =
      let r = delete_once _ _ _ _ a one other now at answer told none nothing
      (subst (λ (z : ℤ). StepsPart true counts ends now h a (Deletes z answer) one) same p) q in
      ((λ i. Deletes (same i) (r.0 i)), r.1)
  part_once did done same none nothing p q = absurd same
