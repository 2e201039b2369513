-- A fetch that was ready before the acknowledgements before it were stored: which plan it goes by.
use Rattle.std.proofs.Common.{◌≡◌, ⊎_elim, ◌∙◌, inl, inr, refl, sym, ap, subst, ℕ, ◌≤◌, List, Option, Some, None, true, false}
use Rattle.std.specs.Prelude.{Result, Ok, Err, IsErr, IsSome, unwrap_or}
use Rattle.coord_checkpoint.specs.Disks.{HasFailed}
use Rattle.edge_io.specs.Views.{DiskView}
use Rattle.flex_fields.specs.declared.fault.NoMemory.{NoMemory as want}
use Rattle.part_log.specs.Logs.{IsStoredLog, log_in}
use Rattle.part_log.specs.Starts.{Log}
use Rattle.share_coord.specs.Parts.{StoreParts}
use Rattle.share_coord.specs.States.{states_of}
use Rattle.share_coord.specs.Stored.{kept_at}
use Rattle.share_coord.specs.Parts.{KeptState}
use Rattle.share_model.specs.ForeignRules.{ShareStates, share_state_at}
use Rattle.share_model.specs.Held.{Held}
use Rattle.share_model.specs.Keys.{KeyParts, key_cmp}
use Rattle.share_model.specs.ShareStates.{ShareState}
use Rattle.share_model.specs.declared.ack.AckFault.{AckFault}
use Rattle.share_model.specs.declared.run.Run.{Run}
use Rattle.share_model.specs.declared.visit.AckOutcome.{AckOutcome}
use Rattle.share_model.specs.declared.visit.AckOutcome.TheVariants.{Done, Malformed, NotHeld, Store}
use Rattle.share_model.specs.declared.visit.ThenOutcome.TheVariants.{Done as then_done}
use Rattle.share_model.specs.declared.visit.Visit.{Visit}
use Rattle.share_model.specs.declared.visit.VisitAnswer.{VisitAnswer}
use Rattle.share_part.specs.Acknowledging.{NameNone, NameOne}
use Rattle.share_part.specs.Collecting.{IsPlanOf}
use Rattle.share_part.specs.Foreseeing.{IsPlanBehind, JudgesAcks, MovesBy}
use Rattle.share_part.specs.Hosting.{AreHosted, PartConfParts, key_of}
use Rattle.share_part.specs.Making.{MakesTableOnce, state_for}
use Rattle.share_part.specs.Named.{named_from}
use Rattle.share_part.specs.Once.{ReadsBatches, VisitsOnce}
use Rattle.share_part.specs.Settling.{AreHeldBy, Change, IsChange, change_of, held_after}
use Rattle.share_part.specs.Shards.{PartParts, held_in, new_state, with_held}
use Rattle.share_part.specs.Storing.{IsActsStored, SettlesGroup}
use Rattle.share_part.specs.Writes.{held_behind}
use Rattle.share_part.specs.Tables.{Table, table_of}
use Rattle.share_part.specs.Walks.{acquired}
use Rattle.share_part.specs.declared.acks.Acks.{Acks}
use Rattle.share_part.specs.declared.acks.Acks.TheVariants.{Malformed as malformed, Empty, NotHeld as not_held, Changes}
use Rattle.share_part.specs.declared.limits.Limits.{Limits}
use Rattle.share_part.specs.declared.plan.Plan.{Plan}
use Rattle.share_part.proofs.Acked.{Acked, holds_acked, none_named}
use Rattle.share_part.proofs.Foreseen.{left_settled}
use Rattle.share_part.proofs.Holding.{AreKept}
use Rattle.share_part.proofs.Mapping.{keys_exact, keys_total, set_found}
use Rattle.share_part.proofs.Seeing.{state_seen}
use Rattle.share_part.proofs.Storage.{its_next, its_settled, its_states}
use Rattle.share_part.proofs.Writing.{seen_kept}

module _ {D W : Type 0} (seen : D → DiskView) (holding : W → Held) (visit : Visit) (old : PartParts D W) (states : StoreParts D)
    (windows : List (List ℕ × W)) (sound : IsStoredLog old.log.batches) (few : old.conf.limit ≤ 10)
    (hosted : AreHosted old.conf (log_in old.log) (states_of old.states.entries))
    (kept : AreKept old.conf old.log.batches (states_of old.states.entries) (held_in holding old.windows))
    (limits : Limits) (known : IsSome (share_state_at (states_of old.states.entries) (key_of old.conf visit.group)))
    (rows : List Run) (acks : Acks) (stays : Plan) (moves : Option Plan) where
  abbrev key : KeyParts
  key = key_of old.conf visit.group

  abbrev was : Held
  was = held_in holding old.windows visit.group

  abbrev now : Held
  now = held_in holding windows visit.group

  abbrev State : StoreParts D → ShareState
  State s = state_for old.conf (log_in old.log) s.entries visit.group

  abbrev First : Table
  First = table_of (State old.states) was

  -- the group has a table behind the write, and this is what a fetch will take of it
  pub record GoesBy (plan : Plan) : Type 0 where
    pub its : KeptState
    pub there : kept_at states.entries key ≡ Some its
    pub planned : IsPlanOf old.log.batches plan (acquired old.log.batches (table_of (State states) now) limits)

  -- by its state
  goes_with : (plan : Plan) (state : ShareState) → share_state_at (states_of states.entries) key ≡ Some state
      → IsPlanOf old.log.batches plan (acquired old.log.batches (table_of state now) limits) → GoesBy plan
  goes_with plan state is planned =
      let found = seen_kept (kept_at states.entries key) state (sym (state_seen states.entries key) ∙ is) in
      record {
        its = found.0;
        there = found.1;
        planned = subst (λ (s : ShareState). IsPlanOf old.log.batches plan (acquired old.log.batches (table_of s now) limits))
            (sym (ap (λ (o : Option ShareState). unwrap_or o (new_state old.conf (log_in old.log))) is)) planned;
      }

  -- the state that it had
  its_state : (o : Option ShareState) → IsSome o → (state : ShareState) × (o ≡ Some state)
  its_state None some = absurd (let clash : ⊥ = cc in clash)
  its_state (Some state) some = (state, refl)

  -- nothing was stored
  goes_still : IsPlanOf old.log.batches stays (acquired old.log.batches First limits) → (plan : Plan) → plan ≡ stays
      → states_of states.entries ≡ states_of old.states.entries → now ≡ was → GoesBy plan
  goes_still first plan is same held =
      let state = its_state (share_state_at (states_of old.states.entries) key) known in
      let at : State old.states ≡ state.0 = ap (λ (o : Option ShareState). unwrap_or o (new_state old.conf (log_in old.log))) state.1 in
      goes_with plan state.0 (ap (λ (s : ShareStates). share_state_at s key) same ∙ state.1)
      (subst (λ (p : Plan). IsPlanOf old.log.batches p (acquired old.log.batches (table_of state.0 now) limits)) (sym is)
      (subst (λ (h : Held). IsPlanOf old.log.batches stays (acquired old.log.batches (table_of state.0 h) limits)) (sym held)
      (subst (λ (s : ShareState). IsPlanOf old.log.batches stays (acquired old.log.batches (table_of s was) limits)) at first)))

  abbrev Stored : Type 0
  Stored = IsActsStored seen (HasFailed seen) old.conf old.log.batches visit.group (named_from old.log.start visit.acks) was true old.states states None

  -- a change was
  goes_moved : (st : Stored) (change : Change) (plan : Plan) → (found : (state : ShareState) × (share_state_at (states_of old.states.entries) key ≡ Some state)
      × IsChange old.conf.limit (named_from old.log.start visit.acks) old.log.batches (table_of state was) change)
      → IsPlanBehind old.conf.limit (named_from old.log.start visit.acks) old.log.batches First change limits plan → now ≡ held_after (named_from old.log.start visit.acks) was → GoesBy plan
  goes_moved st change plan found behind held =
      let next = its_next true seen holding visit.group (named_from old.log.start visit.acks) old states windows old.clock sound few hosted kept None st states.entries st.once.written in
      let settled = its_settled true seen holding visit.group (named_from old.log.start visit.acks) old states windows old.clock sound few hosted kept None st states.entries st.once.written in
      let is = its_states true seen holding visit.group (named_from old.log.start visit.acks) old states windows old.clock sound few hosted kept None st states.entries st.once.written in
      let first : First ≡ table_of st.state was = ap (λ (o : Option ShareState). table_of (unwrap_or o (new_state old.conf (log_in old.log))) was) st.known in
      let other : First ≡ table_of found.0 was = ap (λ (o : Option ShareState). table_of (unwrap_or o (new_state old.conf (log_in old.log))) was) found.1 in
      let change_is = subst (λ (t : Table). IsChange old.conf.limit (named_from old.log.start visit.acks) old.log.batches t change) (sym other) found.2 in
      let left = left_settled old.conf.limit (named_from old.log.start visit.acks) old.log.batches (table_of st.state was) change next
      (subst (λ (t : Table). IsChange old.conf.limit (named_from old.log.start visit.acks) old.log.batches t change) first change_is) settled in
      let planned = subst (λ (t : Table). IsPlanBehind old.conf.limit (named_from old.log.start visit.acks) old.log.batches t change limits plan) first behind in
      goes_with plan next (ap (λ (s : ShareStates). share_state_at s key) is ∙ set_found key_cmp keys_total keys_exact key next (states_of old.states.entries))
      (subst (λ (h : Held). IsPlanOf old.log.batches plan (acquired old.log.batches (table_of next h) limits)) (sym held) (planned next left))

  -- ---- by the answer

  module _ (judged : JudgesAcks old.conf.limit old.log.start visit old.log.batches was (share_state_at (states_of old.states.entries) key) rows acks)
      (is_stays : IsPlanOf old.log.batches stays (acquired old.log.batches First limits))
      (is_moves : MovesBy old.conf.limit old.log.start visit old.log.batches First limits rows acks moves) (plan : Plan) where
    -- nothing to store
    none_moves : (a : Acks) (m : Option Plan) → JudgesAcks old.conf.limit old.log.start visit old.log.batches was (share_state_at (states_of old.states.entries) key) rows a
        → MovesBy old.conf.limit old.log.start visit old.log.batches First limits rows a m → NameNone (named_from old.log.start visit.acks) → m ≡ None
    none_moves (malformed f) m j is none = is
    none_moves Empty m j is none = is
    none_moves (not_held o) m j is none = is
    none_moves (Changes moved) m j is none = absurd (none_named true seen holding visit old states windows sound few hosted kept none j.1)

    not_both : (least : ℕ) → AreHeldBy visit.member (named_from old.log.start visit.acks) was → (a : Acks) → a ≡ not_held least
        → JudgesAcks old.conf.limit old.log.start visit old.log.batches was (share_state_at (states_of old.states.entries) key) rows (not_held least) → ⊥
    not_both least theirs a is j = j.2.missing (theirs least j.2.named)

    done_moves : (a : Acks) (m : Option Plan) → JudgesAcks old.conf.limit old.log.start visit old.log.batches was (share_state_at (states_of old.states.entries) key) rows a
        → MovesBy old.conf.limit old.log.start visit old.log.batches First limits rows a m → ((fault : AckFault) → a ≡ malformed fault → ⊥) → AreHeldBy visit.member (named_from old.log.start visit.acks) was
        → NameOne (named_from old.log.start visit.acks) → Stored → plan ≡ unwrap_or m stays → now ≡ held_after (named_from old.log.start visit.acks) was → GoesBy plan
    done_moves (malformed f) m j is formed theirs one st at held = absurd (formed f refl)
    done_moves Empty m j is formed theirs one st at held = absurd (none_named true seen holding visit old states windows sound few hosted kept j.1 one)
    done_moves (not_held o) m j is formed theirs one st at held = absurd (not_both o theirs (not_held o) refl j)
    done_moves (Changes moved) None j is formed theirs one st at held = absurd is
    done_moves (Changes moved) (Some its) j is formed theirs one st at held =
        goes_moved st (change_of moved rows) plan j.3 (subst (IsPlanBehind old.conf.limit (named_from old.log.start visit.acks) old.log.batches First (change_of moved rows) limits) (sym at) is) held

    module _ (ack : AckOutcome) (acked : Acked true seen holding visit old states windows sound few hosted kept ack)
        (formed : (fault : AckFault) → acks ≡ malformed fault → ack ≡ Malformed fault) (done : ack ≡ Done → plan ≡ unwrap_or moves stays)
        (others : (ack ≡ Done → ⊥) → plan ≡ stays) where
      by_none : ack ≡ Done → NameNone (named_from old.log.start visit.acks) → plan ≡ stays
      by_none is none = done is ∙ ap (λ (m : Option Plan). unwrap_or m stays) (none_moves acks moves judged is_moves none)

      abbrev Group : AckOutcome → Type 0
      Group a = SettlesGroup seen (HasFailed seen) old.conf old.log.batches visit.group visit.member (named_from old.log.start visit.acks) was true old.states states
          ((other : List ℕ) → held_in holding windows other ≡ held_in holding old.windows other)
          ((other : List ℕ) → held_in holding windows other ≡ with_held (held_in holding old.windows) visit.group (held_after (named_from old.log.start visit.acks) was) other) a

      by_settled : (a : AckOutcome) → ack ≡ a → NameOne (named_from old.log.start visit.acks) → Group a → (a ≡ Done → now ≡ held_after (named_from old.log.start visit.acks) was) → GoesBy plan
      by_settled (NotHeld o) is one g held = goes_still is_stays plan (others (λ e. let never : NotHeld o ≡ Done = sym is ∙ e in let clash : ⊥ = cc in clash)) (ap (λ (s : StoreParts D). states_of s.entries) g.1) (g.2 visit.group)
      by_settled (Malformed f) is one g held = absurd g
      by_settled (Store fault) is one g held = goes_still is_stays plan (others (λ e. let never : Store fault ≡ Done = sym is ∙ e in let clash : ⊥ = cc in clash)) g.1.1.once.same (g.1.2 visit.group)
      by_settled Done is one g held = ⊎_elim
          (λ n. absurd (none_named true seen holding visit old states windows sound few hosted kept n.0 one))
          (λ h. done_moves acks moves judged is_moves (λ f e. let never : Done ≡ Malformed f = sym is ∙ formed f e in let clash : ⊥ = cc in clash) g.0 h.0 h.1 (done is) (held refl))
          g.1

      by_acked : Acked true seen holding visit old states windows sound few hosted kept ack → GoesBy plan
      by_acked (inl m) = goes_still is_stays plan (others (λ e. let never : Malformed m.0 ≡ Done = sym m.1 ∙ e in let clash : ⊥ = cc in clash))
          (ap (λ (s : StoreParts D). states_of s.entries) m.3.0) (m.3.1 visit.group)
      by_acked (inr (inl n)) = goes_still is_stays plan (by_none n.2 n.1) (ap (λ (s : StoreParts D). states_of s.entries) n.3.0) (n.3.1 visit.group)
      by_acked (inr (inr g)) = by_settled ack refl g.1 g.2 (λ e. holds_acked true seen holding visit old states windows sound few hosted kept ack (inr (inr g)) ∙ ap (held_behind old.log.start visit was) e)

      pub goes_by : GoesBy plan
      goes_by = by_acked acked

-- no memory was found for it
pub none_ready : {D W : Type 0} (seen : D → DiskView) (holding : W → Held) (now : ℕ) (visit : Visit) (old : PartParts D W) (windows : List (List ℕ × W))
    → ReadsBatches seen (false ≡ true) old.log old.log → ((group : List ℕ) → held_in holding windows group ≡ held_in holding old.windows group) → (answer : Result VisitAnswer want) → IsErr answer
    → VisitsOnce seen holding now true visit old (record { conf = old.conf; log = old.log; states = old.states; windows = windows; clock = old.clock }) answer
none_ready seen holding now visit old windows read same (Ok answer) none = absurd (let clash : ⊥ = cc in clash)
none_ready seen holding now visit old windows read same (Err e) none = record {
  unread = false;
  steps = tt;
  memory = record { conf = refl; log = refl; states = refl; clock = refl; held = same };
  records = tt;
  ack_sound = tt;
  sound = tt;
  unwritten = λ s c first behind. refl;
  log = read;
  unstored = tt;
  others = λ away. refl;
  conf = refl;
}

-- a table that is there isn't made
pub made_there : {D : Type 0} (seen : D → DiskView) (conf : PartConfParts) (group : List ℕ) (log : Log) (states : StoreParts D) (its : KeptState)
    → kept_at states.entries (key_of conf group) ≡ Some its → MakesTableOnce seen (HasFailed seen) conf group log states states (Ok then_done)
made_there seen conf group log states its there = record {
  there = λ some. (refl, refl);
  absent = λ none. absurd (let never : ◌≡◌ {A = Option KeptState} None (Some its) = sym none ∙ there in let clash : ⊥ = cc in clash);
}
