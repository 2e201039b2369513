-- Of the locks of one partition over what is done to it.
use Rattle.std.proofs.Common.{◌≡◌, ◌⊎◌, ◌<◌, ◌≤◌, ◌+◌, inl, inr, ⊎_elim, refl, sym, ap, ◌∙◌, subst, arith, max, ℕ, ℤ, List, [], ◌∷◌, ◌++◌, Bool, true, false, Option, Some, None}
use Rattle.std.proofs.lemmas.Bool.Decides.{nat_tests}
use Rattle.std.specs.Prelude.{IsSome, nat_le}
use Rattle.std.specs.List.{Contains}
use Rattle.edge_io.specs.Causes.{Rose}
use Rattle.share_model.specs.ForeignRules.{share_state_at, size_of}
use Rattle.share_model.specs.Held.{Held, hold_at}
use Rattle.part_log.specs.Shards.{log_at}
use Rattle.share_model.specs.ShareStates.{ShareState}
use Rattle.share_model.specs.declared.ack.AckKind.{AckKind}
use Rattle.share_model.specs.declared.delete.DeleteAnswer.{DeleteAnswer}
use Rattle.share_model.specs.declared.delete.DeleteAnswer.TheVariants.{Done as Deleted, OutOfRange, Store as delete_store}
use Rattle.share_model.specs.declared.fault.StoreFault.TheVariants.{Device, Full}
use Rattle.share_model.specs.declared.hold.Grant.{Grant}
use Rattle.share_model.specs.declared.hold.Hold.{Hold}
use Rattle.share_model.specs.declared.visit.AckOutcome.{AckOutcome}
use Rattle.share_model.specs.declared.visit.AckOutcome.TheVariants.{Done as acknowledged, Malformed, NotHeld, Store as ack_store}
use Rattle.share_model.specs.declared.visit.ExpireAnswer.{ExpireAnswer}
use Rattle.share_model.specs.declared.visit.Then.{Then}
use Rattle.share_model.specs.declared.visit.Then.TheVariants.{Nothing, Release, Fetch}
use Rattle.share_model.specs.declared.visit.ThenOutcome.{ThenOutcome}
use Rattle.share_model.specs.declared.visit.ThenOutcome.TheVariants.{Done as followed, Store as then_store}
use Rattle.share_model.specs.declared.visit.Visit.{Visit}
use Rattle.share_model.specs.declared.visit.VisitAnswer.{VisitAnswer}
use Rattle.share_part.specs.Acknowledging.{Acknowledges}
use Rattle.share_part.specs.Expiring.{StepsGroups, ending}
use Rattle.share_part.specs.Following.{Acquires, Does, Fetches, Follows, MakesTable, fault_of, releases_of}
use Rattle.share_part.specs.Deleting.{Deletes as DeletesPart, DeletesBelow, DeletesNothing}
use Rattle.share_part.specs.Hosting.{PartConfParts, key_of}
use Rattle.share_part.specs.Named.{named_from}
use Rattle.share_part.specs.Settling.{IsHeldBy, is_chosen, release_of, releases_if, releasing}
use Rattle.share_part.specs.Shards.{PartShardState, new_state, with_clock_raised}
use Rattle.share_part.specs.Tables.{table_of, with_holds}
use Rattle.share_part.specs.Walks.{acquired}
use Rattle.share_part.specs.declared.limits.Limits.{Limits}
use Rattle.share_part.specs.declared.settle.Whose.TheVariants.{Member, Due}
use Rattle.broker_model.specs.Hosted.{Hosted}
use Rattle.broker_model.specs.Shards.PartCall.{Visits, Produces, Looks, Expires, Deletes}
use Rattle.broker_model.specs.PartHistory.{IsPartHistory, PartAct, PartStep, StepsAlone}
use Rattle.broker_model.specs.PartHistory.PartAct.{Called, NothingDone}
use Rattle.broker_model.specs.Locks.{Grants, IsActedOnBy, IsExpiredIn, IsGranted, IsReleasedBy, KeepsLocksExclusive, LetsGo}
use Rattle.broker_model.proofs.Above.{IsFrom, acks_above, batch_above, delete_above, deleted_from, follows_above, groups_above, hold_from, lt_or_le, new_above}
use Rattle.broker_model.proofs.Holding.{EndsHold, IsFree, IsMine, granted_taken, group_is, hold_in, holds_other, its_held, mine_taken, one_of_two, stores_hold, taken_free, taken_unheld}
use Rattle.broker_model.proofs.Lists.{IsOf, contains_front, contains_rest, none_not, of_all, of_contains}

-- ---- what is released

released : (chosen : Bool) (kind : AckKind) → release_of chosen ≡ Some kind → chosen ≡ true
released true kind e = refl
released false kind e = absurd (none_not kind e)

-- a hold that is released is chosen
pub chosen_held : (chosen : Hold → Bool) (held : Held) (o : ℕ) (hold : Hold) (kind : AckKind) → hold_at held o ≡ Some hold → releasing chosen held o ≡ Some kind
    → chosen hold ≡ true
chosen_held chosen held o hold kind at named = released (chosen hold) kind (sym (ap (releases_if chosen) at) ∙ named)

pub told_done : (o : ThenOutcome) → fault_of o ≡ None → o ≡ followed
told_done followed e = refl
told_done (then_store fault) e = absurd (none_not fault (sym e))

-- ---- a fetch

module _ (conf : PartConfParts) (told : Bool) (rose : Type 0) (end : ℕ) (a : PartShardState) (visit : Visit) (limits : Limits) (answer : VisitAnswer) (b : PartShardState) where
  abbrev taken : ShareState → List (ℕ × ℕ)
  taken state = (acquired a.log.batches (table_of state (a.held visit.group)) limits).taken

  -- what was held stays so
  acquires_keep : (state : ShareState) → Acquires conf told a state visit limits answer b → (other : List ℕ) (o : ℕ) (hold : Hold)
      → hold_in a other o ≡ Some hold → hold_in b other o ≡ Some hold
  acquires_keep state p other o hold at = ⊎_elim
      (λ its. ap (λ (h : List ℕ → Held). hold_at (h other) o) p.held ∙ ap (λ (h : Held). hold_at h o) its.1
      ∙ holds_other visit.member (b.clock + conf.lock_ms) (taken state) (a.held visit.group) o hold
      (taken_unheld a.log.batches (table_of state (a.held visit.group)) limits)
      (ap (λ (g : List ℕ). hold_in a g o) its.0 ∙ at))
      (λ away. ap (λ (h : List ℕ → Held). hold_at (h other) o) p.held ∙ ap (λ (h : Held). hold_at h o) away ∙ at)
      (one_of_two a.held visit.group (with_holds visit.member (b.clock + conf.lock_ms) (taken state) (a.held visit.group)) other)

  made_keep : (o : ThenOutcome) → MakesTable conf told rose end a visit limits answer b o → (other : List ℕ) (offset : ℕ) (hold : Hold)
      → hold_in a other offset ≡ Some hold → hold_in b other offset ≡ Some hold
  made_keep followed p other offset hold at = acquires_keep (new_state conf (log_at a.log)) p.acquires other offset hold at
  made_keep (then_store Device) p other offset hold at = ap (λ (h : List ℕ → Held). hold_at (h other) offset) p.2.held ∙ at
  made_keep (then_store (Full place)) p other offset hold at = ap (λ (h : List ℕ → Held). hold_at (h other) offset) p.2.held ∙ at

  pub fetches_keep : (o : Option ShareState) → Fetches conf told rose end a visit limits answer b o → (other : List ℕ) (offset : ℕ) (hold : Hold)
      → hold_in a other offset ≡ Some hold → hold_in b other offset ≡ Some hold
  fetches_keep None p other offset hold at = made_keep answer.then p other offset hold at
  fetches_keep (Some state) p other offset hold at = acquires_keep state p.acquires other offset hold at

  -- what is granted was held by nobody, and is held by the member
  record IsNew (o : ℕ) : Type 0 where
    was : hold_in a visit.group o ≡ None
    count : ℕ
    is : hold_in b visit.group o ≡ Some (record { member = visit.member; end = b.clock + conf.lock_ms; count = count })

  acquires_grant : (state : ShareState) → Acquires conf told a state visit limits answer b → (o : ℕ) (g : Grant) → IsOf answer.grants g → g.first ≤ o → o ≤ g.last
      → IsNew o
  acquires_grant state p o g is low high =
      let there = granted_taken o (taken state) answer.grants g is low high p.grants in
      let mine : IsMine visit.member (b.clock + conf.lock_ms) (with_holds visit.member (b.clock + conf.lock_ms) (taken state) (a.held visit.group)) o =
      mine_taken visit.member (b.clock + conf.lock_ms) (taken state) (a.held visit.group) o g.count there in
      record {
        was = of_all (λ (t : ℕ × ℕ). hold_at (a.held visit.group) t.0 ≡ None) (taken state) (o, g.count)
            (taken_unheld a.log.batches (table_of state (a.held visit.group)) limits) there;
        count = mine.0;
        is = ap (λ (h : List ℕ → Held). hold_at (h visit.group) o) p.held
            ∙ ap (λ (h : Held). hold_at h o)
            (its_held a.held visit.group (with_holds visit.member (b.clock + conf.lock_ms) (taken state) (a.held visit.group)))
            ∙ mine.1;
      }

  none_granted : (o : ℕ) (g : Grant) → answer.grants ≡ [] → IsOf answer.grants g → IsNew o
  none_granted o g none is = absurd (subst (λ (l : List Grant). IsOf l g) none is)

  made_grant : (t : ThenOutcome) → MakesTable conf told rose end a visit limits answer b t → (o : ℕ) (g : Grant) → IsOf answer.grants g → g.first ≤ o → o ≤ g.last
      → IsNew o
  made_grant followed p o g is low high = acquires_grant (new_state conf (log_at a.log)) p.acquires o g is low high
  made_grant (then_store Device) p o g is low high = none_granted o g p.1.grants is
  made_grant (then_store (Full place)) p o g is low high = none_granted o g p.1.grants is

  fetches_grant : (t : Option ShareState) → Fetches conf told rose end a visit limits answer b t → (o : ℕ) (g : Grant) → IsOf answer.grants g → g.first ≤ o
      → o ≤ g.last → IsNew o
  fetches_grant None p o g is low high = made_grant answer.then p o g is low high
  fetches_grant (Some state) p o g is low high = acquires_grant state p.acquires o g is low high

  -- nor does it lie below the start of its table
  acquires_from : (state : ShareState) → Acquires conf told a state visit limits answer b → (o : ℕ) (g : Grant) → IsOf answer.grants g → g.first ≤ o → o ≤ g.last
      → size_of state.start ≤ o
  acquires_from state p o g is low high =
      let there = granted_taken o (taken state) answer.grants g is low high p.grants in
      (of_all (IsFree a.log.batches (table_of state (a.held visit.group))) (taken state) (o, g.count)
      (taken_free a.log.batches (table_of state (a.held visit.group)) limits) there).1

  made_from : (n : ℕ) → IsFrom n a → (t : ThenOutcome) → MakesTable conf told rose end a visit limits answer b t → (o : ℕ) (g : Grant) → IsOf answer.grants g
      → g.first ≤ o → o ≤ g.last → n ≤ o
  made_from n f followed p o g is low high =
      let start = new_above n conf a f in
      let from = acquires_from (new_state conf (log_at a.log)) p.acquires o g is low high in
      omega (arith, start, from)
  made_from n f (then_store Device) p o g is low high = absurd (subst (λ (l : List Grant). IsOf l g) p.1.grants is)
  made_from n f (then_store (Full place)) p o g is low high = absurd (subst (λ (l : List Grant). IsOf l g) p.1.grants is)

  fetches_from : (n : ℕ) → IsFrom n a → (t : Option ShareState) → share_state_at a.states (key_of conf visit.group) ≡ t
      → Fetches conf told rose end a visit limits answer b t → (o : ℕ) (g : Grant) → IsOf answer.grants g → g.first ≤ o → o ≤ g.last → n ≤ o
  fetches_from n f None there p o g is low high = made_from n f answer.then p o g is low high
  fetches_from n f (Some state) there p o g is low high =
      let start = f.tables (key_of conf visit.group) state there in
      let from = acquires_from state p.acquires o g is low high in
      omega (arith, start, from)

abbrev no_limits : Limits
no_limits = record { records = 0; bytes = 0; first = true }

module _ (conf : PartConfParts) (told : Bool) (rose : Type 0) (end : ℕ) (a : PartShardState) (visit : Visit) (answer : VisitAnswer) (b : PartShardState) where
  -- what follows the acknowledgements grants so
  does_grant : (t : Then) → Does conf told rose end a visit answer b t → (o : ℕ) → IsGranted o answer.grants
      → (limits : Limits) × IsNew conf told rose end a visit limits answer b o
  does_grant Nothing p o g = (no_limits, none_granted conf told rose end a visit no_limits answer b o g.grant p.0.grants (of_contains answer.grants g.grant g.there))
  does_grant Release p o g = (no_limits, none_granted conf told rose end a visit no_limits answer b o g.grant p.0.grants (of_contains answer.grants g.grant g.there))
  does_grant (Fetch records bytes first) p o g =
      let limits : Limits = record { records = records; bytes = bytes; first = first } in (
        limits,
        fetches_grant conf told rose end a visit limits answer b (share_state_at a.states (key_of conf visit.group)) p o g.grant
            (of_contains answer.grants g.grant g.there) g.from g.to,
      )

  -- where a batch couldn't be read nothing is granted
  follows_grant : (unread : Type 0) (failed : Bool) → Follows conf told unread rose end a visit answer b failed → (o : ℕ)
      → IsGranted o answer.grants → (limits : Limits) × IsNew conf told rose end a visit limits answer b o
  follows_grant unread true p o g =
      (no_limits, none_granted conf told rose end a visit no_limits answer b o g.grant p.empty.grants (of_contains answer.grants g.grant g.there))
  follows_grant unread false p o g = does_grant visit.then p o g

  does_from : (n : ℕ) → IsFrom n a → (t : Then) → Does conf told rose end a visit answer b t → (o : ℕ) → IsGranted o answer.grants → n ≤ o
  does_from n f Nothing p o g = absurd (subst (λ (l : List Grant). IsOf l g.grant) p.0.grants (of_contains answer.grants g.grant g.there))
  does_from n f Release p o g = absurd (subst (λ (l : List Grant). IsOf l g.grant) p.0.grants (of_contains answer.grants g.grant g.there))
  does_from n f (Fetch records bytes first) p o g =
      fetches_from conf told rose end a visit (record { records = records; bytes = bytes; first = first }) answer b n f
      (share_state_at a.states (key_of conf visit.group)) refl p o g.grant (of_contains answer.grants g.grant g.there) g.from g.to

  follows_from : (n : ℕ) → IsFrom n a → (unread : Type 0) (failed : Bool) → Follows conf told unread rose end a visit answer b failed → (o : ℕ)
      → IsGranted o answer.grants → n ≤ o
  follows_from n f unread true p o g = absurd (subst (λ (l : List Grant). IsOf l g.grant) p.empty.grants (of_contains answer.grants g.grant g.there))
  follows_from n f unread false p o g = does_from n f visit.then p o g

-- ---- a lock

-- the member holds the record until then
pub record IsLocked (group : List ℕ) (o : ℕ) (member : List ℕ) (until : ℕ) (p : PartShardState) : Type 0 where
  pub hold : Hold
  pub at : hold_in p group o ≡ Some hold
  pub whose : hold.member ≡ member
  pub ends : hold.end ≡ until

module _ (group : List ℕ) (o : ℕ) (member : List ℕ) (until : ℕ) where
  abbrev pub Locked : PartShardState → Type 0
  Locked p = IsLocked group o member until p

  abbrev Goes : PartStep → Type 0
  Goes s = LetsGo group o member until s

  locked_so : (a b : PartShardState) → hold_in b group o ≡ hold_in a group o → Locked a → Locked b
  locked_so a b same l = record { hold = l.hold; at = same ∙ l.at; whose = l.whose; ends = l.ends }

  -- nothing below an offset behind it is left
  abbrev pub IsGone : PartShardState → Type 0
  IsGone p = (n : ℕ) × (o < n) × IsFrom n p

  -- the record is locked, or can't be granted any more
  abbrev pub Kept : PartShardState → Type 0
  Kept p = Locked p ⊎ IsGone p

  abbrev Ends : PartStep → Type 0
  Ends s = Goes s ⊎ IsGone s.after

  as_end : (s : PartStep) → Locked s.after ⊎ Goes s → Locked s.after ⊎ Ends s
  as_end s (inl l) = inl l
  as_end s (inr e) = inr (inl e)

  -- ---- acknowledgements

  -- they leave it, or end it
  acks_lock : (s : PartStep) (visit : Visit) (answer : VisitAnswer) (unread : Bool) (conf : PartConfParts) (rose : Type 0)
      (end : ℕ) (a b : PartShardState) (ack : AckOutcome) → s.act ≡ Called (Visits visit answer unread) → answer.ack ≡ ack
      → Acknowledges conf rose end a visit b ack → a.log.start ≡ s.before.log.start → Locked a → Locked b ⊎ IsActedOnBy group o member s
  acks_lock s visit answer unread conf rose end a b acknowledged is told p starts l = ⊎_elim
      (λ same. inl (locked_so a b same l))
      (λ e. inr (acted e))
      (stores_hold conf rose end a visit.group (named_from a.log.start visit.acks) b None p.1 group o)
    where
      acted : EndsHold visit.group (named_from a.log.start visit.acks) None b group o → IsActedOnBy group o member s
      acted e =
          let theirs = p.0.1 o (subst IsSome (sym e.named) refl) in
          let at : hold_at (a.held visit.group) o ≡ Some l.hold = ap (λ (g : List ℕ). hold_in a g o) e.group_is ∙ l.at in
          record {
            visit = visit;
            answer = answer;
            unread = unread;
            act = is;
            stored = told;
            of_group = e.group_is;
            by_member = sym (subst (IsHeldBy visit.member) at theirs) ∙ l.whose;
            named = subst (λ (n : ℕ). IsSome (named_from n visit.acks o)) starts (subst IsSome (sym e.named) refl);
          }
  acks_lock s visit answer unread conf rose end a b (Malformed fault) is told p starts l =
      inl (locked_so a b (ap (λ (h : List ℕ → Held). hold_at (h group) o) p.1.held) l)
  acks_lock s visit answer unread conf rose end a b (NotHeld offset) is told p starts l =
      inl (locked_so a b (ap (λ (h : List ℕ → Held). hold_at (h group) o) p.2.held) l)
  acks_lock s visit answer unread conf rose end a b (ack_store fault) is told p starts l = ⊎_elim
      (λ same. inl (locked_so a b same l))
      (λ e. absurd (none_not fault (sym e.stored)))
      (stores_hold conf rose end a visit.group (named_from a.log.start visit.acks) b (Some fault) p.1 group o)

  -- ---- what follows them

  module _ (conf : PartConfParts) (visit : Visit) (answer : VisitAnswer) where
    -- a release frees it
    record FreesIt (b : PartShardState) : Type 0 where
      of_group : visit.group ≡ group
      by_member : visit.member ≡ member
      releases : visit.then ≡ Release
      stored : answer.then ≡ followed
      free : hold_in b group o ≡ None

    -- what follows leaves it, or frees it
    then_lock : (told : Bool) (rose : Type 0) (end : ℕ) (a b : PartShardState) (t : Then) → visit.then ≡ t → Does conf told rose end a visit answer b t
        → Locked a → Locked b ⊎ FreesIt b
    then_lock told rose end a b Nothing asked p l = inl (locked_so a b (ap (λ (h : List ℕ → Held). hold_at (h group) o) p.1.held) l)
    then_lock told rose end a b Release asked p l = ⊎_elim
        (λ same. inl (locked_so a b same l))
        (λ e. inr (freed e))
        (stores_hold conf rose end a visit.group (releases_of visit.member (a.held visit.group)) b (fault_of answer.then) p.1 group o)
      where
        freed : EndsHold visit.group (releases_of visit.member (a.held visit.group)) (fault_of answer.then) b group o → FreesIt b
        freed e =
            let at : hold_at (a.held visit.group) o ≡ Some l.hold = ap (λ (g : List ℕ). hold_in a g o) e.group_is ∙ l.at in
            let chosen = chosen_held (is_chosen (Member visit.member)) (a.held visit.group) o l.hold e.kind at e.named in
            record {
              of_group = e.group_is;
              by_member = group_is visit.member l.hold.member chosen ∙ l.whose;
              releases = asked;
              stored = told_done answer.then e.stored;
              free = e.free;
            }
    then_lock told rose end a b (Fetch records bytes first) asked p l = inl (record {
      hold = l.hold;
      at = fetches_keep conf told rose end a visit (record { records = records; bytes = bytes; first = first }) answer b
          (share_state_at a.states (key_of conf visit.group)) p group o l.hold l.at;
      whose = l.whose;
      ends = l.ends;
    })

    follows_lock : (told : Bool) (unread rose : Type 0) (end : ℕ) (a b : PartShardState) (failed : Bool)
        → Follows conf told unread rose end a visit answer b failed → Locked a → Locked b ⊎ FreesIt b
    follows_lock told unread rose end a b true p l = inl (locked_so a b (ap (λ (h : List ℕ → Held). hold_at (h group) o) p.held) l)
    follows_lock told unread rose end a b false p l = then_lock told rose end a b visit.then refl p l

  -- ---- an expiry

  -- it leaves the lock, or frees the record at a clock that isn't below the lock's end
  record IsFreed (clock : ℕ) (b : PartShardState) : Type 0 where
    free : hold_in b group o ≡ None
    late : until ≤ clock

  due_end : (clock : ℕ) (hold : Hold) → nat_le hold.end clock ≡ true → hold.end ≤ clock
  due_end clock hold e = grind (arith, nat_tests)

  still_free : (conf : PartConfParts) (a later end last : ℕ) (groups : List (List ℕ)) (freed : ℕ) (old new : PartShardState) (answer : ExpireAnswer)
      → StepsGroups conf a later end last groups freed old answer new → hold_in old group o ≡ None → hold_in new group o ≡ None
  still_free conf a later end last [] freed old new answer p none = ap (λ (x : PartShardState). hold_in x group o) p.1 ∙ none
  still_free conf a later end last (g ∷ groups) freed old new answer (inl p) none =
      still_free conf p.1 later p.2 last groups _ p.0 new answer p.5
      (⊎_elim (λ same. same ∙ none) (λ e. e.free)
      (stores_hold conf (Rose a p.1) end old g (ending old.clock (old.held g)) p.0 None p.3.stores group o))
  still_free conf a later end last (g ∷ groups) freed old new answer (inr p) none =
      ⊎_elim (λ same. same ∙ none) (λ e. e.free)
      (stores_hold conf (Rose a later) end old g (ending old.clock (old.held g)) new (Some p.0) p.2.stores group o)

  groups_lock : (conf : PartConfParts) (a later end last : ℕ) (groups : List (List ℕ)) (freed : ℕ) (old new : PartShardState) (answer : ExpireAnswer)
      → StepsGroups conf a later end last groups freed old answer new → Locked old → Locked new ⊎ IsFreed old.clock new
  groups_lock conf a later end last [] freed old new answer p l = inl (locked_so old new (ap (λ (x : PartShardState). hold_in x group o) p.1) l)
  groups_lock conf a later end last (g ∷ groups) freed old new answer (inr p) l = ⊎_elim
      (λ same. inl (locked_so old new same l))
      (λ e. absurd (none_not p.0 (sym e.stored)))
      (stores_hold conf (Rose a later) end old g (ending old.clock (old.held g)) new (Some p.0) p.2.stores group o)
  groups_lock conf a later end last (g ∷ groups) freed old new answer (inl p) l = ⊎_elim
      (λ same. go (groups_lock conf p.1 later p.2 last groups _ p.0 new answer p.5 (locked_so old p.0 same l)))
      (λ e. inr (freed_here e))
      (stores_hold conf (Rose a p.1) end old g (ending old.clock (old.held g)) p.0 None p.3.stores group o)
    where
      go : Locked new ⊎ IsFreed p.0.clock new → Locked new ⊎ IsFreed old.clock new
      go (inl l) = inl l
      go (inr f) = inr (record { free = f.free; late = subst (λ (c : ℕ). until ≤ c) p.3.clock f.late })

      freed_here : EndsHold g (ending old.clock (old.held g)) None p.0 group o → IsFreed old.clock new
      freed_here e =
          let at : hold_at (old.held g) o ≡ Some l.hold = ap (λ (k : List ℕ). hold_in old k o) e.group_is ∙ l.at in
          let due = chosen_held (is_chosen (Due old.clock)) (old.held g) o l.hold e.kind at e.named in
          record {
            free = still_free conf p.1 later p.2 last groups _ p.0 new answer p.5 e.free;
            late = subst (λ (n : ℕ). n ≤ old.clock) l.ends (due_end old.clock l.hold due);
          }

  -- ---- a step

  module _ (h : Hosted) (s : PartStep) where
    raised : (now : ℕ) → Locked s.before → Locked (with_clock_raised now s.before)
    raised now l = record { hold = l.hold; at = l.at; whose = l.whose; ends = l.ends }

    from_raised : (n now : ℕ) → IsFrom n s.before → IsFrom n (with_clock_raised now s.before)
    from_raised n now f = record { start = f.start; within = f.within; tables = f.tables }

    released_in : (visit : Visit) (answer : VisitAnswer) (unread : Bool) → s.act ≡ Called (Visits visit answer unread) → Locked s.before → FreesIt h.conf visit answer s.after
        → IsReleasedBy group o member s
    released_in visit answer unread is l f = record {
      visit = visit;
      answer = answer;
      unread = unread;
      act = is;
      of_group = f.of_group;
      by_member = f.by_member;
      releases = f.releases;
      stored = f.stored;
      held = subst (IsHeldBy member) (sym l.at) l.whose;
      free = f.free;
    }

    expiry_lock : (now a later end last : ℕ) (groups : List (List ℕ)) (answer : ExpireAnswer) → s.act ≡ Called (Expires answer)
        → s.after.clock ≡ max s.before.clock now → StepsGroups h.conf a later end last groups 0 (with_clock_raised now s.before) answer s.after
        → Locked s.before → Locked s.after ⊎ Goes s
    expiry_lock now a later end last groups answer is clock p l = ⊎_elim
        (λ l. inl l)
        (λ f. inr (inr (inr (freed_in f))))
        (groups_lock h.conf a later end last groups 0 (with_clock_raised now s.before) s.after answer p (raised now l))
      where
        freed_in : IsFreed (max s.before.clock now) s.after → IsExpiredIn group o until s
        freed_in f = record {
          answer = answer;
          act = is;
          held = subst IsSome (sym l.at) refl;
          free = f.free;
          late = subst (λ (c : ℕ). until ≤ c) (sym clock) f.late;
        }

    -- a delete leaves it, or nothing below the record's offset is left
    delete_lock : (rose : Type 0) (end : ℕ) (a b : PartShardState) (to : ℤ) (answer : DeleteAnswer) → DeletesPart rose end a to answer b → Locked a
        → Locked b ⊎ IsGone b
    delete_lock rose end a b to (OutOfRange at) p l = inl (locked_so a b (ap (λ (k : List ℕ → Held). hold_at (k group) o) p.3.held) l)
    delete_lock rose end a b to (delete_store fault) p l = inl (locked_so a b (ap (λ (k : List ℕ → Held). hold_at (k group) o) p.3.held) l)
    delete_lock rose end a b to (Deleted start) p l = ⊎_elim
        (λ (d : DeletesNothing a p.0 start b). inl (locked_so a b (ap (λ (k : List ℕ → Held). hold_at (k group) o) d.still.held) l))
        (λ (d : DeletesBelow end a p.0 start b). below d (lt_or_le o p.0)) p.2
      where
        below : DeletesBelow end a p.0 start b → (o < p.0) ⊎ (p.0 ≤ o) → Locked b ⊎ IsGone b
        below d (inl lt) = inr (p.0, lt, deleted_from end a b p.0 start d)
        below d (inr from) = inl (locked_so a b (ap (λ (k : Held). hold_at k o) (d.tables.held group) ∙ hold_from p.0 (a.held group) o from) l)

    act_lock : (act : PartAct) → s.act ≡ act → StepsAlone h s.before act s.after → Locked s.before → Locked s.after ⊎ Ends s
    act_lock (Called (Visits visit answer unread)) is p l = as_end s (⊎_elim
        (λ locked. ⊎_elim (λ locked. inl locked) (λ f. inr (inr (inl (released_in visit answer unread is l f))))
        (follows_lock h.conf visit answer p.0 _ _ p.4.at p.4.between s.after unread p.4.does locked))
        (λ e. inr (inl e))
        (acks_lock s visit answer unread h.conf _ _ s.before p.4.between answer.ack is refl p.4.acks.does refl l))
    act_lock (Called (Produces batch produced)) is p l =
        inl (locked_so s.before s.after (ap (λ (k : List ℕ → Held). hold_at (k group) o) p.4.still.held) l)
    act_lock (Called (Looks other looked)) is p l = inl (locked_so s.before s.after (ap (λ (z : PartShardState). hold_in z group o) p.4.1) l)
    act_lock (Called (Expires answer)) is p l = as_end s (expiry_lock p.3 _ _ _ _ _ answer is p.4.clock p.4.groups l)
    act_lock (Called (Deletes to answer)) is p l = ⊎_elim (λ locked. inl locked) (λ gone. inr (inr gone)) (delete_lock _ _ s.before s.after to answer p.4.does l)
    act_lock NothingDone is p l = inl (locked_so s.before s.after (ap (λ (z : PartShardState). hold_in z group o) p) l)

    act_above : (n : ℕ) (act : PartAct) → StepsAlone h s.before act s.after → IsFrom n s.before → IsFrom n s.after
    act_above n (Called (Visits visit answer unread)) p f =
        follows_above n h.conf p.0 _ _ p.4.at p.4.between visit answer s.after unread p.4.does (p.4.log ∙ sym p.4.acks.log)
        (acks_above n h.conf _ _ s.before visit p.4.between answer.ack p.4.acks.does p.4.acks.log f)
    act_above n (Called (Produces batch produced)) p f = batch_above n _ _ s.before s.after batch produced p.4.log p.4.still.states f
    act_above n (Called (Looks other looked)) p f = subst (IsFrom n) (sym p.4.1) f
    act_above n (Called (Expires answer)) p f =
        groups_above n h.conf _ _ _ _ _ 0 (with_clock_raised p.3 s.before) answer s.after p.4.groups p.4.log (from_raised n p.3 f)
    act_above n (Called (Deletes to answer)) p f = delete_above n _ _ s.before s.after to answer p.4.does f
    act_above n NothingDone p f = subst (IsFrom n) (sym p) f

    module _ (step : StepsAlone h s.before s.act s.after) where
      pub step_above : (n : ℕ) → IsFrom n s.before → IsFrom n s.after
      step_above n f = act_above n s.act step f

      pub step_lock : Kept s.before → Kept s.after ⊎ Goes s
      step_lock (inl l) = ⊎_elim
          (λ locked. inl (inl locked))
          (λ ends. ⊎_elim (λ e. inr e) (λ gone. inl (inr gone)) ends)
          (act_lock s.act refl step l)
      step_lock (inr gone) = inl (inr (gone.0, gone.1, act_above gone.0 s.act step gone.2))

      visited : (visit : Visit) (answer : VisitAnswer) (unread : Bool) → s.act ≡ Called (Visits visit answer unread)
          → StepsAlone h s.before (Called (Visits visit answer unread)) s.after
      visited visit answer unread is = subst (λ (a : PartAct). StepsAlone h s.before a s.after) is step

      -- a record that is granted is locked
      pub grant_lock : Grants h.conf group o member until s → Kept s.after
      grant_lock g =
          let v = visited g.visit g.answer g.unread g.act in
          let p = v.4 in
          let n = (follows_grant h.conf v.0 _ p.at p.between g.visit g.answer s.after _ g.unread p.does o g.granted).1 in
          inl (record {
            hold = record { member = g.visit.member; end = s.after.clock + h.conf.lock_ms; count = n.count };
            at = ap (λ (k : List ℕ). hold_in s.after k o) (sym g.of_group) ∙ n.is;
            whose = g.to_member;
            ends = sym g.until;
          })

      -- no record below the start of each table is
      pub grant_from : (n : ℕ) (other : List ℕ) (late : ℕ) → Grants h.conf group o other late s → IsFrom n s.before → n ≤ o
      grant_from n other late g f =
          let v = visited g.visit g.answer g.unread g.act in
          let p = v.4 in
          follows_from h.conf v.0 _ p.at p.between g.visit g.answer s.after n
          (acks_above n h.conf _ _ s.before g.visit p.between g.answer.ack p.acks.does p.acks.log f) _ g.unread p.does o g.granted

      -- it isn't granted again before the lock has ended
      pub grant_ends : (other : List ℕ) (late : ℕ) → Grants h.conf group o other late s → Kept s.before → Goes s
      grant_ends other late g (inr gone) =
          let from = grant_from gone.0 other late g gone.2 in let low = gone.1 in let clash : ⊥ = omega (arith, from, low) in absurd clash
      grant_ends other late g (inl l) =
          let v = visited g.visit g.answer g.unread g.act in
          let p = v.4 in
          ⊎_elim
          (λ (locked : Locked p.between).
          let n = (follows_grant h.conf v.0 _ p.at p.between g.visit g.answer s.after _ g.unread p.does o g.granted).1 in
          absurd (none_not locked.hold (sym n.was ∙ ap (λ (k : List ℕ). hold_in p.between k o) g.of_group ∙ locked.at)))
          (λ e. inl e)
          (acks_lock s g.visit g.answer g.unread h.conf _ _ s.before p.between g.answer.ack g.act refl p.acks.does refl l)

  -- ---- a history

  module _ (h : Hosted) (other : List ℕ) (late : ℕ) where
    record EndsIn (steps : List PartStep) : Type 0 where
      u : PartStep
      there : Contains steps u
      ends : Goes u

    through : (first last : PartShardState) (between after : List PartStep) (t : PartStep) → IsPartHistory h first (between ++ (t ∷ after)) last → Kept first
        → Grants h.conf group o other late t → EndsIn (between ++ t ∷ [])
    through first last [] after t run l g = record {
      u = t;
      there = contains_front t t [] refl;
      ends = grant_ends h t run.1 other late g (subst Kept (sym run.0) l);
    }
    through first last (u ∷ between) after t run l g = ⊎_elim
        (λ (l : Kept u.after).
        let e = through u.after last between after t run.2 l g in
        record { u = e.u; there = contains_rest u e.u (between ++ t ∷ []) e.there; ends = e.ends })
        (λ e. record { u = u; there = contains_front u u (between ++ t ∷ []) refl; ends = e })
        (step_lock h u run.1 (subst Kept (sym run.0) l))

history_parts : (h : Hosted) (first last : PartShardState) (front rest : List PartStep) → IsPartHistory h first (front ++ rest) last
    → (mid : PartShardState) × IsPartHistory h first front mid × IsPartHistory h mid rest last
history_parts h first last [] rest run = (first, refl, run)
history_parts h first last (s ∷ front) rest run =
    let p = history_parts h s.after last front rest run.2 in (p.0, (run.0, run.1, p.1), p.2)

pub exclusive_alone : (h : Hosted) (first last : PartShardState) (steps : List PartStep) → IsPartHistory h first steps last → KeepsLocksExclusive h.conf steps
exclusive_alone h first last steps run before between after s t split group o member other until late one two =
    let p = history_parts h first last before (s ∷ (between ++ (t ∷ after))) (subst (λ (l : List PartStep). IsPartHistory h first l last) split run) in
    let e = through group o member until h other late s.after last between after t p.2.2 (grant_lock group o member until h s p.2.1 one) two in
    (e.u, e.there, e.ends)
