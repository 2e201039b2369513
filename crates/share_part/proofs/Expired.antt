-- An expiry of a shard in memory: what holds once some of the due groups are done.
use Rattle.std.proofs.Common.{◌≡◌, ◌⊎◌, ◌∙◌, inl, inr, refl, sym, ap, subst, arith, ℕ, zero, suc, max, min, ◌+◌, ◌-◌, ◌^◌, ◌<◌, ◌≤◌, List, [], ◌∷◌, ◌++◌, append_assoc, length, drop, get_or, drop-cons, add-one, Option, Some, None, Bool, true, false}
use Rattle.std.specs.Prelude.{filter, Result, Ok, Err, IsErr, if◌then◌else◌}
use Rattle.std.specs.BTreeMap.{is_at}
use Rattle.std.specs.Cmp.Lexicographic.{slice_cmp}
use Rattle.std.specs.List.{AllByRecursion}
use Rattle.std.specs.List.Sorted.{IsStrictlySortedBy}
use Rattle.std.specs.Map.{keys_of}
use Rattle.std.specs.Ordering.{nat_cmp}
use Rattle.flex_fields.specs.declared.fault.NoMemory.{NoMemory as want}
use Rattle.share_model.specs.Keys.{KeyParts, key_cmp}
use Rattle.share_coord.specs.Parts.{StoreParts}
use Rattle.share_coord.proofs.Unwritten.{keys_same}
use Rattle.part_log.specs.Logs.{LogParts, log_in}
use Rattle.share_model.specs.Held.{Held}
use Rattle.share_model.specs.Logs.{Batch}
use Rattle.share_model.specs.declared.fault.StoreFault.{StoreFault}
use Rattle.share_model.specs.declared.fault.StoreFault.TheVariants.{Device}
use Rattle.share_model.specs.declared.visit.ExpireAnswer.{ExpireAnswer}
use Rattle.share_model.specs.declared.visit.ExpireAnswer.TheVariants.{Done, Store}
use Rattle.share_part.specs.Acknowledging.{NameNone, StoresActs}
use Rattle.share_part.specs.Expiring.{StepsGroup, StepsGroups, due_count, ending, groups_of, more_freed}
use Rattle.share_part.specs.Failures.{FailuresRose, RunOnBoth, failures_of}
use Rattle.share_part.specs.Hosting.{AreHosted, PartConfParts}
use Rattle.share_coord.specs.States.{states_of}
use Rattle.share_part.specs.Once.{ExpiresOnce, IsNothingDue}
use Rattle.share_part.specs.Releasing.{ReleasesOnce, due_groups, has_due}
use Rattle.share_part.specs.Settling.{held_after, is_chosen, releasing}
use Rattle.share_part.specs.Shards.{Carries, PartParts, PartShardState, held_in, with_clock_raised}
use Rattle.share_part.specs.Writes.{WritesActs, WritesGroups}
use Rattle.share_part.specs.declared.release.Released.{Released}
use Rattle.share_part.specs.declared.release.Released.TheVariants.{Done as released, Store as unreleased}
use Rattle.share_part.specs.declared.settle.Whose.TheVariants.{Due}
use Rattle.share_part.proofs.Expiries.{NextIn, StepsTo, all_done, all_pass, apart_from, in_back, in_front, max_again, next_in, none_due_of, none_in, one_fails, one_more, order_behind, some_due_of, stores_as, wrote_one, wrote_past}
use Rattle.share_part.proofs.Failing.{later_both, run_none, run_then, then_starve}
use Rattle.share_part.proofs.Holding.{AreKept}
use Rattle.share_part.proofs.Ordered.{IsIn, InOrder, due_is_filter, entries_sorted, found_all, groups_order, none_due}
use Rattle.lock_index.specs.Windows.{IsRising}
use Rattle.edge_io.specs.Views.{DiskView}

module _ {D W : Type 0} (seen : D → DiskView) (holding : W → Held) (now : ℕ) (entry : PartParts D W) (due : List (List ℕ)) where
  abbrev clock : ℕ
  clock = max entry.clock now

  abbrev groups : List (List ℕ)
  groups = groups_of (states_of entry.states.entries)

  abbrev IsDue : List ℕ → Bool
  IsDue g = has_due clock (held_in holding entry.windows g)

  -- how many calls of the state disks have failed
  abbrev failed : PartParts D W → ℕ
  failed parts = failures_of seen parts.states

  abbrev end : PartParts D W → ℕ
  end parts = parts.states.journal.end

  abbrev Runs : PartParts D W → PartParts D W → Type 0
  Runs a b = RunOnBoth seen a.states b.states

  abbrev held_then : List ℕ → Held
  held_then = held_in holding entry.windows

  abbrev Wrote : List (List ℕ) → StoreParts D → StoreParts D → Type 0
  Wrote done old new = WritesGroups seen entry.conf entry.log.batches clock held_then done old new

  -- a shard that was carried has come so far
  pub record Far (s : PartShardState) (current : PartParts D W) (i freed : ℕ) : Type 0 where
    pub shard : PartShardState
    pub carries : Carries seen holding current shard
    pub clock_is : max shard.clock now ≡ clock
    pub log : shard.log ≡ s.log
    pub some : (i ≡ 0) ⊎ ((0 < freed) × (shard.clock ≡ clock))
    pub done : List (List ℕ)
    pub rest : List (List ℕ)
    pub parted : groups ≡ done ++ rest
    pub left : filter IsDue rest ≡ drop i due
    pub order : InOrder rest
    pub fresh : (g : List ℕ) → IsIn rest g → shard.held g ≡ held_in holding entry.windows g
    pub to : StepsTo entry.conf (failed entry) (end entry) done 0 (with_clock_raised now s) (failed current) (end current) freed (with_clock_raised now shard)
    pub wrote : Wrote done entry.states current.states

  pub record SoFar (current : PartParts D W) (i freed : ℕ) : Type 0 where
    pub conf : current.conf ≡ entry.conf
    pub log : current.log ≡ entry.log
    pub runs : Runs entry current
    pub none : i ≡ 0 → (current ≡ entry) × (freed ≡ 0)
    pub within : i ≤ length due
    pub few : freed ≤ 2 ^ 64 - 1
    pub steps : (s : PartShardState) → Carries seen holding entry s → Far s current i freed

  pub begins : InOrder (keys_of entry.windows) → AreHosted entry.conf (log_in entry.log) (states_of entry.states.entries)
      → AreKept entry.conf entry.log.batches (states_of entry.states.entries) (held_in holding entry.windows) → due ≡ due_groups holding (max entry.clock now) entry.windows → SoFar entry 0 0
  begins by_group hosted kept due_is = record {
    conf = refl;
    log = refl;
    runs = run_none seen entry.states;
    none = λ is. (refl, refl);
    within = omega arith;
    few = omega arith;
    steps = λ s c.
        let by_key = subst (λ (l : List KeyParts). IsStrictlySortedBy key_cmp l) (keys_same c.holds.written entry.states.entries c.holds.kept)
        (entries_sorted _ c.holds.written c.holds.taken) in
        record {
          shard = s;
          carries = c;
          clock_is = ap (λ (n : ℕ). max n now) c.clock;
          log = refl;
          some = inl refl;
          done = [];
          rest = groups;
          parted = refl;
          left = sym (due_is ∙ due_is_filter holding clock entry.conf entry.log.batches entry.states.entries entry.windows by_key by_group hosted kept);
          order = groups_order entry.conf entry.log.batches entry.states.entries by_key hosted;
          fresh = λ g h. c.held g;
          to = (refl, refl, refl, refl);
          wrote = refl;
        };
  }

  -- ---- one group more

  module _ (current after : PartParts D W) (i freed : ℕ) (group : List ℕ) (h : SoFar current i freed) (lt : i < length due) (d : List ℕ) (at : get_or due i d ≡ group)
      (runs : Runs current after) where
    next_is : drop i due ≡ group ∷ drop (i + 1) due
    next_is = let split : drop i due ≡ get_or due i d ∷ drop (i + 1) due = rw (add-one, drop-cons due i d) in split ∙ ap (λ (g : List ℕ). g ∷ drop (i + 1) due) at

    abbrev Once : Released → Type 0
    Once r = ReleasesOnce seen holding clock group (Due clock) current after r

    module _ (s : PartShardState) (f : Far s current i freed) where
      pub next : NextIn IsDue f.rest group (drop (i + 1) due)
      next = next_in IsDue f.rest group (drop (i + 1) due) (f.left ∙ next_is)

      in_rest : (g : List ℕ) → IsIn next.passed g → IsIn f.rest g
      in_rest g there = subst (λ (l : List (List ℕ)). IsIn l g) (sym next.is) (in_front next.passed (group ∷ next.behind) g there)

      behind_rest : (g : List ℕ) → IsIn next.behind g → IsIn f.rest g
      behind_rest g there = subst (λ (l : List (List ℕ)). IsIn l g) (sym next.is) (in_back next.passed (group ∷ next.behind) g (inr there))

      group_held : f.shard.held group ≡ held_in holding entry.windows group
      group_held = f.fresh group (subst (λ (l : List (List ℕ)). IsIn l group) (sym next.is) (in_back next.passed (group ∷ next.behind) group (inl refl)))

      -- the groups up to this one are passed
      to_here : StepsTo entry.conf (failed entry) (end entry) (f.done ++ next.passed) 0 (with_clock_raised now s) (failed current) (end current) freed (with_clock_raised now f.shard)
      to_here = all_pass entry.conf (failed entry) (end entry) f.done 0 (with_clock_raised now s) (failed current) (end current) freed (with_clock_raised now f.shard) f.to h.few next.passed
          (λ g there.
          ap (λ (n : ℕ). due_count n (f.shard.held g)) f.clock_is
          ∙ ap (due_count clock) (f.fresh g (in_rest g there))
          ∙ none_due_of clock (held_in holding entry.windows g) (next.fail g there))

      wrote_here : Wrote (f.done ++ next.passed) entry.states current.states
      wrote_here = wrote_past seen entry.conf entry.log.batches clock held_then f.done next.passed entry.states current.states f.wrote
          (λ g there. none_due_of clock (held_in holding entry.windows g) (next.fail g there))

      abbrev Acts : PartConfParts → List Batch → Held → Option StoreFault → Type 0
      Acts conf log held fault = WritesActs seen conf log group (ending clock held) held true current.states after.states fault

      wrote_next : (fault : Option StoreFault) → Acts current.conf current.log.batches (held_in holding current.windows group) fault
          → Acts entry.conf entry.log.batches (held_then group) fault
      wrote_next fault acts =
          subst (λ (l : Held). Acts entry.conf entry.log.batches l fault) (sym (f.carries.held group) ∙ group_held)
          (subst (λ (l : LogParts D). Acts entry.conf l.batches (held_in holding current.windows group) fault) h.log
          (subst (λ (c : PartConfParts). Acts c current.log.batches (held_in holding current.windows group) fault) h.conf acts))

      parts_are : groups ≡ (f.done ++ next.passed) ++ (group ∷ next.behind)
      parts_are = f.parted ∙ ap (λ (l : List (List ℕ)). f.done ++ l) next.is ∙ sym (append_assoc f.done next.passed (group ∷ next.behind))

      one_group : (fault : Option StoreFault) (t : PartShardState) → t.log ≡ f.shard.log → t.clock ≡ clock
          → StoresActs current.conf (FailuresRose seen current.states after.states) (end current) f.shard group (releasing (is_chosen (Due clock)) (f.shard.held group)) t fault
          → StepsGroup entry.conf (failed current) (failed after) (end current) (with_clock_raised now f.shard) group fault t
      one_group fault t log clock_is stores = record {
        counts = later_both seen current.states after.states runs;
        log = log;
        clock = clock_is ∙ sym f.clock_is;
        stores = stores_as entry.conf (FailuresRose seen current.states after.states) (end current) f.shard t group _ now fault
            (subst (λ (n : ℕ). StoresActs entry.conf (FailuresRose seen current.states after.states) (end current) f.shard group (releasing (is_chosen (Due n)) (f.shard.held group)) t fault) (sym f.clock_is)
            (subst (λ (c : PartConfParts). StoresActs c (FailuresRose seen current.states after.states) (end current) f.shard group (releasing (is_chosen (Due clock)) (f.shard.held group)) t fault) h.conf stores));
      }

      raised_same : (t : PartShardState) → t.clock ≡ clock → t ≡ with_clock_raised now t
      raised_same t is =
          let same : t.clock ≡ max t.clock now = is ∙ (sym (max_again entry.clock now) ∙ ap (λ (n : ℕ). max n now) (sym is)) in
          λ j. record { log = t.log; states = t.states; pending = t.pending; held = t.held; clock = same j }

      -- what other groups hold stays
      held_same : (t : PartShardState) → StoresActs current.conf (FailuresRose seen current.states after.states) (end current) f.shard group (releasing (is_chosen (Due clock)) (f.shard.held group)) t None
          → (g : List ℕ) → is_at (slice_cmp nat_cmp group) g ≡ false → t.held g ≡ f.shard.held g
      held_same t (inl x) g apart = ap (λ (held : List ℕ → Held). held g) x.1.held
      held_same t (inr x) g apart = ap (λ (held : List ℕ → Held). held g) x.1.held
          ∙ ap (λ (b : Bool). if b then held_after (releasing (is_chosen (Due clock)) (f.shard.held group)) (f.shard.held group) else f.shard.held g) apart

    pub one_done : (told : Released) (count : ℕ) → told ≡ released count → Once told → SoFar after (i + 1) (more_freed freed count)
    one_done told count is once =
        let o = subst Once is once in
        record {
          conf = o.conf ∙ h.conf;
          log = o.log ∙ h.log;
          runs = run_then seen entry.states current.states after.states h.runs runs;
          none = λ e. absurd (omega (arith, e));
          within = omega (arith, lt);
          few = (let bound : min (freed + count) (2 ^ 64 - 1) ≤ 2 ^ 64 - 1 = omega arith in bound);
          steps = λ s c.
              let f = h.steps s c in
              let r = o.steps f.shard f.carries in
              let n = next s f in
              let counted : count ≡ due_count clock (f.shard.held group) = r.2.counts in
              let behind = order_behind n.passed group n.behind (subst InOrder n.is f.order) in
              let some : 0 < due_count clock (f.shard.held group) = subst (λ (l : Held). 0 < due_count clock l) (sym (group_held s f)) (some_due_of clock (held_in holding entry.windows group) n.pass) in
              let to = one_more entry.conf (failed entry) (end entry) (f.done ++ n.passed) 0 (with_clock_raised now s) (failed current) (end current) freed (with_clock_raised now f.shard) (to_here s f)
              group (failed after) (end after) r.0 (one_group s f None r.0 r.2.log r.2.clock_is r.2.stores)
              (λ none. ap (λ (p : StoreParts D). p.journal.end) (o.unwritten
              (subst (λ (l : Held). NameNone (ending clock l)) (f.carries.held group) (subst (λ (n : ℕ). NameNone (ending n (f.shard.held group))) f.clock_is none)))) in
              record {
                shard = r.0;
                carries = r.1;
                clock_is = ap (λ (n : ℕ). max n now) r.2.clock_is ∙ max_again entry.clock now;
                log = r.2.log ∙ f.log;
                some = inr ((let positive : 0 < min (freed + count) (2 ^ 64 - 1) = omega (arith, counted, some) in positive), r.2.clock_is);
                done = (f.done ++ n.passed) ++ group ∷ [];
                rest = n.behind;
                parted = parts_are s f ∙ sym (append_assoc (f.done ++ n.passed) (group ∷ []) n.behind);
                left = n.left;
                order = behind.0;
                fresh = λ g there. held_same s f r.0 r.2.stores g (apart_from group n.behind g behind.1 there) ∙ f.fresh g (behind_rest s f g there);
                wrote = wrote_one seen entry.conf entry.log.batches clock held_then (f.done ++ n.passed) group entry.states current.states after.states (wrote_here s f)
                    (wrote_next s f None o.records) (o.quiet (λ fault e. let clash : ⊥ = cc in clash));
                to = subst (StepsTo entry.conf (failed entry) (end entry) ((f.done ++ n.passed) ++ group ∷ []) 0 (with_clock_raised now s) (failed after) (end after) (more_freed freed count)) (raised_same s f r.0 r.2.clock_is)
                    (subst (λ (m : ℕ). StepsTo entry.conf (failed entry) (end entry) ((f.done ++ n.passed) ++ group ∷ []) 0 (with_clock_raised now s) (failed after) (end after) (more_freed freed m) r.0)
                    (ap (λ (n : ℕ). due_count n (f.shard.held group)) f.clock_is ∙ sym counted) to);
              };
        }

    -- ---- where nothing was due

    none_left : InOrder (keys_of entry.windows) → due ≡ due_groups holding clock entry.windows → AllByRecursion (λ (e : List ℕ × W). IsRising (holding e.1)) entry.windows
        → IsNothingDue holding entry.windows clock → ⊥
    none_left by_group due_is rising nothing =
        let none : due ≡ [] = due_is ∙ none_due holding clock entry.windows entry.windows (found_all holding clock entry.windows by_group) rising nothing in
        let empty : length due ≡ 0 = ap (λ (l : List (List ℕ)). length l) none in
        omega (arith, empty, lt)

    -- ---- its write fails

    told_device : (a b : ℕ) (x y : List ℕ) (e f : StoreFault) → Store a x e ≡ Store b y f → e ≡ f
    told_device a b x y e f is = cc

    module _ (by_group : InOrder (keys_of entry.windows)) (due_is : due ≡ due_groups holding (max entry.clock now) entry.windows)
        (rising : AllByRecursion (λ (e : List ℕ × W). IsRising (holding e.1)) entry.windows) where
      pub one_stays : (answer : Released) (fault : StoreFault) → answer ≡ unreleased fault → Once answer
          → ExpiresOnce seen holding now entry after (Ok (Store freed group fault))
      one_stays answer fault is once =
          let o = subst Once is once in
          record {
            steps = λ s c.
                let f = h.steps s c in
                let r = o.steps f.shard f.carries in
                let n = next s f in
                let steps = one_fails entry.conf (failed entry) (end entry) (f.done ++ n.passed) 0 (with_clock_raised now s) (failed current) (end current) freed (with_clock_raised now f.shard) (to_here s f)
                group n.behind (failed after) (end after) fault r.0 (one_group s f (Some fault) r.0 r.2.log r.2.clock_is r.2.stores) in (
                  r.0,
                  r.1,
                  record {
                    clock = r.2.clock_is ∙ ap (λ (n : ℕ). max n now) (sym c.clock);
                    log = r.2.log ∙ f.log;
                    groups = subst (λ (l : List (List ℕ)). StepsGroups entry.conf (failed entry) (failed after) (end entry) (end after) l 0 (with_clock_raised now s) (Store freed group fault) r.0)
                        (sym (ap groups_of c.states ∙ parts_are s f)) steps;
                  },
                );
            memory = tt;
            records = λ s c.
                let f = h.steps s c in
                let n = next s f in
                (f.done ++ n.passed, n.behind, parts_are s f, current.states, wrote_here s f, wrote_next s f (Some fault) o.records);
            nothing_due = λ nothing. absurd (none_left by_group due_is rising nothing);
            sound = λ m g told. then_starve seen entry.states current.states after.states h.runs (o.sound (ap unreleased (told_device freed m group g fault Device told)));
            log = o.log ∙ h.log;
            conf = o.conf ∙ h.conf;
          }

  -- ---- all are done

  module _ (current : PartParts D W) (i freed : ℕ) (h : SoFar current i freed) (past : length due ≤ i) (by_group : InOrder (keys_of entry.windows))
      (due_is : due ≡ due_groups holding (max entry.clock now) entry.windows) (rising : AllByRecursion (λ (e : List ℕ × W). IsRising (holding e.1)) entry.windows) where
    -- the clock is raised
    abbrev pub ended : PartParts D W
    ended = record { conf = current.conf; log = current.log; states = current.states; windows = current.windows; clock = clock }

    drop_none : (l : List (List ℕ)) (n : ℕ) → length l ≤ n → drop n l ≡ []
    drop_none [] zero le = refl
    drop_none [] (suc n) le = refl
    drop_none (x ∷ l) zero le = absurd (omega (arith, le))
    drop_none (x ∷ l) (suc n) le = drop_none l n (omega (arith, le))

    pub all_ended : ExpiresOnce seen holding now entry ended (Ok (Done freed))
    all_ended = record {
      steps = λ s c.
          let f = h.steps s c in
          let to = all_pass entry.conf (failed entry) (end entry) f.done 0 (with_clock_raised now s) (failed current) (end current) freed (with_clock_raised now f.shard) f.to h.few f.rest
          (λ g there.
          ap (λ (n : ℕ). due_count n (f.shard.held g)) f.clock_is
          ∙ ap (due_count clock) (f.fresh g there)
          ∙ none_due_of clock (held_in holding entry.windows g) (none_in IsDue f.rest (f.left ∙ drop_none due i past) g there)) in (
            with_clock_raised now f.shard,
            record {
              log = f.carries.log;
              pending = f.carries.pending;
              holds = f.carries.holds;
              states = f.carries.states;
              pending_is = f.carries.pending_is;
              held = f.carries.held;
              clock = f.clock_is;
              hosted = f.carries.hosted;
              pending_hosted = f.carries.pending_hosted;
              level = f.carries.level;
              pending_level = f.carries.pending_level;
            },
            record {
              clock = f.clock_is ∙ ap (λ (n : ℕ). max n now) (sym c.clock);
              log = f.log;
              groups = subst (λ (l : List (List ℕ)). StepsGroups entry.conf (failed entry) (failed current) (end entry) (end current) l 0 (with_clock_raised now s) (Done freed) (with_clock_raised now f.shard))
                  (sym (ap groups_of c.states ∙ f.parted))
                  (all_done entry.conf (failed entry) (end entry) (f.done ++ f.rest) 0 (with_clock_raised now s) (failed current) (end current) freed (with_clock_raised now f.shard) to (failed current) (omega arith));
            },
          );
      memory = tt;
      records = λ s c.
          let f = h.steps s c in
          subst (λ (l : List (List ℕ)). Wrote l entry.states current.states) (sym f.parted)
          (wrote_past seen entry.conf entry.log.batches clock held_then f.done f.rest entry.states current.states f.wrote
          (λ g there. none_due_of clock (held_in holding entry.windows g) (none_in IsDue f.rest (f.left ∙ drop_none due i past) g there)));
      nothing_due = λ nothing.
          let none : due ≡ [] = due_is ∙ none_due holding clock entry.windows entry.windows (found_all holding clock entry.windows by_group) rising nothing in
          let empty : length due ≡ 0 = ap (λ (l : List (List ℕ)). length l) none in
          let within = h.within in
          let first = h.none (omega (arith, empty, within)) in
          (ap (λ (n : ℕ). Ok (Done n)) first.1, ap (λ (p : PartParts D W). record { conf = p.conf; log = p.log; states = p.states; windows = p.windows; clock = clock }) first.0);
      sound = λ m g told. absurd (let clash : ⊥ = cc in clash);
      log = h.log;
      conf = h.conf;
    }

  -- no memory is found for the list of the groups
  pub none_begins : (answer : Result ExpireAnswer want) → IsErr answer → (IsNothingDue holding entry.windows clock → ⊥) → ExpiresOnce seen holding now entry entry answer
  none_begins (Ok answer) none some = absurd (let clash : ⊥ = cc in clash)
  none_begins (Err e) none some = record { steps = tt; memory = refl; records = λ s c. refl; nothing_due = λ nothing. absurd (some nothing); sound = tt; log = refl; conf = refl }
