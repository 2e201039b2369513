-- From an append of the journal to what the record that was put left.
use Rattle.std.proofs.Common.{◌≡◌, ◌⊎◌, ◌↔◌, ◌<◌, ◌≤◌, ◌+◌, ◌^◌, inl, inr, ⊎_elim, refl, sym, ap, ◌∙◌, subst, arith, ℕ, List, [], ◌∷◌, ◌++◌, length}
use Rattle.std.proofs.Common.{Bool, true, false, not, Option, Some, None, Result, Ok, Err, OnOk, OnErr, if◌then◌else◌}
use Rattle.std.proofs.lemmas.Bool.{cases_lt}
use Rattle.std.proofs.lemmas.Result.{on_ok_weaker, on_err_weaker}
use Rattle.edge_io.specs.Armed.{RunsOn}
use Rattle.edge_io.specs.Moments.{LeavesPairs}
use Rattle.edge_io.specs.Views.{DiskView}
use Rattle.edge_io.proofs.Moments.{paired, started}
use Rattle.edge_io.proofs.Runs.{runs_none}
use Rattle.checkpoint_journal.specs.Checkpoints.{IsCheckpoint}
use Rattle.gate_journal.specs.Frames.{IsFrame, StandsFor}
use Rattle.std.specs.List.{AllByRecursion}
use Rattle.checkpoint_journal.specs.Generations.{IsListed, IsPlain, is_sealed, mark_of, mark_read, marks_of, second_is_live}
use Rattle.coord_checkpoint.specs.Disks.{HasFailed}
use Rattle.coord_checkpoint.specs.Stores.{Finds, IsBase, IsLeftWithin, Keeps, StoreParts as JournalParts}
use Rattle.coord_checkpoint.specs.Writes.{Fills, IsQuietBut, MayCheckpoint, RefusesDevice, side}
use Rattle.share_model.specs.declared.fault.StoreFault.{StoreFault}
use Rattle.share_model.specs.declared.fault.StoreFault.TheVariants.{Device, Full}
use Rattle.state_records.specs.Spelling.{IsRecord, record_bytes}
use Rattle.state_records.specs.declared.record.StateRecord.{StateRecord}
use Rattle.state_records.specs.declared.record.StateRecord.TheVariants.{Snapshot, Update, Removal, Head, Seal}
use Rattle.state_records.proofs.Whole.{record_again}
use Rattle.share_coord.specs.Putting.{HasNotPut, HasPut, IsOfKey, IsPut, IsPutWithin, Puts, told_as}
use Rattle.share_coord.specs.declared.fault.CoordFault.{CoordFault}
use Rattle.share_coord.specs.declared.fault.CoordFault.TheVariants.{Store, NoMemory}
use Rattle.share_coord.proofs.Faults.{same_fault, ok_is_no_err}
use Rattle.share_coord.proofs.Reading.{live_one}

plain_kind : (r : StateRecord) → IsOfKey r → IsPlain (mark_read (Ok r))
plain_kind (Snapshot state) is = tt
plain_kind (Update state) is = tt
plain_kind (Removal key) is = tt
plain_kind (Head generation) is = absurd is
plain_kind Seal is = absurd is

-- the record of a key begins no generation
pub plain_mark : (r : StateRecord) (frame : List ℕ) → frame ≡ record_bytes r → IsRecord r → IsOfKey r → IsPlain (mark_of frame)
plain_mark r frame same valid is = subst IsPlain (sym (ap mark_of same ∙ ap mark_read (record_again r valid))) (plain_kind r is)

-- ---- which disk failed

module _ {D : Type 0} (seen : D → DiskView) (old new : JournalParts D) where
  side_failed : (b : Bool) → HasFailed seen (side b old) (side b new) → HasFailed seen old.first.disk new.first.disk ⊎ HasFailed seen old.second.disk new.second.disk
  side_failed false h = inl h
  side_failed true h = inr h

  pub either_failed : RefusesDevice seen old new → HasFailed seen old.first.disk new.first.disk ⊎ HasFailed seen old.second.disk new.second.disk
  either_failed (inl h) = side_failed old.on_second h
  either_failed (inr h) = side_failed (not old.on_second) h.0

no_full : (end : ℕ) → ◌≡◌ {A = Result ℕ StoreFault} (Err Device) (Err (Full end)) → ⊥
no_full end is = let never : ⊥ = cc in never

-- ---- no memory

pub nothing_put : {D : Type 0} (seen : D → DiskView) (only_now : (d : D) (c : List ℕ) → (seen d).since (seen d).moment c → (seen d).image c)
    (snapshots : List (List ℕ)) (plain : StateRecord) (fresh : Option StateRecord) (journal : JournalParts D)
    → Puts seen snapshots plain fresh journal journal false (Err NoMemory)
nothing_put seen only_now snapshots plain fresh journal = record {
  chosen = plain;
  is = refl;
  kept = tt;
  failed = λ frames sealing pending keeps. record {
    base = frames;
    seals = sealing;
    waits = pending;
    from = refl;
    may = λ landed is. (refl, inl is);
    which = inr (inl (refl, refl));
    keeps = keeps;
  };
  causes = inl refl;
  device = λ is. absurd (memory_clash is);
  full = λ frames sealing pending keeps end is. absurd (memory_clash is);
  memory = λ _. (refl, refl);
  room = tt;
  quiet = tt;
  turned = λ _. refl;
  any_moment = λ frames sealing pending keeps. paired seen journal.first.disk journal.first.disk journal.second.disk journal.second.disk
      (seen journal.first.disk).image (seen journal.second.disk).image _
      (started seen journal.first.disk (seen journal.first.disk).image (λ a left. only_now journal.first.disk a left))
      (started seen journal.second.disk (seen journal.second.disk).image (λ b left. only_now journal.second.disk b left))
      (λ a b on_a on_b. let found = keeps.images a b on_a on_b in (found.0, found.1, inl found.2));
  runs = (runs_none seen journal.first.disk, runs_none seen journal.second.disk);
}
  where
    memory_clash : {fault : StoreFault} → ◌≡◌ {A = Result (Unit {0}) CoordFault} (Err NoMemory) (Err (Store fault)) → ⊥
    memory_clash is = let never : ⊥ = cc in never

-- ---- an append

module _ {D : Type 0} (seen : D → DiskView) (old new : JournalParts D) (snapshots : List (List ℕ)) (plain : StateRecord) (fresh : Option StateRecord)
    (put : Bool → StateRecord) (bytes : Bool → List ℕ) (c : Bool) (put_is : IsPut plain fresh c (put c))
    (bytes_are : bytes c ≡ record_bytes (put c)) (valid : IsRecord (put c)) where
  has_put : (frames base : List (List ℕ)) → IsBase frames snapshots c base → length base < 2 ^ 62 → Keeps seen new (base ++ bytes c ∷ []) None None
      → HasPut seen new frames snapshots plain fresh c
  has_put frames base from few keeps = record {
    base = base;
    one = put c;
    from = from;
    is = put_is;
    valid = valid;
    few = few;
    keeps = subst (λ (b : List ℕ). Keeps seen new (base ++ b ∷ []) None None) bytes_are keeps;
  }

  waits_put : (waits pending : Option (List ℕ)) → (waits ≡ None) ⊎ (((c ≡ false) × (waits ≡ pending)) ⊎ (waits ≡ Some (bytes c)))
      → (waits ≡ None) ⊎ (((c ≡ false) × (waits ≡ pending)) ⊎ ((one : StateRecord) × IsPut plain fresh c one × IsRecord one × (waits ≡ Some (record_bytes one))))
  waits_put waits pending (inl none) = inl none
  waits_put waits pending (inr (inl was)) = inr (inl was)
  waits_put waits pending (inr (inr is)) = inr (inr (put c, put_is, valid, is ∙ ap Some bytes_are))

pub room_by : (r : Result ℕ StoreFault) (k at n m : ℕ) → r ≡ Ok k → ((end : ℕ) → (r ≡ Err (Full end)) ↔ ((end ≡ at) × (2 ^ 62 < at + n))) → n ≡ m + 5
    → at + (m + 5) ≤ 2 ^ 62
room_by r k at n m is exact size =
    ⊎_elim (λ lt. absurd (ok_err k (sym is ∙ (exact at).1 (refl, lt)))) (λ le. omega (arith, le, size)) (cases_lt (2 ^ 62) (at + n))
  where
    ok_err : (k : ℕ) {f : StoreFault} → ◌≡◌ {A = Result ℕ StoreFault} (Ok k) (Err f) → ⊥
    ok_err k e = let never : ⊥ = cc in never

module _ {D : Type 0} (seen : D → DiskView) (old new : JournalParts D) (snapshots : List (List ℕ)) (plain : StateRecord) (fresh : Option StateRecord)
    (put : Bool → StateRecord) (bytes : Bool → List ℕ) (c : Bool) (put_is : IsPut plain fresh c (put c))
    (bytes_are : bytes c ≡ record_bytes (put c)) (valid : IsRecord (put c)) (valid_plain : IsRecord plain) (n : ℕ) (size : n ≡ length (record_bytes plain) + 5)
    (r : Result ℕ StoreFault) (full : Fills seen old new n c r)
    (run : (frames : List (List ℕ)) (sealing : Option (List (List ℕ))) (pending : Option (List ℕ)) → Keeps seen old frames sealing pending →
    LeavesPairs seen old.first.disk new.first.disk old.second.disk new.second.disk (Finds (IsPutWithin frames sealing pending snapshots plain fresh)))
    (runs : RunsOn seen old.first.disk new.first.disk × RunsOn seen old.second.disk new.second.disk)
    (turned : new.on_second ≡ (if c then not old.on_second else old.on_second)) where
  turn_by : c ≡ false → new.on_second ≡ old.on_second
  turn_by e = turned ∙ ap (λ (b : Bool). if b then not old.on_second else old.on_second) e

  pub put_ok : (k : ℕ) → r ≡ Ok k → IsQuietBut seen (MayCheckpoint old snapshots) old new
      → ((frames : List (List ℕ)) (sealing : Option (List (List ℕ))) (pending : Option (List ℕ)) → Keeps seen old frames sealing pending →
      (base : List (List ℕ)) × IsBase frames snapshots c base × (length base < 2 ^ 62) × Keeps seen new (base ++ bytes c ∷ []) None None)
      → Puts seen snapshots plain fresh old new c (Ok tt)
  put_ok k at quiet kept = record {
    chosen = put c;
    is = put_is;
    kept = λ frames sealing pending keeps.
        let h = kept frames sealing pending keeps in
        has_put seen old new snapshots plain fresh put bytes c put_is bytes_are valid frames h.0 h.1 h.2 h.3;
    failed = tt;
    causes = tt;
    device = λ e. absurd (ok_is_no_err tt _ e);
    full = λ frames sealing pending keeps end e. absurd (ok_is_no_err tt _ e);
    memory = λ e. absurd (ok_is_no_err tt _ e);
    room = λ frames sealing pending keeps. room_by r k old.end n (length (record_bytes plain)) at (full.exact frames sealing pending keeps) size;
    quiet = quiet;
    turned = turn_by;
    any_moment = run;
    runs = runs;
  }

  pub put_err : (fault : StoreFault) → r ≡ Err fault → (r ≡ Err Device → RefusesDevice seen old new)
      → ((frames : List (List ℕ)) (sealing : Option (List (List ℕ))) (pending : Option (List ℕ)) → Keeps seen old frames sealing pending →
      (base : List (List ℕ)) × (seals : Option (List (List ℕ))) × (waits : Option (List ℕ)) × IsBase frames snapshots c base
      × ((landed : List (List ℕ)) → seals ≡ Some landed → (c ≡ false) × ((sealing ≡ Some landed) ⊎ IsCheckpoint snapshots landed))
      × ((waits ≡ None) ⊎ (((c ≡ false) × (waits ≡ pending)) ⊎ (waits ≡ Some (bytes c)))) × Keeps seen new base seals waits)
      → Puts seen snapshots plain fresh old new c (Err (Store fault))
  put_err fault at device failed = record {
    chosen = put c;
    is = put_is;
    kept = tt;
    failed = λ frames sealing pending keeps.
        let h = failed frames sealing pending keeps in
        record {
          base = h.0;
          seals = h.1;
          waits = h.2;
          from = h.3;
          may = h.4;
          which = waits_put seen old new snapshots plain fresh put bytes c put_is bytes_are valid h.2 pending h.5;
          keeps = h.6;
        };
    causes = inr (fault, refl);
    device = λ e. either_failed seen old new (device (at ∙ ap Err (same_fault fault Device e)));
    full = λ frames sealing pending keeps end e.
        let here = at ∙ ap Err (same_fault fault (Full end) e) in
        let bounds = (full.exact frames sealing pending keeps end).0 here in
        let same = full.same frames sealing pending keeps end here in
        (bounds.0, valid_plain, omega (arith, bounds.0, bounds.1, size), same.0, same.1);
    memory = λ e. absurd (store_clash e);
    room = tt;
    quiet = tt;
    turned = turn_by;
    any_moment = run;
    runs = runs;
  }
    where
      store_clash : ◌≡◌ {A = Result (Unit {0}) CoordFault} (Err (Store fault)) (Err NoMemory) → ⊥
      store_clash e = let never : ⊥ = cc in never

pub put_done : {D : Type 0} (seen : D → DiskView) (old new : JournalParts D) (snapshots : List (List ℕ)) (plain : StateRecord) (fresh : Option StateRecord)
    (put : Bool → StateRecord) (bytes : Bool → List ℕ) (c : Bool) (put_is : IsPut plain fresh c (put c))
    (bytes_are : bytes c ≡ record_bytes (put c)) (valid : IsRecord (put c)) (valid_plain : IsRecord plain) (n : ℕ) (size : n ≡ length (record_bytes plain) + 5)
    (r : Result ℕ StoreFault) (full : Fills seen old new n c r)
    (run : (frames : List (List ℕ)) (sealing : Option (List (List ℕ))) (pending : Option (List ℕ)) → Keeps seen old frames sealing pending →
    LeavesPairs seen old.first.disk new.first.disk old.second.disk new.second.disk (Finds (IsPutWithin frames sealing pending snapshots plain fresh)))
    (runs : RunsOn seen old.first.disk new.first.disk × RunsOn seen old.second.disk new.second.disk)
    (turned : new.on_second ≡ (if c then not old.on_second else old.on_second))
    → OnOk r (IsQuietBut seen (MayCheckpoint old snapshots) old new) → (r ≡ Err Device → RefusesDevice seen old new)
    → OnOk r ((frames : List (List ℕ)) (sealing : Option (List (List ℕ))) (pending : Option (List ℕ)) → Keeps seen old frames sealing pending →
    (base : List (List ℕ)) × IsBase frames snapshots c base × (length base < 2 ^ 62) × Keeps seen new (base ++ bytes c ∷ []) None None)
    → OnErr r ((frames : List (List ℕ)) (sealing : Option (List (List ℕ))) (pending : Option (List ℕ)) → Keeps seen old frames sealing pending →
    (base : List (List ℕ)) × (seals : Option (List (List ℕ))) × (waits : Option (List ℕ)) × IsBase frames snapshots c base
    × ((landed : List (List ℕ)) → seals ≡ Some landed → (c ≡ false) × ((sealing ≡ Some landed) ⊎ IsCheckpoint snapshots landed))
    × ((waits ≡ None) ⊎ (((c ≡ false) × (waits ≡ pending)) ⊎ (waits ≡ Some (bytes c)))) × Keeps seen new base seals waits)
    → Puts seen snapshots plain fresh old new c (told_as r)
put_done seen old new snapshots plain fresh put bytes c put_is bytes_are valid valid_plain n size (Ok k) full run runs turned quiet device kept failed =
    put_ok seen old new snapshots plain fresh put bytes c put_is bytes_are valid valid_plain n size (Ok k) full run runs turned k refl quiet kept
put_done seen old new snapshots plain fresh put bytes c put_is bytes_are valid valid_plain n size (Err fault) full run runs turned quiet device kept failed =
    put_err seen old new snapshots plain fresh put bytes c put_is bytes_are valid valid_plain n size (Err fault) full run runs turned fault refl device failed

-- ---- both frames, where a checkpoint is tried

abbrev pub which_record : StateRecord → StateRecord → Bool → StateRecord
which_record plain fresh false = plain
which_record plain fresh true = fresh

module _ (plain fresh : StateRecord) where
  pub which_put : (c : Bool) → IsPut plain (Some fresh) c (which_record plain fresh c)
  which_put false = refl
  which_put true = refl

  pub which_valid : (c : Bool) → IsRecord plain → IsRecord fresh → IsRecord (which_record plain fresh c)
  which_valid false p q = p
  which_valid true p q = q

  pub which_is : (f g : List ℕ) (c : Bool) → f ≡ record_bytes plain → g ≡ record_bytes fresh → (if c then g else f) ≡ record_bytes (which_record plain fresh c)
  which_is f g false p q = p
  which_is f g true p q = q

  pub within_both : (f g : List ℕ) (frames : List (List ℕ)) (sealing : Option (List (List ℕ))) (pending : Option (List ℕ)) (snapshots found : List (List ℕ))
      → f ≡ record_bytes plain → g ≡ record_bytes fresh → IsRecord plain → IsRecord fresh
      → IsLeftWithin frames sealing pending snapshots f g found → IsPutWithin frames sealing pending snapshots plain (Some fresh) found
  within_both f g frames sealing pending snapshots found p q valid_p valid_q (inl left) = inl left
  within_both f g frames sealing pending snapshots found p q valid_p valid_q (inr (inl k)) = inr (inl k)
  within_both f g frames sealing pending snapshots found p q valid_p valid_q (inr (inr h)) = inr (inr (
    h.0,
    h.1,
    which_record plain fresh h.0,
    h.2,
    which_put h.0,
    which_valid h.0 valid_p valid_q,
    h.3 ∙ ap (λ (b : List ℕ). h.1 ++ b ∷ []) (which_is f g h.0 p q),
  ))

-- where none is tried
-- ---- where none is tried

stands_fit : (c : List ℕ) (frames : List (List ℕ)) → StandsFor c frames → AllByRecursion IsFrame frames
stands_fit c frames (inl h) = subst (AllByRecursion IsFrame) (sym h.1) tt
stands_fit c frames (inr h) = h.4

-- frames that are listed are no empty ones
listed_fit : (a b : List ℕ) (found : List (List ℕ)) → IsListed a b found → AllByRecursion IsFrame found
listed_fit a b found listed = ⊎_elim
    (λ e. subst (AllByRecursion IsFrame) (sym e) (stands_fit a listed.ones listed.first_is))
    (λ e. subst (AllByRecursion IsFrame) (sym e) (stands_fit b listed.twos listed.second_is))
    (live_one (second_is_live (marks_of listed.ones) (marks_of listed.twos)) (is_sealed (marks_of listed.ones)) listed.ones listed.twos found listed.live)

-- so no checkpoint of an empty frame is found
none_empty : (a b : List ℕ) (found base more : List (List ℕ)) → IsListed a b found → IsCheckpoint ([] ∷ []) base → found ≡ base ++ more → ⊥
none_empty a b found base more listed k is =
    let fit = subst (AllByRecursion IsFrame) (is ∙ ap (λ (l : List (List ℕ)). l ++ more) k.is) (listed_fit a b found listed) in
    let some = fit.1.0.0 in omega (arith, some)

nil_behind : (l : List (List ℕ)) → l ≡ l ++ []
nil_behind [] = refl
nil_behind (x ∷ xs) = ap (λ (l : List (List ℕ)). x ∷ l) (nil_behind xs)

pub within_alone : (a b : List ℕ) (plain : StateRecord) (f g : List ℕ) (frames : List (List ℕ)) (sealing : Option (List (List ℕ))) (pending : Option (List ℕ))
    (snapshots found : List (List ℕ)) → f ≡ record_bytes plain → IsRecord plain → IsListed a b found
    → IsLeftWithin frames sealing pending ([] ∷ []) f g found → IsPutWithin frames sealing pending snapshots plain None found
within_alone a b plain f g frames sealing pending snapshots found p valid listed (inl left) = inl left
within_alone a b plain f g frames sealing pending snapshots found p valid listed (inr (inl k)) =
    absurd (none_empty a b found found [] listed k (nil_behind found))
within_alone a b plain f g frames sealing pending snapshots found p valid listed (inr (inr (true, base, k, is))) =
    absurd (none_empty a b found base (g ∷ []) listed k is)
within_alone a b plain f g frames sealing pending snapshots found p valid listed (inr (inr (false, base, from, is))) =
    inr (inr (false, base, plain, from, refl, valid, is ∙ ap (λ (l : List ℕ). base ++ l ∷ []) p))

-- the pairs that are found, told otherwise
pub pairs_as : {D : Type 0} (seen : D → DiskView) (a b c d : D) (P Q : List (List ℕ) → Type 0) → ((found : List (List ℕ)) → P found → Q found)
    → LeavesPairs seen a b c d (Finds P) → LeavesPairs seen a b c d (Finds Q)
pairs_as seen a b c d P Q f pairs = record {
  later_a = pairs.later_a;
  later_b = pairs.later_b;
  each = λ x y left right. let found = pairs.each x y left right in (found.0, found.1, f found.0 found.2);
}

-- ---- where the record behind a checkpoint has no memory, none is tried

module _ (plain behind : StateRecord) where
  only_plain : (c : Bool) (one : StateRecord) → IsPut plain None c one → c ≡ false
  only_plain false one is = refl
  only_plain true one is = let never : ⊥ = none_put is in absurd never
    where
      none_put : {one : StateRecord} → ◌≡◌ {A = Option StateRecord} None (Some one) → ⊥
      none_put e = let clash : ⊥ = cc in clash

  put_more : (c : Bool) (one : StateRecord) → IsPut plain None c one → IsPut plain (Some behind) c one
  put_more false one is = is
  put_more true one is = absurd (let clash : true ≡ false = only_plain true one is in cc)

  within_more : (frames : List (List ℕ)) (sealing : Option (List (List ℕ))) (pending : Option (List ℕ)) (snapshots found : List (List ℕ))
      → IsPutWithin frames sealing pending snapshots plain None found → IsPutWithin frames sealing pending snapshots plain (Some behind) found
  within_more frames sealing pending snapshots found (inl left) = inl left
  within_more frames sealing pending snapshots found (inr (inl k)) = inr (inl k)
  within_more frames sealing pending snapshots found (inr (inr h)) = inr (inr (h.0, h.1, h.2, h.3, put_more h.0 h.2 h.4, h.5, h.6))

  module _ {D : Type 0} (seen : D → DiskView) (snapshots : List (List ℕ)) (old new : JournalParts D) (c : Bool) where
    has_more : (frames : List (List ℕ)) → HasPut seen new frames snapshots plain None c → HasPut seen new frames snapshots plain (Some behind) c
    has_more frames h = record { base = h.base; one = h.one; from = h.from; is = put_more c h.one h.is; valid = h.valid; few = h.few; keeps = h.keeps }

    has_not_more : (frames : List (List ℕ)) (sealing : Option (List (List ℕ))) (pending : Option (List ℕ))
        → HasNotPut seen new frames sealing pending snapshots plain None c → HasNotPut seen new frames sealing pending snapshots plain (Some behind) c
    has_not_more frames sealing pending h = record {
      base = h.base;
      seals = h.seals;
      waits = h.waits;
      from = h.from;
      may = h.may;
      which = ⊎_elim (λ none. inl none) (λ other. inr (⊎_elim (λ was. inl was) (λ this. inr (this.0, put_more c this.0 this.1, this.2, this.3)) other)) h.which;
      keeps = h.keeps;
    }

    pub puts_alone : (r : Result (Unit {0}) CoordFault) → Puts seen snapshots plain None old new c r → Puts seen snapshots plain (Some behind) old new c r
    puts_alone r p = record {
      chosen = p.chosen;
      is = put_more c p.chosen p.is;
      kept = on_ok_weaker r (λ h frames sealing pending keeps. has_more frames (h frames sealing pending keeps)) p.kept;
      failed = on_err_weaker r (λ h frames sealing pending keeps. has_not_more frames sealing pending (h frames sealing pending keeps)) p.failed;
      causes = p.causes;
      device = p.device;
      full = p.full;
      memory = p.memory;
      room = p.room;
      quiet = p.quiet;
      turned = p.turned;
      any_moment = λ frames sealing pending keeps. pairs_as seen _ _ _ _ (IsPutWithin frames sealing pending snapshots plain None) _
          (λ found w. within_more frames sealing pending snapshots found w) (p.any_moment frames sealing pending keeps);
      runs = p.runs;
    }
