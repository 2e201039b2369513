-- A write to the journal that was live, with no checkpoint made before it.
use Rattle.std.proofs.Common.{◌≡◌, ◌⊎◌, inl, inr, ⊎_elim, refl, sym, ap, ◌∙◌, subst, arith, ℕ, ◌+◌, ◌*◌, ◌<◌, ◌≤◌, ◌^◌, Bool, true, false, List, [], ◌∷◌, ◌++◌, length, Option, Some, None, Result, Ok, Err, OnOk, OnErr}
use Rattle.edge_io.specs.Armed.{RunsOn}
use Rattle.edge_io.specs.Moments.{LeavesOnly}
use Rattle.edge_io.specs.Views.{DiskView}
use Rattle.edge_io.proofs.Moments.{started, weakened}
use Rattle.edge_io.proofs.Runs.{runs_none}
use Rattle.gate_journal.specs.Frames.{IsBeforeOrAfter, IsWithPending}
use Rattle.gate_journal.specs.Journals.{IsQuiet, Stands}
use Rattle.gate_journal.specs.declared.writer.Writer.{Writer}
use Rattle.share_model.specs.declared.fault.StoreFault.{StoreFault}
use Rattle.share_model.specs.declared.fault.StoreFault.TheVariants.{Device, Full}
use Rattle.gate_journal.specs.Spares.{HasFrames}
use Rattle.checkpoint_journal.specs.Generations.{IsBeaten, IsPlain, IsWhole, mark_of}
use Rattle.checkpoint_journal.specs.Spares.{IsAside}
use Rattle.checkpoint_journal.proofs.Marks.{one_more}
use Rattle.coord_checkpoint.specs.Disks.{HasFailed, RoseTwice}
use Rattle.coord_checkpoint.specs.Stores.{AreSides, IsLeftWithin, Keeps, MaySeal, StoreParts}
use Rattle.coord_checkpoint.specs.Steps.{IsPreparing, IsReady, IsSameTurn, IsTried, StaysReady, placed}
use Rattle.coord_checkpoint.specs.Writes.{Adds, IsQuietBut, MayCheckpoint, Stays, Writes}
use Rattle.coord_checkpoint.specs.declared.step.Turn.{Turn}
use Rattle.coord_checkpoint.proofs.Ends.{has_room, stands_few}
use Rattle.coord_checkpoint.proofs.Made.{Appended, append_failed, due_by, quiet_both, quiet_live, refuses_idle, refuses_live, runs_one, runs_two, stays_or, tried_is, tried_whole, written_frames}
use Rattle.coord_checkpoint.proofs.Pairs.{FindsBy, IsLive, finds_as, live_frames, live_whole, pair}
use Rattle.coord_checkpoint.proofs.Sides.{both_moments, keeps_by, keeps_sides, on_second_of, placed_end, ready_by}

module _ {D : Type 0} (seen : D → DiskView)
    (only_now : (d : D) (c : List ℕ) → (seen d).since (seen d).moment c → (seen d).image c)
    (live idle last : Writer D) (turn next : Turn) (snapshots : List (List ℕ)) (frame other : List ℕ) (len calls : ℕ) (closed : Type 0)
    (same : IsSameTurn turn next)
    (ready : (sealing : Option (List (List ℕ))) → IsReady seen idle turn sealing → StaysReady seen last turn next sealing snapshots closed)
    (preparing : (sealing : Option (List (List ℕ))) → IsReady seen idle turn sealing → LeavesOnly seen idle.disk last.disk (HasFrames (IsPreparing turn sealing snapshots)))
    (runs : RunsOn seen idle.disk last.disk)
    (plain : IsPlain (mark_of frame)) (size : len ≡ length frame + 5) where
  abbrev Was : StoreParts D
  Was = placed turn.on_second live idle turn

  -- with this journal on the live disk
  abbrev Is : Writer D → StoreParts D
  Is new = placed turn.on_second new last next

  module _ (frames : List (List ℕ)) (sealing : Option (List (List ℕ))) (pending : Option (List ℕ)) (was : Keeps seen Was frames sealing pending) where
    sides : AreSides seen live idle turn.on_second turn.generation frames sealing pending
    sides = keeps_sides seen live idle turn frames sealing pending turn.on_second refl was

    stays_ready : StaysReady seen last turn next sealing snapshots closed
    stays_ready = ready sealing (ready_by seen live idle turn frames sealing pending was)

    may_seal : MaySeal sealing snapshots stays_ready.seals
    may_seal found e = ⊎_elim (λ old. inl old) (λ tried. inr (tried_is (turn.generation + 1) snapshots found tried)) (stays_ready.may found e)

    whole_more : IsWhole turn.generation (frames ++ frame ∷ [])
    whole_more = one_more turn.generation frames frame sides.whole plain

    now : (new : Writer D) (found : List (List ℕ)) (written waits : Option (List ℕ)) → (written ≡ None) ⊎ (written ≡ waits) → Stands seen new found written
        → IsWhole turn.generation found → ((p : List ℕ) → waits ≡ Some p → IsPlain (mark_of p)) → Keeps seen (Is new) found stays_ready.seals waits
    now new found written waits within stands wholly plains =
        keeps_by seen new last next found stays_ready.seals waits turn.on_second same.on_second (record {
          written = written;
          within = within;
          stands = stands;
          whole = subst (λ (n : ℕ). IsWhole n found) (sym same.generation) wholly;
          plain = plains;
          aside = subst (λ (t : Bool). IsAside seen last t next.generation stays_ready.seals) same.on_second stays_ready.ready.aside;
          next = stays_ready.ready.next;
        }) stays_ready.ready.unsealed stays_ready.ready.clears

    this_plain : (p : List ℕ) → Some frame ≡ Some p → IsPlain (mark_of p)
    this_plain p e = subst (λ (f : List ℕ). IsPlain (mark_of f)) (some_same frame p e) plain
      where
        some_same : (x y : List ℕ) → Some x ≡ Some y → x ≡ y
        some_same x y e = cc

    -- nothing was written to the live journal
    pub stays_so : (r : Result ℕ StoreFault) → OnErr r (Stays seen (Is live) frames sealing pending snapshots frame other false)
    stays_so (Ok n) = tt
    stays_so (Err e) = record {
      base = frames;
      seals = stays_ready.seals;
      waits = pending;
      from = refl;
      may = λ found e. (refl, may_seal found e);
      which = inr (inl (refl, refl));
      keeps = now live frames sides.written pending sides.within sides.stands sides.whole sides.plain;
    }

    adds : (new : Writer D) (r : Result ℕ StoreFault) → Appended seen frame len calls live new r → (OnOk r closed) → OnOk r (Adds seen (Is new) frames snapshots frame other false)
    adds new (Err e) a shut = tt
    adds new (Ok n) a shut =
        let room = has_room (Ok n) live.end len a.exact in
        record {
          base = frames;
          from = refl;
          few = omega (arith, room, stands_few seen live frames sides.written sides.stands);
          keeps = subst (λ (s : Option (List (List ℕ))). Keeps seen (Is new) (frames ++ frame ∷ []) s None) (stays_ready.none shut)
              (now new (frames ++ frame ∷ []) None None (inl refl) (a.adds.rests frames sides.written sides.stands).stands whole_more (λ p e. absurd cc));
        }

    stays : (new : Writer D) (r : Result ℕ StoreFault) → Appended seen frame len calls live new r → OnErr r (Stays seen (Is new) frames sealing pending snapshots frame other false)
    stays new (Ok n) a = tt
    stays new (Err e) a = ⊎_elim
        (λ s. record {
          base = frames;
          seals = stays_ready.seals;
          waits = pending;
          from = refl;
          may = λ found e. (refl, may_seal found e);
          which = inr (inl (refl, refl));
          keeps = now new frames sides.written pending sides.within s sides.whole sides.plain;
        })
        (λ s. record {
          base = frames;
          seals = stays_ready.seals;
          waits = Some frame;
          from = refl;
          may = λ found e. (refl, may_seal found e);
          which = inr (inr refl);
          keeps = now new frames (Some frame) (Some frame) (inr refl) s.0 sides.whole this_plain;
        })
        (stays_or seen frame len calls live new (Err e) a frames sides.written sides.stands)

    -- ---- at each moment

    abbrev Lives : List (List ℕ) → Type 0
    Lives found = IsLive frames pending found ⊎ (found ≡ frames ++ frame ∷ [])

    lives_whole : (found : List (List ℕ)) → Lives found → IsWhole turn.generation found
    lives_whole found (inl is) = live_whole turn.generation frames sides.whole pending sides.plain found is
    lives_whole found (inr is) = subst (IsWhole turn.generation) (sym is) whole_more

    abbrev Nexts : List (List ℕ) → Type 0
    Nexts found = (sealing ≡ Some found) ⊎ IsTried (turn.generation + 1) snapshots found

    nexts_whole : (found : List (List ℕ)) → Nexts found → IsWhole (turn.generation + 1) found
    nexts_whole found (inl is) = sides.next found is
    nexts_whole found (inr is) = tried_whole (turn.generation + 1) snapshots found is

    abbrev Idles : List (List ℕ) → Type 0
    Idles found = IsBeaten turn.on_second turn.generation found ⊎ Nexts found

    prepared : (c : List ℕ) → HasFrames (IsPreparing turn sealing snapshots) c → HasFrames Idles c
    prepared c (fs, s, inl (inl lost)) = (fs, s, inl lost)
    prepared c (fs, s, inl (inr is)) = (fs, s, inr (inl is))
    prepared c (fs, s, inr is) = (fs, s, inr (inr is))

    within : (found : List (List ℕ)) → Lives found ⊎ Nexts found → IsLeftWithin frames sealing pending snapshots frame other found
    within found (inl (inl (inl is))) = inl (inl is)
    within found (inl (inl (inr is))) = inl (inr (inr is))
    within found (inl (inr is)) = inr (inr (false, frames, refl, is))
    within found (inr (inl is)) = inl (inr (inl is))
    within found (inr (inr is)) = inr (inl (tried_is (turn.generation + 1) snapshots found is))

    idle_moments : LeavesOnly seen idle.disk last.disk (HasFrames Idles)
    idle_moments = weakened seen idle.disk last.disk (HasFrames (IsPreparing turn sealing snapshots)) (HasFrames Idles)
        (preparing sealing (ready_by seen live idle turn frames sealing pending was)) prepared

    lives_now : LeavesOnly seen live.disk live.disk (HasFrames Lives)
    lives_now = started seen live.disk (HasFrames Lives) (λ c left.
        let h = live_frames frames sides.written pending sides.within c (sides.stands.images c (only_now live.disk c left)) in (h.0, h.1, inl h.2))

    lives_then : (new : Writer D) (r : Result ℕ StoreFault) → Appended seen frame len calls live new r → LeavesOnly seen live.disk new.disk (HasFrames Lives)
    lives_then new r a = weakened seen live.disk new.disk (λ c. IsWithPending frames sides.written c ⊎ IsBeforeOrAfter frames frame c) (HasFrames Lives)
        (a.moments frames sides.written sides.stands) (λ c m. ⊎_elim
        (λ w. let h = live_frames frames sides.written pending sides.within c w in (h.0, h.1, inl h.2))
        (λ w. written_frames seen frame len calls live new frames c Lives (inl (inl refl)) (inr refl) w) m)

    both : (a d : List ℕ) → HasFrames Lives a → HasFrames Idles d → FindsBy turn.on_second (IsLeftWithin frames sealing pending snapshots frame other) a d
    both a d l r = finds_as turn.on_second (λ found. Lives found ⊎ Nexts found) (IsLeftWithin frames sealing pending snapshots frame other) within a d
        (pair turn.on_second turn.generation Lives Nexts lives_whole nexts_whole a d l r)

  was_end : Was.end ≡ live.end
  was_end = placed_end turn.on_second live idle turn refl

  -- ---- where nothing is written

  module _ (writes : 2 ^ 62 < live.end + len → ⊥) (failed : HasFailed seen idle.disk last.disk) (sealing_is : next.sealing ≡ true)
      (twice : turn.sealing ≡ false → RoseTwice (seen idle.disk).faults (seen last.disk).faults) where
    never : (end : ℕ) → ◌≡◌ {A = Result ℕ StoreFault} (Err Device) (Err (Full end)) → ⊥
    never end is = absurd cc

    pub gate_fails : Writes seen frame other snapshots len Was (Is live) false (Err Device)
    gate_fails = record {
      kept = tt;
      failed = λ frames sealing pending was. stays_so frames sealing pending was (Err Device);
      full = record {
        exact = λ frames sealing pending was end. (λ is. absurd (never end is), λ is. absurd (writes (let over = is.1 in omega (arith, over, was_end))));
        same = λ frames sealing pending was end is. absurd (never end is);
      };
      device = λ is. refuses_idle seen live idle live last turn next turn.on_second refl failed (inr (sealing_is, twice));
      quiet = tt;
      turned = on_second_of turn.on_second live last next ∙ (same.on_second ∙ sym (on_second_of turn.on_second live idle turn));
      any_moment = λ frames sealing pending was.
          both_moments seen live idle live last turn next (HasFrames (Lives frames sealing pending was)) (HasFrames (Idles frames sealing pending was))
          (IsLeftWithin frames sealing pending snapshots frame other) turn.on_second (lives_now frames sealing pending was) (idle_moments frames sealing pending was)
          (both frames sealing pending was);
      runs_first = runs_one seen live idle live last turn next turn.on_second (runs_none seen live.disk) runs;
      runs_second = runs_two seen live idle live last turn next turn.on_second (runs_none seen live.disk) runs;
    }

  -- ---- where the frame is written

  module _ (new : Writer D) (r : Result ℕ StoreFault) (a : Appended seen frame len calls live new r) (shut : OnOk r closed)
      (undone : ((last ≡ idle) × (next ≡ turn)) ⊎ (((4096 + 2 * length snapshots ≤ live.count) ⊎ (turn.sealing ≡ true)) × (live.end + len ≤ 2 ^ 62))) where
    by_ok : (r : Result ℕ StoreFault) → Appended seen frame len calls live new r → OnOk r closed
        → OnOk r ((frames : List (List ℕ)) (sealing : Option (List (List ℕ))) (pending : Option (List ℕ)) → Keeps seen Was frames sealing pending → Adds seen (Is new) frames snapshots frame other false)
    by_ok (Err e) a shut = tt
    by_ok (Ok n) a shut = λ frames sealing pending was. adds frames sealing pending was new (Ok n) a shut

    by_err : (r : Result ℕ StoreFault) → Appended seen frame len calls live new r
        → OnErr r ((frames : List (List ℕ)) (sealing : Option (List (List ℕ))) (pending : Option (List ℕ)) → Keeps seen Was frames sealing pending →
        Stays seen (Is new) frames sealing pending snapshots frame other false)
    by_err (Ok n) a = tt
    by_err (Err e) a = λ frames sealing pending was. stays frames sealing pending was new (Err e) a

    quiet : (r : Result ℕ StoreFault) → Appended seen frame len calls live new r → OnOk r (IsQuietBut seen (MayCheckpoint Was snapshots) Was (Is new))
    quiet (Err e) a = tt
    quiet (Ok n) a =
        let silent : IsQuiet seen live.disk new.disk = λ told. (a.disk.done told).same_faults in
        elim undone [
          | inl is ↦ quiet_both seen live idle new last turn next turn.on_second (MayCheckpoint Was snapshots) silent
              (subst (λ (w : Writer D). IsQuiet seen idle.disk w.disk) (sym is.0) (λ told. refl))
          | inr some ↦ quiet_live seen live idle new last turn next turn.on_second refl (MayCheckpoint Was snapshots)
              (⊎_elim (λ due. inl (due_by live idle turn snapshots due)) (λ is. inr (flag turn.on_second is)) some.0) same.on_second silent
        ]
      where
        flag : (b : Bool) → turn.sealing ≡ true → (placed b live idle turn).sealing ≡ true
        flag true is = is
        flag false is = is

    same_at : (end : ℕ) → r ≡ Err (Full end) → Is new ≡ Was
    same_at end is = elim undone [
      | inl un ↦ ap (λ (w : Writer D). placed turn.on_second w last next) (a.same end is)
          ∙ (ap (λ (w : Writer D). placed turn.on_second live w next) un.0 ∙ ap (λ (t : Turn). placed turn.on_second live idle t) un.1)
      | inr some ↦ absurd (let over = ((a.exact end).0 is).1 in omega (arith, over, some.1))
    ]

    pub beside_writes : Writes seen frame other snapshots len Was (Is new) false r
    beside_writes = record {
      kept = by_ok r a shut;
      failed = by_err r a;
      full = record {
        exact = λ frames sealing pending was end. (
          λ is. let e = (a.exact end).0 is in (e.0 ∙ sym was_end, let over = e.1 in omega (arith, over, was_end)),
          λ over. (a.exact end).1 (over.0 ∙ was_end, let past = over.1 in omega (arith, past, was_end)),
        );
        same = λ frames sealing pending was end is. (same_at end is, refl);
      };
      device = λ is. refuses_live seen live idle new last turn next turn.on_second refl (append_failed seen frame len calls live new r a is);
      quiet = quiet r a;
      turned = on_second_of turn.on_second new last next ∙ (same.on_second ∙ sym (on_second_of turn.on_second live idle turn));
      any_moment = λ frames sealing pending was.
          both_moments seen live idle new last turn next (HasFrames (Lives frames sealing pending was)) (HasFrames (Idles frames sealing pending was))
          (IsLeftWithin frames sealing pending snapshots frame other) turn.on_second (lives_then frames sealing pending was new r a) (idle_moments frames sealing pending was)
          (both frames sealing pending was);
      runs_first = runs_one seen live idle new last turn next turn.on_second a.disk.runs runs;
      runs_second = runs_two seen live idle new last turn next turn.on_second a.disk.runs runs;
    }
