-- A write with no checkpoint before it, and a checkpoint with no write behind it.
use Rattle.std.proofs.Common.{◌≡◌, ◌⊎◌, inl, inr, ⊎_elim, refl, sym, ap, ◌∙◌, subst, arith, ℕ, ◌+◌, ◌<◌, ◌≤◌, ◌^◌, Bool, true, false, not, List, [], ◌∷◌, length, length-append, Option, Some, None, Result, OnOk}
use Rattle.std.specs.Prelude.{if◌then◌else◌}
use Rattle.edge_io.specs.Armed.{RunsOn}
use Rattle.edge_io.specs.Moments.{LeavesOnly, LeavesPairs}
use Rattle.edge_io.specs.Views.{DiskView}
use Rattle.edge_io.proofs.Moments.{started, weakened}
use Rattle.edge_io.proofs.Runs.{runs_none}
use Rattle.gate_journal.specs.Journals.{IsQuiet}
use Rattle.gate_journal.specs.declared.writer.Writer.{Writer}
use Rattle.gate_journal.specs.Spares.{HasFrames}
use Rattle.checkpoint_journal.specs.Generations.{IsBeaten, IsPlain, IsWhole, head_frame, mark_of, seal_frame}
use Rattle.checkpoint_journal.specs.Spares.{IsAside}
use Rattle.coord_checkpoint.specs.Stores.{AreSides, Finds, Keeps, MayMake, MaySeal, StoreParts, idle_side, live_side}
use Rattle.checkpoint_journal.specs.Making.{HasStopped}
use Rattle.coord_checkpoint.specs.Steps.{HasCheckpoint, HasTried, IsDueAt, IsNextTurn, IsPreparing, IsReady, IsSameTurn, IsTried, StaysReady, placed}
use Rattle.coord_checkpoint.specs.Writes.{IsLeftTrying, IsTimely, StaysOn, Tries, other_side}
use Rattle.coord_checkpoint.specs.declared.step.Turn.{Turn}
use Rattle.coord_checkpoint.proofs.Ends.{blocks_few, end_of, fit_of}
use Rattle.coord_checkpoint.proofs.Made.{due_by, quiet_at, runs_one, runs_two, tried_is, tried_whole}
use Rattle.coord_checkpoint.proofs.Pairs.{FindsBy, IsLive, finds_as, live_frames, live_whole, pair}
use Rattle.coord_checkpoint.proofs.Sides.{both_moments, keeps_by, keeps_sides, on_second_of, overtaken_aside, placed_count, placed_end, ready_by, swapped}

-- ---- at each moment

module _ {D : Type 0} (seen : D → DiskView)
    (only_now : (d : D) (c : List ℕ) → (seen d).since (seen d).moment c → (seen d).image c)
    (live idle mid : Writer D) (turn next : Turn) (snapshots : List (List ℕ))
    (preparing : (sealing : Option (List (List ℕ))) → IsReady seen idle turn sealing → LeavesOnly seen idle.disk mid.disk (HasFrames (IsPreparing turn sealing snapshots))) where
  abbrev Was : StoreParts D
  Was = placed turn.on_second live idle turn

  abbrev Is : StoreParts D
  Is = placed turn.on_second live mid next

  module _ (frames : List (List ℕ)) (sealing : Option (List (List ℕ))) (pending : Option (List ℕ)) (was : Keeps seen Was frames sealing pending) where
    pub sides : AreSides seen live idle turn.on_second turn.generation frames sealing pending
    sides = keeps_sides seen live idle turn frames sealing pending turn.on_second refl was

    abbrev Nexts : List (List ℕ) → Type 0
    Nexts found = (sealing ≡ Some found) ⊎ IsTried (turn.generation + 1) snapshots found

    nexts_whole : (found : List (List ℕ)) → Nexts found → IsWhole (turn.generation + 1) found
    nexts_whole found (inl is) = sides.next found is
    nexts_whole found (inr is) = tried_whole (turn.generation + 1) snapshots found is

    abbrev Idles : List (List ℕ) → Type 0
    Idles found = IsBeaten turn.on_second turn.generation found ⊎ Nexts found

    prepared : (c : List ℕ) → HasFrames (IsPreparing turn sealing snapshots) c → HasFrames Idles c
    prepared c (fs, s, inl (inl lost)) = (fs, s, inl lost)
    prepared c (fs, s, inl (inr is)) = (fs, s, inr (inl is))
    prepared c (fs, s, inr is) = (fs, s, inr (inr is))

    within : (found : List (List ℕ)) → IsLive frames pending found ⊎ Nexts found → IsLeftTrying frames sealing pending snapshots found
    within found (inl (inl is)) = inl (inl is)
    within found (inl (inr is)) = inl (inr (inr is))
    within found (inr (inl is)) = inl (inr (inl is))
    within found (inr (inr is)) = inr (tried_is (turn.generation + 1) snapshots found is)

    idle_moments : LeavesOnly seen idle.disk mid.disk (HasFrames Idles)
    idle_moments = weakened seen idle.disk mid.disk (HasFrames (IsPreparing turn sealing snapshots)) (HasFrames Idles)
        (preparing sealing (ready_by seen live idle turn frames sealing pending was)) prepared

    live_moments : LeavesOnly seen live.disk live.disk (HasFrames (IsLive frames pending))
    live_moments = started seen live.disk (HasFrames (IsLive frames pending)) (λ c left.
        live_frames frames sides.written pending sides.within c (sides.stands.images c (only_now live.disk c left)))

    both : (a d : List ℕ) → HasFrames (IsLive frames pending) a → HasFrames Idles d
        → FindsBy turn.on_second (IsLeftTrying frames sealing pending snapshots) a d
    both a d l r = finds_as turn.on_second (λ found. IsLive frames pending found ⊎ Nexts found) (IsLeftTrying frames sealing pending snapshots) within a d
        (pair turn.on_second turn.generation (IsLive frames pending) Nexts (live_whole turn.generation frames sides.whole pending sides.plain) nexts_whole a d l r)

    pub tried_moments : LeavesPairs seen Was.first.disk Is.first.disk Was.second.disk Is.second.disk (Finds (IsLeftTrying frames sealing pending snapshots))
    tried_moments = both_moments seen live idle live mid turn next (HasFrames (IsLive frames pending)) (HasFrames Idles)
        (IsLeftTrying frames sealing pending snapshots) turn.on_second live_moments idle_moments both

-- nothing is tried
pub untried : {D : Type 0} (seen : D → DiskView) (only_now : (d : D) (c : List ℕ) → (seen d).since (seen d).moment c → (seen d).image c)
    (store : StoreParts D) (snapshots : List (List ℕ)) → (IsTimely store snapshots → ⊥) → Tries seen snapshots store store false
untried seen only_now store snapshots not = record {
  made = λ is. absurd cc;
  kept = λ _ frames sealing pending was. (sealing, λ found e. inl e, was);
  turned = (λ is. absurd cc, λ _. refl);
  live = refl;
  quiet = λ is. absurd cc;
  due = λ frames sealing pending was. inl (refl, refl, not);
  any_moment = λ frames sealing pending was. record {
    later_a = omega arith;
    later_b = omega arith;
    each = λ a b left right.
        let found = was.images a b (only_now store.first.disk a left) (only_now store.second.disk b right) in
        (found.0, found.1, inl found.2);
  };
  runs = (runs_none seen store.first.disk, runs_none seen store.second.disk);
}

-- ---- the disk that was live

module _ {D : Type 0} (live idle mid : Writer D) (turn next : Turn) where
  pub live_stays : (b : Bool) → turn.on_second ≡ b
      → (if (placed b live idle turn).on_second then (placed b live mid next).second else (placed b live mid next).first) ≡ live_side (placed b live idle turn)
  live_stays true e = ap (λ (t : Bool). if t then live else mid) e ∙ sym (ap (λ (t : Bool). if t then live else idle) e)
  live_stays false e = ap (λ (t : Bool). if t then mid else live) e ∙ sym (ap (λ (t : Bool). if t then idle else live) e)

pub sealing_of : {D : Type 0} (b : Bool) (live idle : Writer D) (turn : Turn) → (placed b live idle turn).sealing ≡ turn.sealing
sealing_of true live idle turn = refl
sealing_of false live idle turn = refl

-- ---- whether one is to be tried

generation_of : {D : Type 0} (b : Bool) (live idle : Writer D) (turn : Turn) → (placed b live idle turn).generation ≡ turn.generation
generation_of true live idle turn = refl
generation_of false live idle turn = refl

module _ {D : Type 0} (live idle : Writer D) (turn : Turn) (snapshots : List (List ℕ)) where
  abbrev At : StoreParts D
  At = placed turn.on_second live idle turn

  makes_by : IsDueAt turn live.count (length snapshots) → MayMake At (length snapshots)
  makes_by due = record {
    few = due.1;
    next = (let next = due.2 in let same = generation_of turn.on_second live idle turn in omega (arith, next, same));
    clears = λ is. (let some = due.3 (sym (on_second_of turn.on_second live idle turn) ∙ is) in let same = generation_of turn.on_second live idle turn in omega (arith, some, same));
  }

  timely_by : IsDueAt turn live.count (length snapshots) → live.end + 33554437 ≤ 2 ^ 62 → IsTimely At snapshots
  timely_by due room = (
    due_by live idle turn snapshots due.0,
    makes_by due,
    (let end = placed_end turn.on_second live idle turn refl in omega (arith, end, room)),
  )

  due_at : IsTimely At snapshots → IsDueAt turn live.count (length snapshots)
  due_at t =
      let makes = t.1 in (
        (let due = t.0 in let same = placed_count turn.on_second live idle turn refl in omega (arith, due, same)),
        makes.few,
        (let next = makes.next in let same = generation_of turn.on_second live idle turn in omega (arith, next, same)),
        λ is. (let some = makes.clears (on_second_of turn.on_second live idle turn ∙ is) in let same = generation_of turn.on_second live idle turn in omega (arith, some, same)),
      )

  -- the largest frame has no room
  pub no_room : (live.end + 33554437 ≤ 2 ^ 62 → ⊥) → IsTimely At snapshots → ⊥
  no_room not t = not (let end = placed_end turn.on_second live idle turn refl in let room = t.2 in omega (arith, end, room))

-- ---- a write with no checkpoint

other_is : {D : Type 0} (live idle mid : Writer D) (turn next : Turn) (b : Bool) → turn.on_second ≡ b → other_side (placed b live idle turn) (placed b live mid next) ≡ mid
other_is live idle mid turn next true e = ap (λ (t : Bool). if t then mid else live) e
other_is live idle mid turn next false e = ap (λ (t : Bool). if t then live else mid) e

idle_is : {D : Type 0} (live idle : Writer D) (turn : Turn) (b : Bool) → turn.on_second ≡ b → idle_side (placed b live idle turn) ≡ idle
idle_is live idle turn true e = ap (λ (t : Bool). if t then idle else live) e
idle_is live idle turn false e = ap (λ (t : Bool). if t then live else idle) e

module _ {D T E : Type 0} (seen : D → DiskView) (live idle new last : Writer D) (turn next : Turn) (same : IsSameTurn turn next) (writes : Type 0)
    (undone : ((last ≡ idle) × (next ≡ turn)) ⊎ ((turn.sealing ≡ true) × writes)) (r : Result T E) (quiet : OnOk r (IsQuiet seen live.disk new.disk)) where
  unless : turn.sealing ≡ false → last ≡ idle
  unless low = ⊎_elim (λ is. is.0) (λ some. absurd (let clash : true ≡ false = sym some.0 ∙ low in cc)) undone

  pub stays_on : StaysOn seen (placed turn.on_second live idle turn) (placed turn.on_second new last next) r
  stays_on = record {
    same = on_second_of turn.on_second new last next ∙ (same.on_second ∙ sym (on_second_of turn.on_second live idle turn));
    other = λ low. idle_is new last next turn.on_second same.on_second
        ∙ (unless (sym (sealing_of turn.on_second live idle turn) ∙ low) ∙ sym (idle_is live idle turn turn.on_second refl));
    quiet = quiet_at seen live idle new last turn next r quiet turn.on_second refl;
  }

-- ---- it was made

module _ {D : Type 0} (seen : D → DiskView)
    (only_now : (d : D) (c : List ℕ) → (seen d).since (seen d).moment c → (seen d).image c)
    (live idle mid : Writer D) (turn next : Turn) (snapshots : List (List ℕ))
    (preparing : (sealing : Option (List (List ℕ))) → IsReady seen idle turn sealing → LeavesOnly seen idle.disk mid.disk (HasFrames (IsPreparing turn sealing snapshots)))
    (runs : RunsOn seen idle.disk mid.disk) (has_room : live.end + 33554437 ≤ 2 ^ 62) (turned : IsNextTurn turn next)
    (due : IsDueAt turn live.count (length snapshots)) (calm : IsQuiet seen idle.disk mid.disk)
    (has : (sealing : Option (List (List ℕ))) → IsReady seen idle turn sealing → HasCheckpoint seen mid (turn.generation + 1) snapshots) where
  module _ (frames : List (List ℕ)) (sealing : Option (List (List ℕ))) (pending : Option (List ℕ))
      (was : Keeps seen (placed turn.on_second live idle turn) frames sealing pending) where
    at_first : AreSides seen live idle turn.on_second turn.generation frames sealing pending
    at_first = keeps_sides seen live idle turn frames sealing pending turn.on_second refl was

    cp : HasCheckpoint seen mid (turn.generation + 1) snapshots
    cp = has sealing (ready_by seen live idle turn frames sealing pending was)

    written_plain : (p : List ℕ) → at_first.written ≡ Some p → IsPlain (mark_of p)
    written_plain p e = ⊎_elim (λ none. absurd (let clash : None ≡ Some p = sym none ∙ e in cc)) (λ is. at_first.plain p (sym is ∙ e)) at_first.within

    aside : IsAside seen live (not turn.on_second) next.generation None
    aside = subst (λ (n : ℕ). IsAside seen live (not turn.on_second) n None) (sym turned.generation)
        (overtaken_aside seen live turn.on_second turn.generation frames at_first.written at_first.stands at_first.whole written_plain)

    keeps : Keeps seen (placed turn.on_second live mid next) cp.frames None None
    keeps = subst (λ (s : StoreParts D). Keeps seen s cp.frames None None) (swapped turn.on_second live mid next)
        (keeps_by seen mid live next cp.frames None None (not turn.on_second) turned.on_second (record {
          written = None;
          within = inl refl;
          stands = cp.rests.stands;
          whole = subst (λ (n : ℕ). IsWhole n cp.frames) (sym turned.generation) (tried_whole (turn.generation + 1) snapshots cp.frames cp.tried);
          plain = λ p e. absurd cc;
          aside = aside;
          next = λ c e. absurd cc;
        }) (λ _. refl) (λ e. absurd (let clash : true ≡ false = sym e ∙ turned.sealing in cc)))

    -- any frame has room behind a checkpoint of so few keys
    room : length snapshots < 2 ^ 35 → (placed turn.on_second live mid next).end + 33554437 ≤ 2 ^ 62
    room few =
        let count = ap length cp.tried.made.is in
        let end : (placed turn.on_second live mid next).end ≡ mid.end =
        ap (λ (s : StoreParts D). s.end) (sym (swapped turn.on_second live mid next)) ∙ placed_end (not turn.on_second) mid live next turned.on_second in
        omega (
          arith,
          few,
          end,
          end_of seen mid cp.frames None cp.rests.stands,
          blocks_few cp.frames (fit_of seen mid cp.frames None cp.rests.stands),
          count,
          length-append (head_frame (turn.generation + 1) ∷ snapshots) (seal_frame ∷ []),
        )

  pub made_alone : length snapshots < 2 ^ 35 → Tries seen snapshots (placed turn.on_second live idle turn) (placed turn.on_second live mid next) true
  made_alone few = record {
    made = λ _ frames sealing pending was. (
      (cp frames sealing pending was).frames,
      tried_is (turn.generation + 1) snapshots (cp frames sealing pending was).frames (cp frames sealing pending was).tried,
      keeps frames sealing pending was,
    );
    kept = λ is. absurd cc;
    turned = (
      λ _. (
        on_second_of turn.on_second live mid next ∙ (turned.on_second ∙ sym (ap not (on_second_of turn.on_second live idle turn))),
        sealing_of turn.on_second live mid next ∙ turned.sealing,
      ),
      λ is. absurd cc,
    );
    live = live_stays live idle mid turn next turn.on_second refl;
    quiet = λ _. subst (λ (w : Writer D). IsQuiet seen w.disk (other_side (placed turn.on_second live idle turn) (placed turn.on_second live mid next)).disk)
        (sym (idle_is live idle turn turn.on_second refl))
        (subst (λ (w : Writer D). IsQuiet seen idle.disk w.disk) (sym (other_is live idle mid turn next turn.on_second refl)) calm);
    due = λ frames sealing pending was. inr (timely_by live idle turn snapshots due has_room, room frames sealing pending was few, λ is. absurd cc);
    any_moment = λ frames sealing pending was. tried_moments seen only_now live idle mid turn next snapshots preparing frames sealing pending was;
    runs = (
      runs_one seen live idle live mid turn next turn.on_second (runs_none seen live.disk) runs,
      runs_two seen live idle live mid turn next turn.on_second (runs_none seen live.disk) runs,
    );
  }

-- ---- it wasn't made

module _ {D : Type 0} (seen : D → DiskView)
    (only_now : (d : D) (c : List ℕ) → (seen d).since (seen d).moment c → (seen d).image c)
    (live idle mid : Writer D) (turn next : Turn) (snapshots : List (List ℕ)) (closed : Type 0)
    (preparing : (sealing : Option (List (List ℕ))) → IsReady seen idle turn sealing → LeavesOnly seen idle.disk mid.disk (HasFrames (IsPreparing turn sealing snapshots)))
    (runs : RunsOn seen idle.disk mid.disk) (same : IsSameTurn turn next)
    (ready : (sealing : Option (List (List ℕ))) → IsReady seen idle turn sealing → StaysReady seen mid turn next sealing snapshots closed) where
  module _ (frames : List (List ℕ)) (sealing : Option (List (List ℕ))) (pending : Option (List ℕ))
      (was : Keeps seen (placed turn.on_second live idle turn) frames sealing pending) where
    as_first : AreSides seen live idle turn.on_second turn.generation frames sealing pending
    as_first = keeps_sides seen live idle turn frames sealing pending turn.on_second refl was

    stays_ready : StaysReady seen mid turn next sealing snapshots closed
    stays_ready = ready sealing (ready_by seen live idle turn frames sealing pending was)

    may_seal : MaySeal sealing snapshots stays_ready.seals
    may_seal found e = ⊎_elim (λ old. inl old) (λ tried. inr (tried_is (turn.generation + 1) snapshots found tried)) (stays_ready.may found e)

    stays : Keeps seen (placed turn.on_second live mid next) frames stays_ready.seals pending
    stays = keeps_by seen live mid next frames stays_ready.seals pending turn.on_second same.on_second (record {
      written = as_first.written;
      within = as_first.within;
      stands = as_first.stands;
      whole = subst (λ (n : ℕ). IsWhole n frames) (sym same.generation) as_first.whole;
      plain = as_first.plain;
      aside = subst (λ (t : Bool). IsAside seen mid t next.generation stays_ready.seals) same.on_second stays_ready.ready.aside;
      next = stays_ready.ready.next;
    }) stays_ready.ready.unsealed stays_ready.ready.clears

  is_end : (placed turn.on_second live mid next).end ≡ live.end
  is_end = placed_end turn.on_second live mid next same.on_second

  module _ (tried : HasTried seen idle mid turn next live.count (length snapshots)) (has_room : live.end + 33554437 ≤ 2 ^ 62) where
    abbrev Old : StoreParts D
    Old = placed turn.on_second live idle turn

    abbrev New : StoreParts D
    New = placed turn.on_second live mid next

    as_was : mid ≡ idle → next ≡ turn → New ≡ Old
    as_was e f = ap (λ (w : Writer D). placed turn.on_second live w next) e ∙ ap (λ (t : Turn). placed turn.on_second live idle t) f

    ending : New.end + 33554437 ≤ 2 ^ 62
    ending = omega (arith, has_room, is_end)

    stopped : HasStopped seen idle mid (turn.generation + 1) → HasStopped seen (idle_side Old) (other_side Old New) (Old.generation + 1)
    stopped h = subst (λ (n : ℕ). HasStopped seen (idle_side Old) (other_side Old New) (n + 1)) (sym (generation_of turn.on_second live idle turn))
        (subst (λ (w : Writer D). HasStopped seen w (other_side Old New) (turn.generation + 1)) (sym (idle_is live idle turn turn.on_second refl))
        (subst (λ (w : Writer D). HasStopped seen idle w (turn.generation + 1)) (sym (other_is live idle mid turn next turn.on_second refl)) h))

    pub kept_alone : Tries seen snapshots Old New false
    kept_alone = record {
      made = λ is. absurd cc;
      kept = λ _ frames sealing pending was. (
        (stays_ready frames sealing pending was).seals,
        may_seal frames sealing pending was,
        stays frames sealing pending was,
      );
      turned = (λ is. absurd cc, λ _. on_second_of turn.on_second live mid next ∙ (same.on_second ∙ sym (on_second_of turn.on_second live idle turn)));
      live = live_stays live idle mid turn next turn.on_second refl;
      quiet = λ is. absurd cc;
      due = λ frames sealing pending was. ⊎_elim
          (λ is. inl (as_was is.0 is.1, refl, λ timely. is.2 (due_at live idle turn snapshots timely)))
          (λ some. inr (
            timely_by live idle turn snapshots some.0 has_room,
            ending,
            λ _. stopped (some.1 sealing (ready_by seen live idle turn frames sealing pending was)),
          )) tried;
      any_moment = λ frames sealing pending was. tried_moments seen only_now live idle mid turn next snapshots preparing frames sealing pending was;
      runs = (
        runs_one seen live idle live mid turn next turn.on_second (runs_none seen live.disk) runs,
        runs_two seen live idle live mid turn next turn.on_second (runs_none seen live.disk) runs,
      );
    }

-- ---- either

module _ {D : Type 0} (seen : D → DiskView)
    (only_now : (d : D) (c : List ℕ) → (seen d).since (seen d).moment c → (seen d).image c)
    (live idle mid : Writer D) (turn next : Turn) (snapshots : List (List ℕ))
    (preparing : (sealing : Option (List (List ℕ))) → IsReady seen idle turn sealing → LeavesOnly seen idle.disk mid.disk (HasFrames (IsPreparing turn sealing snapshots)))
    (runs : RunsOn seen idle.disk mid.disk) (room : live.end + 33554437 ≤ 2 ^ 62) where
  pub tried_alone : (b : Bool)
      → (b ≡ true → IsNextTurn turn next × ((sealing : Option (List (List ℕ))) → IsReady seen idle turn sealing → HasCheckpoint seen mid (turn.generation + 1) snapshots))
      → (b ≡ false → IsSameTurn turn next × ((sealing : Option (List (List ℕ))) → IsReady seen idle turn sealing → StaysReady seen mid turn next sealing snapshots ⊥))
      → (b ≡ true → IsDueAt turn live.count (length snapshots)) → (b ≡ true → IsQuiet seen idle.disk mid.disk)
      → (b ≡ false → HasTried seen idle mid turn next live.count (length snapshots))
      → Tries seen snapshots (placed turn.on_second live idle turn) (placed turn.on_second live mid next) b
  tried_alone true made kept due calm tried =
      made_alone seen only_now live idle mid turn next snapshots preparing runs room (made refl).0 (due refl) (calm refl) (made refl).1 (due refl).1
  tried_alone false made kept due calm tried =
      kept_alone seen only_now live idle mid turn next snapshots ⊥ preparing runs (kept refl).0 (kept refl).1 (tried refl) room
