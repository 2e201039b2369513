-- A write behind a checkpoint that was made.
use Rattle.std.specs.Prelude.{if◌then◌else◌}
use Rattle.std.proofs.Common.{◌≡◌, ◌≢◌, ◌⊎◌, ◌↔◌, inl, inr, ⊎_elim, refl, sym, ap, ◌∙◌, subst, arith, ℕ, ◌+◌, ◌*◌, ◌<◌, ◌≤◌, ◌^◌, Bool, true, false, not, List, [], ◌∷◌, ◌++◌, length, length-append, Option, Some, None, Result, Ok, Err, OnOk, OnErr}
use Rattle.edge_io.specs.Armed.{RunsOn}
use Rattle.edge_io.specs.Counting.{MakesCalls}
use Rattle.edge_io.specs.Moments.{LeavesOnly}
use Rattle.edge_io.specs.Views.{DiskView}
use Rattle.edge_io.proofs.Moments.{joined, started}
use Rattle.edge_io.proofs.Runs.{runs_none, runs_then}
use Rattle.gate_journal.specs.Frames.{IsBeforeOrAfter, IsWithPending}
use Rattle.gate_journal.specs.Journals.{Adds as AddsFrame, IsQuiet, Stands}
use Rattle.gate_journal.specs.declared.writer.Writer.{Writer}
use Rattle.share_model.specs.declared.fault.StoreFault.{StoreFault}
use Rattle.share_model.specs.declared.fault.StoreFault.TheVariants.{Device, Full}
use Rattle.gate_journal.specs.Spares.{HasFrames}
use Rattle.checkpoint_journal.specs.Checkpoints.{IsCheckpoint}
use Rattle.checkpoint_journal.specs.Generations.{IsBeaten, IsPlain, IsWhole, head_frame, mark_of, seal_frame}
use Rattle.checkpoint_journal.specs.Spares.{IsAside}
use Rattle.checkpoint_journal.proofs.Marks.{made, one_more}
use Rattle.coord_checkpoint.specs.Disks.{HasFailed, RoseTwice}
use Rattle.coord_checkpoint.specs.Stores.{AreSides, IsDue, IsLeftWithin, Keeps, StoreParts}
use Rattle.coord_checkpoint.specs.Steps.{HasCheckpoint, IsNextTurn, IsPreparing, IsReady, IsTried, placed}
use Rattle.coord_checkpoint.specs.Writes.{Adds, IsQuietBut, MayCheckpoint, RefusesDevice, Stays, Writes, side}
use Rattle.coord_checkpoint.specs.declared.step.Turn.{Turn}
use Rattle.coord_checkpoint.proofs.Ends.{blocks_few, end_of, fit_of, has_room, stands_few}
use Rattle.coord_checkpoint.proofs.Pairs.{FindsBy, IsLive, finds_as, live_frames, live_whole, pair}
use Rattle.coord_checkpoint.proofs.Sides.{both_moments, keeps_by, keeps_sides, on_second_of, overtaken_aside, placed_count, placed_end, ready_by, swapped}

-- ---- the checkpoint

pub tried_is : (n : ℕ) (snapshots frames : List (List ℕ)) → IsTried n snapshots frames → IsCheckpoint snapshots frames
tried_is n snapshots frames t = record {
  generation = n;
  fits = t.made.fits;
  is = t.made.is;
  few = let size = ap length t.made.is in omega (arith, size, length-append (head_frame n ∷ snapshots) (seal_frame ∷ []), t.few);
}

pub tried_whole : (n : ℕ) (snapshots frames : List (List ℕ)) → IsTried n snapshots frames → IsWhole n frames
tried_whole n snapshots frames t = subst (IsWhole n) (sym t.made.is) (made n snapshots t.made.fits t.made.all)

-- ---- two disks and their calls

pub failed_later : {D : Type 0} (seen : D → DiskView) (old mid new : D) → RunsOn seen old mid → HasFailed seen mid new → HasFailed seen old new
failed_later seen old mid new runs fails = (
  omega (arith, runs.later, fails.0),
  λ told unarmed. fails.1 (runs.told ∙ told) (runs.unarmed told unarmed),
)

-- where it is done no call of a disk failed
pub calls_quiet : {D : Type 0} (seen : D → DiskView) (calls : ℕ) (old new : D) (r : Result ℕ StoreFault) → MakesCalls seen calls old new Device r → OnOk r (IsQuiet seen old new)
calls_quiet seen calls old new (Err e) disk = tt
calls_quiet seen calls old new (Ok n) disk = λ told. (disk.done told).same_faults

-- of that which was live
pub quiet_at : {D T E : Type 0} (seen : D → DiskView) (live idle new last : Writer D) (turn next : Turn) (r : Result T E) → OnOk r (IsQuiet seen live.disk new.disk)
    → (b : Bool) → turn.on_second ≡ b
    → OnOk r (IsQuiet seen (side (placed b live idle turn).on_second (placed b live idle turn)) (side (placed b live idle turn).on_second (placed b new last next)))
quiet_at seen live idle new last turn next r quiet true e =
    subst (λ (t : Bool). OnOk r (IsQuiet seen (if t then live.disk else idle.disk) (if t then new.disk else last.disk))) (sym e) quiet
quiet_at seen live idle new last turn next r quiet false e =
    subst (λ (t : Bool). OnOk r (IsQuiet seen (if t then idle.disk else live.disk) (if t then last.disk else new.disk))) (sym e) quiet

module _ {D : Type 0} (seen : D → DiskView) (live idle live_new idle_new : Writer D) (turn next : Turn) where
  abbrev Old : Bool → StoreParts D
  Old b = placed b live idle turn

  abbrev New : Bool → StoreParts D
  New b = placed b live_new idle_new next

  pub refuses_live : (b : Bool) → turn.on_second ≡ b → HasFailed seen live.disk live_new.disk → RefusesDevice seen (Old b) (New b)
  refuses_live true e h = inl (subst (λ (t : Bool). HasFailed seen (if t then live.disk else idle.disk) (if t then live_new.disk else idle_new.disk)) (sym e) h)
  refuses_live false e h = inl (subst (λ (t : Bool). HasFailed seen (if t then idle.disk else live.disk) (if t then idle_new.disk else live_new.disk)) (sym e) h)

  abbrev Refused : D → D → Type 0
  Refused was is = HasFailed seen was is
      × ((next.on_second ≢ turn.on_second) ⊎ ((next.sealing ≡ true) × (turn.sealing ≡ false → RoseTwice (seen was).faults (seen is).faults)))

  pub refuses_idle : (b : Bool) → turn.on_second ≡ b → HasFailed seen idle.disk idle_new.disk
      → (next.on_second ≢ turn.on_second) ⊎ ((next.sealing ≡ true) × (turn.sealing ≡ false → RoseTwice (seen idle.disk).faults (seen idle_new.disk).faults))
      → RefusesDevice seen (Old b) (New b)
  refuses_idle true e h why =
      inr (subst (λ (t : Bool). Refused (if not t then live.disk else idle.disk) (if not t then live_new.disk else idle_new.disk)) (sym e) (h, why))
  refuses_idle false e h why =
      inr (subst (λ (t : Bool). Refused (if not t then idle.disk else live.disk) (if not t then idle_new.disk else live_new.disk)) (sym e) (h, why))

  pub quiet_both : (b : Bool) (checkpoint : Type 0) → IsQuiet seen live.disk live_new.disk → IsQuiet seen idle.disk idle_new.disk
      → IsQuietBut seen checkpoint (Old b) (New b)
  quiet_both true checkpoint p q = inl (q, p)
  quiet_both false checkpoint p q = inl (p, q)

  pub quiet_live : (b : Bool) → turn.on_second ≡ b → (checkpoint : Type 0) → checkpoint → next.on_second ≡ turn.on_second
      → IsQuiet seen live.disk live_new.disk → IsQuietBut seen checkpoint (Old b) (New b)
  quiet_live true e checkpoint may same p =
      inr (may, same, subst (λ (t : Bool). IsQuiet seen (if t then live.disk else idle.disk) (if t then live_new.disk else idle_new.disk)) (sym e) p)
  quiet_live false e checkpoint may same p =
      inr (may, same, subst (λ (t : Bool). IsQuiet seen (if t then idle.disk else live.disk) (if t then idle_new.disk else live_new.disk)) (sym e) p)

  pub runs_one : (b : Bool) → RunsOn seen live.disk live_new.disk → RunsOn seen idle.disk idle_new.disk → RunsOn seen (Old b).first.disk (New b).first.disk
  runs_one true p q = q
  runs_one false p q = p

  pub runs_two : (b : Bool) → RunsOn seen live.disk live_new.disk → RunsOn seen idle.disk idle_new.disk → RunsOn seen (Old b).second.disk (New b).second.disk
  runs_two true p q = p
  runs_two false p q = q

pub due_by : {D : Type 0} (live idle : Writer D) (turn : Turn) (snapshots : List (List ℕ)) → 4096 + 2 * length snapshots ≤ live.count
    → IsDue (placed turn.on_second live idle turn) snapshots
due_by live idle turn snapshots due = let same = placed_count turn.on_second live idle turn refl in omega (arith, same, due)

not_itself : (b c : Bool) → c ≡ not b → c ≢ b
not_itself true c is e = let clash : true ≡ false = sym e ∙ is in absurd cc
not_itself false c is e = let clash : false ≡ true = sym e ∙ is in absurd cc

-- ---- the write

-- what an append to this journal has done
pub record Appended {D : Type 0} (seen : D → DiskView) (frame : List ℕ) (len calls : ℕ) (old new : Writer D) (r : Result ℕ StoreFault) : Type 0 where
  pub adds : OnOk r (AddsFrame seen frame old new)
  pub fails : OnErr r ((frames : List (List ℕ)) (pending : Option (List ℕ)) → Stands seen old frames pending →
      Stands seen new frames pending ⊎ Stands seen new frames (Some frame))
  pub exact : (end : ℕ) → (r ≡ Err (Full end)) ↔ ((end ≡ old.end) × (2 ^ 62 < old.end + len))
  pub same : (end : ℕ) → r ≡ Err (Full end) → new ≡ old
  pub moments : (frames : List (List ℕ)) (pending : Option (List ℕ)) → Stands seen old frames pending →
      LeavesOnly seen old.disk new.disk (λ c. IsWithPending frames pending c ⊎ IsBeforeOrAfter frames frame c)
  pub disk : MakesCalls seen calls old.disk new.disk Device r

module _ {D : Type 0} (seen : D → DiskView) (frame : List ℕ) (len calls : ℕ) (old new : Writer D) where
  pub append_failed : (r : Result ℕ StoreFault) → Appended seen frame len calls old new r → r ≡ Err Device → HasFailed seen old.disk new.disk
  append_failed r a is = (a.disk.rose is, a.disk.memory is)

  -- a refused append, by what may be pending then
  pub stays_or : (r : Result ℕ StoreFault) → Appended seen frame len calls old new r → (frames : List (List ℕ)) (pending : Option (List ℕ))
      → Stands seen old frames pending → OnErr r (Stands seen new frames pending ⊎ (Stands seen new frames (Some frame) × (r ≡ Err Device)))
  stays_or (Ok n) a frames pending s = tt
  stays_or (Err Device) a frames pending s = ⊎_elim (λ was. inl was) (λ this. inr (this, refl)) (a.fails frames pending s)
  stays_or (Err (Full end)) a frames pending s = inl (subst (λ (w : Writer D). Stands seen w frames pending) (sym (a.same end refl)) s)

  -- the frames of a disk to which it is written
  pub written_frames : (frames : List (List ℕ)) (c : List ℕ) (P : List (List ℕ) → Type 0) → P frames → P (frames ++ frame ∷ [])
      → IsBeforeOrAfter frames frame c → HasFrames P c
  written_frames frames c P p q (inl s) = (frames, s, p)
  written_frames frames c P p q (inr s) = (frames ++ frame ∷ [], s, q)

module _ {D : Type 0} (seen : D → DiskView)
    (only_now : (d : D) (c : List ℕ) → (seen d).since (seen d).moment c → (seen d).image c)
    (live idle mid new : Writer D) (turn next : Turn) (snapshots : List (List ℕ)) (other frame : List ℕ) (whole_len len calls : ℕ)
    (turned : IsNextTurn turn next) (due : 4096 + 2 * length snapshots ≤ live.count)
    (has : (sealing : Option (List (List ℕ))) → IsReady seen idle turn sealing → HasCheckpoint seen mid (turn.generation + 1) snapshots)
    (preparing : (sealing : Option (List (List ℕ))) → IsReady seen idle turn sealing → LeavesOnly seen idle.disk mid.disk (HasFrames (IsPreparing turn sealing snapshots)))
    (runs : RunsOn seen idle.disk mid.disk)
    (plain : IsPlain (mark_of frame)) (size : len ≡ length frame + 5) where
  abbrev Was : StoreParts D
  Was = placed turn.on_second live idle turn

  abbrev Is : StoreParts D
  Is = placed turn.on_second live new next

  module _ (frames : List (List ℕ)) (sealing : Option (List (List ℕ))) (pending : Option (List ℕ)) (was : Keeps seen Was frames sealing pending) where
    sides : AreSides seen live idle turn.on_second turn.generation frames sealing pending
    sides = keeps_sides seen live idle turn frames sealing pending turn.on_second refl was

    cp : HasCheckpoint seen mid (turn.generation + 1) snapshots
    cp = has sealing (ready_by seen live idle turn frames sealing pending was)

    whole : IsWhole (turn.generation + 1) cp.frames
    whole = tried_whole (turn.generation + 1) snapshots cp.frames cp.tried

    whole_more : IsWhole (turn.generation + 1) (cp.frames ++ frame ∷ [])
    whole_more = one_more (turn.generation + 1) cp.frames frame whole plain

    written_plain : (p : List ℕ) → sides.written ≡ Some p → IsPlain (mark_of p)
    written_plain p e = ⊎_elim (λ none. absurd (let clash : None ≡ Some p = sym none ∙ e in cc)) (λ is. sides.plain p (sym is ∙ e)) sides.within

    aside : IsAside seen live next.on_second next.generation None
    aside = subst (λ (t : Bool). IsAside seen live t next.generation None) (sym turned.on_second)
        (subst (λ (n : ℕ). IsAside seen live (not turn.on_second) n None) (sym turned.generation)
        (overtaken_aside seen live turn.on_second turn.generation frames sides.written sides.stands sides.whole written_plain))

    -- these frames stand on the new live disk
    now : (found : List (List ℕ)) (written waits : Option (List ℕ)) → (written ≡ None) ⊎ (written ≡ waits) → Stands seen new found written
        → IsWhole (turn.generation + 1) found → ((p : List ℕ) → waits ≡ Some p → IsPlain (mark_of p)) → Keeps seen Is found None waits
    now found written waits within stands wholly plains =
        subst (λ (s : StoreParts D). Keeps seen s found None waits) (swapped turn.on_second live new next)
        (keeps_by seen new live next found None waits (not turn.on_second) turned.on_second (record {
          written = written;
          within = within;
          stands = stands;
          whole = subst (λ (n : ℕ). IsWhole n found) (sym turned.generation) wholly;
          plain = plains;
          aside = subst (λ (t : Bool). IsAside seen live t next.generation None) turned.on_second aside;
          next = λ c e. absurd cc;
        }) (λ _. refl) (λ e. absurd (let clash : true ≡ false = sym e ∙ turned.sealing in cc)))

    this_plain : (p : List ℕ) → Some frame ≡ Some p → IsPlain (mark_of p)
    this_plain p e = subst (λ (f : List ℕ). IsPlain (mark_of f)) (some_same frame p e) plain
      where
        some_same : (x y : List ℕ) → Some x ≡ Some y → x ≡ y
        some_same x y e = cc

    adds : (r : Result ℕ StoreFault) → Appended seen frame len calls mid new r → OnOk r (Adds seen Is frames snapshots other frame true)
    adds (Err e) a = tt
    adds (Ok n) a =
        let room = has_room (Ok n) mid.end len a.exact in
        record {
          base = cp.frames;
          from = tried_is (turn.generation + 1) snapshots cp.frames cp.tried;
          few = omega (arith, room, stands_few seen mid cp.frames None cp.rests.stands);
          keeps = now (cp.frames ++ frame ∷ []) None None (inl refl) (a.adds.rests cp.frames None cp.rests.stands).stands whole_more (λ p e. absurd cc);
        }

    stays : (r : Result ℕ StoreFault) → Appended seen frame len calls mid new r → OnErr r (Stays seen Is frames sealing pending snapshots other frame true)
    stays (Ok n) a = tt
    stays (Err e) a = ⊎_elim
        (λ s. record {
          base = cp.frames;
          seals = None;
          waits = None;
          from = tried_is (turn.generation + 1) snapshots cp.frames cp.tried;
          may = λ c e. absurd cc;
          which = inl refl;
          keeps = now cp.frames None None (inl refl) s whole (λ p e. absurd cc);
        })
        (λ s. record {
          base = cp.frames;
          seals = None;
          waits = Some frame;
          from = tried_is (turn.generation + 1) snapshots cp.frames cp.tried;
          may = λ c e. absurd cc;
          which = inr (inr refl);
          keeps = now cp.frames (Some frame) (Some frame) (inr refl) s.0 whole this_plain;
        })
        (stays_or seen frame len calls mid new (Err e) a cp.frames None cp.rests.stands)

    -- ---- at each moment

    abbrev Nexts : List (List ℕ) → Type 0
    Nexts found = (sealing ≡ Some found) ⊎ (IsTried (turn.generation + 1) snapshots found ⊎ (found ≡ cp.frames ++ frame ∷ []))

    nexts_whole : (found : List (List ℕ)) → Nexts found → IsWhole (turn.generation + 1) found
    nexts_whole found (inl is) = sides.next found is
    nexts_whole found (inr (inl is)) = tried_whole (turn.generation + 1) snapshots found is
    nexts_whole found (inr (inr is)) = subst (IsWhole (turn.generation + 1)) (sym is) whole_more

    abbrev Idles : List (List ℕ) → Type 0
    Idles found = IsBeaten turn.on_second turn.generation found ⊎ Nexts found

    prepared : (c : List ℕ) → HasFrames (IsPreparing turn sealing snapshots) c → HasFrames Idles c
    prepared c (fs, s, inl (inl lost)) = (fs, s, inl lost)
    prepared c (fs, s, inl (inr is)) = (fs, s, inr (inl is))
    prepared c (fs, s, inr is) = (fs, s, inr (inr (inl is)))

    behind : (c : List ℕ) → IsWithPending cp.frames None c ⊎ IsBeforeOrAfter cp.frames frame c → HasFrames Idles c
    behind c (inl s) = (cp.frames, s, inr (inr (inl cp.tried)))
    behind c (inr s) = written_frames seen frame len calls mid new cp.frames c Idles (inr (inr (inl cp.tried))) (inr (inr (inr refl))) s

    within : (found : List (List ℕ)) → IsLive frames pending found ⊎ Nexts found → IsLeftWithin frames sealing pending snapshots other frame found
    within found (inl (inl is)) = inl (inl is)
    within found (inl (inr is)) = inl (inr (inr is))
    within found (inr (inl is)) = inl (inr (inl is))
    within found (inr (inr (inl is))) = inr (inl (tried_is (turn.generation + 1) snapshots found is))
    within found (inr (inr (inr is))) = inr (inr (true, cp.frames, tried_is (turn.generation + 1) snapshots cp.frames cp.tried, is))

    moments : (r : Result ℕ StoreFault) → Appended seen frame len calls mid new r
        → LeavesOnly seen live.disk live.disk (HasFrames (IsLive frames pending)) × LeavesOnly seen idle.disk new.disk (HasFrames Idles)
    moments r a = (
      started seen live.disk (HasFrames (IsLive frames pending)) (λ c left.
          live_frames frames sides.written pending sides.within c (sides.stands.images c (only_now live.disk c left))),
      joined seen idle.disk mid.disk new.disk (HasFrames (IsPreparing turn sealing snapshots))
          (λ c. IsWithPending cp.frames None c ⊎ IsBeforeOrAfter cp.frames frame c) (HasFrames Idles)
          (preparing sealing (ready_by seen live idle turn frames sealing pending was)) (a.moments cp.frames None cp.rests.stands) prepared behind,
    )

    both : (a d : List ℕ) → HasFrames (IsLive frames pending) a → HasFrames Idles d
        → FindsBy turn.on_second (IsLeftWithin frames sealing pending snapshots other frame) a d
    both a d l r = finds_as turn.on_second (λ found. IsLive frames pending found ⊎ Nexts found) (IsLeftWithin frames sealing pending snapshots other frame) within a d
        (pair turn.on_second turn.generation (IsLive frames pending) Nexts (live_whole turn.generation frames sides.whole pending sides.plain) nexts_whole a d l r)

    -- it has room behind a checkpoint of so few keys
    fills : length snapshots < 2 ^ 35 → length frame ≤ 33554432 → mid.end + len ≤ 2 ^ 62
    fills few fits =
        let count = ap length cp.tried.made.is in
        omega (
          arith,
          few,
          fits,
          size,
          end_of seen mid cp.frames None cp.rests.stands,
          blocks_few cp.frames (fit_of seen mid cp.frames None cp.rests.stands),
          count,
          length-append (head_frame (turn.generation + 1) ∷ snapshots) (seal_frame ∷ []),
        )

  was_end : Was.end ≡ live.end
  was_end = placed_end turn.on_second live idle turn refl

  no_full : (r : Result ℕ StoreFault) → Appended seen frame len calls mid new r → length snapshots < 2 ^ 35 → length frame ≤ 33554432
      → (frames : List (List ℕ)) (sealing : Option (List (List ℕ))) (pending : Option (List ℕ)) → Keeps seen Was frames sealing pending
      → (end : ℕ) → r ≡ Err (Full end) → ⊥
  no_full r a few fits frames sealing pending was end is =
      let over = ((a.exact end).0 is).1 in omega (arith, over, fills frames sealing pending was few fits)

  pub made_writes : (r : Result ℕ StoreFault) → Appended seen frame len calls mid new r → length snapshots < 2 ^ 35 → length frame ≤ 33554432
      → live.end + whole_len ≤ 2 ^ 62 → IsQuiet seen idle.disk mid.disk → Writes seen other frame snapshots whole_len Was Is true r
  made_writes r a few fits room calm = record {
    kept = by_ok r a;
    failed = by_err r a;
    full = record {
      exact = λ frames sealing pending was end. (
        λ is. absurd (no_full r a few fits frames sealing pending was end is),
        λ over. absurd (let o = over.1 in omega (arith, o, room, was_end)),
      );
      same = λ frames sealing pending was end is. absurd (no_full r a few fits frames sealing pending was end is);
    };
    device = λ is. refuses_idle seen live idle live new turn next turn.on_second refl
        (failed_later seen idle.disk mid.disk new.disk runs (append_failed seen frame len calls mid new r a is))
        (inl (not_itself turn.on_second next.on_second turned.on_second));
    quiet = quiet r a;
    turned = on_second_of turn.on_second live new next ∙ (turned.on_second ∙ sym (ap not (on_second_of turn.on_second live idle turn)));
    any_moment = λ frames sealing pending was.
        let two = moments frames sealing pending was r a in
        both_moments seen live idle live new turn next (HasFrames (IsLive frames pending)) (HasFrames (Idles frames sealing pending was))
        (IsLeftWithin frames sealing pending snapshots other frame) turn.on_second two.0 two.1 (both frames sealing pending was);
    runs_first = runs_one seen live idle live new turn next turn.on_second (runs_none seen live.disk) (runs_then seen idle.disk mid.disk new.disk runs a.disk.runs);
    runs_second = runs_two seen live idle live new turn next turn.on_second (runs_none seen live.disk) (runs_then seen idle.disk mid.disk new.disk runs a.disk.runs);
  }
    where
      by_ok : (r : Result ℕ StoreFault) → Appended seen frame len calls mid new r
          → OnOk r ((frames : List (List ℕ)) (sealing : Option (List (List ℕ))) (pending : Option (List ℕ)) → Keeps seen Was frames sealing pending → Adds seen Is frames snapshots other frame true)
      by_ok (Err e) a = tt
      by_ok (Ok n) a = λ frames sealing pending was. adds frames sealing pending was (Ok n) a

      by_err : (r : Result ℕ StoreFault) → Appended seen frame len calls mid new r
          → OnErr r ((frames : List (List ℕ)) (sealing : Option (List (List ℕ))) (pending : Option (List ℕ)) → Keeps seen Was frames sealing pending →
          Stays seen Is frames sealing pending snapshots other frame true)
      by_err (Ok n) a = tt
      by_err (Err e) a = λ frames sealing pending was. stays frames sealing pending was (Err e) a

      quiet : (r : Result ℕ StoreFault) → Appended seen frame len calls mid new r → OnOk r (IsQuietBut seen (MayCheckpoint Was snapshots) Was Is)
      quiet (Err e) a = tt
      quiet (Ok n) a = quiet_both seen live idle live new turn next turn.on_second (MayCheckpoint Was snapshots) (λ told. refl)
          (λ told. (a.disk.done (runs.told ∙ told)).same_faults ∙ calm told)
