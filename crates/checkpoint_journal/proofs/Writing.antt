-- A checkpoint while it is written: what the disk has then is not live, or is the checkpoint.
use Rattle.std.proofs.Common.{◌≡◌, ◌⊎◌, Result, Err, inl, inr, refl, sym, ap, ◌∙◌, subst, arith, append-nil, append_assoc, ℕ, ◌<◌, ◌+◌, ◌^◌, Bool, List, [], ◌∷◌, ◌++◌, length, Option, Some, None}
use Rattle.edge_io.specs.Armed.{RunsOn}
use Rattle.edge_io.specs.Moments.{LeavesOnly}
use Rattle.edge_io.specs.Views.{DiskView}
use Rattle.edge_io.proofs.Moments.{joined, started, weakened}
use Rattle.edge_io.proofs.Counting.{calls_none}
use Rattle.edge_io.proofs.Runs.{runs_none, runs_then}
use Rattle.gate_journal.specs.Frames.{IsBeforeOrAfter, StandsFor}
use Rattle.gate_journal.specs.Journals.{IsAtRest, Stands}
use Rattle.gate_journal.specs.declared.writer.Writer.{Writer}
use Rattle.gate_journal.specs.Spares.{HasFrames, IsSpare}
use Rattle.gate_journal.proofs.Spares.{either_way, spare_as, spare_either, spare_rest}
use Rattle.checkpoint_journal.specs.Checkpoints.{AreSnapshots, IsNext, IsUnfinished}
use Rattle.checkpoint_journal.specs.Generations.{IsBeaten, checkpoint_of, head_frame, seal_frame}
use Rattle.edge_io.specs.Causes.{Rose}
use Rattle.checkpoint_journal.specs.Making.{DoesSome, FailsOrFull, Halts, IsMaking, IsUnmade, SealFails}
use Rattle.checkpoint_journal.specs.declared.making.CheckpointFault.{CheckpointFault}
use Rattle.checkpoint_journal.specs.declared.making.CheckpointFault.TheVariants.{Uncleared, Unsealed, Sealing}
use Rattle.checkpoint_journal.specs.Spares.{IsBeside, IsIdle}
use Rattle.checkpoint_journal.proofs.Marks.{begun, snapshots_push}
use Rattle.checkpoint_journal.proofs.Stopping.{full_halts, some_then}

-- ---- frames that are not finished

pub unfinished : (n : ℕ) (snapshots : List (List ℕ)) → n < 2 ^ 64 → AreSnapshots snapshots → IsUnfinished (head_frame n ∷ snapshots)
unfinished n snapshots lt all = inr (begun n snapshots lt all)

pub unfinished_idle : (on_second : Bool) (live : ℕ) (sealing : Option (List (List ℕ))) → IsBeaten on_second live []
    → (frames : List (List ℕ)) → IsUnfinished frames → IsIdle on_second live sealing frames
unfinished_idle on_second live sealing none frames (inl is) = inl (subst (IsBeaten on_second live) (sym is) none)
unfinished_idle on_second live sealing none frames (inr not) = inl (inl not)

module _ {D : Type 0} (seen : D → DiskView) where
  -- one frame more, or not
  pub moments : (old new : D) (P : List (List ℕ) → Type 0) (frames : List (List ℕ)) (frame : List ℕ) → P frames → P (frames ++ frame ∷ [])
      → LeavesOnly seen old new (IsBeforeOrAfter frames frame) → LeavesOnly seen old new (HasFrames P)
  moments old new P frames frame p q run =
      weakened seen old new (IsBeforeOrAfter frames frame) (HasFrames P) run (λ c h. either_way P frames frame c p q h)

  pub at_rest_frames : (journal : Writer D) (frames : List (List ℕ)) → IsAtRest seen journal frames → (c : List ℕ) → (seen journal.disk).image c → StandsFor c frames
  at_rest_frames journal frames h c now = h.stands.images c now

  -- ---- the head

  module _ (old new : Writer D) (n : ℕ) (lt : n < 2 ^ 64) where
    pub head_moments : LeavesOnly seen old.disk new.disk (IsBeforeOrAfter [] (head_frame n)) → LeavesOnly seen old.disk new.disk (HasFrames IsUnfinished)
    head_moments run = moments old.disk new.disk IsUnfinished [] (head_frame n) (inl refl) (unfinished n [] lt tt) run

    pub head_spare : Stands seen new [] None ⊎ Stands seen new [] (Some (head_frame n)) → IsSpare seen new IsUnfinished
    head_spare s = spare_either seen new IsUnfinished [] (head_frame n) (inl refl) (inl refl) (unfinished n [] lt tt) s

-- ---- the snapshots, one after another

-- Of all snapshots so many are left, and those before them stand behind the head.
pub record Handing {D : Type 0} (seen : D → DiskView) (old now : Writer D) (all rest : List (List ℕ)) (left : ℕ) : Type 0 where
  pub given : List (List ℕ)
  pub is : all ≡ given ++ rest
  pub snapshots : AreSnapshots given
  pub left_is : length rest ≡ left
  pub runs : RunsOn seen old.disk now.disk
  pub does : DoesSome seen old.disk now.disk
  pub rests : (n : ℕ) → n < 2 ^ 64 → IsAtRest seen old (head_frame n ∷ []) → IsAtRest seen now (head_frame n ∷ given)
  pub moments : (n : ℕ) → n < 2 ^ 64 → IsAtRest seen old (head_frame n ∷ []) → LeavesOnly seen old.disk now.disk (HasFrames IsUnfinished)

module _ {D : Type 0} (seen : D → DiskView)
    (only_now : (d : D) (c : List ℕ) → (seen d).since (seen d).moment c → (seen d).image c) where
  pub handing_none : (old : Writer D) (all : List (List ℕ)) (left : ℕ) → length all ≡ left → Handing seen old old all all left
  handing_none old all left e = record {
    given = [];
    is = refl;
    snapshots = tt;
    left_is = e;
    runs = runs_none seen old.disk;
    does = (0, calls_none seen old.disk);
    rests = λ n lt h. h;
    moments = λ n lt h. started seen old.disk (HasFrames IsUnfinished) (λ c left.
        (head_frame n ∷ [], at_rest_frames seen old (head_frame n ∷ []) h c (only_now old.disk c left), unfinished n [] lt tt));
  }

module _ {D : Type 0} (seen : D → DiskView) (old mid new : Writer D) (all rest : List (List ℕ)) (left : ℕ) (h : Handing seen old mid all rest left) where
  -- ended early, with none begun
  pub handing_stops : (n : ℕ) → n < 2 ^ 64 → IsAtRest seen old (head_frame n ∷ []) → IsSpare seen mid IsUnfinished
  handing_stops n lt was =
      spare_rest seen mid IsUnfinished (head_frame n ∷ h.given) (inl refl) (unfinished n h.given lt h.snapshots) (h.rests n lt was).stands

  pub handing_halts : (n : ℕ) → n < 2 ^ 64 → IsAtRest seen old (head_frame n ∷ []) → Halts seen old mid n
  handing_halts n lt was = inr (h.does, head_frame n ∷ h.given, inr (h.given, refl), h.rests n lt was)

  pub handing_all : left ≡ 0 → h.given ≡ all
  handing_all none = none_left rest h.given (h.left_is ∙ none) h.is
    where
      none_left : (rest given : List (List ℕ)) → length rest ≡ 0 → all ≡ given ++ rest → given ≡ all
      none_left [] given e is = sym (is ∙ append-nil given)
      none_left (r ∷ rs) given e is = absurd (omega (arith, e))

  module _ (frame : List ℕ) (others : List (List ℕ)) (next : IsNext rest frame others)
      (run : (frames : List (List ℕ)) → IsAtRest seen mid frames → LeavesOnly seen mid.disk new.disk (IsBeforeOrAfter frames frame)) where
    one_more_moments : (n : ℕ) → n < 2 ^ 64 → IsAtRest seen old (head_frame n ∷ []) → LeavesOnly seen mid.disk new.disk (HasFrames IsUnfinished)
    one_more_moments n lt was = moments seen mid.disk new.disk IsUnfinished (head_frame n ∷ h.given) frame (unfinished n h.given lt h.snapshots)
        (unfinished n (h.given ++ frame ∷ []) lt (snapshots_push h.given frame h.snapshots next.snapshot)) (run (head_frame n ∷ h.given) (h.rests n lt was))

    pub handing_moments : (n : ℕ) → n < 2 ^ 64 → IsAtRest seen old (head_frame n ∷ []) → LeavesOnly seen old.disk new.disk (HasFrames IsUnfinished)
    handing_moments n lt was = joined seen old.disk mid.disk new.disk (HasFrames IsUnfinished) (HasFrames IsUnfinished) (HasFrames IsUnfinished)
        (h.moments n lt was) (one_more_moments n lt was) (λ c p. p) (λ c p. p)

    -- one that was begun and not written
    pub handing_fails : ((frames : List (List ℕ)) → IsAtRest seen mid frames → Stands seen new frames None ⊎ Stands seen new frames (Some frame))
        → (n : ℕ) → n < 2 ^ 64 → IsAtRest seen old (head_frame n ∷ []) → IsSpare seen new IsUnfinished
    handing_fails fails n lt was = spare_either seen new IsUnfinished (head_frame n ∷ h.given) frame (inl refl) (unfinished n h.given lt h.snapshots)
        (unfinished n (h.given ++ frame ∷ []) lt (snapshots_push h.given frame h.snapshots next.snapshot)) (fails (head_frame n ∷ h.given) (h.rests n lt was))

    pub handing_ends : FailsOrFull seen mid new → (n : ℕ) → n < 2 ^ 64 → IsAtRest seen old (head_frame n ∷ []) → Halts seen old new n
    handing_ends fails n lt was = full_halts seen old mid new n h.runs fails (handing_halts n lt was)

    -- and one that was
    pub handing_more : (fewer : ℕ) → left ≡ fewer + 1 → RunsOn seen mid.disk new.disk → DoesSome seen mid.disk new.disk
        → ((frames : List (List ℕ)) → IsAtRest seen mid frames → IsAtRest seen new (frames ++ frame ∷ [])) → Handing seen old new all others fewer
    handing_more fewer less runs does adds = record {
      given = h.given ++ frame ∷ [];
      is = h.is ∙ ap (λ (l : List (List ℕ)). h.given ++ l) next.is ∙ sym (append_assoc h.given (frame ∷ []) others);
      snapshots = snapshots_push h.given frame h.snapshots next.snapshot;
      left_is = let n = ap length next.is in omega (arith, n, h.left_is, less);
      runs = runs_then seen old.disk mid.disk new.disk h.runs runs;
      does = some_then seen old.disk mid.disk new.disk h.runs h.does does;
      rests = λ n lt was. adds (head_frame n ∷ h.given) (h.rests n lt was);
      moments = handing_moments;
    }

-- ---- the seal

module _ (on_second : Bool) (live : ℕ) (sealing : Option (List (List ℕ))) (none : IsBeaten on_second live []) (n : ℕ) (lt : n < 2 ^ 64) (snapshots : List (List ℕ)) where
  abbrev Making : List (List ℕ) → Type 0
  Making = IsMaking on_second live sealing n snapshots

  pub idle_making : (c : List ℕ) → HasFrames (IsIdle on_second live sealing) c → HasFrames Making c
  idle_making c h = (h.0, h.1, inl h.2)

  pub unfinished_making : (c : List ℕ) → HasFrames IsUnfinished c → HasFrames Making c
  unfinished_making c h = (h.0, h.1, inl (unfinished_idle on_second live sealing none h.0 h.2))

  module _ (all : AreSnapshots snapshots) where
    pub sealed_making : (c : List ℕ) → IsBeforeOrAfter (head_frame n ∷ snapshots) seal_frame c → HasFrames Making c
    sealed_making c h = either_way Making (head_frame n ∷ snapshots) seal_frame c
        (inl (inl (inl (begun n snapshots lt all)))) (inr (record { fits = lt; all = all; is = refl })) h

    pub seal_fails : {D : Type 0} (seen : D → DiskView) (journal : Writer D)
        → Stands seen journal (head_frame n ∷ snapshots) None ⊎ Stands seen journal (head_frame n ∷ snapshots) (Some seal_frame)
        → IsBeside seen journal on_second live (Some (checkpoint_of n snapshots))
    seal_fails seen journal s = record {
      none = none;
      spare = spare_either seen journal (IsIdle on_second live (Some (checkpoint_of n snapshots))) (head_frame n ∷ snapshots) seal_frame
          (inl none) (inl (inl (begun n snapshots lt all))) (inr refl) s;
    }

  pub unsealed_beside : {D : Type 0} (seen : D → DiskView) (journal : Writer D) → IsSpare seen journal IsUnfinished → IsBeside seen journal on_second live None
  unsealed_beside seen journal s = record {
    none = none;
    spare = spare_as seen journal IsUnfinished (IsIdle on_second live None) (unfinished_idle on_second live None none) s;
  }

  -- by how the seal failed
  pub seal_unmade : {D : Type 0} (seen : D → DiskView) (old new : Writer D) (e : CheckpointFault) → AreSnapshots snapshots
      → IsAtRest seen old (head_frame n ∷ snapshots) → SealFails seen old new e → IsUnmade seen new on_second live sealing n snapshots e
  seal_unmade seen old new Uncleared all rest h = absurd h
  seal_unmade seen old new Unsealed all rest h = subst (λ (w : Writer _). IsBeside seen w on_second live None) (sym h)
      (unsealed_beside seen old (spare_rest seen old IsUnfinished (head_frame n ∷ snapshots) (inl refl) (unfinished n snapshots lt all) rest.stands))
  seal_unmade seen old new Sealing all rest h = (all, seal_fails all seen new (h.1 (head_frame n ∷ snapshots) rest))

pub seal_stops : {D : Type 0} (seen : D → DiskView) (old new : Writer D) (e : CheckpointFault) → SealFails seen old new e → FailsOrFull seen old new
seal_stops seen old new Uncleared h = absurd h
seal_stops seen old new Unsealed h = inr h
seal_stops seen old new Sealing h = inl h.0

pub seal_rose : {D : Type 0} (seen : D → DiskView) (old new : Writer D) (e : CheckpointFault) → SealFails seen old new e → e ≡ Sealing
    → Rose (seen old.disk).faults (seen new.disk).faults
seal_rose seen old new Uncleared h is = absurd h
seal_rose seen old new Unsealed h is = let never : ⊥ = cc in absurd never
seal_rose seen old new Sealing h is = h.0

pub err_same : {T E : Type 0} (x y : E) → ◌≡◌ {A = Result T E} (Err x) (Err y) → x ≡ y
err_same x y is = cc
