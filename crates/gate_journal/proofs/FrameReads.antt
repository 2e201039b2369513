-- A frame is read at its place.
use Rattle.std.proofs.Common.{◌≡◌, ◌+◌, ◌≤◌, ◌<◌, ◌^◌, ℕ, List, [], ◌∷◌, ◌++◌, length, take, drop, refl, sym, ap, ◌∙◌, subst, arith}
use Rattle.std.proofs.Common.{append_assoc, length-append, Option, Some, None, is_some, true, Result, Ok, Err, OnOk, rules}
use Rattle.std.proofs.lemmas.List.{take_at, drop_at}
use Rattle.std.proofs.lemmas.Nat.{from_be_bytes-to_be_bytes_4}
use Rattle.std.specs.Int.{w32, to_be_bytes, from_be_bytes}
use Rattle.std.specs.List.{AllByRecursion}
use Rattle.edge_io.specs.Armed.{RunsOn}
use Rattle.edge_io.specs.Counting.{DoesCalls, MakesUpTo}
use Rattle.edge_io.specs.Views.{DiskView}
use Rattle.edge_io.proofs.Counting.{up_to, up_to_then, does_then_fails, fails_starve}
use Rattle.edge_io.proofs.Runs.{runs_then}
use Rattle.gate_journal.specs.Frames.{IsFrame, behind_gate, blocks, framed}
use Rattle.gate_journal.specs.Journals.{Mends}
use Rattle.gate_journal.specs.Reading.{HasFrameAt, IsFrameIn}
use Rattle.gate_journal.specs.declared.writer.Writer.{Writer}
use Rattle.gate_journal.specs.declared.writer.Mending.{Mending}
use Rattle.gate_journal.specs.declared.writer.Mending.TheVariants.{Nothing, Behind, Gate}

module _ (c : List ℕ) (place : ℕ) (frame : List ℕ) (is : IsFrameIn c place frame) where
  -- behind the gate
  behind : drop (place + 1) c ≡ behind_gate frame ++ is.after
  behind =
      ap (λ (l : List ℕ). drop (place + 1) l) (is.is ∙ sym (append_assoc is.before (1 ∷ []) (behind_gate frame ++ is.after)))
      ∙ drop_at (is.before ++ 1 ∷ []) (behind_gate frame ++ is.after) (place + 1) (omega (arith, is.at, length-append is.before (1 ∷ [])))

  pub word_is : (n : ℕ) → n < 2 ^ 32 → to_be_bytes w32 n ≡ take 4 (drop (place + 1) c) → n ≡ length frame
  word_is n range read =
      let same : to_be_bytes w32 n ≡ to_be_bytes w32 (length frame) =
      read ∙ ap (λ (l : List ℕ). take 4 l) behind ∙ take_at (to_be_bytes w32 (length frame)) (frame ++ is.after) 4 refl in
      sym (from_be_bytes-to_be_bytes_4 n range) ∙ ap (λ (l : List ℕ). from_be_bytes w32 l) same
      ∙ from_be_bytes-to_be_bytes_4 (length frame) (omega (arith, is.fit.1))

  pub body_is : (n : ℕ) → n ≡ length frame → take n (drop (place + 5) c) ≡ frame
  body_is n len =
      let front : List ℕ = is.before ++ (1 ∷ to_be_bytes w32 (length frame)) in
      ap (λ (l : List ℕ). take n (drop (place + 5) l))
      (is.is ∙ sym (append_assoc is.before (1 ∷ to_be_bytes w32 (length frame)) (frame ++ is.after)))
      ∙ ap (λ (l : List ℕ). take n l) (drop_at front (frame ++ is.after) (place + 5)
      (omega (arith, is.at, length-append is.before (1 ∷ to_be_bytes w32 (length frame)))))
      ∙ take_at frame is.after n (sym len)

-- one frame stands at a place
pub frame_once : (c : List ℕ) (place : ℕ) (f g : List ℕ) → IsFrameIn c place f → IsFrameIn c place g → f ≡ g
frame_once c place f g p q =
    let head : to_be_bytes w32 (length f) ≡ take 4 (drop (place + 1) c) =
    sym (ap (λ (l : List ℕ). take 4 l) (behind c place f p) ∙ take_at (to_be_bytes w32 (length f)) (f ++ p.after) 4 refl) in
    let len : length f ≡ length g = word_is c place g q (length f) (omega (arith, p.fit.1)) head in
    sym (body_is c place f p (length f) refl) ∙ body_is c place g q (length f) len

pub on_ok_both : {T E : Type 0} (r : Result T E) (P Q R : Type 0) → OnOk r P → OnOk r Q → (P → Q → R) → OnOk r R
on_ok_both (Ok x) P Q R p q f = f p q
on_ok_both (Err e) P Q R p q f = tt

-- one call that was done, and at most one more
pub one_and_more : {D : Type 0} (seen : D → DiskView) (a b d : D) (failed : Type 0) → RunsOn seen a b → DoesCalls seen 1 a b → MakesUpTo seen 1 b d failed
    → MakesUpTo seen 2 a d failed
one_and_more seen a b d failed runs done more = record {
  runs = runs_then seen a b d runs more.runs;
  done = λ not. up_to_then seen 1 1 a b d (λ told. runs.told ∙ told) (up_to seen 1 1 a b (omega arith) done) (more.done not);
  fails = λ f. does_then_fails seen 1 1 a b d (λ told. runs.told ∙ told) done (more.fails f);
  rose = λ f. omega (arith, runs.later, more.rose f);
  memory = λ f. fails_starve seen 2 a d (does_then_fails seen 1 1 a b d (λ told. runs.told ∙ told) done (more.fails f));
}

-- ---- from the frames to the content

pub blocks_append : (xs ys : List (List ℕ)) → blocks (xs ++ ys) ≡ blocks xs ++ blocks ys
blocks_append [] ys = refl
blocks_append (x ∷ xs) ys = ap (λ (l : List ℕ). 1 ∷ (behind_gate x ++ l)) (blocks_append xs ys)
    ∙ ap (λ (l : List ℕ). 1 ∷ l) (sym (append_assoc (behind_gate x) (blocks xs) (blocks ys)))

fit_at : (before : List (List ℕ)) (frame : List ℕ) (after : List (List ℕ)) → AllByRecursion IsFrame (before ++ (frame ∷ after)) → IsFrame frame
fit_at [] frame after fit = fit.0
fit_at (x ∷ before) frame after fit = fit_at before frame after fit.1

module _ {D : Type 0} (seen : D → DiskView) (writer : Writer D) (frames : List (List ℕ)) (pending : Option (List ℕ)) where
  -- whatever is left to mend, the frames are well formed, the last gate stands behind them, and a content begins with them
  pub record Begins (c : List ℕ) : Type 0 where
    pub rest : List ℕ
    pub is : c ≡ blocks frames ++ rest

  pub record Fits : Type 0 where
    pub fit : AllByRecursion IsFrame frames
    pub end : writer.end ≡ length (blocks frames) + 1
    pub begins : (c : List ℕ) → (seen writer.disk).image c → Begins c

  pub fits_by : (m : Mending) → Mends seen writer m frames pending → Fits
  fits_by Nothing h = record { fit = h.1.fit; end = h.1.end; begins = λ c now. let s = h.1.each c now in record { rest = s.0 ∷ []; is = s.2 } }
  fits_by Behind h = record { fit = h.fit; end = h.end; begins = λ c now. let s = h.each c now in record { rest = s.0 ∷ s.1; is = s.3 } }
  fits_by Gate h = record { fit = h.3.fit; end = h.3.end; begins = λ c now. let s = h.3.each c now in record { rest = s.0 ∷ framed h.0; is = s.1 } }

-- the frame lies before the last gate
pub place_before : {D : Type 0} (seen : D → DiskView) (writer : Writer D) (place : ℕ) (frame : List ℕ) → HasFrameAt seen writer place frame
    → (place + 6 + length frame ≤ writer.end) × IsFrame frame
place_before seen writer place frame h =
    let fits = fits_by seen writer h.frames h.pending writer.mending h.stands.mends in
    let before = h.at.0 in
    let after = h.at.1 in
    let whole : length (blocks h.frames) ≡ length (blocks before ++ (1 ∷ (behind_gate frame ++ blocks after))) =
    ap (λ (fs : List (List ℕ)). length (blocks fs)) h.at.2 ∙ ap length (blocks_append before (frame ∷ after)) in (
      omega (
        arith,
        fits.end,
        whole,
        h.at.3,
        length-append (blocks before) (1 ∷ (behind_gate frame ++ blocks after)),
        length-append (behind_gate frame) (blocks after),
        length-append (to_be_bytes w32 (length frame)) frame,
      ),
      fit_at before frame after (subst (λ (fs : List (List ℕ)). AllByRecursion IsFrame fs) h.at.2 fits.fit),
    )

-- and is in each image
pub frame_in_image : {D : Type 0} (seen : D → DiskView) (writer : Writer D) (place : ℕ) (frame c : List ℕ) → HasFrameAt seen writer place frame
    → (seen writer.disk).image c → IsFrameIn c place frame
frame_in_image seen writer place frame c h now =
    let fits = fits_by seen writer h.frames h.pending writer.mending h.stands.mends in
    let begins = fits.begins c now in
    let before = h.at.0 in
    let after = h.at.1 in
    record {
      before = blocks before;
      after = blocks after ++ begins.rest;
      is = begins.is ∙ ap (λ (fs : List (List ℕ)). blocks fs ++ begins.rest) h.at.2 ∙ ap (λ (l : List ℕ). l ++ begins.rest) (blocks_append before (frame ∷ after))
          ∙ append_assoc (blocks before) (1 ∷ (behind_gate frame ++ blocks after)) begins.rest
          ∙ ap (λ (l : List ℕ). blocks before ++ (1 ∷ l)) (append_assoc (behind_gate frame) (blocks after) begins.rest);
      at = h.at.3;
      fit = (place_before seen writer place frame h).1;
    }

pub some_of : (o : Option (List ℕ)) → is_some o ≡ true → (c : List ℕ) × (o ≡ Some c)
some_of None told = search rules
some_of (Some c) told = (c, refl)
