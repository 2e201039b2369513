-- Generations and seals of lists of marks.
use Rattle.std.proofs.Common.{◌≡◌, ◌⊎◌, inl, inr, refl, sym, ap, ◌∙◌, arith, ℕ, ◌<◌, ◌≤◌, ◌+◌, ◌^◌, Bool, true, false, not, List, [], ◌∷◌, ◌++◌, Option, Some, None}
use Rattle.std.specs.Prelude.{◌&&◌, ◌||◌, nat_lt, if◌then◌else◌}
use Rattle.std.proofs.lemmas.Bool.Decides.{nat_tests}
use Rattle.gate_journal.specs.Frames.{StandsFor}
use Rattle.state_records.specs.declared.record.StateRecord.TheVariants as records
use Rattle.state_records.proofs.Whole.{record_again}
use Rattle.checkpoint_journal.specs.declared.mark.Mark.{Mark}
use Rattle.checkpoint_journal.specs.declared.mark.Mark.TheVariants.{Head, Snapshot, Seal, Other}
use Rattle.checkpoint_journal.specs.Generations.{mark_read, mark_of, marks_of, generation, has_seal, is_sealed, IsPlain}
use Rattle.checkpoint_journal.specs.Generations.{head_frame, seal_frame, checkpoint_of}
use Rattle.checkpoint_journal.specs.Checkpoints.{AreSnapshots}
use Rattle.checkpoint_journal.specs.Generations.{IsBeaten, IsWhole, KeepBoth}

pub clash : false ≡ true → ⊥
clash e = absurd cc

pub head_mark : (n : ℕ) → n < 2 ^ 64 → mark_of (head_frame n) ≡ Head n
head_mark n lt = ap mark_read (record_again (records.Head n) lt)

pub seal_mark : mark_of seal_frame ≡ Seal
seal_mark = ap mark_read (record_again records.Seal tt)

pub marks_push : (frames : List (List ℕ)) (frame : List ℕ) → marks_of (frames ++ frame ∷ []) ≡ marks_of frames ++ mark_of frame ∷ []
marks_push [] frame = refl
marks_push (f ∷ fs) frame = ap (λ (ms : List Mark). mark_of f ∷ ms) (marks_push fs frame)

-- ---- a checkpoint

no_seal : (snapshots : List (List ℕ)) → AreSnapshots snapshots → has_seal (marks_of snapshots) ≡ false
no_seal [] all = refl
no_seal (s ∷ ss) all = ap (λ (m : Mark). has_seal (m ∷ marks_of ss)) all.0 ∙ no_seal ss all.1

with_seal : (snapshots : List (List ℕ)) → AreSnapshots snapshots → has_seal (marks_of snapshots ++ Seal ∷ []) ≡ true
with_seal [] all = refl
with_seal (s ∷ ss) all = ap (λ (m : Mark). has_seal (m ∷ (marks_of ss ++ Seal ∷ []))) all.0 ∙ with_seal ss all.1

pub begun : (n : ℕ) (snapshots : List (List ℕ)) → n < 2 ^ 64 → AreSnapshots snapshots → is_sealed (marks_of (head_frame n ∷ snapshots)) ≡ false
begun n snapshots lt all = ap (λ (m : Mark). is_sealed (m ∷ marks_of snapshots)) (head_mark n lt) ∙ no_seal snapshots all

pub made : (n : ℕ) (snapshots : List (List ℕ)) → n < 2 ^ 64 → AreSnapshots snapshots → IsWhole n (checkpoint_of n snapshots)
made n snapshots lt all =
    let marks : marks_of (checkpoint_of n snapshots) ≡ Head n ∷ (marks_of snapshots ++ Seal ∷ []) =
    marks_push (head_frame n ∷ snapshots) seal_frame ∙ ap (λ (m : Mark). (m ∷ marks_of snapshots) ++ mark_of seal_frame ∷ []) (head_mark n lt)
    ∙ ap (λ (m : Mark). Head n ∷ (marks_of snapshots ++ m ∷ [])) seal_mark in
    record { whole = ap is_sealed marks ∙ with_seal snapshots all; is = ap generation marks }

pub snapshots_push : (snapshots : List (List ℕ)) (s : List ℕ) → AreSnapshots snapshots → mark_of s ≡ Snapshot → AreSnapshots (snapshots ++ s ∷ [])
snapshots_push [] s all is = (is, tt)
snapshots_push (t ∷ ts) s all is = (all.0, snapshots_push ts s all.1 is)

-- ---- one frame more

seal_stays : (marks : List Mark) (m : Mark) → has_seal marks ≡ true → has_seal (marks ++ m ∷ []) ≡ true
seal_stays [] m is = absurd (clash is)
seal_stays (Snapshot ∷ marks) m is = seal_stays marks m is
seal_stays (Seal ∷ marks) m is = refl
seal_stays (Head n ∷ marks) m is = absurd (clash is)
seal_stays (Other ∷ marks) m is = absurd (clash is)

mark_more : (marks : List Mark) (m : Mark) → is_sealed marks ≡ true → IsPlain m → (is_sealed (marks ++ m ∷ []) ≡ true) × (generation (marks ++ m ∷ []) ≡ generation marks)
mark_more [] (Head n) is plain = absurd plain
mark_more [] Snapshot is plain = (refl, refl)
mark_more [] Seal is plain = (refl, refl)
mark_more [] Other is plain = (refl, refl)
mark_more (Head n ∷ marks) m is plain = (seal_stays marks m is, refl)
mark_more (Snapshot ∷ marks) m is plain = (refl, refl)
mark_more (Seal ∷ marks) m is plain = (refl, refl)
mark_more (Other ∷ marks) m is plain = (refl, refl)

pub one_more : (n : ℕ) (frames : List (List ℕ)) (frame : List ℕ) → IsWhole n frames → IsPlain (mark_of frame) → IsWhole n (frames ++ frame ∷ [])
one_more n frames frame was plain =
    let more = mark_more (marks_of frames) (mark_of frame) was.whole plain in
    record {
      whole = ap is_sealed (marks_push frames frame) ∙ more.0;
      is = ap generation (marks_push frames frame) ∙ more.1 ∙ was.is;
    }

-- ---- which one is live

abbrev chosen : Bool → Bool → Bool → List (List ℕ) → List (List ℕ) → Option (List (List ℕ))
chosen one two less first second = if two && (not one || less) then Some second else if one then Some first else None

first_chosen : (one two less : Bool) (first second : List (List ℕ)) → one ≡ true → (two ≡ false) ⊎ (less ≡ false) → chosen one two less first second ≡ Some first
first_chosen false two less first second is lost = absurd (clash is)
first_chosen true false less first second is lost = refl
first_chosen true true false first second is lost = refl
first_chosen true true true first second is (inl e) = absurd (clash (sym e))
first_chosen true true true first second is (inr e) = absurd (clash (sym e))

second_chosen : (one two less : Bool) (first second : List (List ℕ)) → two ≡ true → (one ≡ false) ⊎ (less ≡ true) → chosen one two less first second ≡ Some second
second_chosen one false less first second is lost = absurd (clash is)
second_chosen false true less first second is lost = refl
second_chosen true true true first second is lost = refl
second_chosen true true false first second is (inl e) = absurd (clash (sym e))
second_chosen true true false first second is (inr e) = absurd (clash e)

not_less : (a b : ℕ) → b ≤ a → nat_lt a b ≡ false
not_less a b le = grind (arith, nat_tests)

is_less : (a b : ℕ) → a < b → nat_lt a b ≡ true
is_less a b lt = grind (arith, nat_tests)

pub kept : (on_second : Bool) (n : ℕ) (a b : List ℕ) (live idle : List (List ℕ)) → StandsFor a live → StandsFor b idle → IsWhole n live → IsBeaten on_second n idle
    → KeepBoth on_second a b live
kept true n a b live idle is_a is_b whole lost = record {
  ones = idle;
  twos = live;
  first_is = is_b;
  second_is = is_a;
  live = second_chosen (is_sealed (marks_of idle)) (is_sealed (marks_of live)) (nat_lt (generation (marks_of idle)) (generation (marks_of live))) idle live whole.whole
      (elim lost [
        | inl e ↦ inl e
        | inr lt ↦ inr (is_less (generation (marks_of idle)) (generation (marks_of live)) (omega (arith, lt, whole.is)))
      ]);
}
kept false n a b live idle is_a is_b whole lost = record {
  ones = live;
  twos = idle;
  first_is = is_a;
  second_is = is_b;
  live = first_chosen (is_sealed (marks_of live)) (is_sealed (marks_of idle)) (nat_lt (generation (marks_of live)) (generation (marks_of idle))) live idle whole.whole
      (elim lost [
        | inl e ↦ inl e
        | inr le ↦ inr (not_less (generation (marks_of live)) (generation (marks_of idle)) (omega (arith, le, whole.is)))
      ]);
}

-- a later generation on the other disk
pub overtaken : (on_second : Bool) (n : ℕ) (a b : List ℕ) (live idle : List (List ℕ)) → StandsFor a live → StandsFor b idle → IsWhole n live → IsWhole (n + 1) idle
    → KeepBoth on_second a b idle
overtaken true n a b live idle is_a is_b whole next =
    kept false (n + 1) b a idle live is_b is_a next (inr (omega (arith, whole.is)))
overtaken false n a b live idle is_a is_b whole next =
    kept true (n + 1) b a idle live is_b is_a next (inr (omega (arith, whole.is)))
