-- Frames are handed over one by one.
use Rattle.std.proofs.Common.{◌≡◌, ◌≢◌, ℕ, ◌+◌, ◌<◌, true, false, List, [], ◌∷◌, ◌++◌, length, drop, refl, sym, ap, ◌∙◌, arith, rules}
use Rattle.std.proofs.Common.{append_assoc, length-append}
use Rattle.std.proofs.lemmas.List.{append-nil, drop_at}
use Rattle.std.specs.Int.{w32, to_be_bytes}
use Rattle.std.specs.List.{AllByRecursion}
use Rattle.gate_journal.specs.Frames.{IsBroken, IsFrame, behind_gate, blocks}
use Rattle.gate_journal.specs.Visits.{HandsOver, placed}
use Rattle.gate_journal.proofs.Texts.{more_at, more_fit, more_read}

placed_push : (place : ℕ) (frames : List (List ℕ)) (frame : List ℕ)
    → placed place (frames ++ frame ∷ []) ≡ placed place frames ++ (place + length (blocks frames), frame) ∷ []
placed_push place [] frame = ap (λ (n : ℕ). (n, frame) ∷ []) (omega arith)
placed_push place (x ∷ xs) frame =
    let n : place + (5 + length x) + length (blocks xs) ≡ place + length (blocks (x ∷ xs)) = omega (
      arith,
      length-append (behind_gate x) (blocks xs),
      length-append (to_be_bytes w32 (length x)) x,
    ) in
    ap (λ (l : List (ℕ × List ℕ)). (place, x) ∷ l) (placed_push (place + (5 + length x)) xs frame
    ∙ ap (λ (k : ℕ). placed (place + (5 + length x)) xs ++ (k, frame) ∷ []) n)

pub record Walk (place : ℕ) (bytes rest : List ℕ) (old new : List (ℕ × List ℕ)) (used count : ℕ) : Type 0 where
  pub frames : List (List ℕ)
  pub fit : AllByRecursion IsFrame frames
  pub is : bytes ≡ blocks frames ++ rest
  pub used_is : used ≡ length (blocks frames)
  pub count_is : count ≡ length frames
  pub visits : new ≡ old ++ placed place frames
  pub some : 0 < length rest

pub walk_none : (place : ℕ) (bytes : List ℕ) (old : List (ℕ × List ℕ)) → 0 < length bytes → Walk place bytes bytes old old 0 0
walk_none place bytes old some = record { frames = []; fit = tt; is = refl; used_is = refl; count_is = refl; visits = sym (append-nil old); some = some }

module _ (place : ℕ) (bytes rest : List ℕ) (old mid : List (ℕ × List ℕ)) (used count : ℕ) (w : Walk place bytes rest old mid used count)
    (gate : ℕ) (behind : List ℕ) (next : rest ≡ gate ∷ behind) where
  left : drop used bytes ≡ gate ∷ behind
  left = ap (λ (l : List ℕ). drop used l) w.is ∙ drop_at (blocks w.frames) rest used (sym w.used_is) ∙ next

  pub walk_more : (frame after : List ℕ) (new : List (ℕ × List ℕ)) → gate ≡ 1 → behind ≡ behind_gate frame ++ after → IsFrame frame → 0 < length after
      → new ≡ mid ++ (place + used, frame) ∷ [] → Walk place bytes after old new (used + (5 + length frame)) (count + 1)
  walk_more frame after new on is fit some seen = record {
    frames = w.frames ++ frame ∷ [];
    fit = more_fit w.frames (w.frames ++ frame ∷ []) frame refl w.fit fit;
    is = more_read w.frames (w.frames ++ frame ∷ []) frame refl bytes rest behind after gate w.is next on is;
    used_is = more_at w.frames (w.frames ++ frame ∷ []) frame refl used w.used_is;
    count_is = omega (arith, w.count_is, length-append w.frames (frame ∷ []));
    visits = seen ∙ ap (λ (l : List (ℕ × List ℕ)). l ++ (place + used, frame) ∷ []) w.visits
        ∙ append_assoc old (placed place w.frames) ((place + used, frame) ∷ [])
        ∙ ap (λ (k : ℕ). old ++ (placed place w.frames ++ (place + k, frame) ∷ [])) w.used_is
        ∙ ap (λ (l : List (ℕ × List ℕ)). old ++ l) (sym (placed_push place w.frames frame));
    some = some;
  }

  pub walk_shut : gate ≢ 1 → HandsOver place bytes old mid used count true
  walk_shut shut = record {
    frames = w.frames;
    fit = w.fit;
    is = w.is ∙ ap (λ (l : List ℕ). blocks w.frames ++ l) (next ∙ sym left);
    used_is = w.used_is;
    count_is = w.count_is;
    visits = w.visits;
    gate = gate;
    behind = behind;
    next = left;
    shut = λ _. shut;
    waits = λ no. absurd (search (rules, no));
  }

  pub walk_waits : gate ≡ 1 → IsBroken behind → HandsOver place bytes old mid used count false
  walk_waits on broken = record {
    frames = w.frames;
    fit = w.fit;
    is = w.is ∙ ap (λ (l : List ℕ). blocks w.frames ++ l) (next ∙ sym left);
    used_is = w.used_is;
    count_is = w.count_is;
    visits = w.visits;
    gate = gate;
    behind = behind;
    next = left;
    shut = λ no. absurd (search (rules, no));
    waits = λ _. (on, broken);
  }
