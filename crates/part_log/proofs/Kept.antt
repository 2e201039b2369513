-- The frames that have a batch, and the one frame behind others.
use Rattle.std.proofs.Common.{◌≡◌, ℕ, ◌<◌, List, [], ◌∷◌, ◌++◌, length, ap, ◌∙◌, arith}
use Rattle.std.specs.Prelude.{Bool, true, false, cond, map, nat_lt}
use Rattle.std.proofs.lemmas.List.{append-nil, map-append}
use Rattle.std.proofs.lemmas.List.Elements.{filter-append}
use Rattle.std.proofs.lemmas.Bool.{lt-ltb}
use Rattle.part_log.specs.Batches.{batch_in}
use Rattle.part_log.specs.Holding.{batches_of, bytes_in, kept_in}
use Rattle.part_log.proofs.Parts.{head_of, tail_of}

abbrev pub Frames : Type 0
Frames = List (ℕ × List ℕ)

abbrev has_batch : ℕ × List ℕ → Bool
has_batch f = nat_lt 8 (length f.1)

pub bytes_append : (xs ys : Frames) → bytes_in (xs ++ ys) ≡ bytes_in xs ++ bytes_in ys
bytes_append xs ys = map-append (λ (f : ℕ × List ℕ). f.1) xs ys

-- ---- a frame behind the others

pub kept_batch : (frames : Frames) (f : ℕ × List ℕ) → 8 < length f.1 → kept_in (frames ++ f ∷ []) ≡ kept_in frames ++ f ∷ []
kept_batch frames f long =
    filter-append has_batch frames (f ∷ [])
    ∙ ap (λ (b : Bool). kept_in frames ++ cond b (f ∷ []) []) (lt-ltb 8 (length f.1) long)

pub kept_mark : (frames : Frames) (f : ℕ × List ℕ) → length f.1 ≡ 8 → kept_in (frames ++ f ∷ []) ≡ kept_in frames
kept_mark frames f short =
    filter-append has_batch frames (f ∷ [])
    ∙ ap (λ (n : ℕ). kept_in frames ++ cond (nat_lt 8 n) (f ∷ []) []) short
    ∙ append-nil (kept_in frames)

pub batches_more : (frames : Frames) (place : ℕ) (x : List ℕ) → 8 < length x → batches_of (frames ++ (place, x) ∷ []) ≡ batches_of frames ++ batch_in x ∷ []
batches_more frames place x long =
    ap (map (λ (f : ℕ × List ℕ). batch_in f.1)) (kept_batch frames (place, x) long)
    ∙ map-append (λ (f : ℕ × List ℕ). batch_in f.1) (kept_in frames) ((place, x) ∷ [])

pub batches_mark : (frames : Frames) (place : ℕ) (x : List ℕ) → length x ≡ 8 → batches_of (frames ++ (place, x) ∷ []) ≡ batches_of frames
batches_mark frames place x short = ap (map (λ (f : ℕ × List ℕ). batch_in f.1)) (kept_mark frames (place, x) short)

-- ---- one of them is one of all

pub record Among (frames : Frames) (f : ℕ × List ℕ) : Type 0 where
  pub front : Frames
  pub back : Frames
  pub whole : frames ≡ front ++ (f ∷ back)

among_more : (g : ℕ × List ℕ) (frames : Frames) (f : ℕ × List ℕ) → Among frames f → Among (g ∷ frames) f
among_more g frames f a = record { front = g ∷ a.front; back = a.back; whole = ap (λ (l : Frames). g ∷ l) a.whole }

among_here : (g f : ℕ × List ℕ) (frames : Frames) → g ≡ f → Among (g ∷ frames) f
among_here g f frames e = record { front = []; back = frames; whole = ap (λ (h : ℕ × List ℕ). h ∷ frames) e }

-- the frames behind the first one are looked through by `more`
kept_first : (g : ℕ × List ℕ) (frames front : Frames) (f : ℕ × List ℕ) (back : Frames) (b : Bool)
    → ((front back : Frames) → kept_in frames ≡ front ++ (f ∷ back) → Among frames f)
    → cond b (g ∷ kept_in frames) (kept_in frames) ≡ front ++ (f ∷ back) → Among (g ∷ frames) f
unfolding head_of tail_of
kept_first g frames front f back false more e = among_more g frames f (more front back e)
kept_first g frames [] f back true more e = among_here g f frames (ap (head_of f) e)
kept_first g frames (h ∷ front) f back true more e = among_more g frames f (more front back (ap tail_of e))

pub kept_parted : (frames front : Frames) (f : ℕ × List ℕ) (back : Frames) → kept_in frames ≡ front ++ (f ∷ back) → Among frames f
kept_parted [] [] f back e = absurd (omega (arith, ap length e))
kept_parted [] (h ∷ front) f back e = absurd (omega (arith, ap length e))
kept_parted (g ∷ frames) front f back e = kept_first g frames front f back (has_batch g) (λ front back. kept_parted frames front f back) e
