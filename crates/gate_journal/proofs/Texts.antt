-- Reading goes on by a frame.
use Rattle.std.proofs.Common.{◌≡◌, ℕ, ◌+◌, ◌≤◌, List, [], ◌∷◌, ◌++◌}
use Rattle.std.proofs.Common.{length, sym, ◌∙◌, ap, subst, arith, length-append, take, drop, Option}
use Rattle.std.proofs.lemmas.List.{take_all, take_at}
use Rattle.std.specs.List.{AllByRecursion}
use Rattle.std.specs.Int.{w32, to_be_bytes}
use Rattle.gate_journal.specs.Frames.{IsFrame, behind_gate, blocks, IsRead}
use Rattle.edge_io.specs.Disk.{WhereTold}
use Rattle.gate_journal.proofs.Shapes.{blocks_push, fit_push}

module _ (frames new : List (List ℕ)) (frame : List ℕ) (pushed : new ≡ frames ++ frame ∷ []) where
  pub more_read : (bytes rest behind after : List ℕ) (gate : ℕ) → bytes ≡ blocks frames ++ rest → rest ≡ gate ∷ behind → gate ≡ 1
      → behind ≡ behind_gate frame ++ after → bytes ≡ blocks new ++ after
  more_read bytes rest behind after gate read is on next =
      read ∙ ap (λ (l : List ℕ). blocks frames ++ l) (is ∙ ap (λ (g : ℕ). g ∷ behind) on ∙ ap (λ (l : List ℕ). 1 ∷ l) next)
      ∙ sym (blocks_push frames frame after) ∙ ap (λ (fs : List (List ℕ)). blocks fs ++ after) (sym pushed)

  pub more_fit : AllByRecursion IsFrame frames → IsFrame frame → AllByRecursion IsFrame new
  more_fit fit one = subst (λ (fs : List (List ℕ)). AllByRecursion IsFrame fs) (sym pushed) (fit_push frames frame fit one)

  pub more_at : (place : ℕ) → place ≡ length (blocks frames) → place + (5 + length frame) ≡ length (blocks new)
  more_at place is =
      let whole : blocks (frames ++ frame ∷ []) ++ [] ≡ blocks frames ++ (1 ∷ (behind_gate frame ++ [])) = blocks_push frames frame [] in
      omega (
        arith,
        is,
        ap length whole,
        length-append (blocks (frames ++ frame ∷ [])) [],
        length-append (blocks frames)
            (1 ∷ (behind_gate frame ++ [])),
        length-append (behind_gate frame) [],
        length-append (to_be_bytes w32 (length frame)) frame,
        ap
            (λ (fs : List (List ℕ)). length (blocks fs)) pushed,
      )

-- all of a content was read
pub whole_read : (k n : ℕ) (into items x : List ℕ) → into ≡ take k (drop 0 x) → k ≡ length x → n ≡ length x
    → take n (into ++ drop (length into) items) ≡ x
whole_read k n into items x read k-is n-is =
    let is : into ≡ x = read ∙ take_all k x (omega (arith, k-is)) in
    take_at into (drop (length into) items) n (omega (arith, n-is, ap length is)) ∙ is

-- what is read of a content that stays
pub read_moved : (o p : Option (List ℕ)) (n m : ℕ) (frames : List (List ℕ)) (end : ℕ) → p ≡ o → m ≡ n
    → WhereTold o (IsRead frames n end) → WhereTold p (IsRead frames m end)
read_moved o p n m frames end same size read x told = subst (λ (k : ℕ). IsRead frames k end x) (sym size) (read x (sym same ∙ told))

pub few_frames : (frames : List (List ℕ)) → length frames ≤ length (blocks frames)
few_frames [] = omega arith
few_frames (frame ∷ frames) = omega (arith, few_frames frames, length-append (behind_gate frame) (blocks frames))
