-- Frames that are handed over one by one are replayed.
use Rattle.std.proofs.Common.{◌≡◌, suc, ◌<◌, ◌^◌, refl, sym, ap, ◌∙◌, subst, arith, append_assoc, ℕ, ◌+◌, List, [], ◌∷◌, ◌++◌, length, length-append, Option, Some, None}
use Rattle.std.specs.Int.{w32, to_be_bytes}
use Rattle.gate_journal.specs.Frames.{behind_gate, blocks}
use Rattle.gate_journal.specs.Visits.{placed}
use Rattle.edge_io.specs.Views.{DiskView}
use Rattle.checkpoint_journal.specs.Generations.{mark_of}
use Rattle.coord_checkpoint.specs.Openings.{frames_in}
use Rattle.coord_checkpoint.specs.Stores.{Keeps, StoreParts as JournalParts}
use Rattle.share_coord.specs.Holding.{Holds}
use Rattle.share_coord.specs.Replaying.{HasRefused, Replays}
use Rattle.share_coord.specs.Stored.{AreAccepted, AreTaken, Entries, IsRefused, records_from, walk_of, walked}
use Rattle.share_coord.specs.declared.walk.Walk.{Walk}
use Rattle.share_coord.specs.declared.walk.Walk.TheVariants.{First}
use Rattle.share_coord.proofs.Held.{holds_by, none_lands}
use Rattle.share_coord.proofs.Unraised.{taken_kept}
use Rattle.share_coord.proofs.Reading.{next_refused}
use Rattle.share_coord.proofs.Walking.{next_taken, walk_more}

abbrev Handed : Type 0
Handed = List (ℕ × List ℕ)

in_length : (xs : Handed) → length (frames_in xs) ≡ length xs
in_length [] = refl
in_length (x ∷ xs) = ap suc (in_length xs)

in_more : (xs ys : Handed) → frames_in (xs ++ ys) ≡ frames_in xs ++ frames_in ys
in_more [] ys = refl
in_more (x ∷ xs) ys = ap (λ (l : List (List ℕ)). x.1 ∷ l) (in_more xs ys)

-- ---- one frame more

-- where one is refused, it stays so
pub refused_still : (frames more : Handed) (place at : ℕ) (x : List ℕ) → HasRefused frames place → more ≡ frames ++ (at, x) ∷ [] → HasRefused more place
refused_still frames more place at x is pushed = record {
  before = is.before;
  frame = is.frame;
  behind = is.behind ++ (at, x) ∷ [];
  entries = is.entries;
  parts = pushed ∙ (ap (λ (l : Handed). l ++ (at, x) ∷ []) is.parts ∙ append_assoc is.before ((place, is.frame) ∷ is.behind) ((at, x) ∷ []));
  taken = is.taken;
  refused = is.refused;
}

pub replays_still : (frames more : Handed) (entries : Entries) (walk : Walk) (refused : Option ℕ) (place at : ℕ) (x : List ℕ) → Replays frames entries walk refused
    → refused ≡ Some place → more ≡ frames ++ (at, x) ∷ [] → Replays more entries walk refused
replays_still frames more entries walk refused place at x is some pushed =
    subst (λ (r : Option ℕ). Replays more entries walk r) (sym some)
    (refused_still frames more place at x (subst (λ (r : Option ℕ). Replays frames entries walk r) some is) pushed)

-- a call that changes nothing
pub replays_same : (frames : Handed) (old new : Entries) (walk : Walk) (refused : Option ℕ) → Replays frames old walk refused → new ≡ old → Replays frames new walk refused
replays_same frames old new walk refused is same = subst (λ (e : Entries). Replays frames e walk refused) (sym same) is

module _ (frames more : Handed) (old : Entries) (walk : Walk) (refused : Option ℕ) (is : Replays frames old walk refused) (good : refused ≡ None)
    (at : ℕ) (x : List ℕ) (pushed : more ≡ frames ++ (at, x) ∷ []) where
  now : AreTaken (frames_in frames) old × (walk ≡ walk_of First (frames_in frames))
  now = subst (λ (r : Option ℕ). Replays frames old walk r) good is

  pushed_in : frames_in more ≡ frames_in frames ++ x ∷ []
  pushed_in = ap frames_in pushed ∙ in_more frames ((at, x) ∷ [])

  -- it goes on from those before it
  pub replays_more : (new : Entries) (next : Walk) → next ≡ walked walk (mark_of x) → AreAccepted old (records_from walk (x ∷ [])) new → Replays more new next refused
  replays_more new next step accepted = subst (λ (r : Option ℕ). Replays more new next r) (sym good) (
    subst (λ (l : List (List ℕ)). AreTaken l new) (sym pushed_in) (next_taken (frames_in frames) x walk old new now.1 now.0 accepted),
    step ∙ (ap (λ (w : Walk). walked w (mark_of x)) now.1
        ∙ (sym (walk_more First (frames_in frames) x) ∙ ap (λ (l : List (List ℕ)). walk_of First l) (sym pushed_in))),
  )

  -- it doesn't
  pub refused_now : ((new : Entries) → AreAccepted old (records_from walk (x ∷ [])) new → ⊥) → HasRefused more at
  refused_now none = record {
    before = frames;
    frame = x;
    behind = [];
    entries = old;
    parts = pushed;
    taken = now.0;
    refused = next_refused (frames_in frames) x walk old now.1 now.0 none;
  }

-- ---- all frames

tail_of : Handed → Handed
tail_of [] = []
tail_of (x ∷ xs) = xs

place_of : Handed → ℕ
place_of [] = 0
place_of (x ∷ xs) = x.0

block_size : (x : List ℕ) (fs : List (List ℕ)) (at : ℕ) → at + (5 + length x) + length (blocks fs) ≡ at + length (blocks (x ∷ fs))
block_size x fs at = omega (arith, length-append (behind_gate x) (blocks fs), length-append (to_be_bytes w32 (length x)) x)

-- each frame has the place behind those before it
place_is : (at : ℕ) (front : Handed) (f : ℕ × List ℕ) (back : Handed) → front ++ (f ∷ back) ≡ placed at (frames_in (front ++ (f ∷ back)))
    → f.0 ≡ at + length (blocks (frames_in front))
unfolding tail_of place_of
place_is at [] f back e = ap place_of e ∙ omega arith
place_is at (g ∷ front) f back e =
    place_is (at + (5 + length g.1)) front f back (ap tail_of e) ∙ block_size g.1 (frames_in front) at

-- a frame is refused at its gate
pub refused_at : (handed : Handed) (place : ℕ) → handed ≡ placed 0 (frames_in handed) → HasRefused handed place → IsRefused (frames_in handed) place
refused_at handed place places is = record {
  before = frames_in is.before;
  frame = is.frame;
  behind = frames_in is.behind;
  entries = is.entries;
  parts = ap frames_in is.parts ∙ in_more is.before ((place, is.frame) ∷ is.behind);
  taken = is.taken;
  refused = is.refused;
  at = omega (arith, place_is 0 is.before (place, is.frame) is.behind (subst (λ (l : Handed). l ≡ placed 0 (frames_in l)) is.parts places));
}

-- a store of the frames that were handed over
pub replayed : {D : Type 0} (seen : D → DiskView) (journal : JournalParts D) (handed : Handed) (entries : Entries) (room : ℕ) → Keeps seen journal (frames_in handed) None None
    → AreTaken (frames_in handed) entries → length handed < 2 ^ 63 → Holds seen (record { journal = journal; entries = entries; room = room }) None
replayed seen journal handed entries room keeps taken few =
    holds_by seen journal entries entries room (frames_in handed) None None None keeps taken (taken_kept (frames_in handed) entries taken)
    (omega (arith, few, in_length handed)) refl (none_lands entries)
