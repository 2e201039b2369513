-- A store that is opened, or isn't.
use Rattle.std.specs.Prelude.{if◌then◌else◌}
use Rattle.std.proofs.Common.{◌≡◌, ◌⊎◌, inl, inr, refl, sym, ap, ◌∙◌, subst, arith, ℕ, ◌+◌, ◌*◌, ◌<◌, ◌≤◌, ◌^◌, Bool, true, false, List, [], ◌∷◌, ◌++◌, length, length-append, Option, Some, None}
use Rattle.std.specs.Int.{w32, to_be_bytes}
use Rattle.edge_io.specs.Views.{DiskView}
use Rattle.edge_io.proofs.Moments.{started}
use Rattle.edge_io.proofs.Runs.{runs_none}
use Rattle.gate_journal.specs.Frames.{StandsAs, StandsFor, behind_gate, blocks}
use Rattle.gate_journal.specs.Journals.{IsAtRest, Stands}
use Rattle.gate_journal.specs.Visits.{OpensEach, placed}
use Rattle.gate_journal.specs.declared.writer.Writer.{Writer}
use Rattle.gate_journal.proofs.Once.{once}
use Rattle.gate_journal.proofs.Spares.{spare_rest}
use Rattle.checkpoint_journal.specs.Generations.{IsBeaten, IsListed, IsLiveOn, IsUnlisted, IsUnsealed, IsWhole, live_of}
use Rattle.checkpoint_journal.specs.Spares.{IsIdle}
use Rattle.checkpoint_journal.specs.Standings.{StandsSo}
use Rattle.checkpoint_journal.specs.declared.stands.Standing.{Standing}
use Rattle.coord_checkpoint.specs.Disks.{IsReopened}
use Rattle.coord_checkpoint.specs.Openings.{IsRead, frames_in}
use Rattle.coord_checkpoint.specs.Stores.{Keeps, StoreParts, arranged}
use Rattle.coord_checkpoint.specs.Steps.{IsTurn, placed as sided}
use Rattle.coord_checkpoint.specs.declared.fault.CoordOpen.{CoordOpen}
use Rattle.coord_checkpoint.specs.declared.fault.CoordOpen.TheVariants.{Damaged, Device, NoMemory}
use Rattle.coord_checkpoint.specs.declared.step.Turn.{Turn}
use Rattle.coord_checkpoint.proofs.Sides.{keeps_by}

-- ---- a store of two journals at rest

module _ {D : Type 0} (seen : D → DiskView) (live idle : Writer D) (turn : Turn) (frames others : List (List ℕ)) where
  pub opened_keeps : (b : Bool) → turn.on_second ≡ b → turn.sealing ≡ false → IsAtRest seen live frames → IsAtRest seen idle others → IsWhole turn.generation frames
      → IsBeaten b turn.generation others → Keeps seen (sided b live idle turn) frames None None
  opened_keeps b e flag rests idles whole beaten = keeps_by seen live idle turn frames None None b e (record {
    written = None;
    within = inl refl;
    stands = rests.stands;
    whole = whole;
    plain = λ p is. absurd cc;
    aside = record {
      each = λ c now. (others, idles.stands.images c now, inl beaten);
      spare = λ none. record { none = none; spare = spare_rest seen idle (IsIdle b turn.generation None) others (inl none) (inl beaten) idles.stands };
    };
    next = λ c is. absurd cc;
  }) (λ _. refl) (λ is. absurd (let clash : true ≡ false = sym is ∙ flag in cc))

pub store_keeps : {D : Type 0} (seen : D → DiskView) (one two : Writer D) (turn : Turn) (ones twos : List (List ℕ)) → IsAtRest seen one ones → IsAtRest seen two twos
    → IsTurn ones twos turn → Keeps seen (arranged one two turn) (if turn.on_second then twos else ones) None None
store_keeps seen one two turn ones twos first second is = by turn.on_second refl is.whole is.beaten
  where
    by : (b : Bool) → turn.on_second ≡ b → IsWhole turn.generation (if b then twos else ones) → IsBeaten b turn.generation (if b then ones else twos)
        → Keeps seen (arranged one two turn) (if b then twos else ones) None None
    by true e whole beaten = opened_keeps seen two one turn twos ones true e is.sealing second first whole beaten
    by false e whole beaten = opened_keeps seen one two turn ones twos false e is.sealing first second whole beaten

-- ---- which frames

some_once : (x y : List (List ℕ)) → Some x ≡ Some y → x ≡ y
some_once x y e = cc

some_none : (x : List (List ℕ)) → Some x ≡ None → ⊥
some_none x e = absurd cc

module _ (a b : List ℕ) (ones twos : List (List ℕ)) (first : StandsFor a ones) (second : StandsFor b twos) where
  pub live_again : (frames : List (List ℕ)) → IsListed a b frames → live_of ones twos ≡ Some frames
  live_again frames is =
      ap (λ (l : List (List ℕ)). live_of l twos) (once a ones is.ones first is.first_is)
      ∙ (ap (λ (l : List (List ℕ)). live_of is.ones l) (once b twos is.twos second is.second_is) ∙ is.live)

  pub listed_once : (found frames : List (List ℕ)) → live_of ones twos ≡ Some found → IsListed a b frames → found ≡ frames
  listed_once found frames live is = some_once found frames (sym live ∙ live_again frames is)

  pub listed_none : (frames : List (List ℕ)) → live_of ones twos ≡ None → IsListed a b frames → ⊥
  listed_none frames none is = some_none frames (sym (live_again frames is) ∙ none)

-- ---- one disk

abbrev Handed : Type 0
Handed = List (ℕ × List ℕ)

pub frames_placed : (at : ℕ) (fs : List (List ℕ)) → frames_in (placed at fs) ≡ fs
frames_placed at [] = refl
frames_placed at (f ∷ fs) = ap (λ (l : List (List ℕ)). f ∷ l) (frames_placed (at + (5 + length f)) fs)

placed_length : (at : ℕ) (fs : List (List ℕ)) → length (placed at fs) ≡ length fs
placed_length at [] = refl
placed_length at (f ∷ fs) = omega (arith, placed_length (at + (5 + length f)) fs)

blocks_length : (fs : List (List ℕ)) → 5 * length fs ≤ length (blocks fs)
blocks_length [] = omega arith
blocks_length (f ∷ fs) =
    omega (arith, blocks_length fs, length-append (behind_gate f) (blocks fs), length-append (to_be_bytes w32 (length f)) f)

pub read_disk : {D : Type 0} (seen : D → DiskView) (disk : D) (w : Writer D) (old new handed : Handed) (standing : Standing) (gate : ℕ) → OpensEach seen disk w old new
    → old ≡ [] → handed ≡ new → StandsSo (frames_in new) standing
    → ((frames : List (List ℕ)) (pending : Option (List ℕ)) → Stands seen w frames pending → gate ≡ length (blocks frames)) → gate < 2 ^ 64
    → IsRead seen disk w handed standing
read_disk seen disk w old new handed standing gate is none same stands size lt =
    let visits : new ≡ placed 0 is.frames = is.visits ∙ ap (λ (l : Handed). l ++ placed 0 is.frames) none in
    record {
      frames = is.frames;
      opens = is.opens;
      visits = same ∙ visits;
      stands = subst (λ (l : List (List ℕ)). StandsSo l standing) (ap frames_in visits ∙ frames_placed 0 is.frames) stands;
      few = omega (arith, lt, size is.frames None is.opens.rests.stands, blocks_length is.frames);
    }

-- ---- both

pub if_seen : {V A : Type 0} (seen : V → A) (b : Bool) (x y r : V) → r ≡ (if b then y else x) → seen r ≡ (if b then seen y else seen x)
if_seen seen true x y r is = ap seen is
if_seen seen false x y r is = ap seen is

module _ {D : Type 0} (seen : D → DiskView) (first second : D) (one two : Writer D) (h k : Handed) (s t : Standing)
    (ones : IsRead seen first one h s) (twos : IsRead seen second two k t) where
  module _ (turn : Turn) (is : IsTurn ones.frames twos.frames turn) (handed : Handed) (from : handed ≡ (if turn.on_second then k else h)) where
    frames : List (List ℕ)
    frames = if turn.on_second then twos.frames else ones.frames

    by_side : (b : Bool) → ((if b then k else h) ≡ placed 0 (if b then twos.frames else ones.frames)) × (length (if b then twos.frames else ones.frames) < 2 ^ 63)
    by_side true = (twos.visits, twos.few)
    by_side false = (ones.visits, ones.few)

    handed_placed : handed ≡ placed 0 frames
    unfolding frames
    handed_placed = from ∙ (by_side turn.on_second).0

    handed_in : frames_in handed ≡ frames
    handed_in = ap frames_in handed_placed ∙ frames_placed 0 frames

    pub read_places : handed ≡ placed 0 (frames_in handed)
    read_places = handed_placed ∙ ap (placed 0) (sym handed_in)

    pub read_few : length handed < 2 ^ 63
    unfolding frames
    read_few = omega (arith, ap (λ (l : Handed). length l) handed_placed, placed_length 0 frames, (by_side turn.on_second).1)

    pub read_keeps : (store : StoreParts D) → store ≡ arranged one two turn → Keeps seen store (frames_in handed) None None
    unfolding frames
    read_keeps store store_is =
        subst (λ (s : StoreParts D). Keeps seen s (frames_in handed) None None) (sym store_is)
        (subst (λ (l : List (List ℕ)). Keeps seen (arranged one two turn) l None None) (sym handed_in)
        (store_keeps seen one two turn ones.frames twos.frames ones.opens.rests twos.opens.rests is))

    module _ (a b : List ℕ) (on_a : (seen first).content ≡ Some a) (on_b : (seen second).content ≡ Some b) where
      pub read_live : (store : StoreParts D) → store ≡ arranged one two turn → IsLiveOn a b store.on_second (frames_in handed)
      unfolding frames
      read_live store store_is = record {
        ones = ones.frames;
        twos = twos.frames;
        first_is = ones.opens.stands a on_a;
        second_is = twos.opens.stands b on_b;
        live = is.live ∙ ap (λ (l : List (List ℕ)). Some l) (sym handed_in);
        disk = ap (λ (s : StoreParts D). s.on_second) store_is ∙ is.side;
      }

      pub read_listed : IsListed a b (frames_in handed)
      unfolding frames
      read_listed = record {
        ones = ones.frames;
        twos = twos.frames;
        first_is = ones.opens.stands a on_a;
        second_is = twos.opens.stands b on_b;
        live = is.live ∙ ap (λ (l : List (List ℕ)). Some l) (sym handed_in);
      }

      pub read_recovers : (found : List (List ℕ)) → IsListed a b found → handed ≡ placed 0 found
      unfolding read_listed
      read_recovers found listed = read_places
          ∙ ap (placed 0) (listed_once a b ones.frames twos.frames (ones.opens.stands a on_a) (twos.opens.stands b on_b) (frames_in handed) found read_listed.live listed)

  -- neither is sealed
  module _ (none : live_of ones.frames twos.frames ≡ None) (a b : List ℕ) (on_a : (seen first).content ≡ Some a) (on_b : (seen second).content ≡ Some b) where
    pub read_unsealed : IsUnsealed a b
    read_unsealed = record {
      ones = ones.frames;
      twos = twos.frames;
      first_is = ones.opens.stands a on_a;
      second_is = twos.opens.stands b on_b;
      none = none;
    }

    pub read_none : (found : List (List ℕ)) → IsListed a b found → ⊥
    read_none found listed = listed_none a b ones.frames twos.frames (ones.opens.stands a on_a) (twos.opens.stands b on_b) found none listed

-- ---- what a refusal names

which : CoordOpen → Bool
which (Damaged second place) = second
which (Device second) = false
which NoMemory = false

where_at : CoordOpen → ℕ
where_at (Damaged second place) = place
where_at (Device second) = 0
where_at NoMemory = 0

-- neither is sealed
pub unsealed_unlisted : (a b : List ℕ) (second : Bool) (place : ℕ) → ◌≡◌ {A = CoordOpen} (Damaged false 0) (Damaged second place) → IsUnsealed a b
    → IsUnlisted a b second place
unfolding which where_at
unsealed_unlisted a b second place e u = subst (λ (s : Bool). IsUnlisted a b s place) (ap which e) (inr (sym (ap where_at e), u))

-- ---- the disks

pub not_opened : {D : Type 0} (seen : D → DiskView) (only_now : (d : D) (c : List ℕ) → (seen d).since (seen d).moment c → (seen d).image c)
    (d : D) → IsReopened seen d d
not_opened seen only_now d = record {
  any_moment = started seen d (StandsAs (seen d).image) (λ c left. (c, only_now d c left, inl refl));
  runs = runs_none seen d;
}

-- what stands for a pair of images keeps the frames that these keep
pub reopened_pair : (first second : List ℕ → Type 0) (a b : List ℕ) → StandsAs first a → StandsAs second b
    → (x y : List ℕ) × first x × second y × ((frames : List (List ℕ)) → IsListed x y frames → IsListed a b frames)
reopened_pair first second a b p q = (
  p.0,
  q.0,
  p.1,
  q.1,
  λ frames is. record {
    ones = is.ones;
    twos = is.twos;
    first_is = stands_as p.0 a is.ones p.2 is.first_is;
    second_is = stands_as q.0 b is.twos q.2 is.second_is;
    live = is.live;
  },
)
  where
    stands_as : (x c : List ℕ) (fs : List (List ℕ)) → (x ≡ c) ⊎ ((frames : List (List ℕ)) × StandsFor x frames × StandsFor c frames) → StandsFor x fs → StandsFor c fs
    stands_as x c fs (inl is) s = subst (λ (l : List ℕ). StandsFor l fs) is s
    stands_as x c fs (inr is) s = subst (StandsFor c) (once x is.0 fs is.1 s) is.2
