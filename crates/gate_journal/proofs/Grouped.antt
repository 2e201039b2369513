-- Several frames that are written as one.
use Rattle.std.proofs.Common.{◌≡◌, inl, inr, ℕ, ◌+◌, ◌-◌, ◌<◌, ◌≤◌, List, [], ◌∷◌, ◌++◌, length}
use Rattle.std.proofs.Common.{get_or, refl, sym, ◌∙◌, ap, subst, arith, append_assoc, append-nil, length-append, length-take, take, Option, Some, None}
use Rattle.std.specs.List.{AllByRecursion}
use Rattle.std.proofs.lemmas.Bool.{cases_eq}
use Rattle.std.proofs.lemmas.List.{take-take, take_at}
use Rattle.edge_io.specs.Disk.{written, UnfinishedWrite}
use Rattle.edge_io.specs.Views.{DiskView}
use Rattle.gate_journal.specs.Frames.{IsFrame, behind_gate, blocks, StandsFor, IsRest, IsShut, IsWithPending, framed, text_of}
use Rattle.gate_journal.specs.Groups.{AreHeld, AreAjar, IsAllOrNone, IsGroup, MendsAll, StandsAll, group_text, pending_list}
use Rattle.gate_journal.specs.Journals.{Mends, Stands}
use Rattle.gate_journal.specs.declared.writer.Writer.{Writer}
use Rattle.gate_journal.specs.declared.writer.Mending.{Mending}
use Rattle.gate_journal.specs.declared.writer.Mending.TheVariants.{Nothing, Behind, Gate}
use Rattle.gate_journal.proofs.Shaped.{stands_by}
use Rattle.gate_journal.proofs.Shapes.{closed_stands, opened, rest_stands, shut_stands, torn_gate, written_gate, written_behind}

abbrev IsPlace : List (List ℕ) → ℕ → Type 0
IsPlace frames n = n ≡ length (blocks frames) + 1

pub blocks_join : (frames group : List (List ℕ)) (tail : List ℕ) → blocks (frames ++ group) ++ tail ≡ blocks frames ++ (blocks group ++ tail)
blocks_join [] group tail = refl
blocks_join (f ∷ frames) group tail = ap (λ (l : List ℕ). 1 ∷ l) (append_assoc (behind_gate f) (blocks (frames ++ group)) tail
    ∙ ap (λ (l : List ℕ). behind_gate f ++ l) (blocks_join frames group tail)
    ∙ sym (append_assoc (behind_gate f) (blocks frames) (blocks group ++ tail)))

pub fit_join : (frames group : List (List ℕ)) → AllByRecursion IsFrame frames → AllByRecursion IsFrame group → AllByRecursion IsFrame (frames ++ group)
fit_join [] group fit more = more
fit_join (f ∷ frames) group fit more = (fit.0, fit_join frames group fit.1 more)

-- behind an open gate the frames stand with all of these more
pub all_opened : (frames group : List (List ℕ)) → 0 < length group → blocks frames ++ (1 ∷ group_text group) ≡ text_of (frames ++ group)
all_opened frames [] some = absurd (omega (arith, some))
all_opened frames (f ∷ group) some = sym (blocks_join frames (f ∷ group) (0 ∷ [])
    ∙ ap (λ (l : List ℕ). blocks frames ++ (1 ∷ l)) (append_assoc (behind_gate f) (blocks group) (0 ∷ [])))

pub all_ajar_stand : (frames group : List (List ℕ)) (c : List ℕ) → AllByRecursion IsFrame frames → AllByRecursion IsFrame group → 0 < length group
    → AreAjar frames group c → IsAllOrNone frames group c
all_ajar_stand frames group c fit more some s = elim (cases_eq s.0 1) [
  | inl is_open ↦ inr (closed_stands (frames ++ group) 0 [] c (λ z. absurd (omega (arith, z))) (fit_join frames group fit more)
      (s.1 ∙ ap (λ (k : ℕ). blocks frames ++ (k ∷ group_text group)) is_open ∙ all_opened frames group some))
  | inr shut ↦ inl (closed_stands frames s.0 (group_text group) c shut fit s.1)
]

pub all_held_ajar : (frames group : List (List ℕ)) (c : List ℕ) → AreHeld frames group c → AreAjar frames group c
all_held_ajar frames group c s = (s.0, s.2)

pub all_staged : (frames group : List (List ℕ)) (bytes : List ℕ) (n : ℕ) (d c : List ℕ) → IsPlace frames n → bytes ≡ group_text group
    → IsRest frames d → c ≡ written n bytes d → AreHeld frames group c
all_staged frames group bytes n d c at is s e = (
  s.0,
  s.1,
  e ∙ ap (λ (l : List ℕ). written n bytes l) s.2 ∙ written_behind frames n at s.0 bytes
      ∙ ap (λ (l : List ℕ). blocks frames ++ (s.0 ∷ l)) is,
)

-- a write of the gate, that a crash may cut short
pub all_swinging : (frames group : List (List ℕ)) (n : ℕ) (d c : List ℕ) → IsPlace frames n → AreAjar frames group d
    → UnfinishedWrite (n - 1) 1 d c → AreAjar frames group c
all_swinging frames group n d c at s step = (
  get_or c (n - 1) 0,
  torn_gate frames n at s.0 (group_text group) c (subst (λ (l : List ℕ). UnfinishedWrite (n - 1) 1 l c) s.1 step),
)

pub all_are_open : (frames group : List (List ℕ)) (n : ℕ) (d c : List ℕ) → 0 < length group → IsPlace frames n → AreAjar frames group d
    → c ≡ written (n - 1) (1 ∷ []) d → c ≡ text_of (frames ++ group)
all_are_open frames group n d c some at s e =
    e ∙ ap (λ (l : List ℕ). written (n - 1) (1 ∷ []) l) s.1 ∙ written_gate frames n at s.0 1 (group_text group) ∙ all_opened frames group some

pub gate_is_closed : (frames group : List (List ℕ)) (n : ℕ) (d c : List ℕ) → IsPlace frames n → AreAjar frames group d
    → c ≡ written (n - 1) (0 ∷ []) d → IsShut frames c
gate_is_closed frames group n d c at s e = (
  0,
  group_text group,
  λ z. absurd (omega (arith, z)),
  e ∙ ap (λ (l : List ℕ). written (n - 1) (0 ∷ []) l) s.1 ∙ written_gate frames n at s.0 0 (group_text group),
)

pub place_behind : (frames group : List (List ℕ)) (n k : ℕ) → 0 < length group → IsPlace frames n → k ≡ length (group_text group)
    → IsPlace (frames ++ group) (n + k)
place_behind frames group n k some at is = omega (
  arith,
  at,
  is,
  ap length (all_opened frames group some),
  length-append (blocks frames) (1 ∷ group_text group),
  length-append (blocks (frames ++ group)) (0 ∷ []),
)

-- ---- the text of a group

pub blocks_many : (frames : List (List ℕ)) → length frames ≤ length (blocks frames)
blocks_many [] = omega arith
blocks_many (f ∷ frames) = omega (arith, blocks_many frames, length-append (behind_gate f) (blocks frames))

pub group_some : (bytes : List ℕ) (count : ℕ) (group : List (List ℕ)) → IsGroup bytes count group → 0 < length bytes
group_some bytes count [] h = absurd (omega (arith, h.some))
group_some bytes count (f ∷ fs) h = omega (arith, ap length h.is, length-append (behind_gate f) (text_of fs), length-append (blocks fs) (0 ∷ []))

pub group_few : (bytes : List ℕ) (count : ℕ) (group : List (List ℕ)) → IsGroup bytes count group → count ≤ length bytes
group_few bytes count [] h = absurd (omega (arith, h.some))
group_few bytes count (f ∷ fs) h =
    omega (arith, h.count_is, ap length h.is, length-append (behind_gate f) (text_of fs), length-append (blocks fs) (0 ∷ []), blocks_many fs)

pub group_of_one : (bytes frame : List ℕ) → IsFrame frame → bytes ≡ framed frame → IsGroup bytes 1 (frame ∷ [])
group_of_one bytes frame fit is = record { fit = (fit, tt); some = omega arith; count_is = refl; is = is }

-- the gate before a frame is opened, and the frame stands behind the others
pub joined_text : (old f : List ℕ) (place : ℕ) (group : List (List ℕ)) → 0 < place → place ≤ length old → take place old ≡ group_text group
    → take (place - 1) old ++ (1 ∷ framed f) ≡ group_text (group ++ f ∷ [])
joined_text old f place [] some within is = absurd (omega (arith, ap length is, length-take place old))
joined_text old f place (g ∷ gs) some within is =
    let sizes = length-append (behind_gate g) (text_of gs) in
    let last : length (behind_gate g ++ blocks gs) ≡ place - 1 =
    omega (arith, ap length is, length-take place old, sizes, length-append (blocks gs) (0 ∷ []), length-append (behind_gate g) (blocks gs)) in
    let front : take (place - 1) old ≡ behind_gate g ++ blocks gs =
    sym (take-take (place - 1) place old (omega arith))
    ∙ ap (λ (l : List ℕ). take (place - 1) l) (is ∙ sym (append_assoc (behind_gate g) (blocks gs) (0 ∷ [])))
    ∙ take_at (behind_gate g ++ blocks gs) (0 ∷ []) (place - 1) last in
    ap (λ (l : List ℕ). l ++ (1 ∷ framed f)) front ∙ append_assoc (behind_gate g) (blocks gs) (1 ∷ framed f)
    ∙ ap (λ (l : List ℕ). behind_gate g ++ l) (opened gs f)

-- ---- what is left to mend

module _ {D : Type 0} (seen : D → DiskView) (writer : Writer D) where
  pub at_mending_all : (m k : Mending) (frames pending : List (List ℕ)) → m ≡ k → MendsAll seen writer m frames pending → MendsAll seen writer k frames pending
  at_mending_all m k frames pending is h = subst (λ (k : Mending). MendsAll seen writer k frames pending) is h

  pub images_of : (m : Mending) (frames pending : List (List ℕ)) → MendsAll seen writer m frames pending → (c : List ℕ) → (seen writer.disk).image c
      → IsAllOrNone frames pending c
  images_of Nothing frames pending h c now = inl (rest_stands frames c h.1.fit (h.1.each c now))
  images_of Behind frames pending h c now = inl (shut_stands frames c h.fit (h.each c now))
  images_of Gate frames pending h c now = all_ajar_stand frames pending c h.2.fit h.1 h.0 (h.2.each c now)

  pub stands_all_by : (frames pending : List (List ℕ)) → MendsAll seen writer writer.mending frames pending → StandsAll seen writer frames pending
  stands_all_by frames pending m = record { images = images_of writer.mending frames pending m; mends = m }

  -- one that is pending is a group of one
  pub to_all : (m : Mending) (frames : List (List ℕ)) (pending : Option (List ℕ)) → Mends seen writer m frames pending → MendsAll seen writer m frames (pending_list pending)
  to_all Nothing frames pending h = (ap pending_list h.0, h.1)
  to_all Behind frames pending h = h
  to_all Gate frames pending h = subst (λ (p : Option (List ℕ)). MendsAll seen writer Gate frames (pending_list p)) (sym h.1)
      (let few : 0 < length (h.0 ∷ []) = omega arith in (few, (h.2, tt), h.3))

  pub from_all : (m : Mending) (frames : List (List ℕ)) (pending : Option (List ℕ)) → MendsAll seen writer m frames (pending_list pending) → Mends seen writer m frames pending
  from_all Nothing frames None h = (refl, h.1)
  from_all Nothing frames (Some frame) h = absurd (omega (arith, ap length h.0))
  from_all Behind frames pending h = h
  from_all Gate frames None h = absurd (omega (arith, h.0))
  from_all Gate frames (Some frame) h = (frame, refl, h.1.0, h.2)

-- with the pending one or without
pub with_list : (frames : List (List ℕ)) (pending : Option (List ℕ)) (c : List ℕ) → IsAllOrNone frames (pending_list pending) c → IsWithPending frames pending c
with_list frames None c (inl h) = h
with_list frames None c (inr h) = subst (λ (fs : List (List ℕ)). StandsFor c fs) (append-nil frames) h
with_list frames (Some frame) c h = h

module _ {D : Type 0} (seen : D → DiskView) (writer : Writer D) (frames : List (List ℕ)) (pending : Option (List ℕ)) where
  pub stands_as_all : Stands seen writer frames pending → StandsAll seen writer frames (pending_list pending)
  stands_as_all h = stands_all_by seen writer frames (pending_list pending) (to_all seen writer writer.mending frames pending h.mends)

  pub all_as_stands : StandsAll seen writer frames (pending_list pending) → Stands seen writer frames pending
  all_as_stands h = stands_by seen writer frames pending (from_all seen writer writer.mending frames pending h.mends)

module _ {D : Type 0} (seen : D → DiskView) (writer : Writer D) (frames pending : List (List ℕ)) where
  pub none_pends : writer.mending ≡ Nothing → StandsAll seen writer frames pending → pending ≡ []
  none_pends is h = (at_mending_all seen writer writer.mending Nothing frames pending is h.mends).0

  pub none_behind : writer.mending ≡ Behind → StandsAll seen writer frames pending → StandsAll seen writer frames []
  none_behind is h = stands_all_by seen writer frames []
      (at_mending_all seen writer Behind writer.mending frames [] (sym is) (at_mending_all seen writer writer.mending Behind frames pending is h.mends))
