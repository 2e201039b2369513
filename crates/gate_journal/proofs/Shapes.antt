-- What the calls of a journal do to the shape of its disk.
use Rattle.std.proofs.Common.{◌≡◌, ◌≢◌, inl, inr, ℕ, ◌+◌, ◌-◌, List, [], ◌∷◌, ◌++◌, length}
use Rattle.std.proofs.Common.{get_or, take, drop, sym, ◌∙◌, ap, subst, arith, append_assoc, length-append, take-append-drop}
use Rattle.std.specs.List.{AllByRecursion}
use Rattle.std.proofs.lemmas.Bool.{cases_eq}
use Rattle.std.proofs.lemmas.List.{take-take, take_at, drop_at, drop_more, take_all, drop_all, append-nil}
use Rattle.edge_io.specs.Disk.{written, UnfinishedWrite, UnfinishedCut}
use Rattle.gate_journal.specs.Frames.{IsFrame, behind_gate, blocks, StandsFor, IsBeforeOrAfter, IsRest, IsShut, IsHeld, IsAjar, framed, text_of}

-- ---- blocks

pub blocks_push : (frames : List (List ℕ)) (frame : List ℕ) (tail : List ℕ)
    → blocks (frames ++ frame ∷ []) ++ tail ≡ blocks frames ++ (1 ∷ (behind_gate frame ++ tail))
blocks_push [] frame tail = ap (λ (l : List ℕ). 1 ∷ l) (ap (λ (l : List ℕ). l ++ tail) (append-nil (behind_gate frame)))
blocks_push (first ∷ frames) frame tail =
    ap (λ (l : List ℕ). 1 ∷ l) (append_assoc (behind_gate first) (blocks (frames ++ frame ∷ [])) tail
    ∙ ap (λ (l : List ℕ). behind_gate first ++ l) (blocks_push frames frame tail)
    ∙ sym (append_assoc (behind_gate first) (blocks frames) (1 ∷ (behind_gate frame ++ tail))))

pub fit_push : (frames : List (List ℕ)) (frame : List ℕ) → AllByRecursion IsFrame frames → IsFrame frame
    → AllByRecursion IsFrame (frames ++ frame ∷ [])
fit_push [] frame fit one = (one, tt)
fit_push (first ∷ frames) frame fit one = (fit.0, fit_push frames frame fit.1 one)

pub opened : (frames : List (List ℕ)) (frame : List ℕ) → blocks frames ++ (1 ∷ framed frame) ≡ blocks (frames ++ frame ∷ []) ++ 0 ∷ []
opened frames frame = sym (blocks_push frames frame (0 ∷ []))

pub closed_stands : (frames : List (List ℕ)) (gate : ℕ) (tail c : List ℕ) → gate ≢ 1 → AllByRecursion IsFrame frames
    → c ≡ blocks frames ++ (gate ∷ tail) → StandsFor c frames
closed_stands frames gate tail c shut fit e = inr (gate, tail, shut, e, fit)

-- a gate before a whole frame, open or closed
pub gate_stands : (frames : List (List ℕ)) (frame : List ℕ) (gate : ℕ) (c : List ℕ) → AllByRecursion IsFrame frames → IsFrame frame
    → c ≡ blocks frames ++ (gate ∷ framed frame) → IsBeforeOrAfter frames frame c
gate_stands frames frame gate c fit one e = elim (cases_eq gate 1) [
  | inl is_open ↦ inr (closed_stands (frames ++ frame ∷ []) 0 [] c (λ z. absurd (omega (arith, z))) (fit_push frames frame fit one)
      (e ∙ ap (λ (k : ℕ). blocks frames ++ (k ∷ framed frame)) is_open ∙ opened frames frame))
  | inr shut ↦ inl (closed_stands frames gate (framed frame) c shut fit e)
]

-- ---- the first write

module _ (frames : List (List ℕ)) (n : ℕ) (n-is : n ≡ length (blocks frames) + 1) where
  abbrev rest_text : ℕ → List ℕ
  rest_text g = blocks frames ++ g ∷ []

  pub text_length : (g : ℕ) → length (rest_text g) ≡ n
  text_length g = omega (arith, n-is, length-append (blocks frames) (g ∷ []))

  pub torn_behind : (g k : ℕ) (c : List ℕ) → UnfinishedWrite n k (rest_text g) c → c ≡ blocks frames ++ (g ∷ drop n c)
  torn_behind g k c torn =
      let front : take n c ≡ (rest_text g) = torn.before ∙ take_all n (rest_text g) (omega (arith, (text_length g))) in
      sym (take-append-drop n c) ∙ ap (λ (l : List ℕ). l ++ drop n c) front ∙ append_assoc (blocks frames) (g ∷ []) (drop n c)

  pub written_behind : (g : ℕ) (bytes : List ℕ) → written n bytes (rest_text g) ≡ blocks frames ++ (g ∷ bytes)
  written_behind g bytes =
      ap (λ (l : List ℕ). l ++ (bytes ++ drop (n + length bytes) (rest_text g))) (take_all n (rest_text g) (omega (arith, (text_length g))))
      ∙ ap (λ (l : List ℕ). (rest_text g) ++ (bytes ++ l)) (drop_all (n + length bytes) (rest_text g) (omega (arith, (text_length g))))
      ∙ ap (λ (l : List ℕ). (rest_text g) ++ l) (append-nil bytes)
      ∙ append_assoc (blocks frames) (g ∷ []) bytes

  -- ---- the second write

  pub back : (gate : ℕ) (bytes : List ℕ) → drop n (blocks frames ++ (gate ∷ bytes)) ≡ bytes
  back gate bytes =
      ap (λ (l : List ℕ). drop n l) (sym (append_assoc (blocks frames) (gate ∷ []) bytes))
      ∙ drop_at (blocks frames ++ gate ∷ []) bytes n (omega (arith, n-is, length-append (blocks frames) (gate ∷ [])))

  pub torn_gate : (was : ℕ) (bytes c : List ℕ) → UnfinishedWrite (n - 1) 1 (blocks frames ++ (was ∷ bytes)) c
      → c ≡ blocks frames ++ (get_or c (n - 1) 0 ∷ bytes)
  torn_gate was bytes c torn =
      let long : length (blocks frames ++ (was ∷ bytes)) ≡ n + length bytes = omega (arith, n-is, length-append (blocks frames) (was ∷ bytes)) in
      let place : n - 1 ≡ length (blocks frames) = omega (arith, n-is) in
      let next : n - 1 + 1 ≡ n = omega (arith, n-is) in
      let front : take (n - 1) c ≡ blocks frames = torn.before ∙ take_at (blocks frames) (was ∷ bytes) (n - 1) (sym place) in
      let behind : drop (n - 1 + 1) c ≡ bytes = torn.behind ∙ ap (λ (k : ℕ). drop k (blocks frames ++ (was ∷ bytes))) next ∙ back was bytes in
      sym (take-append-drop (n - 1) c) ∙ ap (λ (l : List ℕ). l ++ drop (n - 1) c) front
      ∙ ap (λ (l : List ℕ). blocks frames ++ l) (drop_more c (n - 1) 0 (omega (arith, torn.no_shorter, long, n-is))
      ∙ ap (λ (l : List ℕ). get_or c (n - 1) 0 ∷ l) behind)

  pub written_gate : (was now : ℕ) (bytes : List ℕ) → written (n - 1) (now ∷ []) (blocks frames ++ (was ∷ bytes)) ≡ blocks frames ++ (now ∷ bytes)
  written_gate was now bytes =
      let place : n - 1 ≡ length (blocks frames) = omega (arith, n-is) in
      let next : n - 1 + 1 ≡ n = omega (arith, n-is) in
      ap (λ (l : List ℕ). l ++ ((now ∷ []) ++ drop (n - 1 + 1) (blocks frames ++ (was ∷ bytes))))
      (take_at (blocks frames) (was ∷ bytes) (n - 1) (sym place))
      ∙ ap (λ (k : ℕ). blocks frames ++ (now ∷ drop k (blocks frames ++ (was ∷ bytes)))) next
      ∙ ap (λ (l : List ℕ). blocks frames ++ (now ∷ l)) (back was bytes)

  -- ---- a cut

  pub cut_behind : (g : ℕ) (tail c : List ℕ) → UnfinishedCut n (blocks frames ++ (g ∷ tail)) c → c ≡ blocks frames ++ (g ∷ drop n c)
  cut_behind g tail c cut =
      let front : take n (blocks frames ++ (g ∷ tail)) ≡ (rest_text g) =
      ap (λ (l : List ℕ). take n l) (sym (append_assoc (blocks frames) (g ∷ []) tail)) ∙ take_at (rest_text g) tail n (text_length g) in
      let same : take n c ≡ take n (blocks frames ++ (g ∷ tail)) = ap (λ (l : List ℕ). take n l) (sym cut.front)
      ∙ take-take n (length c) (blocks frames ++ (g ∷ tail))
      (omega (arith, cut.no_shorter, n-is, length-append (blocks frames) (g ∷ tail))) in
      sym (take-append-drop n c) ∙ ap (λ (l : List ℕ). l ++ drop n c) (same ∙ front) ∙ append_assoc (blocks frames) (g ∷ []) (drop n c)

  pub cut_done : (g : ℕ) (tail : List ℕ) → take n (blocks frames ++ (g ∷ tail)) ≡ (rest_text g)
  cut_done g tail = ap (λ (l : List ℕ). take n l) (sym (append_assoc (blocks frames) (g ∷ []) tail)) ∙ take_at (rest_text g) tail n (text_length g)

-- ---- the shapes

abbrev IsPlace : List (List ℕ) → ℕ → Type 0
IsPlace frames n = n ≡ length (blocks frames) + 1

pub rest_shut : (frames : List (List ℕ)) (c : List ℕ) → IsRest frames c → IsShut frames c
rest_shut frames c s = (s.0, [], s.1, s.2)

pub shut_stands : (frames : List (List ℕ)) (c : List ℕ) → AllByRecursion IsFrame frames → IsShut frames c → StandsFor c frames
shut_stands frames c fit s = closed_stands frames s.0 s.1 c s.2 fit s.3

pub rest_stands : (frames : List (List ℕ)) (c : List ℕ) → AllByRecursion IsFrame frames → IsRest frames c → StandsFor c frames
rest_stands frames c fit s = shut_stands frames c fit (rest_shut frames c s)

pub ajar_stands : (frames : List (List ℕ)) (frame c : List ℕ) → AllByRecursion IsFrame frames → IsFrame frame → IsAjar frames frame c
    → IsBeforeOrAfter frames frame c
ajar_stands frames frame c fit one s = gate_stands frames frame s.0 c fit one s.1

pub held_ajar : (frames : List (List ℕ)) (frame c : List ℕ) → IsHeld frames frame c → IsAjar frames frame c
held_ajar frames frame c s = (s.0, s.2)

-- a write behind the closed gate, that a crash may cut short
pub staging : (frames : List (List ℕ)) (n k : ℕ) (d c : List ℕ) → IsPlace frames n → IsRest frames d → UnfinishedWrite n k d c → IsShut frames c
staging frames n k d c at s step = (s.0, drop n c, s.1, torn_behind frames n at s.0 k c (subst (λ (l : List ℕ). UnfinishedWrite n k l c) s.2 step))

pub staged : (frames : List (List ℕ)) (frame bytes : List ℕ) (n : ℕ) (d c : List ℕ) → IsPlace frames n → bytes ≡ framed frame
    → IsRest frames d → c ≡ written n bytes d → IsHeld frames frame c
staged frames frame bytes n d c at is s e = (
  s.0,
  s.1,
  e ∙ ap (λ (l : List ℕ). written n bytes l) s.2 ∙ written_behind frames n at s.0 bytes
      ∙ ap (λ (l : List ℕ). blocks frames ++ (s.0 ∷ l)) is,
)

-- a write of the gate, that a crash may cut short
pub swinging : (frames : List (List ℕ)) (frame : List ℕ) (n : ℕ) (d c : List ℕ) → IsPlace frames n → IsAjar frames frame d
    → UnfinishedWrite (n - 1) 1 d c → IsAjar frames frame c
swinging frames frame n d c at s step = (
  get_or c (n - 1) 0,
  torn_gate frames n at s.0 (framed frame) c (subst (λ (l : List ℕ). UnfinishedWrite (n - 1) 1 l c) s.1 step),
)

pub gate_is_open : (frames : List (List ℕ)) (frame : List ℕ) (n : ℕ) (d c : List ℕ) → IsPlace frames n → IsAjar frames frame d
    → c ≡ written (n - 1) (1 ∷ []) d → c ≡ text_of (frames ++ frame ∷ [])
gate_is_open frames frame n d c at s e =
    e ∙ ap (λ (l : List ℕ). written (n - 1) (1 ∷ []) l) s.1 ∙ written_gate frames n at s.0 1 (framed frame) ∙ opened frames frame

pub text_rests : (frames : List (List ℕ)) (c : List ℕ) → c ≡ text_of frames → IsRest frames c
text_rests frames c is = (0, λ z. absurd (omega (arith, z)), is)

pub gate_is_closed : (frames : List (List ℕ)) (frame : List ℕ) (n : ℕ) (d c : List ℕ) → IsPlace frames n → IsAjar frames frame d
    → c ≡ written (n - 1) (0 ∷ []) d → IsShut frames c
gate_is_closed frames frame n d c at s e = (
  0,
  framed frame,
  λ z. absurd (omega (arith, z)),
  e ∙ ap (λ (l : List ℕ). written (n - 1) (0 ∷ []) l) s.1 ∙ written_gate frames n at s.0 0 (framed frame),
)

-- a cut behind the closed gate, that a crash may cut short
pub cutting : (frames : List (List ℕ)) (n : ℕ) (d c : List ℕ) → IsPlace frames n → IsShut frames d → UnfinishedCut n d c → IsShut frames c
cutting frames n d c at s step = (s.0, drop n c, s.2, cut_behind frames n at s.0 s.1 c (subst (λ (l : List ℕ). UnfinishedCut n l c) s.3 step))

pub was_cut : (frames : List (List ℕ)) (n : ℕ) (d c : List ℕ) → IsPlace frames n → IsShut frames d → c ≡ take n d → IsRest frames c
was_cut frames n d c at s e = (s.0, s.2, e ∙ ap (λ (l : List ℕ). take n l) s.3 ∙ cut_done frames n at s.0 s.1)

-- the next gate stands behind the frame
pub next_place : (frames : List (List ℕ)) (frame : List ℕ) (n k : ℕ) → IsPlace frames n → k ≡ length (framed frame)
    → IsPlace (frames ++ frame ∷ []) (n + k)
next_place frames frame n k at is = omega (
  arith,
  at,
  is,
  ap length (opened frames frame),
  length-append (blocks frames) (1 ∷ framed frame),
  length-append (blocks (frames ++ frame ∷ [])) (0 ∷ []),
)
