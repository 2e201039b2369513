-- The laws of a disk in memory.
use Rattle.std.specs.Prelude.{◌≡◌, ◌⊎◌, ℕ, ◌+◌, ◌≤◌, ◌<◌, min, max, List, []}
use Rattle.std.specs.Prelude.{◌∷◌, ◌++◌, length, take, drop, if◌then◌else◌, nat_lt, true, false, Bool, Some}
use Rattle.std.proofs.Common.{inl, inr, ⊎_elim, refl, sym, ap, ◌∙◌, subst, arith, append_assoc, length-append, length-drop}
use Rattle.std.proofs.lemmas.List.{take_at, drop_at, take_all, length-take}
use Rattle.edge_io.specs.Disk.{written, UnfinishedWrite, UnfinishedCut}
use Rattle.edge_mem.specs.Events.{Event, Wrote, CutTo, Kept, Lost, State, done, replay, LeavesBy, IsImage, base, content_of, image_of, changed, next}
use Rattle.edge_mem.specs.Events.{run, first_state}
use Rattle.edge_mem.specs.Past.{Past, state, content, image, since}

-- ---- a change

pub length_written : (at : ℕ) (bytes c : List ℕ) → at ≤ length c → length (written at bytes c) ≡ max (length c) (at + length bytes)
length_written at bytes c le = omega (
  arith,
  length-take at c,
  length-append (take at c) (bytes ++ drop (at + length bytes) c),
  length-append bytes
      (drop (at + length bytes) c),
  length-drop (at + length bytes) c,
  le,
)

pub torn_written : (at : ℕ) (bytes c : List ℕ) → at ≤ length c → UnfinishedWrite at (length bytes) c (written at bytes c)
torn_written at bytes c le = record {
  before = take_at (take at c) (bytes ++ drop (at + length bytes) c) at (omega (arith, length-take at c, le));
  behind =
      ap (λ (l : List ℕ). drop (at + length bytes) l) (sym (append_assoc (take at c) bytes (drop (at + length bytes) c)))
      ∙ drop_at (take at c ++ bytes) (drop (at + length bytes) c) (at + length bytes) (omega (arith, le, length-append (take at c) bytes, length-take at c));
  no_shorter = omega (arith, length_written at bytes c le);
  no_longer = omega (arith, length_written at bytes c le);
}

pub torn_same : (at n : ℕ) (c : List ℕ) → UnfinishedWrite at n c c
torn_same at n c = record { before = refl; behind = refl; no_shorter = omega arith; no_longer = omega arith }

pub cut_same : (n : ℕ) (c : List ℕ) → UnfinishedCut n c c
cut_same n c = record { no_shorter = omega arith; front = take_all (length c) c (omega arith) }

pub cut_done : (n : ℕ) (c : List ℕ) → UnfinishedCut n c (take n c)
cut_done n c = record { no_shorter = omega (arith, length-take n c); front = ap (λ (k : ℕ). take k c) (length-take n c) ∙ take_min n c }
  where
    take_min : (n : ℕ) (c : List ℕ) → take (min n (length c)) c ≡ take n c
    take_min n c = ⊎_elim (λ le. ap (λ (k : ℕ). take k c) (omega (arith, le)))
        (λ gt. take_all _ c (omega (arith, gt)) ∙ sym (take_all n c (omega (arith, gt)))) (cases n c)
      where
        cases : (n : ℕ) (c : List ℕ) → (n ≤ length c) ⊎ (length c < n)
        cases n c = grind arith

pub leaves_same : (e : Event) (c : List ℕ) → LeavesBy e c c
leaves_same (Wrote at bytes) c = torn_same at (length bytes) c
leaves_same (CutTo n) c = cut_same n c
leaves_same Kept c = refl
leaves_same (Lost choice) c = refl

-- ---- changes

abbrev pub Fits : List Event → List ℕ → Type 0
Fits [] c = Unit {0}
Fits (Wrote at bytes ∷ es) c = (at ≤ length c) × Fits es (written at bytes c)
Fits (CutTo n ∷ es) c = Fits es (take n c)
Fits (Kept ∷ es) c = Fits es c
Fits (Lost choice ∷ es) c = Fits es c

pub replay_join : (es fs : List Event) (c : List ℕ) → replay (es ++ fs) c ≡ replay fs (replay es c)
replay_join [] fs c = refl
replay_join (e ∷ es) fs c = replay_join es fs (done e c)

pub image_join : (es fs : List Event) (a b c : List ℕ) → IsImage es a b → IsImage fs b c → IsImage (es ++ fs) a c
image_join [] fs a b c p q = subst (λ (l : List ℕ). IsImage fs l c) p q
image_join (e ∷ es) fs a b c p q = (p.0, p.1, image_join es fs p.0 b c p.2 q)

pub image_split : (es fs : List Event) (a c : List ℕ) → IsImage (es ++ fs) a c → (b : List ℕ) × IsImage es a b × IsImage fs b c
image_split [] fs a c p = (a, refl, p)
image_split (e ∷ es) fs a c p = let q = image_split es fs p.0 c p.2 in (q.0, (p.0, p.1, q.1), q.2)

pub image_same : (es : List Event) (c : List ℕ) → IsImage es c c
image_same [] c = refl
image_same (e ∷ es) c = (c, leaves_same e c, image_same es c)

pub fits_push : (es : List Event) (e : Event) (c : List ℕ) → Fits es c → Fits (e ∷ []) (replay es c) → Fits (es ++ e ∷ []) c
fits_push [] e c p q = q
fits_push (Wrote at bytes ∷ es) e c p q = (p.0, fits_push es e (written at bytes c) p.1 q)
fits_push (CutTo n ∷ es) e c p q = fits_push es e (take n c) p q
fits_push (Kept ∷ es) e c p q = fits_push es e c p q
fits_push (Lost choice ∷ es) e c p q = fits_push es e c p q

pub fits_front : (es fs : List Event) (c : List ℕ) → Fits (es ++ fs) c → Fits es c
fits_front [] fs c p = tt
fits_front (Wrote at bytes ∷ es) fs c p = (p.0, fits_front es fs (written at bytes c) p.1)
fits_front (CutTo n ∷ es) fs c p = fits_front es fs (take n c) p
fits_front (Kept ∷ es) fs c p = fits_front es fs c p
fits_front (Lost choice ∷ es) fs c p = fits_front es fs c p

pub replay_is_image : (es : List Event) (c : List ℕ) → Fits es c → IsImage es c (replay es c)
replay_is_image [] c p = refl
replay_is_image (Wrote at bytes ∷ es) c p = (written at bytes c, torn_written at bytes c p.0, replay_is_image es (written at bytes c) p.1)
replay_is_image (CutTo n ∷ es) c p = (take n c, cut_done n c, replay_is_image es (take n c) p)
replay_is_image (Kept ∷ es) c p = (c, refl, replay_is_image es c p)
replay_is_image (Lost choice ∷ es) c p = (c, refl, replay_is_image es c p)

-- ---- what happened

pub run_push : (s : State) (es : List Event) (e : Event) → run s (es ++ e ∷ []) ≡ next (run s es) e
unfolding run
run_push s [] e = refl
run_push s (f ∷ es) e = run_push (next s f) es e

pub next_wrote : (s : State) (at : ℕ) (bytes : List ℕ) → at ≤ length (content_of s) → next s (Wrote at bytes) ≡ changed s (Wrote at bytes)
next_wrote s at bytes le = let no : nat_lt (length (content_of s)) at ≡ false = grind (arith, le) in
    ap (λ (b : Bool). if b then s else changed s (Wrote at bytes)) no

abbrev pub StateFits : State → Type 0
StateFits s = Fits s.changes (base s)

pub next_fits : (s : State) (e : Event) → StateFits s → StateFits (next s e)
next_fits s (Wrote at bytes) p = ⊎_elim
    (λ yes. subst StateFits (sym (ap (λ (b : Bool). if b then s else changed s (Wrote at bytes)) yes)) p)
    (λ no. subst StateFits (sym (ap (λ (b : Bool). if b then s else changed s (Wrote at bytes)) no))
    (fits_push s.changes (Wrote at bytes) (base s) p (grind (arith, no), tt)))
    (cases (nat_lt (length (content_of s)) at))
  where
    cases : (b : Bool) → (b ≡ true) ⊎ (b ≡ false)
    cases true = inl refl
    cases false = inr refl
next_fits s (CutTo n) p = fits_push s.changes (CutTo n) (base s) p tt
next_fits s Kept p = tt
next_fits s (Lost choice) p = tt

pub run_fits : (s : State) (es : List Event) → StateFits s → StateFits (run s es)
unfolding run
run_fits s [] p = p
run_fits s (e ∷ es) p = run_fits (next s e) es (next_fits s e p)

-- ---- laws

pub content_there : (h : Past) → image h (content h)
content_there h = let s = state h in replay_is_image s.changes (base s) (run_fits (first_state h.first) h.events tt)

pub content_is_image : (h : Past) (c : List ℕ) → Some (content h) ≡ Some c → image h c × (length (content h) ≡ length c)
content_is_image h c told = let e : content h ≡ c = cc in (subst (image h) e (content_there h), ap length e)

at_now : (h : Past) (m : ℕ) → length h.events ≤ m → run (first_state h.first) (take m h.events) ≡ state h
at_now h m le = ap (run (first_state h.first)) (take_all m h.events le)

pub counts_now : (h : Past) (t : ℕ) (c : List ℕ) → t ≤ length h.events → image h c → since h t c
counts_now h t c le now = (length h.events, le, omega arith, subst (λ (s : State). image_of s c) (sym (at_now h (length h.events) (omega arith))) now)

pub only_now : (h : Past) (c : List ℕ) → since h (length h.events) c → image h c
only_now h c left = subst (λ (s : State). image_of s c) (at_now h left.0 left.1) left.3
