-- A journal that isn't live: what a crash leaves of it while it is written and cleared.
use Rattle.std.proofs.Common.{◌≡◌, ◌⊎◌, inl, inr, ⊎_elim, refl, sym, ap, ◌∙◌, subst, arith, ℕ, ◌+◌, List, [], ◌∷◌, ◌++◌, length, drop, Option, Some, None}
use Rattle.std.proofs.lemmas.Bool.{cases_eq}
use Rattle.edge_io.specs.Views.{DiskView}
use Rattle.gate_journal.specs.Frames.{IsRest, IsShut, IsWithPending, IsBeforeOrAfter, StandsFor, blocks, behind_gate, framed}
use Rattle.gate_journal.specs.Journals.{Stands, Mends}
use Rattle.gate_journal.specs.Clearing.{IsAsBefore, IsBare, IsClosed, IsLone, IsPartlyCleared, IsShort, IsTouched}
use Rattle.gate_journal.specs.declared.writer.Writer.{Writer}
use Rattle.gate_journal.specs.declared.writer.Mending.{Mending}
use Rattle.gate_journal.specs.declared.writer.Mending.TheVariants.{Nothing, Behind, Gate}
use Rattle.gate_journal.proofs.Lone.{not_both, short, touched_short}
use Rattle.gate_journal.proofs.Repairs.{none as no_blocks}
use Rattle.gate_journal.proofs.Shaped.{at_mending}
use Rattle.gate_journal.proofs.Shapes.{ajar_stands, gate_stands, rest_stands, shut_stands}
use Rattle.gate_journal.specs.Spares.{HasFrames, IsLoose, IsSpare}

module _ (P : List (List ℕ) → Type 0) where
  -- with one more or without
  pub either_way : (frames : List (List ℕ)) (frame c : List ℕ) → P frames → P (frames ++ frame ∷ []) → IsBeforeOrAfter frames frame c → HasFrames P c
  either_way frames frame c p q (inl h) = (frames, h, p)
  either_way frames frame c p q (inr h) = (frames ++ frame ∷ [], h, q)

  pub with_pending : (frames : List (List ℕ)) (pending : Option (List ℕ)) (c : List ℕ) → P frames → ((frame : List ℕ) → pending ≡ Some frame → P (frames ++ frame ∷ []))
      → IsWithPending frames pending c → HasFrames P c
  with_pending frames None c p q h = (frames, h, p)
  with_pending frames (Some frame) c p q h = either_way frames frame c p (q frame refl) h

  -- an open gate stands in front
  opens : (f : List ℕ) (fs : List (List ℕ)) (rest c : List ℕ) → c ≡ blocks (f ∷ fs) ++ rest → HasFrames P c → IsLoose P c
  opens f fs rest c is h = inr (1, (behind_gate f ++ blocks fs) ++ rest, is, subst (HasFrames P) is h)

  module _ {D : Type 0} (seen : D → DiskView) (journal : Writer D) where
    loose_at : (m : Mending) (frames : List (List ℕ)) (pending : Option (List ℕ)) → Mends seen journal m frames pending → (m ≡ Behind → frames ≡ [] → ⊥)
        → P frames → ((frame : List ℕ) → pending ≡ Some frame → P (frames ++ frame ∷ []))
        → (c : List ℕ) → (seen journal.disk).image c → IsLoose P c
    loose_at Nothing [] pending h not p q c now = inl (let is = ap length (h.1.each c now).2 in omega (arith, is))
    loose_at Nothing (f ∷ fs) pending h not p q c now =
        let s = h.1.each c now in opens f fs (s.0 ∷ []) c s.2 (f ∷ fs, rest_stands (f ∷ fs) c h.1.fit s, p)
    loose_at Behind [] pending h not p q c now = absurd (not refl refl)
    loose_at Behind (f ∷ fs) pending h not p q c now =
        let s = h.each c now in opens f fs (s.0 ∷ s.1) c s.3 (f ∷ fs, shut_stands (f ∷ fs) c h.fit s, p)
    loose_at Gate [] pending h not p q c now =
        let s = h.3.each c now in
        inr (s.0, framed h.0, s.1, either_way [] h.0 (1 ∷ framed h.0) p (q h.0 h.1) (gate_stands [] h.0 1 (1 ∷ framed h.0) tt h.2 refl))
    loose_at Gate (f ∷ fs) pending h not p q c now =
        let s = h.3.each c now in
        opens f fs (s.0 ∷ framed h.0) c s.1 (either_way (f ∷ fs) h.0 c p (q h.0 h.1) (ajar_stands (f ∷ fs) h.0 c h.3.fit h.2 s))

    end_at : (m : Mending) (frames : List (List ℕ)) (pending : Option (List ℕ)) → Mends seen journal m frames pending → journal.end ≡ length (blocks frames) + 1
    end_at Nothing frames pending h = h.1.end
    end_at Behind frames pending h = h.end
    end_at Gate frames pending h = h.3.end

    -- a journal that a crash leaves with such frames
    pub spare_by : (frames : List (List ℕ)) (pending : Option (List ℕ)) → Stands seen journal frames pending → P []
        → P frames → ((frame : List ℕ) → pending ≡ Some frame → P (frames ++ frame ∷ [])) → IsSpare seen journal P
    spare_by frames pending h zero p q =
        let end = end_at journal.mending frames pending h.mends in
        record {
          none = zero;
          bare = record {
            closed = λ bare c now.
                let none : frames ≡ [] = no_blocks frames (omega (arith, end, bare.end)) in
                let shut = (at_mending seen journal journal.mending Behind frames pending bare.behind h.mends).each c now in
                subst (λ (fs : List (List ℕ)). IsShut fs c) none shut;
            short = λ lone c now.
                let none : frames ≡ [] = no_blocks frames (omega (arith, end, lone.end)) in
                let rest = subst (λ (fs : List (List ℕ)). IsRest fs c) none
                ((at_mending seen journal journal.mending Nothing frames pending lone.nothing h.mends).1.each c now) in
                let is = ap length rest.2 in omega (arith, is);
          };
          loose = λ not c now. loose_at journal.mending frames pending h.mends
              (λ is none. not (record { end = end ∙ ap (λ (fs : List (List ℕ)). length (blocks fs) + 1) none; behind = is })) p q c now;
          each = λ c now. with_pending frames pending c p q (h.images c now);
        }

    -- closed, with any bytes behind it
    pub spare_shut : IsBare journal → IsClosed (seen journal.disk).image → P [] → IsSpare seen journal P
    spare_shut bare closed zero = record {
      none = zero;
      bare = record { closed = λ _. closed; short = λ lone. absurd (not_both journal.mending bare.behind lone.nothing) };
      loose = λ not c now. absurd (not bare);
      each = λ c now. let s = closed c now in ([], inr (s.0, s.1, s.2, s.3, tt), zero);
    }

frame_of : Option (List ℕ) → List ℕ
frame_of None = []
frame_of (Some frame) = frame

none_is : (frame : List ℕ) → ◌≡◌ {A = Option (List ℕ)} None (Some frame) → ⊥
none_is frame e = absurd cc

-- with none that is pending
pub spare_rest : {D : Type 0} (seen : D → DiskView) (journal : Writer D) (P : List (List ℕ) → Type 0) (frames : List (List ℕ)) → P [] → P frames
    → Stands seen journal frames None → IsSpare seen journal P
spare_rest seen journal P frames zero p s = spare_by P seen journal frames None s zero p (λ f e. absurd (none_is f e))

-- with a frame more that is pending, or without
pub spare_either : {D : Type 0} (seen : D → DiskView) (journal : Writer D) (P : List (List ℕ) → Type 0) (frames : List (List ℕ)) (frame : List ℕ) → P [] → P frames
    → P (frames ++ frame ∷ []) → Stands seen journal frames None ⊎ Stands seen journal frames (Some frame) → IsSpare seen journal P
unfolding frame_of
spare_either seen journal P frames frame zero p q (inl s) = spare_rest seen journal P frames zero p s
spare_either seen journal P frames frame zero p q (inr s) =
    spare_by P seen journal frames (Some frame) s zero p (λ f e. let same : frame ≡ f = ap frame_of e in subst (λ (x : List ℕ). P (frames ++ x ∷ [])) same q)

-- what has P has Q too
pub spare_as : {D : Type 0} (seen : D → DiskView) (journal : Writer D) (P Q : List (List ℕ) → Type 0) → ((fs : List (List ℕ)) → P fs → Q fs) → IsSpare seen journal P → IsSpare seen journal Q
spare_as seen journal P Q f h = record {
  none = f [] h.none;
  bare = h.bare;
  loose = λ not c now. ⊎_elim (λ le. inl le) (λ s. inr (s.0, s.1, s.2, (s.3.0, s.3.1, f s.3.0 s.3.2))) (h.loose not c now);
  each = λ c now. let s = h.each c now in (s.0, s.1, f s.0 s.2);
}

-- ---- while the first gate is written

module _ (P : List (List ℕ) → Type 0) (zero : P []) where
  with_first : (gate : ℕ) (tail : List ℕ) → HasFrames P (1 ∷ tail) → HasFrames P (gate ∷ tail)
  with_first gate tail h = elim (cases_eq gate 1) [
    | inl is ↦ subst (λ (k : ℕ). HasFrames P (k ∷ tail)) (sym is) h
    | inr not ↦ ([], inr (gate, tail, not, refl, tt), zero)
  ]

  other_loose : (c d : List ℕ) → drop 1 c ≡ drop 1 d → IsLoose P d → IsLoose P c
  other_loose c d same (inl le) = inl (short c d le same)
  other_loose [] d same (inr s) = inl (omega arith)
  other_loose (x ∷ c) d same (inr s) =
      let is : c ≡ s.1 = same ∙ ap (drop 1) s.2 in
      inr (x, c, refl, subst (λ (t : List ℕ). HasFrames P (1 ∷ t)) (sym is) s.3)

  loose_frames : (c : List ℕ) → IsLoose P c → HasFrames P c
  loose_frames c (inl le) = ([], inl (le, refl), zero)
  loose_frames c (inr s) = subst (HasFrames P) (sym s.2) (with_first s.0 s.1 s.3)

  module _ {D : Type 0} (seen : D → DiskView) (journal : Writer D) (h : IsSpare seen journal P) where
    pub touched : (c : List ℕ) → IsTouched journal (seen journal.disk).image c → HasFrames P c
    touched c t = elim t.2 [
      | inl is ↦ subst (HasFrames P) (sym is) (h.each t.0 t.1)
      | inr far ↦ loose_frames c (other_loose c t.0 far.1 (h.loose far.0 t.0 t.1))
    ]

    module _ (new : Writer D) (is : IsAsBefore journal new) where
      was : IsBare new → IsBare journal
      was b = record { end = sym (ap (λ (w : Writer D). w.end) is) ∙ b.end; behind = sym (ap (λ (w : Writer D). w.mending) is) ∙ b.behind }

      was_lone : IsLone new → IsLone journal
      was_lone b = record { end = sym (ap (λ (w : Writer D). w.end) is) ∙ b.end; nothing = sym (ap (λ (w : Writer D). w.mending) is) ∙ b.nothing }

      stays : IsBare journal → IsBare new
      stays b = record { end = ap (λ (w : Writer D). w.end) is ∙ b.end; behind = ap (λ (w : Writer D). w.mending) is ∙ b.behind }

      pub spare_touched : ((c : List ℕ) → (seen new.disk).image c → IsTouched journal (seen journal.disk).image c) → IsSpare seen new P
      spare_touched touch = record {
        none = zero;
        bare = record {
          closed = λ b c now. let t = touch c now in elim t.2 [
            | inl same ↦ subst (IsShut []) (sym same) (h.bare.closed (was b) t.0 t.1)
            | inr far ↦ absurd (far.0 (was b))
          ];
          short = λ lone c now. touched_short journal (seen journal.disk).image (h.bare.short (was_lone lone)) c (touch c now);
        };
        loose = λ not c now. let t = touch c now in elim t.2 [
          | inl same ↦ subst (IsLoose P) (sym same) (h.loose (λ b. not (stays b)) t.0 t.1)
          | inr far ↦ other_loose c t.0 far.1 (h.loose far.0 t.0 t.1)
        ];
        each = λ c now. touched c (touch c now);
      }

    -- the first gate was closed, and what was behind it is gone for any frames
    pub spare_closed : (Q : List (List ℕ) → Type 0) → Q [] → (new : Writer D) → IsBare new ⊎ (IsLone journal × IsAsBefore journal new)
        → IsClosed (seen new.disk).image → ((c : List ℕ) → (seen new.disk).image c → IsTouched journal (seen journal.disk).image c) → IsSpare seen new Q
    spare_closed Q empty new (inl bare) closed touch = spare_shut Q seen new bare closed empty
    spare_closed Q empty new (inr l) closed touch =
        let few : IsShort (seen new.disk).image = λ c now. touched_short journal (seen journal.disk).image (h.bare.short l.0) c (touch c now) in
        record {
          none = empty;
          bare = record { closed = λ _. closed; short = λ _. few };
          loose = λ not c now. inl (few c now);
          each = λ c now. ([], inl (few c now, refl), empty);
        }

    -- clearing failed
    pub spare_partly : (new : Writer D) → IsPartlyCleared seen journal new → IsSpare seen new P
    spare_partly new (inl p) = spare_touched new p.0 p.1
    spare_partly new (inr p) = spare_shut P seen new p.0 p.1 zero

    -- at each moment of clearing
    pub clearing : (c : List ℕ) → IsTouched journal (seen journal.disk).image c ⊎ StandsFor c [] → HasFrames P c
    clearing c (inl t) = touched c t
    clearing c (inr s) = ([], s, zero)
