-- A content is read as one log, or is damaged at one place.
use Rattle.std.proofs.Common.{◌≡◌, ◌<◌, ℕ, List, [], ◌∷◌, ◌++◌, length, refl, sym, ap, subst, ◌∙◌, append_assoc, arith}
use Rattle.std.proofs.Common.{inl, inr, ⊎_elim}
use Rattle.std.proofs.lemmas.Bool.{cases_lt}
use Rattle.std.proofs.lemmas.List.{append-nil}
use Rattle.gate_journal.specs.Frames.{StandsFor, blocks}
use Rattle.gate_journal.proofs.Once.{not_both, once, place_once}
use Rattle.gate_journal.proofs.Total.{text_or_damaged}
use Rattle.part_log.specs.Starts.{Log, LogWrite, with_write}
use Rattle.part_log.specs.Logs.{IsAllowed, IsBadFrames, IsLogText, IsNoLogText, Lead, frame_of, frames_of, no_log}
use Rattle.part_log.proofs.Parts.{head_of, map_parted, tail_of}
use Rattle.part_log.proofs.Rising.{sound_none}
use Rattle.part_log.proofs.Writes.{frames_more, lead_more, lead_once, lead_parts}

-- ---- a log has no frame that can't stand there

pub bad_none : (frames : List (List ℕ)) (place : ℕ) (writes : List LogWrite) (log : Log) → IsBadFrames frames place → Lead no_log writes log → frames ≡ frames_of writes → ⊥
bad_none frames place writes log bad leads e =
    let r = map_parted frame_of writes (frames_of bad.before) bad.frame bad.after (sym e ∙ bad.is) in
    let mid = lead_parts no_log r.front r.x r.back log (subst (λ (ws : List LogWrite). Lead no_log ws log) r.whole leads) in
    let same : mid.0 ≡ bad.log = lead_once no_log sound_none r.front bad.before mid.0 bad.log mid.1 bad.leads r.fronts in
    bad.none r.x r.same (subst (λ (l : Log). IsAllowed l r.x) same mid.2)

-- ---- and at most one place

same_front : {A : Type 0} (fs gs ds bs : List A) → length fs ≡ length gs → fs ++ ds ≡ gs ++ bs → fs ≡ gs
unfolding head_of tail_of
same_front [] [] ds bs len e = refl
same_front [] (g ∷ gs) ds bs len e = absurd (omega (arith, len))
same_front (f ∷ fs) [] ds bs len e = absurd (omega (arith, len))
same_front (f ∷ fs) (g ∷ gs) ds bs len e =
    let h = ap (head_of f) e in
    let t = same_front fs gs ds bs (omega (arith, len)) (ap tail_of e) in
    λ i. h i ∷ t i

longer : {A : Type 0} (fs gs ds bs : List A) (x : A) → length fs < length gs → fs ++ (x ∷ ds) ≡ gs ++ bs → (cs : List A) × (gs ≡ fs ++ (x ∷ cs))
unfolding head_of tail_of
longer fs [] ds bs x lt e = absurd (omega (arith, lt))
longer [] (g ∷ gs) ds bs x lt e = let h = sym (ap (head_of x) e) in (gs, λ i. h i ∷ gs)
longer (f ∷ fs) (g ∷ gs) ds bs x lt e =
    let h = sym (ap (head_of f) e) in
    let r = longer fs gs ds bs x (omega (arith, lt)) (ap tail_of e) in
    (r.0, λ i. h i ∷ r.1 i)

shorter_none : (frames : List (List ℕ)) (p q : ℕ) (bad : IsBadFrames frames p) (other : IsBadFrames frames q) → length (frames_of bad.before) < length (frames_of other.before) → ⊥
shorter_none frames p q bad other lt =
    let r = longer (frames_of bad.before) (frames_of other.before) bad.after (other.frame ∷ other.after) bad.frame lt (sym bad.is ∙ other.is) in
    bad_none (frames_of other.before) p other.before other.log
    (record { before = bad.before; log = bad.log; frame = bad.frame; after = r.0; is = r.1; leads = bad.leads; at = bad.at; none = bad.none }) other.leads refl

pub one_place : (frames : List (List ℕ)) (p q : ℕ) → IsBadFrames frames p → IsBadFrames frames q → p ≡ q
one_place frames p q bad other =
    ⊎_elim (λ lt. absurd (shorter_none frames p q bad other lt))
    (λ le. ⊎_elim (λ gt. absurd (shorter_none frames q p other bad gt))
    (λ ge. bad.at ∙ ap (λ l. length (blocks l)) (same_front (frames_of bad.before) (frames_of other.before) (bad.frame ∷ bad.after) (other.frame ∷ other.after) (omega (arith, le, ge)) (sym bad.is ∙ other.is)) ∙ sym other.at)
    (cases_lt (length (frames_of other.before)) (length (frames_of bad.before))))
    (cases_lt (length (frames_of bad.before)) (length (frames_of other.before)))

module _ (c : List ℕ) where
  pub text_sound : (log : Log) (place : ℕ) → IsLogText c log → IsNoLogText c place → ⊥
  text_sound log place text (inl damaged) = not_both c (frames_of text.writes) place text.frames damaged
  text_sound log place text (inr bad) = bad_none bad.0 place text.writes log bad.2 text.leads (once c bad.0 (frames_of text.writes) bad.1 text.frames)

  pub place_once_more : (p q : ℕ) → IsNoLogText c p → IsNoLogText c q → p ≡ q
  place_once_more p q (inl d) (inl e) = place_once c p q d e
  place_once_more p q (inl d) (inr b) = absurd (not_both c b.0 p b.1 d)
  place_once_more p q (inr b) (inl d) = absurd (not_both c b.0 q b.1 d)
  place_once_more p q (inr b) (inr d) = one_place d.0 p q (subst (λ fs. IsBadFrames fs p) (once c b.0 d.0 b.1 d.1) b.2) d.2

-- ---- and there is no third case

module _ (frames : List (List ℕ)) (none : (writes : List LogWrite) (log : Log) → Lead no_log writes log → frames ≡ frames_of writes → ⊥) (bad : (place : ℕ) → IsBadFrames frames place → ⊥) where
  some_read : (rest : List (List ℕ)) (before : List LogWrite) (log : Log) → Lead no_log before log → frames ≡ frames_of before ++ rest → ⊥
  some_read [] before log leads is = none before log leads (is ∙ append-nil (frames_of before))
  some_read (f ∷ rest) before log leads is = bad (length (blocks (frames_of before))) (record {
    before = before;
    log = log;
    frame = f;
    after = rest;
    is = is;
    leads = leads;
    at = refl;
    none = λ w e a. some_read rest (before ++ w ∷ []) (with_write log w) (lead_more no_log before log w leads a)
        (is ∙ ap (λ x. frames_of before ++ (x ∷ rest)) (sym e) ∙ sym (append_assoc (frames_of before) (frame_of w ∷ []) rest) ∙ ap (λ l. l ++ rest) (sym (frames_more before w)));
  })

pub no_third : (c : List ℕ) → ((log : Log) → IsLogText c log → ⊥) → ((place : ℕ) → IsNoLogText c place → ⊥) → ⊥
no_third c none bad = ⊎_elim
    (λ t. some_read t.0 (λ writes log leads e. none log (record { writes = writes; frames = subst (StandsFor c) e t.1; leads = leads })) (λ place b. bad place (inr (t.0, t.1, b)))
    t.0 [] no_log refl refl)
    (λ d. bad d.0 (inl d.1)) (text_or_damaged c)
