-- A history stays sound.
use Rattle.std.proofs.Common.{◌≡◌, ◌⊎◌, inl, inr, ⊎_elim, refl, sym, ap, ◌∙◌, ℕ, ◌+◌, ◌-◌, ◌≤◌, min}
use Rattle.std.proofs.Common.{Bool, List, [], ◌∷◌, ◌++◌, length, take, drop, arith, append_assoc, length-append, length-drop}
use Rattle.std.proofs.lemmas.List.{append-nil, drop-append-le, drop_all, take_all}
use Rattle.std.proofs.Math.Seq.{take-append-add}
use Rattle.edge_mem.specs.Past.{Past, with_event}
use Rattle.edge_mem.specs.Events.{Event, Kept, Lost, State, run, first_state, next, changed, done, replay, base, content_of, loss_of}
use Rattle.edge_mem.specs.Steps.{event_of, with_sync, events, changes, Joins, EndsKept, Marked}
use Rattle.edge_mem.specs.Sound.{IsSound, state_of}
use Rattle.edge_mem.specs.Laws.{run_push, replay_join}
use Rattle.edge_mem.specs.declared.change.Step.{Step}
use Rattle.edge_mem.proofs.Marks.{events_push, changes_push}

pub length_changes : (log : List Step) → length (changes log) ≡ length log
length_changes [] = refl
length_changes (x ∷ log) = omega (arith, length_changes log)

pub joined : (log new : List Step) (e : Event) → Joins log e new → events new ≡ events log ++ e ∷ []
joined log new e j =
    ap events j.pushed ∙ events_push log j.step ∙ ap (λ (b : Bool). events log ++ event_of j.step.change ∷ with_sync b []) j.not_synced
    ∙ ap (λ (f : Event). events log ++ f ∷ []) j.is

joined_changes : (log new : List Step) (e : Event) (start : ℕ) → start ≤ length log → Joins log e new
    → changes (drop start new) ≡ changes (drop start log) ++ e ∷ []
joined_changes log new e start le j =
    ap (λ (l : List Step). changes (drop start l)) j.pushed ∙ ap changes (drop-append-le start log (j.step ∷ []) le)
    ∙ changes_push (drop start log) j.step ∙ ap (λ (f : Event). changes (drop start log) ++ f ∷ []) j.is

pub ended : (first : List ℕ) (es : List Event) → EndsKept es → (run (first_state first) es).changes ≡ []
unfolding run
ended first es (inl none) = ap (λ (l : List Event). (run (first_state first) l).changes) none
ended first es (inr p) = ap (λ (l : List Event). (run (first_state first) l).changes) p.1 ∙ ap (λ (s : State). s.changes) (run_push (first_state first) p.0 Kept)

pub view_then : (first : List ℕ) (log new : List Step) (e : Event) (h : Past) → record { first = first; events = events log } ≡ h
    → Joins log e new → record { first = first; events = events new } ≡ with_event h e
view_then first log new e h is j = ap (λ (es : List Event). record { first = first; events = es }) (joined log new e j)
    ∙ ap (λ (k : Past). with_event k e) is

module _ (first era bytes : List ℕ) (log : List Step) (start kept : ℕ) (sound : IsSound first era bytes log start kept) where
  abbrev s : State
  s = state_of first log

  state_then : (new : List Step) (e : Event) → events new ≡ events log ++ e ∷ [] → state_of first new ≡ next s e
  state_then new e is = ap (run (first_state first)) is ∙ run_push (first_state first) (events log) e

  pub changed_sound : (new : List Step) (e : Event) (content : List ℕ) → Joins log e new → next s e ≡ changed s e → content ≡ done e bytes
      → IsSound first era content new start kept
  changed_sound new e content j is content_is =
      let state_is : state_of first new ≡ changed s e = state_then new e (joined log new e j) ∙ is in
      record {
        era_is = sound.era_is ∙ sym (ap (λ (t : State). t.first) state_is);
        steps_are = joined_changes log new e start sound.begins j ∙ ap (λ (l : List Event). l ++ e ∷ []) sound.steps_are
            ∙ append_assoc s.kept s.changes (e ∷ []) ∙ sym (ap (λ (t : State). t.kept ++ t.changes) state_is);
        kept_is = sound.kept_is ∙ sym (ap (λ (t : State). length t.kept) state_is);
        bytes_are = content_is ∙ ap (done e) sound.bytes_are ∙ sym (replay_join s.changes (e ∷ []) (base s)) ∙ sym (ap content_of state_is);
        begins = omega (arith, sound.begins, ap length j.pushed, length-append log (j.step ∷ []));
      }

  count_is : (new : List Step) → Marked log new → length new - start ≡ length (s.kept ++ s.changes)
  count_is new m = omega (arith, m.len, length-drop start log, length_changes (drop start log), ap length sound.steps_are)

  pub synced_sound : (new : List Step) → Marked log new → IsSound first era bytes new start (length new - start)
  synced_sound new m = ⊎_elim noted was m.noted
    where
      noted : events new ≡ events log ++ Kept ∷ [] → IsSound first era bytes new start (length new - start)
      noted is =
          let state_is : state_of first new ≡ next s Kept = state_then new Kept is in
          record {
            era_is = sound.era_is ∙ sym (ap (λ (t : State). t.first) state_is);
            steps_are = m.same start ∙ sound.steps_are ∙ sym (append-nil (s.kept ++ s.changes)) ∙ sym (ap (λ (t : State). t.kept ++ t.changes) state_is);
            kept_is = count_is new m ∙ sym (ap (λ (t : State). length t.kept) state_is);
            bytes_are = sound.bytes_are ∙ sym (replay_join s.kept s.changes s.first) ∙ sym (ap content_of state_is);
            begins = omega (arith, sound.begins, m.len);
          }

      was : (events new ≡ events log) × EndsKept (events log) → IsSound first era bytes new start (length new - start)
      was p =
          let state_is : state_of first new ≡ s = ap (run (first_state first)) p.0 in
          let none : s.changes ≡ [] = ended first (events log) p.1 in
          record {
            era_is = sound.era_is ∙ sym (ap (λ (t : State). t.first) state_is);
            steps_are = m.same start ∙ sound.steps_are ∙ sym (ap (λ (t : State). t.kept ++ t.changes) state_is);
            kept_is = count_is new m ∙ ap (λ (l : List Event). length (s.kept ++ l)) none ∙ ap length (append-nil s.kept)
                ∙ sym (ap (λ (t : State). length t.kept) state_is);
            bytes_are = sound.bytes_are ∙ sym (ap content_of state_is);
            begins = omega (arith, sound.begins, m.len);
          }

  pub lost_sound : (new : List Step) (choice : ℕ) → Joins log (Lost choice) new → IsSound first (loss_of s choice) (loss_of s choice) new (length new) 0
  lost_sound new choice j =
      let state_is : state_of first new ≡ next s (Lost choice) = state_then new (Lost choice) (joined log new (Lost choice) j) in
      record {
        era_is = sym (ap (λ (t : State). t.first) state_is);
        steps_are = ap changes (drop_all (length new) new (omega arith)) ∙ sym (ap (λ (t : State). t.kept ++ t.changes) state_is);
        kept_is = sym (ap (λ (t : State). length t.kept) state_is);
        bytes_are = sym (ap content_of state_is);
        begins = omega arith;
      }

  pub loss_is : (choice : ℕ) → replay (take (kept + choice) (changes (drop start log))) era ≡ loss_of s choice
  loss_is choice =
      ap (λ (l : List ℕ). replay (take (kept + choice) (changes (drop start log))) l) sound.era_is
      ∙ ap (λ (l : List Event). replay (take (kept + choice) l) s.first) sound.steps_are
      ∙ ap (λ (k : ℕ). replay (take (k + choice) (s.kept ++ s.changes)) s.first) sound.kept_is
      ∙ ap (λ (l : List Event). replay l s.first) (take-append-add s.kept s.changes choice)
      ∙ replay_join s.kept (take choice s.changes) s.first

  -- a loss that undoes no change
  pub whole_loss : (choice : ℕ) → length log - start - kept ≤ choice → loss_of s choice ≡ bytes
  whole_loss choice le =
      let all : length s.changes ≤ choice = omega (
        arith,
        le,
        sound.kept_is,
        sound.begins,
        length-drop start log,
        length_changes (drop start log),
        ap length sound.steps_are,
        length-append s.kept s.changes,
      ) in
      ap (λ (l : List Event). replay l (base s)) (take_all choice s.changes all) ∙ sym sound.bytes_are

  pub kept_fits : kept ≤ length log - start
  kept_fits = omega (
    arith,
    sound.kept_is,
    sound.begins,
    length-drop start log,
    length_changes (drop start log),
    ap length sound.steps_are,
    length-append s.kept s.changes,
  )

-- how many are kept at most
pub take_capped : (es : List Event) (kept choice more : ℕ) → kept ≤ length es → more ≡ min choice (length es - kept)
    → take (kept + more) es ≡ take (kept + choice) es
take_capped es kept choice more le is = ⊎_elim all some cases
  where
    cases : (choice ≤ length es - kept) ⊎ (length es - kept ≤ choice)
    cases = grind arith

    all : choice ≤ length es - kept → take (kept + more) es ≡ take (kept + choice) es
    all p = let same : kept + more ≡ kept + choice = omega (arith, p, is) in ap (λ (k : ℕ). take k es) same

    some : length es - kept ≤ choice → take (kept + more) es ≡ take (kept + choice) es
    some p = take_all (kept + more) es (omega (arith, p, is, le)) ∙ sym (take_all (kept + choice) es (omega (arith, p, is, le)))
