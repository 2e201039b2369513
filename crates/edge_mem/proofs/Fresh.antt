-- A history in which nothing happened.
use Rattle.std.proofs.Common.{◌≡◌, refl, sym, ap, subst, ℕ, List, [], arith}
use Rattle.std.proofs.lemmas.List.{take_all}
use Rattle.edge_io.specs.Bays.{IsUntouched}
use Rattle.edge_mem.specs.Bays.{fresh as fresh_disk}
use Rattle.edge_mem.specs.Past.{Past, content}
use Rattle.edge_mem.specs.Seen.{disk_view}
use Rattle.edge_mem.specs.Events.{Event, run, first_state, image_of}
use Rattle.edge_mem.specs.Sound.{IsSound}
use Rattle.edge_mem.specs.declared.change.Step.{Step}

empty : (bytes : List ℕ) → IsSound bytes bytes bytes [] 0 0
unfolding run
empty bytes = record { era_is = refl; steps_are = refl; kept_is = refl; bytes_are = refl; begins = omega arith }

pub fresh : (first era bytes : List ℕ) (log : List Step) → first ≡ bytes → era ≡ bytes → log ≡ [] → IsSound first era bytes log 0 0
fresh first era bytes log p q r = subst (λ (l : List Step). IsSound first era bytes l 0 0) (sym r) (subst
    (λ (f : List ℕ). IsSound f era bytes [] 0 0) (sym p) (subst (λ (f : List ℕ). IsSound bytes f bytes [] 0 0) (sym q) (empty bytes)))

pub fresh_content : (h : Past) (bytes : List ℕ) → h ≡ record { first = bytes; events = [] } → content h ≡ bytes
unfolding run
fresh_content h bytes is = ap content is

-- the disk of a name that is new to a bay
pub fresh_untouched : IsUntouched disk_view fresh_disk
unfolding run
fresh_untouched = record {
  content = refl;
  size = refl;
  image = λ c is. is;
  since = λ t c left. subst (λ (l : List Event). image_of (run (first_state []) l) c) (take_all left.0 [] (omega arith)) left.3;
  losses = refl;
  arms = refl;
  armed = refl;
  faults = refl;
}
