-- The names of disks: which of them have a log.
use Rattle.std.proofs.Common.{◌≡◌, ◌++◌, arith, refl, sym, ap, ◌∙◌, ℕ, List, [], ◌∷◌}
use Rattle.edge_io.specs.Names.{disk_word, hosted_name, number_word}
use Rattle.edge_io.specs.declared.name.DiskPlace.{DiskPlace}
use Rattle.edge_io.specs.declared.name.DiskPlace.TheVariants.{Log, StateA, StateB}
use Rattle.broker_model.specs.Hosted.{Hosted, IsLogName, first_of, log_of, second_of, state_a, state_b}

abbrev last_or : ℕ → List ℕ → ℕ
last_or x [] = x
last_or x (y ∷ ys) = last_or y ys

last_behind : (x : ℕ) (front : List ℕ) (y : ℕ) (ys : List ℕ) → last_or x (front ++ y ∷ ys) ≡ last_or y ys
last_behind x [] y ys = refl
last_behind x (z ∷ front) y ys = last_behind z front y ys

-- the last byte of a disk's name is that of the word of its place
ends_so : (topic : List ℕ) (number : ℕ) (place : DiskPlace) → last_or 0 (hosted_name topic number place) ≡ last_or 47 (disk_word place)
ends_so topic number place =
    last_behind 0 topic 47 (number_word number ++ (47 ∷ disk_word place)) ∙ last_behind 47 (number_word number) 47 (disk_word place)

log_end : (name : List ℕ) → IsLogName name → last_or 0 name ≡ 103
log_end name log = ap (last_or 0) log.2 ∙ ends_so log.0 log.1 Log

pub log_name : (h : Hosted) → IsLogName (log_of h)
log_name h = (h.topic, h.conf.part, refl)

-- no disk of states has one
pub first_not : (h : Hosted) → IsLogName (first_of h) → ⊥
first_not h log = let bad : ◌≡◌ {A = ℕ} 97 103 = sym (ends_so h.topic h.conf.part StateA) ∙ log_end (first_of h) log in omega (arith, bad)

pub second_not : (h : Hosted) → IsLogName (second_of h) → ⊥
second_not h log = let bad : ◌≡◌ {A = ℕ} 98 103 = sym (ends_so h.topic h.conf.part StateB) ∙ log_end (second_of h) log in omega (arith, bad)

pub state_a_not : IsLogName state_a → ⊥
state_a_not log = let bad : ◌≡◌ {A = ℕ} 97 103 = log_end state_a log in omega (arith, bad)

pub state_b_not : IsLogName state_b → ⊥
state_b_not log = let bad : ◌≡◌ {A = ℕ} 98 103 = log_end state_b log in omega (arith, bad)
