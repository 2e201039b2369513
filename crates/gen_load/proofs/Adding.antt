-- Acts one after another.
use Rattle.std.proofs.Common.{◌≡◌, ℕ, ◌%◌, List, [], ◌∷◌, ◌++◌, refl, sym, ap, ◌∙◌, append-nil, append_assoc}
use Rattle.std.proofs.lemmas.Bool.{ne_eqb}
use Rattle.std.specs.Prelude.{◌+◌, Result, Ok, Err, OnOk, codes}
use Rattle.flex_fields.specs.declared.fault.NoMemory.{NoMemory}
use Rattle.session_script.specs.declared.event.Event.TheVariants.{Expire}
use Rattle.std.specs.List.{flat_map}
use Rattle.session_script.specs.Script.{line_of}
use Rattle.gen_load.specs.declared.counts.Counts.{Counts}
use Rattle.gen_load.specs.declared.script.Script.{Script}
use Rattle.gen_load.specs.Session.{Act, counted, events_of, each, moment_of}
use Rattle.gen_load.specs.Session.Act.{expires}
use Rattle.gen_load.specs.Scripts.{Adds, counted_from, lines_from}

pub lines_append : (counts : Counts) (xs ys : List Act) → lines_from counts (xs ++ ys) ≡ lines_from counts xs ++ lines_from (counted_from counts xs) ys
unfolding lines_from counted_from
lines_append counts [] ys = refl
lines_append counts (x ∷ xs) ys =
    ap (λ (l : List ℕ). flat_map line_of (events_of counts x) ++ l) (lines_append (counted counts x) xs ys)
    ∙ sym (append_assoc (flat_map line_of (events_of counts x)) (lines_from (counted counts x) xs) (lines_from (counted_from (counted counts x) xs) ys))

pub counted_append : (counts : Counts) (xs ys : List Act) → counted_from counts (xs ++ ys) ≡ counted_from (counted_from counts xs) ys
unfolding counted_from
counted_append counts [] ys = refl
counted_append counts (x ∷ xs) ys = counted_append (counted counts x) xs ys

pub adds_none : (a : Script) → Adds a a []
unfolding lines_from counted_from
adds_none a = record { text = sym (append-nil a.text); counts = refl }

pub adds_one : (a b : Script) (act : Act) → b.text ≡ a.text ++ flat_map line_of (events_of a.counts act) → b.counts ≡ counted a.counts act → Adds a b (act ∷ [])
unfolding lines_from counted_from
adds_one a b act text counts = record {
  text = text ∙ ap (λ (l : List ℕ). a.text ++ l) (sym (append-nil (flat_map line_of (events_of a.counts act))));
  counts = counts;
}

pub adds_then : (a b c : Script) (xs ys : List Act) → Adds a b xs → Adds b c ys → Adds a c (xs ++ ys)
adds_then a b c xs ys p q = record {
  text = q.text ∙ ap (λ (k : Counts). b.text ++ lines_from k ys) p.counts
      ∙ ap (λ (l : List ℕ). l ++ lines_from (counted_from a.counts xs) ys) p.text
      ∙ append_assoc a.text (lines_from a.counts xs) (lines_from (counted_from a.counts xs) ys)
      ∙ ap (λ (l : List ℕ). a.text ++ l) (sym (lines_append a.counts xs ys));
  counts = q.counts ∙ ap (λ (k : Counts). counted_from k ys) p.counts ∙ sym (counted_append a.counts xs ys);
}

-- where the number doesn't divide the round's
pub adds_no : (number round : ℕ) (a : Script) (acts : List Act) → (round % number ≡ 0 → ⊥) → Adds a a (each number round acts)
adds_no number round a acts h = rw (ne_eqb (round % number) 0 h) (adds_none a)

-- where it does
pub adds_each : (number round : ℕ) (a b : Script) (acts : List Act) (result : Result (Unit {0}) NoMemory) → round % number ≡ 0
    → OnOk result (Adds a b acts) → OnOk result (Adds a b (each number round acts))
adds_each number round a b acts result e p = rw e p

pub then_ok : (a b c : Script) (xs ys : List Act) (result : Result (Unit {0}) NoMemory) → Adds a b xs → OnOk result (Adds b c ys)
    → OnOk result (Adds a c (xs ++ ys))
then_ok a b c xs ys (Ok x) p q = adds_then a b c xs ys p q
then_ok a b c xs ys (Err e) p q = tt

-- an expiry is one line
pub expired : (counts : Counts) (before after : List ℕ) (result : Result (Unit {0}) NoMemory) (round : ℕ)
    → OnOk result (after ≡ before ++ line_of (Expire (codes "orders") 0 (moment_of round + 30000)))
    → OnOk result (Adds (record { counts = counts; text = before }) (record { counts = counts; text = after }) (expires round ∷ []))
expired counts before after (Ok x) round p = adds_one (record { counts = counts; text = before }) (record { counts = counts; text = after }) (expires round)
    (p ∙ ap (λ (l : List ℕ). before ++ l) (sym (append-nil (line_of (Expire (codes "orders") 0 (moment_of round + 30000)))))) refl
expired counts before after (Err e) round p = tt
