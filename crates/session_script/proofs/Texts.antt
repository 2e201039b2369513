-- Fronts of a text that was written in parts.
use Rattle.std.proofs.Common.{List, ℕ, [], ◌++◌, Option, Some, None, refl, sym, ap, ◌∙◌, append_assoc, append-nil}
use Rattle.std.specs.Io.KnownBytes.{Appends, Keeps}
use Rattle.std.proofs.KnownBytes.{Appends-trans}
use Rattle.edge_io.specs.Streams.{AppendsFront}

abbrev Held : Type 0
Held = Option (List ℕ)

pub appends_none : (a : Held) → Appends a a []
appends_none None = tt
appends_none (Some a) = sym (append-nil a)

pub keeps_appends : (a b : Held) → Keeps a b → Appends a b []
keeps_appends None b k = tt
keeps_appends (Some a) None k = absurd k
keeps_appends (Some a) (Some b) k = k ∙ sym (append-nil a)

pub keeps_same : (a : Held) → Keeps a a
keeps_same None = tt
keeps_same (Some a) = refl

pub front_nothing : (a b : Held) (text : List ℕ) → Keeps a b → AppendsFront a b text text
front_nothing a b text k = record { front = []; parts = refl; grown = keeps_appends a b k }

pub front_behind : (a b c : Held) (text more rest : List ℕ) → Appends a b text → AppendsFront b c more rest → AppendsFront a c (text ++ more) rest
front_behind a b c text more rest p q = record {
  front = text ++ q.front;
  parts = append_assoc text q.front rest ∙ ap (λ (l : List ℕ). text ++ l) q.parts;
  grown = Appends-trans a b c text q.front p q.grown;
}

pub front_more : (a b : Held) (text more rest : List ℕ) → AppendsFront a b text rest → AppendsFront a b (text ++ more) (rest ++ more)
front_more a b text more rest p = record {
  front = p.front;
  parts = sym (append_assoc p.front rest more) ∙ ap (λ (l : List ℕ). l ++ more) p.parts;
  grown = p.grown;
}
