-- Fronts of what is written by several calls.
use Rattle.std.proofs.Common.{◌++◌, List, ℕ, Option, sym, ap, ◌∙◌}
use Rattle.std.specs.Io.KnownBytes.{Appends}
use Rattle.std.proofs.KnownBytes.{Appends-trans}
use Rattle.std.proofs.lemmas.List.{append_assoc}
use Rattle.edge_io.specs.Streams.{AppendsFront}

-- a front of what comes behind is a front of all
pub front_behind : (start held now : Option (List ℕ)) (bytes more rest : List ℕ) → Appends start held bytes → AppendsFront held now more rest
    → AppendsFront start now (bytes ++ more) rest
front_behind start held now bytes more rest a p = record {
  front = bytes ++ p.front;
  parts = append_assoc bytes p.front rest ∙ ap (λ (l : List ℕ). bytes ++ l) p.parts;
  grown = Appends-trans start held now bytes p.front a p.grown;
}

-- a front of what stands in front
pub front_before : (start now : Option (List ℕ)) (bytes more rest : List ℕ) → AppendsFront start now bytes rest → AppendsFront start now (bytes ++ more) (rest ++ more)
front_before start now bytes more rest p = record {
  front = p.front;
  parts = sym (append_assoc p.front rest more) ∙ ap (λ (l : List ℕ). l ++ more) p.parts;
  grown = p.grown;
}

abbrev pub HasFront : (start now : Option (List ℕ)) → List ℕ → Type 0
HasFront start now bytes = (rest : List ℕ) × AppendsFront start now bytes rest

pub first_breaks : (start now : Option (List ℕ)) (a more : List ℕ) → HasFront start now a → HasFront start now (a ++ more)
first_breaks start now a more p = (p.0 ++ more, front_before start now a more p.0 p.1)

pub second_breaks : (start mid now : Option (List ℕ)) (a b c : List ℕ) → Appends start mid a → HasFront mid now b → HasFront start now (a ++ (b ++ c))
second_breaks start mid now a b c p q = (q.0 ++ c, front_behind start mid now a (b ++ c) (q.0 ++ c) p (front_before mid now b c q.0 q.1))

pub third_comes : (start mid last now : Option (List ℕ)) (a b c : List ℕ) → Appends start mid a → Appends mid last b → HasFront last now c
    → HasFront start now (a ++ (b ++ c))
third_comes start mid last now a b c p q r =
    (r.0, front_behind start mid now a (b ++ c) r.0 p (front_behind mid last now b c r.0 q r.1))
