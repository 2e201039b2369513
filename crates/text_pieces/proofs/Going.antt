-- A text that is written line by line: what was handed on, what waits and what is left make it up.
use Rattle.std.proofs.Common.{◌≡◌, ℕ, List, [], ◌++◌, refl, subst, sym, ap, ◌∙◌, append-nil, append_assoc, arith, Ok, Err}
use Rattle.std.specs.Prelude.{Result, OnOk}
use Rattle.std.specs.declared.option.Option.{Option}
use Rattle.std.specs.Io.KnownBytes.{Appends}
use Rattle.std.proofs.KnownBytes.{Appends-nil, Appends-trans}
use Rattle.edge_io.specs.Causes.{Rose}
use Rattle.edge_io.specs.Streams.{AppendsFront}
use Rattle.edge_io.proofs.Streaming.{front_none}
use Rattle.text_pieces.specs.declared.fault.GenFault.{GenFault}
use Rattle.text_pieces.specs.declared.fault.GenFault.TheVariants.{NoMemory}
use Rattle.text_pieces.specs.Pieces.{HandsFull, HandsOn, WritesPieces}

pub record IsSoFar (held now : Option (List ℕ)) (waits left whole : List ℕ) : Type 0 where
  pub front : List ℕ
  pub grown : Appends held now front
  pub parts : front ++ (waits ++ left) ≡ whole

pub begun : (held : Option (List ℕ)) (waits left : List ℕ) → IsSoFar held held waits left (waits ++ left)
begun held waits left = record { front = []; grown = Appends-nil held; parts = refl }

-- a line more waits
pub said : (held now : Option (List ℕ)) (waits line left whole : List ℕ) → IsSoFar held now waits (line ++ left) whole
    → IsSoFar held now (waits ++ line) left whole
said held now waits line left whole p = record {
  front = p.front;
  grown = p.grown;
  parts = ap (λ (l : List ℕ). p.front ++ l) (append_assoc waits line left) ∙ p.parts;
}

-- some of it is handed on
pub handed : (held now next : Option (List ℕ)) (waited waits left whole : List ℕ) → IsSoFar held now waited left whole → HandsOn now next waited waits
    → IsSoFar held next waits left whole
handed held now next waited waits left whole p q = record {
  front = p.front ++ q.front;
  grown = Appends-trans held now next p.front q.front p.grown q.grown;
  parts = append_assoc p.front q.front (waits ++ left)
      ∙ ap (λ (l : List ℕ). p.front ++ l) (sym (append_assoc q.front waits left) ∙ ap (λ (l : List ℕ). l ++ left) q.parts) ∙ p.parts;
}

-- a front of what waited is a front of the whole
front_of : (held now next : Option (List ℕ)) (waited left whole rest : List ℕ) → IsSoFar held now waited left whole → AppendsFront now next waited rest
    → AppendsFront held next whole (rest ++ left)
front_of held now next waited left whole rest p q = record {
  front = p.front ++ q.front;
  parts = append_assoc p.front q.front (rest ++ left)
      ∙ ap (λ (l : List ℕ). p.front ++ l) (sym (append_assoc q.front rest left) ∙ ap (λ (l : List ℕ). l ++ left) q.parts) ∙ p.parts;
  grown = Appends-trans held now next p.front q.front p.grown q.grown;
}

-- no memory was found for more
pub starved : (held now : Option (List ℕ)) (start faults : ℕ) (waits left whole : List ℕ) → IsSoFar held now waits left whole → faults ≡ start
    → WritesPieces {T = Unit {0}} held now start faults whole (Err NoMemory)
starved held now start faults waits left whole p same = record {
  whole = tt;
  front = (_, front_of held now now waits left whole waits p (front_none now waits));
  cause = λ e. absurd (let never : ⊥ = cc in never);
  later = omega (arith, same);
  counted = λ _. same;
}

-- the sink failed
pub failed : (held now next : Option (List ℕ)) (start before after : ℕ) (waited waits left whole : List ℕ) (fault : GenFault) → IsSoFar held now waited left whole
    → before ≡ start → HandsFull {T = Unit {0}} now next before after waited waits (Err fault) → WritesPieces {T = Unit {0}} held next start after whole (Err fault)
failed held now next start before after waited waits left whole fault p same q = record {
  whole = tt;
  front = (_, front_of held now next waited left whole q.front.0 p q.front.1);
  cause = λ e. subst (λ (k : ℕ). Rose k after) same (q.cause e);
  later = omega (arith, same, q.later);
  counted = λ e. q.counted e ∙ same;
}

-- nothing is left, and what waits is handed on
pub finished : (held now next : Option (List ℕ)) (start before after : ℕ) (waits whole : List ℕ) (result : Result (Unit {0}) GenFault) → IsSoFar held now waits [] whole
    → before ≡ start → WritesPieces now next before after waits result → WritesPieces held next start after whole result
finished held now next start before after waits whole result p same q =
    let all : p.front ++ waits ≡ whole = ap (λ (l : List ℕ). p.front ++ l) (sym (append-nil waits)) ∙ p.parts in
    record {
      whole = finished_whole result p.front p.grown q.whole all;
      front = (_, front_of held now next waits [] whole q.front.0 p q.front.1);
      cause = λ e. subst (λ (k : ℕ). Rose k after) same (q.cause e);
      later = omega (arith, same, q.later);
      counted = λ e. q.counted e ∙ same;
    }
  where
    finished_whole : (r : Result (Unit {0}) GenFault) (front : List ℕ) → Appends held now front → OnOk r (Appends now next waits) → front ++ waits ≡ whole
        → OnOk r (Appends held next whole)
    finished_whole (Ok x) front g h e = subst (λ (l : List ℕ). Appends held next l) e (Appends-trans held now next front waits g h)
    finished_whole (Err f) front g h e = tt

-- all of it is handed on
pub hands_all : (held now : Option (List ℕ)) (before after : ℕ) (waited waits : List ℕ) (result : Result (Unit {0}) GenFault)
    → WritesPieces held now before after waited result → OnOk result (waits ≡ []) → HandsFull held now before after waited waits result
hands_all held now before after waited waits result w none = record {
  done = all_done result w.whole none;
  front = w.front;
  cause = w.cause;
  later = w.later;
  counted = w.counted;
}
  where
    all_done : (r : Result (Unit {0}) GenFault) → OnOk r (Appends held now waited) → OnOk r (waits ≡ []) → OnOk r (HandsOn held now waited waits)
    all_done (Ok x) g e = record { front = waited; grown = g; parts = ap (λ (l : List ℕ). waited ++ l) e ∙ append-nil waited }
    all_done (Err f) g e = tt
