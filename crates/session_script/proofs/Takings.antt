-- What a reading has taken, from call to call.
use Rattle.std.proofs.Common.{◌≡◌, ◌+◌, ℕ, List, [], ◌∷◌, ◌++◌, Option, Some, None, length, refl, sym, ap, ◌∙◌, arith, append_assoc}
use Rattle.std.proofs.Common.{append-nil, suc, take, drop, add-one, length-append}
use Rattle.std.proofs.lemmas.List.{length-take}
use Rattle.session_script.specs.declared.event.Event.{Event}
use Rattle.session_script.specs.Script.{words_of, line_of}
use Rattle.session_script.specs.Lines.{IsLine, Says}
use Rattle.session_script.proofs.Refusals.{line_parts}
use Rattle.std.specs.Io.KnownBytes.{Consumes, Keeps}
use Rattle.std.proofs.KnownBytes.{Consumes-trans}
use Rattle.session_script.specs.Unread.{Unread}
use Rattle.session_script.specs.Reading.{Takes}

pub keeps_consumes : (old new : Option (List ℕ)) → Keeps old new → Consumes old new []
keeps_consumes None new k = tt
keeps_consumes (Some xs) None k = absurd k
keeps_consumes (Some xs) (Some ys) k = sym k

pub same_consumes : (old : Option (List ℕ)) → Consumes old old []
same_consumes None = tt
same_consumes (Some xs) = refl

pub takes_none : (u : Unread) (left : Option (List ℕ)) → Takes u u left left []
takes_none u left = record { given = []; consumed = same_consumes left; parts = append-nil u.pending; place = omega arith }

-- nothing, and then a line
pub takes_then : (a b c : Unread) (x y z : Option (List ℕ)) (line : List ℕ) → Takes a b x y [] → Takes b c y z line → Takes a c x z line
takes_then a b c x y z line p q = record {
  given = p.given ++ q.given;
  consumed = Consumes-trans x y z p.given q.given p.consumed q.consumed;
  parts = sym (append_assoc a.pending p.given q.given) ∙ ap (λ (l : List ℕ). l ++ q.given) p.parts ∙ q.parts;
  place = omega (arith, p.place, q.place);
}

-- the line of an event is taken
pub takes_line : (place n : ℕ) (bytes : List ℕ) (new : Unread) (left : Option (List ℕ)) (event : Event) → IsLine bytes n → Says (take n bytes) event →
    new ≡ record { place = place + (n + 1); pending = drop (n + 1) bytes } → Takes (record { place = place; pending = bytes }) new left left (line_of event)
takes_line place n bytes new left event l says is =
    let len = length-take n bytes in
    let size : length (words_of event) ≡ n = omega (arith, len, l.within, ap length says.1) in
    let more = length-append (words_of event) (10 ∷ []) in
    let rest : drop (suc n) bytes ≡ new.pending = sym (ap (λ (u : Unread). u.pending) is ∙ ap (λ (k : ℕ). drop k bytes) (add-one n)) in
    record {
      given = [];
      consumed = same_consumes left;
      parts = append-nil bytes ∙ line_parts bytes n l ∙ ap (λ (w : List ℕ). w ++ 10 ∷ drop (suc n) bytes) says.1
          ∙ sym (append_assoc (words_of event) (10 ∷ []) (drop (suc n) bytes)) ∙ ap (λ (r : List ℕ). line_of event ++ r) rest;
      place = ap (λ (u : Unread). u.place) is ∙ omega (arith, size, more);
    }
